-- public: how a run over a whole script ends, and what it leaves.
use Rattle.std.specs.Prelude.{◌≡◌, ◌≢◌, ℕ, ◌+◌, ◌<◌, ◌≤◌, List, [], ◌∷◌, ◌++◌, All, length, take, Option, Some, None}
use Rattle.std.specs.Option.{option_or}
use Rattle.std.specs.Io.KnownBytes.{Appends, Consumes, IsAtEnd}
use Rattle.isl_math.specs.Count.{Rose}
use Rattle.isl_meter.specs.Gauge.{Gauge}
use Rattle.isl_script.specs.Script.{statements, rest_of, readable, next_part, IsBlank}
use Rattle.isl_refusal.specs.declared.refusal.Refusal.{Refusal}
use Rattle.isl_refusal.specs.declared.refusal.Refusal.TheVariants.{ReadFault, WriteFault}
use Rattle.isl_values.specs.State.{StateView, Moment}
use Rattle.isl_eval.specs.Causes.{Refuses}
use Rattle.isl_eval.specs.Machine.{Answer}
use Rattle.isl_eval.specs.Run.{started}
use Rattle.isl_session.specs.declared.fault.Fault.{Fault}
use Rattle.isl_space.specs.Limits.{most_script_bytes, most_statement_bytes}
use Rattle.isl_refusal.specs.Refusal.{Place, at_words, in_statement, too_long, past_limit, at_end, at_read, at_write, anywhere, place_of}
use Rattle.isl_session.specs.Outcome.{Outcome, answered, Carries, EndsRun, RunOn, first_skip, lines_from, text_of}
use Rattle.isl_session.specs.View.{View, Fed, IsMeterAt, Stopped, passed}
use Rattle.isl_session.specs.Status.{StatusView}
use Rattle.isl_session.specs.Lines.{fault_line}

-- What comes of a run's statements, of which the last is answered and did not go out whole: this much was written.
pub record IsCutShort (outcomes : List Outcome) (gained : List ℕ) : Type 0 where
  pub earlier : List Outcome
  pub final : Answer
  pub split : outcomes ≡ earlier ++ answered final ∷ []
  pub count : ℕ
  pub short : count < length final.bytes
  pub is : gained ≡ text_of earlier ++ take count final.bytes

-- a session was refused at a byte, and wrote what it had answered
abbrev pub StopsIn : View → List ℕ → List Outcome → List ℕ → View → Fault → Type 0
StopsIn old taken outcomes gained new fault = (gained ≡ text_of outcomes) × Stopped old taken outcomes new fault

-- Between the session and the outside: how the session ends while these bytes are taken, this comes of their statements and this much is
-- written, by the place of the refusal. The first three say that a read failed, that a write failed, and that nothing is left to read.
abbrev pub Halts : Type 0 → Type 0 → Type 0 → View → List ℕ → List Outcome → List ℕ → View → Fault → Place → Type 0
Halts read_failed write_failed ended old taken outcomes gained new fault at_words = ⊥
Halts read_failed write_failed ended old taken outcomes gained new fault at_read =
    read_failed × (fault.statement ≡ passed new + 1) × (gained ≡ text_of outcomes) × Fed old taken outcomes new
Halts read_failed write_failed ended old taken outcomes gained new fault at_write =
    write_failed × (fault.statement ≡ passed new)
    × ((front : List ℕ) × (behind : List ℕ) × (taken ≡ front ++ behind) × IsCutShort outcomes gained × Fed old front outcomes new)
Halts read_failed write_failed ended old taken outcomes gained new fault at_end =
    ended
    × ((before : View) × (gained ≡ text_of outcomes) × Fed old taken outcomes before × (¬ IsBlank before.rest)
    × (fault.statement ≡ passed before + 1) × (new ≡ record before { fault = Some fault }))
Halts read_failed write_failed ended old taken outcomes gained new fault in_statement = StopsIn old taken outcomes gained new fault
Halts read_failed write_failed ended old taken outcomes gained new fault too_long = StopsIn old taken outcomes gained new fault
Halts read_failed write_failed ended old taken outcomes gained new fault past_limit = StopsIn old taken outcomes gained new fault
Halts read_failed write_failed ended old taken outcomes gained new fault anywhere = StopsIn old taken outcomes gained new fault

-- The two ends of a program, and where it tells of a fault, as one moment sees them.
pub record Outside : Type 0 where
  -- what the source has left, and how often a read failed
  pub left : Option (List ℕ)
  pub reads : ℕ
  -- what was written, and how often a write failed
  pub written : Option (List ℕ)
  pub writes : ℕ
  -- what was told, and how often telling failed
  pub told : Option (List ℕ)
  pub tells : ℕ

abbrev pub outside : Option (List ℕ) → ℕ → Option (List ℕ) → ℕ → Option (List ℕ) → ℕ → Outside
outside left reads written writes told tells = record {
  left = left;
  reads = reads;
  written = written;
  writes = writes;
  told = told;
  tells = tells;
}

-- How far a script was gone through: its statements one after another, up to those that are ahead.
pub record Progress (first : Moment) (script : List ℕ) : Type 0 where
  pub done : List (List ℕ)
  pub ahead : List (List ℕ)
  pub split : statements (readable script) ≡ done ++ ahead
  pub outcomes : List Outcome
  pub state : StateView
  -- the meter behind them
  pub meter : Gauge
  pub run : RunOn first done outcomes (record { state = state; meter = meter; options = first.options })
  pub carried : Carries first.meter outcomes meter
  pub short : All (λ part. length part ≤ most_statement_bytes) done

-- the first of these statements has P
abbrev pub OfFirst : (List ℕ → Type 0) → List (List ℕ) → Type 0
OfFirst P [] = ⊥
OfFirst P (bytes ∷ later) = P bytes

-- some front of what was taken has these statements, and this one behind them
abbrev pub AreInFront : List ℕ → List (List ℕ) → List ℕ → Type 0
AreInFront taken done bytes =
    (front : List ℕ) × (behind : List ℕ) × (taken ≡ front ++ behind) × (length front ≤ most_script_bytes)
    × (statements front ≡ done ++ bytes ∷ [])

-- some front of what was taken has these statements, and more bytes behind them than a statement may have
abbrev pub AreHeldInFront : List ℕ → List (List ℕ) → Type 0
AreHeldInFront taken done =
    (front : List ℕ) × (behind : List ℕ) × (taken ≡ front ++ behind) × (length front ≤ most_script_bytes) × (statements front ≡ done)
    × (most_statement_bytes < length (rest_of front))

-- the first statement that is ahead was taken whole, is none too long, and is refused
abbrev pub IsRefusedNext : (first : Moment) (script : List ℕ) → Progress first script → List ℕ → Gauge → Refusal → Type 0
IsRefusedNext first script progress taken now refusal =
    let before : Moment = record { state = progress.state; meter = progress.meter; options = first.options } in
    OfFirst (λ bytes. AreInFront taken progress.done bytes × (length bytes ≤ most_statement_bytes)
    × Refuses (started before) bytes now refusal) progress.ahead

-- Why a run ended where it did, by the place of the refusal. `taken` was read, and `now` is the meter at the refusal. Memory is asked
-- for only while a statement is worked on.
abbrev pub HasCause : (first : Moment) (script : List ℕ) → Progress first script
    → List ℕ → Gauge → Outside → Outside → Refusal → Place → Type 0
HasCause first script progress taken now old new refusal at_words = ⊥
HasCause first script progress taken now old new refusal in_statement = IsRefusedNext first script progress taken now refusal
HasCause first script progress taken now old new refusal too_long =
    (most_statement_bytes < length (next_part progress.ahead (rest_of (readable script)))) × AreHeldInFront taken progress.done
HasCause first script progress taken now old new refusal past_limit =
    (progress.ahead ≡ []) × (length taken ≡ most_script_bytes + 1) × (length (rest_of (readable script)) ≤ most_statement_bytes)
HasCause first script progress taken now old new refusal at_end =
    (progress.ahead ≡ []) × (taken ≡ script) × (length script ≤ most_script_bytes) × IsAtEnd new.left × (¬ IsBlank (rest_of script))
    × (length (rest_of script) ≤ most_statement_bytes)
HasCause first script progress taken now old new refusal at_read =
    Rose old.reads new.reads × (progress.done ≡ statements taken) × (length taken ≤ most_script_bytes)
    × (length (rest_of taken) ≤ most_statement_bytes)
HasCause first script progress taken now old new refusal at_write = Rose old.writes new.writes
HasCause first script progress taken now old new refusal anywhere = IsRefusedNext first script progress taken now refusal

-- the whole script was read and answered, and nothing is left of it
pub record IsDone (script : List ℕ) (ahead : List (List ℕ)) (taken : List ℕ) (new : Outside) : Type 0 where
  pub answered : ahead ≡ []
  pub whole : taken ≡ script
  pub within : length script ≤ most_script_bytes
  pub blank : IsBlank (rest_of script)
  pub short : length (rest_of script) ≤ most_statement_bytes
  pub end : IsAtEnd new.left

-- what was written of the answers: all of them, or where a write failed all but a part of the last
abbrev pub Wrote : List Outcome → List ℕ → Place → Type 0
Wrote outcomes gained at_write = IsCutShort outcomes gained
Wrote outcomes gained place = gained ≡ text_of outcomes

-- The number of the statement that the refusal speaks of which ends a run. A failed write speaks of the first whose answer did not go
-- out whole, another refusal of the first that was neither answered nor skipped.
abbrev pub number_at : List Outcome → Place → ℕ
number_at outcomes at_write = length outcomes
number_at outcomes place = length outcomes + 1

-- these lines were told, unless telling failed
abbrev pub Told : Option (List ℕ) → ℕ → Option (List ℕ) → ℕ → List ℕ → Type 0
Told told tells told_now tells_now lines = ¬ (Rose tells tells_now) → Appends told told_now lines

abbrev pub Tells : Outside → Outside → List ℕ → Type 0
Tells old new lines = Told old.told old.tells new.told new.tells lines

-- Why a run ended, what it wrote and what it told, and the meter as it left it.
abbrev pub Ended : (first : Moment) (script : List ℕ) → Progress first script
    → List ℕ → List ℕ → Gauge → Outside → Outside → Option Refusal → Type 0
Ended first script progress taken gained now old new None =
    IsDone script progress.ahead taken new × (gained ≡ text_of progress.outcomes) × Tells old new (lines_from 0 progress.outcomes)
    × (now ≡ progress.meter)
Ended first script progress taken gained now old new (Some refusal) =
    HasCause first script progress taken now old new refusal (place_of refusal) × Wrote progress.outcomes gained (place_of refusal)
    × Tells old new (lines_from 0 progress.outcomes
    ++ fault_line (record { statement = number_at progress.outcomes (place_of refusal); refusal = refusal }))
    × IsMeterAt (place_of refusal) progress.meter now × EndsRun first.options refusal

-- the refusal of the first line that is told, or none where no line is: that of the first statement that was skipped, else what ended
-- the run
abbrev pub first_told : List Outcome → Option Refusal → Option Refusal
first_told outcomes ending = option_or (first_skip outcomes) ending

-- the script is what the source tells that it has left; of a source that does not tell, it is what was read
abbrev pub IsScriptOf : Option (List ℕ) → List ℕ → List ℕ → Type 0
IsScriptOf None taken script = script ≡ taken
IsScriptOf (Some bytes) taken script = script ≡ bytes

-- What a run over a script has done. It read a front of the script, answered or skipped its statements one after another up to the one
-- that ended it, and wrote the answers and nothing else. Its status is that of the first line that it told.
pub record Answered (first : Moment) (script : List ℕ) (old new : Outside) (status : StatusView) : Type 0 where
  pub taken : List ℕ
  pub left : List ℕ
  pub script_is : script ≡ taken ++ left
  pub told : IsScriptOf old.left taken script
  pub took : Consumes old.left new.left taken
  pub few : length taken ≤ most_script_bytes + 1
  pub progress : Progress first script
  pub gained : List ℕ
  pub wrote : Appends old.written new.written gained
  pub meter : Gauge
  pub meter_is : status.meter ≡ Some meter
  -- what ended it, where that is not the end of the script
  pub ending : Option Refusal
  pub ended : Ended first script progress taken gained meter old new ending
  pub status_is : status.refusal ≡ first_told progress.outcomes ending
  -- no other read or write failed
  pub reads : ending ≢ Some ReadFault → new.reads ≡ old.reads
  pub writes : ending ≢ Some WriteFault → new.writes ≡ old.writes
