-- public: a session as it is seen from outside, and what a piece of a script does to it.
use Rattle.std.specs.Prelude.{◌≡◌, ◌⊎◌, ℕ, ◌+◌, ◌<◌, ◌≤◌, List, [], ◌∷◌, ◌++◌, All, length, Option, Some, None, true, false, Result}
use Rattle.std.specs.Prelude.{MatchResult}
use Rattle.std.specs.Option.{option_or}
use Rattle.isl_meter.specs.Gauge.{Gauge, IsCharged, IsKept}
use Rattle.isl_script.specs.Script.{statements, rest_of, ends, IsBlank, IsOpen}
use Rattle.isl_refusal.specs.declared.refusal.Refusal.{Refusal}
use Rattle.isl_refusal.specs.declared.refusal.Refusal.TheVariants.{Unfinished}
use Rattle.isl_values.specs.State.{StateView, Moment, unbound}
use Rattle.isl_eval.specs.Causes.{Refuses}
use Rattle.isl_eval.specs.Run.{started}
use Rattle.isl_session.specs.declared.counts.Counts.{Counts}
use Rattle.isl_session.specs.declared.fault.Fault.{Fault}
use Rattle.isl_space.specs.Limits.{most_script_bytes, most_statement_bytes}
use Rattle.isl_session.specs.Counts.{counted, none}
use Rattle.isl_session.specs.Outcome.{Outcome, Carries, EndsRun, RunOn, answers_of, faults_from, first_skip, skips_of, text_of}
use Rattle.isl_refusal.specs.Refusal.{Place, at_words, in_statement, too_long, past_limit, at_end, at_read, at_write, anywhere, place_of}
use Rattle.isl_words.specs.Options.{OptionsView}

-- the meter of a session that begins with these options
abbrev pub gauge_of : OptionsView → Gauge
gauge_of options = record { bits = options.bits; budget = options.budget; units = 0; overflows = 0; spents = 0 }

pub record View : Type 0 where
  -- what the statements so far have bound
  pub state : StateView
  -- the bytes behind the last statement's end
  pub rest : List ℕ
  -- how many bytes may be held before memory is asked for
  pub room : ℕ
  -- how many bytes of the script were taken
  pub taken : ℕ
  -- what was answered
  pub counts : Counts
  -- how many statements were skipped, and why the first was
  pub skips : ℕ
  pub first : Option Refusal
  pub fault : Option Fault
  pub meter : Gauge
  -- what the command line chooses
  pub options : OptionsView

-- how many statements were answered or skipped
abbrev pub passed : View → ℕ
passed view = view.counts.statements + view.skips

-- what is bound, the meter, and what is chosen
abbrev pub moment_of : View → Moment
moment_of view = record { state = view.state; meter = view.meter; options = view.options }

-- the moment at which a run with these options begins: no name is bound, and nothing is counted
abbrev pub begun : OptionsView → Moment
begun options = record { state = unbound; meter = gauge_of options; options = options }

-- a session that has taken nothing
abbrev pub fresh : Moment → View
fresh first = record {
  state = first.state;
  rest = [];
  room = 0;
  taken = 0;
  counts = none;
  skips = 0;
  first = None;
  fault = None;
  meter = first.meter;
  options = first.options;
}

-- the session of a run, which has taken nothing and has memory for the longest statement
abbrev pub opened : Moment → View
opened first = record (fresh first) { room = most_statement_bytes }

-- none of these parts of a script has too many bytes, and the rest has not
pub record AreShort (parts : List (List ℕ)) (rest : List ℕ) : Type 0 where
  pub each : All (λ part. length part ≤ most_statement_bytes) parts
  pub last : length rest ≤ most_statement_bytes

-- A session took this piece, and answered or skipped each statement that the piece completed.
pub record Fed (old : View) (piece : List ℕ) (outcomes : List Outcome) (new : View) : Type 0 where
  pub run : RunOn (moment_of old) (statements (old.rest ++ piece)) outcomes (moment_of new)
  pub rest : new.rest ≡ rest_of (old.rest ++ piece)
  pub short : AreShort (statements (old.rest ++ piece)) new.rest
  pub taken : new.taken ≡ old.taken + length piece
  pub within : new.taken ≤ most_script_bytes
  pub counts : new.counts ≡ counted old.counts (answers_of outcomes)
  pub skips : new.skips ≡ old.skips + length (skips_of outcomes)
  pub first : new.first ≡ option_or old.first (first_skip outcomes)
  pub sound : new.fault ≡ None
  pub meter : Carries old.meter outcomes new.meter
  pub room : old.room ≤ new.room
  pub options : new.options ≡ old.options

-- A session without a fault, which holds no whole statement.
pub record IsReady (view : View) : Type 0 where
  pub open_rest : IsOpen view.rest
  pub short : length view.rest ≤ most_statement_bytes
  pub within : view.taken ≤ most_script_bytes
  pub sound : view.fault ≡ None

-- Why a byte is not taken, by the place of the refusal: the statement that it ends is refused, or it is one byte too many for a
-- statement or a script; memory is asked for where it ends a statement, or where what is held fills its room. `now` is the meter at
-- the refusal.
abbrev pub BreaksIn : Place → View → ℕ → Gauge → Refusal → Type 0
BreaksIn in_statement view byte now refusal =
    (view.taken < most_script_bytes) × (ends view.rest byte ≡ true) × Refuses (started (moment_of view)) view.rest now refusal
BreaksIn too_long view byte now refusal = (view.taken < most_script_bytes) × (ends view.rest byte ≡ false)
    × (length view.rest ≡ most_statement_bytes)
BreaksIn past_limit view byte now refusal = view.taken ≡ most_script_bytes
BreaksIn anywhere view byte now refusal =
    (view.taken < most_script_bytes) × (((ends view.rest byte ≡ true) × Refuses (started (moment_of view)) view.rest now refusal)
    ⊎ ((length view.rest < most_statement_bytes) × (view.room ≤ length view.rest) × (now ≡ view.meter)))
BreaksIn at_words view byte now refusal = ⊥
BreaksIn at_end view byte now refusal = ⊥
BreaksIn at_read view byte now refusal = ⊥
BreaksIn at_write view byte now refusal = ⊥

-- The meter at a refusal, after that of the statements answered. Only the work on a statement, which begins with no unit used, may
-- use units and count a refusal; limit and budget stay, and no count falls. Want of memory counts nothing.
abbrev pub IsMeterAt : Place → Gauge → Gauge → Type 0
IsMeterAt in_statement before now = IsKept (record before { units = 0 }) now
IsMeterAt anywhere before now = IsCharged (record before { units = 0 }) now
IsMeterAt place before now = now ≡ before

-- A session is refused at a byte. Only its meter changes, and its room does not fall.
pub record IsRefusedAt (old : View) (byte : ℕ) (refusal : Refusal) (new : View) : Type 0 where
  pub breaks : BreaksIn (place_of refusal) old byte new.meter refusal
  pub same : new ≡ record old { room = new.room; meter = new.meter }
  pub meter : IsMeterAt (place_of refusal) old.meter new.meter
  pub room : old.room ≤ new.room

-- A session took the front of this piece, was refused at the next byte, and has that fault from then on. Nothing else but its
-- meter and its room changed at that byte.
pub record Stopped (old : View) (piece : List ℕ) (outcomes : List Outcome) (new : View) (fault : Fault) : Type 0 where
  pub front : List ℕ
  pub byte : ℕ
  pub behind : List ℕ
  pub split : piece ≡ front ++ byte ∷ behind
  pub at_front : View
  pub fed : Fed old front outcomes at_front
  pub breaks : BreaksIn (place_of fault.refusal) at_front byte new.meter fault.refusal
  pub ends_run : EndsRun old.options fault.refusal
  pub number : fault.statement ≡ passed at_front + 1
  pub same : new ≡ record at_front { room = new.room; meter = new.meter; fault = Some fault }
  pub meter : IsMeterAt (place_of fault.refusal) at_front.meter new.meter
  pub room : at_front.room ≤ new.room

-- no statement ends in this piece, and what is held behind it is within the room and the limits
pub record HasRoomFor (view : View) (piece : List ℕ) : Type 0 where
  pub none : statements (view.rest ++ piece) ≡ []
  pub room : length (view.rest ++ piece) ≤ view.room
  pub short : length (view.rest ++ piece) ≤ most_statement_bytes
  pub within : view.taken + length piece ≤ most_script_bytes

-- what a piece does to a session without a fault, to the text of its answers, and to the list of the skipped statements
abbrev pub FeedsOn : View → List ℕ → List ℕ → List ℕ → List Fault → List Fault → View → Result (Unit {0}) Fault → Type 0
FeedsOn old piece text_before text skipped_before skipped new result = (outcomes : List Outcome) × (text ≡ text_before ++ text_of outcomes)
    × (skipped ≡ skipped_before ++ faults_from (passed old) outcomes)
    × MatchResult result (λ _. Fed old piece outcomes new) (λ fault. Stopped old piece outcomes new fault)

-- the same, of a session that skips none
abbrev pub Feeds : View → List ℕ → List ℕ → List ℕ → View → Result (Unit {0}) Fault → Type 0
Feeds old piece text_before text new result = (outcomes : List Outcome) × (text ≡ text_before ++ text_of outcomes)
    × MatchResult result (λ _. Fed old piece outcomes new) (λ fault. Stopped old piece outcomes new fault)

-- what the end of the script does to a session without a fault
abbrev pub Finishes : View → View → Result (Unit {0}) Fault → Type 0
Finishes old new result = MatchResult result
    (λ _. IsBlank old.rest × (new ≡ old))
    (λ fault. (¬ IsBlank old.rest) × (fault ≡ record { statement = passed old + 1; refusal = Unfinished })
    × (new ≡ record old { fault = Some fault }))
