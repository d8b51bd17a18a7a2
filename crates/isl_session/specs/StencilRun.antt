-- public: a run over a script that is made, of which no answer is written: how it ends, and what it leaves.
use Rattle.std.specs.Prelude.{◌≡◌, ◌≢◌, ℕ, ◌+◌, ◌<◌, List, [], ◌∷◌, ◌++◌, length, take, Option, Some, None}
use Rattle.std.specs.Io.KnownBytes.{Appends}
use Rattle.isl_math.specs.Count.{Rose}
use Rattle.isl_meter.specs.Gauge.{Gauge}
use Rattle.isl_refusal.specs.declared.refusal.Refusal.{Refusal}
use Rattle.isl_refusal.specs.declared.refusal.Refusal.TheVariants.{WriteFault}
use Rattle.isl_values.specs.State.{Moment}
use Rattle.isl_refusal.specs.Refusal.{Place, at_words, in_statement, too_long, past_limit, at_end, at_read, at_write, anywhere, place_of}
use Rattle.isl_session.specs.Counts.{counted, none}
use Rattle.isl_session.specs.Lines.{fault_line, summary_line}
use Rattle.isl_session.specs.Outcome.{Outcome, EndsRun, answers_of, lines_from, skips_of}
use Rattle.isl_session.specs.Run.{IsRefusedNext, Outside, Progress, Tells, first_told}
use Rattle.isl_session.specs.Status.{StatusView}
use Rattle.isl_session.specs.View.{IsMeterAt}

-- the line that says how much these statements have answered
abbrev pub summary_of : List Outcome → List ℕ
summary_of outcomes = summary_line (counted none (answers_of outcomes))

-- what is written at the end of the script: that line, or nothing where statements were skipped for these reasons
abbrev pub written_for : List Refusal → List ℕ → List ℕ
written_for [] line = line
written_for (refusal ∷ later) line = []

-- Why such a run is refused, and what it wrote, by the place of the refusal: a statement is refused, and nothing was written; or all were
-- answered, and the line about them did not go out whole. All else cannot be.
abbrev pub StencilRefused : (first : Moment) (script : List ℕ) → Progress first script
    → List ℕ → Gauge → Outside → Outside → Refusal → Place → Type 0
StencilRefused first script progress gained now old new refusal in_statement =
    IsRefusedNext first script progress script now refusal × (gained ≡ []) × IsMeterAt in_statement progress.meter now
StencilRefused first script progress gained now old new refusal anywhere =
    IsRefusedNext first script progress script now refusal × (gained ≡ []) × IsMeterAt anywhere progress.meter now
StencilRefused first script progress gained now old new refusal at_write =
    (progress.ahead ≡ []) × Rose old.writes new.writes × (now ≡ progress.meter) × (skips_of progress.outcomes ≡ [])
    × ((n : ℕ) × (n < length (summary_of progress.outcomes)) × (gained ≡ take n (summary_of progress.outcomes)))
StencilRefused first script progress gained now old new refusal at_words = ⊥
StencilRefused first script progress gained now old new refusal too_long = ⊥
StencilRefused first script progress gained now old new refusal past_limit = ⊥
StencilRefused first script progress gained now old new refusal at_end = ⊥
StencilRefused first script progress gained now old new refusal at_read = ⊥

-- How such a run ended: at the end of the script, and the line about its statements is all that was written, nothing where one was
-- skipped; or it is refused, and speaks of the first statement that was neither answered nor skipped, or of the one behind them all.
abbrev pub StencilEnded : (first : Moment) (script : List ℕ) → Progress first script
    → List ℕ → Gauge → Outside → Outside → Option Refusal → Type 0
StencilEnded first script progress gained now old new None =
    (progress.ahead ≡ []) × (gained ≡ written_for (skips_of progress.outcomes) (summary_of progress.outcomes))
    × Tells old new (lines_from 0 progress.outcomes) × (now ≡ progress.meter)
StencilEnded first script progress gained now old new (Some refusal) =
    StencilRefused first script progress gained now old new refusal (place_of refusal)
    × Tells old new (lines_from 0 progress.outcomes ++ fault_line (record { statement = length progress.outcomes + 1; refusal = refusal }))
    × EndsRun first.options refusal

-- What a run over a script that is made has done: it answered or skipped the statements one after another up to the one that ended it.
-- Its status is that of the first line that it told.
pub record StencilAnswered (first : Moment) (script : List ℕ) (old new : Outside) (status : StatusView) : Type 0 where
  pub progress : Progress first script
  pub gained : List ℕ
  pub wrote : Appends old.written new.written gained
  pub meter : Gauge
  pub meter_is : status.meter ≡ Some meter
  -- what ended it, where that is not the end of the script
  pub ending : Option Refusal
  pub ended : StencilEnded first script progress gained meter old new ending
  pub status_is : status.refusal ≡ first_told progress.outcomes ending
  -- no other write failed
  pub writes : ending ≢ Some WriteFault → new.writes ≡ old.writes
