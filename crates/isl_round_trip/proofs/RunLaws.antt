-- What the statements of a run show, the program takes again.
use Rattle.std.proofs.Common.{◌≤◌, ℕ, List, [], ◌∷◌, sym, subst}
use Rattle.isl_values.specs.State.{Moment}
use Rattle.isl_eval.specs.Machine.{Answer}
use Rattle.isl_eval.specs.Run.{Answers, Run, started}
use Rattle.isl_round_trip.specs.TakenAgain.{AreTakenAgain, AreWritable}
use Rattle.isl_round_trip.proofs.TakenLaws.{same_bits, stays_writable, taken_again}

bits_behind : (before : Moment) (bytes : List ℕ) (next : Moment) (answer : Answer) → before.meter.bits ≤ 127
    → Answers (started before) bytes next answer → next.meter.bits ≤ 127
bits_behind before bytes next answer bits answered =
    subst (λ (n : ℕ). n ≤ 127) (sym (same_bits (started before).meter next.meter answered.meter)) bits

-- what is bound behind a run can be written
pub run_stays_writable : (before : Moment) (script : List (List ℕ)) (answers : List Answer) (after : Moment) → before.meter.bits ≤ 127
    → AreWritable before.state → Run before script answers after → AreWritable after.state
unfolding Run
run_stays_writable before [] [] after bits all run = subst (λ (m : Moment). AreWritable m.state) (sym run) all
run_stays_writable before (bytes ∷ more) (answer ∷ answers) after bits all run =
    run_stays_writable run.0 more answers after (bits_behind before bytes run.0 answer bits run.1)
    (stays_writable (started before) bytes run.0 answer bits all run.1) run.2
run_stays_writable before [] (answer ∷ answers) after bits all run = absurd run
run_stays_writable before (bytes ∷ more) [] after bits all run = absurd run

-- each of its answers is taken again
pub run_taken_again : (before : Moment) (script : List (List ℕ)) (answers : List Answer) (after : Moment) → before.meter.bits ≤ 127
    → AreWritable before.state → (run : Run before script answers after) → AreTakenAgain before script answers after run
unfolding Run AreTakenAgain
run_taken_again before [] [] after bits all run = tt
run_taken_again before (bytes ∷ more) (answer ∷ answers) after bits all run = (
  taken_again (started before) bytes run.0 answer bits all run.1,
  run_taken_again run.0 more answers after (bits_behind before bytes run.0 answer bits run.1)
      (stays_writable (started before) bytes run.0 answer bits all run.1) run.2,
)
run_taken_again before [] (answer ∷ answers) after bits all run = tt
run_taken_again before (bytes ∷ more) [] after bits all run = tt
