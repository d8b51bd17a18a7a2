use Rattle.std.proofs.Common.{◌≡◌, ◌++◌, ◌≤◌, ◌-◌, List, length, take}
use Rattle.isl_session.specs.Outcome.{Outcome, faults_from, text_of}
use Rattle.isl_session.specs.View.{Fed, passed}
use Rattle.isl_session.proofs.session.Session.feed_all.Given as goal

-- the bytes so far were taken
abbrev pub invariant-loop-at : goal.invariant-loop-at
invariant-loop-at l = (outcomes : List Outcome) × (l.text.items ≡ l.fn.text.items ++ text_of outcomes)
    × (l.skipped.items ≡ l.fn.skipped.items ++ faults_from (passed l.fn.self) outcomes)
    × Fed l.fn.self (take l.at l.piece) outcomes l.self × (l.at ≤ length l.piece)

abbrev pub decreases-loop-at : goal.decreases-loop-at
decreases-loop-at l = length l.piece - l.at
