use Rattle.std.proofs.Common.{◌≡◌, ◌≤◌, ◌-◌, List, None, length, take}
use Rattle.std.specs.Io.KnownBytes.{Appends}
use Rattle.isl_session.specs.Outcome.{Outcome, lines_from, text_of}
use Rattle.isl_session.specs.Run.{Told}
use Rattle.isl_session.specs.View.{Fed, passed}
use Rattle.isl_session.proofs.script.answer_piece.Given as goal

-- the bytes so far were taken, the answers of the statements that they complete are written, and those that are skipped are told
abbrev pub invariant-loop-at : goal.invariant-loop-at
invariant-loop-at g l = (outcomes : List Outcome) × Appends (g.K.Sink.written l.fn.out) (g.K.Sink.written l.out) (text_of outcomes)
    × Fed l.fn.session (take l.at l.piece) outcomes l.session × (g.K.Sink.faults l.out ≡ g.K.Sink.faults l.fn.out) × (l.at ≤ length l.piece)
    × Told (g.E.Sink.written l.fn.err) (g.E.Sink.faults l.fn.err) (g.E.Sink.written l.err) (g.E.Sink.faults l.err)
    (lines_from (passed l.fn.session) outcomes)
    × (g.E.Sink.faults l.fn.err ≤ g.E.Sink.faults l.err) × (l.session.first ≡ None → (l.fn.session.first ≡ None) × (l.err ≡ l.fn.err))

abbrev pub decreases-loop-at : goal.decreases-loop-at
decreases-loop-at g l = length l.piece - l.at
