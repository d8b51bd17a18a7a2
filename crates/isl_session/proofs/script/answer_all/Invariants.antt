use Rattle.std.proofs.Common.{◌≡◌, ◌≤◌, ◌+◌, ◌-◌, ℕ, List, None}
use Rattle.std.specs.Io.KnownBytes.{Appends, Consumes}
use Rattle.isl_space.specs.Limits.{most_script_bytes}
use Rattle.isl_session.specs.Outcome.{Outcome, lines_from, text_of}
use Rattle.isl_session.specs.Run.{Told}
use Rattle.isl_session.specs.View.{Fed, passed}
use Rattle.isl_session.proofs.script.answer_all.Given as goal

-- what was read is taken, the answers of the statements that it completes are written, and those that are skipped are told
abbrev pub invariant-reads : goal.invariant-reads
invariant-reads g l = (taken : List ℕ) × (outcomes : List Outcome) × Consumes (g.S.Source.left l.fn.src) (g.S.Source.left l.src) taken
    × Appends (g.K.Sink.written l.fn.out) (g.K.Sink.written l.out) (text_of outcomes)
    × Fed l.fn.session taken outcomes l.session × (g.S.Source.faults l.src ≡ g.S.Source.faults l.fn.src)
    × (g.K.Sink.faults l.out ≡ g.K.Sink.faults l.fn.out)
    × Told (g.E.Sink.written l.fn.err) (g.E.Sink.faults l.fn.err) (g.E.Sink.written l.err) (g.E.Sink.faults l.err)
    (lines_from (passed l.fn.session) outcomes)
    × (g.E.Sink.faults l.fn.err ≤ g.E.Sink.faults l.err) × (l.session.first ≡ None → (l.fn.session.first ≡ None) × (l.err ≡ l.fn.err))

abbrev pub decreases-reads : goal.decreases-reads
decreases-reads g l = most_script_bytes + 1 - l.session.taken
