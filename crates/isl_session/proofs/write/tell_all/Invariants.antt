use Rattle.std.proofs.Common.{◌≡◌, ◌≤◌, length, map, take}
use Rattle.std.specs.List.{concat}
use Rattle.isl_session.specs.Lines.{fault_line}
use Rattle.isl_session.specs.Run.{Told}
use Rattle.isl_session.proofs.write.tell_all.Given as goal

-- the lines of the faults so far are told
abbrev pub invariant-loop-fault : goal.invariant-loop-fault
invariant-loop-fault g l =
    Told (g.E.Sink.written l.fn.err) (g.E.Sink.faults l.fn.err) (g.E.Sink.written l.err) (g.E.Sink.faults l.err)
    (concat (map fault_line (take l.fault-index l.faults)))
    × (g.E.Sink.faults l.fn.err ≤ g.E.Sink.faults l.err) × (l.fault-index ≡ 0 → l.err ≡ l.fn.err) × (l.fault-index ≤ length l.faults)
