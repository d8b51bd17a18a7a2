use Rattle.std.proofs.Common.{◌≤◌}
use Rattle.isl_difference.specs.Tame.{part_limit}
use Rattle.isl_cert.proofs.comparing.most_nodes.Given as goal

abbrev pub invariant-loop-out : goal.invariant-loop-out
invariant-loop-out l = record { some : 1 ≤ l.parts; few : l.parts ≤ part_limit l.columns l._out }
