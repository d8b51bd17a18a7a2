use Rattle.std.proofs.Common.{take}
use Rattle.isl_meter.specs.Gauge.{IsCharged}
use Rattle.isl_piece.specs.System.{free_columns}
use Rattle.isl_coalesce.proofs.JointLaws.{ArePointsSoFar}
use Rattle.isl_coalesce.proofs.joint.have_points_in.Given as goal

abbrev pub invariant-loop-system : goal.invariant-loop-system
invariant-loop-system l = record {
  points : ArePointsSoFar (free_columns l.first) l.first l.second (take l.system-index l.systems) l.some;
  charged : IsCharged l.fn.meter l.meter;
}
