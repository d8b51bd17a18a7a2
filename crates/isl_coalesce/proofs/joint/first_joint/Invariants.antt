use Rattle.std.proofs.Common.{All, take}
use Rattle.isl_meter.specs.Gauge.{IsCharged}
use Rattle.isl_assumed.specs.Assumed.{Assumes}
use Rattle.isl_coalesce.specs.Joint.{IsJointAt}
use Rattle.isl_coalesce.specs.Slots.{AreApartAt}
use Rattle.isl_coalesce.proofs.joint.first_joint.Given as goal

abbrev pub invariant-loop-index : goal.invariant-loop-index
invariant-loop-index l =
    All (AreApartAt (IsJointAt (Assumes l.known) l.params) l.peers.slots.now l.piece) (take l.index l.peers.places.now)
    × IsCharged l.fn.meter l.meter
