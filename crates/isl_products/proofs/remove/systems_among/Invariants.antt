use Rattle.std.proofs.Common.{take}
use Rattle.isl_meter.specs.Gauge.{Gauge}
use Rattle.isl_union.specs.Numbers.{AreWithinLimit}
use Rattle.isl_products.specs.Made.{AreBeside}
use Rattle.isl_products.proofs.remove.systems_among.Given as goal

abbrev pub invariant-loop-other : goal.invariant-loop-other
invariant-loop-other l = (g : Gauge) → AreWithinLimit g l.others
    → AreBeside g l.place l.params l.piece (take l.other-index l.others) l.systems.items
