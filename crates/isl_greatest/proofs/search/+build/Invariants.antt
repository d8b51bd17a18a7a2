use Rattle.std.proofs.Common.{◌-◌}
use Rattle.isl_greatest.proofs.search.+build.Given as goal

abbrev pub decreases-build : goal.decreases-build
decreases-build l = l.meter.now.budget - l.meter.now.units
