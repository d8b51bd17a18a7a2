use Rattle.isl_meter.specs.Gauge.{IsWithin}
use Rattle.isl_presolve.proofs.FixedLaws.{IsDivisorSoFar}
use Rattle.isl_presolve.proofs.fixed.divisor_but.Given as goal

abbrev pub invariant-loop-i : goal.invariant-loop-i
invariant-loop-i l = IsDivisorSoFar l.row.k l.row.coefs l.but l.i l.common × IsWithin l.meter l.common
