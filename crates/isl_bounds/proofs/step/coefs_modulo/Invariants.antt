use Rattle.std.proofs.Common.{◌≡◌, ◌*ℤ◌, take}
use Rattle.std.specs.List.{All, AllZip}
use Rattle.isl_math.specs.Divide.{IsCongruent}
use Rattle.isl_meter.specs.Gauge.{IsWithin}
use Rattle.isl_bounds.proofs.step.coefs_modulo.Given as goal

abbrev pub invariant-loop-i : goal.invariant-loop-i
invariant-loop-i l =
    AllZip (λ c d. IsCongruent l.row.k d (l.by *ℤ c)) (take l.i l.row.coefs) l.coefs × All (IsWithin l.fn.meter) l.coefs ×
    (l.meter ≡ l.fn.meter)
