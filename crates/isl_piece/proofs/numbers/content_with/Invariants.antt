use Rattle.std.proofs.Common.{◌∷◌, take}
use Rattle.isl_math.specs.Gcd.{IsContentOf}
use Rattle.isl_meter.specs.Gauge.{IsWithin}
use Rattle.isl_piece.proofs.numbers.content_with.Given as goal

abbrev pub invariant-loop-i : goal.invariant-loop-i
invariant-loop-i l = IsContentOf (l.fn.first ∷ take l.i l.numbers) l.g × IsWithin l.meter l.g
