use Rattle.std.proofs.Common.{◌≡◌, take}
use Rattle.std.specs.List.{All}
use Rattle.isl_meter.specs.Gauge.{IsWithin}
use Rattle.isl_piece.specs.Numbers.{reduced}
use Rattle.isl_omega.proofs.congruence.remainders.Given as goal

abbrev pub invariant-loop-number : goal.invariant-loop-number
invariant-loop-number l = (l.coefs ≡ reduced l.k (take l.number-index l.numbers)) × All (IsWithin l.meter) l.coefs
