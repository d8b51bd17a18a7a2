use Rattle.std.proofs.Common.{◌≡◌, drop}
use Rattle.isl_piece.specs.Numbers.{lead}
use Rattle.isl_piece.proofs.numbers.lead.Given as goal

abbrev pub invariant-loop-number : goal.invariant-loop-number
invariant-loop-number l = lead (drop l.number-index l.numbers) ≡ lead l.numbers
