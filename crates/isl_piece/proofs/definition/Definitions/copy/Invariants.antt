use Rattle.std.proofs.Common.{◌≡◌, take}
use Rattle.isl_piece.proofs.definition.Definitions.copy.Given as goal

abbrev pub invariant-loop-definition : goal.invariant-loop-definition
invariant-loop-definition l = l.items.items ≡ take l.definition-index l.self
