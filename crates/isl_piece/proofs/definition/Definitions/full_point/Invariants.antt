use Rattle.std.proofs.Common.{◌≡◌, take}
use Rattle.isl_piece.specs.Definition.{with_defined}
use Rattle.isl_piece.proofs.definition.Definitions.full_point.Given as goal

abbrev pub invariant-loop-definition : goal.invariant-loop-definition
invariant-loop-definition l = (l.full.items ≡ with_defined (take l.definition-index l.self) l.point) × (l.meter ≡ l.initial.meter)
