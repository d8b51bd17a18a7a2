use Rattle.std.proofs.Common.{subst}
use Rattle.isl_union.specs.KeptValue.{IsKeptValue}
use Rattle.isl_union.proofs.PieceLaws.{IsKeptValue-from_pieces}
use Rattle.isl_union.proofs.value.Value.pieces.Goals as goal

pub returns-clause-kept : goal.returns-clause-kept
returns-clause-kept c = subst IsKeptValue c.self.view_is (IsKeptValue-from_pieces _ _ c.self.invariant.0 c.self.invariant.1)
