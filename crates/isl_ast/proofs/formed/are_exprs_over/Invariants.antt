use Rattle.std.proofs.Common.{take}
use Rattle.std.specs.List.{All}
use Rattle.isl_loop.specs.Formed.{IsExprOver}
use Rattle.isl_ast.proofs.formed.are_exprs_over.Given as goal

abbrev pub invariant-loop-expr : goal.invariant-loop-expr
invariant-loop-expr l = All (IsExprOver l.meter l.columns) (take l.expr-index l.exprs)
