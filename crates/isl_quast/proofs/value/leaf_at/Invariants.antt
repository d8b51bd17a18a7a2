use Rattle.std.proofs.Common.{◌≡◌, map, take}
use Rattle.isl_loop.specs.Expr.{expr_value}
use Rattle.isl_quast.proofs.value.leaf_at.Given as goal

abbrev pub invariant-loop-expr : goal.invariant-loop-expr
invariant-loop-expr l = (l.numbers.items ≡ map (λ e. expr_value e l.at) (take l.expr-index l.exprs)) × (l.meter ≡ l.fn.meter)
