use Rattle.std.proofs.Common.{◌≡◌, map, take}
use Rattle.isl_loop.specs.Expr.{expr_value}
use Rattle.isl_ast.proofs.arguments.set_values.Given as goal

abbrev pub invariant-loop-arg : goal.invariant-loop-arg
invariant-loop-arg l = (l.numbers.items ≡ map (λ e. expr_value e l.point) (take l.arg-index l.args)) × (l.meter ≡ l.fn.meter)
