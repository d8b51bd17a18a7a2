use Rattle.std.proofs.Common.{◌≡◌, ◌<◌, ◌≤◌, true, arith, length}
use Rattle.std.proofs.lemmas.Grind.{common_steps}
use Rattle.isl_loop.specs.declared.tree.Expr.{Expr}
use Rattle.isl_loop.specs.Formed.{IsExprOver}
use Rattle.isl_ast.proofs.FormedLaws.{all_found, one_all}
use Rattle.isl_ast.proofs.formed.are_exprs_over.Goals as goal

pub loop-expr-preserved : goal.loop-expr-preserved
loop-expr-preserved c =
    let i = c.loop-expr.expr-index in
    let x = c.expr-item.result in
    let low : i < length c.args.exprs.now = omega arith in
    let passed : c.is_expr_over.result ≡ true = grind (arith, common_steps) in
    let P : Expr → Type 0 = IsExprOver c.args.meter.now c.args.columns in
    one_all P c.args.exprs.now i x low c.expr-item.is (c.is_expr_over.ensures.0 passed) c.loop-expr.invariant

pub returns : goal.returns
returns c =
    let end : length c.args.exprs.now ≤ c.loop-expr.expr-index = omega arith in
    all_found (IsExprOver c.args.meter.now c.args.columns) c.args.exprs.now c.loop-expr.expr-index end c.loop-expr.invariant
