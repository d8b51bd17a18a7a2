use Rattle.std.proofs.Common.{◌≡◌, ◌∙◌, ◌++◌, ◌∷◌, [], refl, sym, ap, subst, arith, ℤ, List, of_z, to_z, to_z-of_z}
use Rattle.std.specs.Int.{w128}
use Rattle.std.proofs.lemmas.Grind.{common_steps}
use Rattle.isl_loop.specs.declared.tree.Expr.{Expr, out-Expr}
use Rattle.isl_loop.specs.declared.tree.Item.{Item}
use Rattle.isl_loop.specs.declared.tree.Atom.{Floor}
use Rattle.isl_loop.specs.Expr.{expr_value}
use Rattle.isl_loop.specs.Formed.{IsExprOver}
use Rattle.isl_quast.specs.Quasi.{IsQuasiAffine}
use Rattle.isl_greatest.proofs.QuasiLaws.{quotient_over, quotient_quasi, quotient_value, quotient_pushed}
use Rattle.isl_greatest.proofs.sum.with_quotient.Goals as goal

pub new-requires-2 : goal.new-requires-2
new-requires-2 c =
    let k : to_z w128 (of_z w128 c.get-2.result) ≡ c.args.k = grind (arith, common_steps, to_z-of_z) in
    let coef : to_z w128 (of_z w128 c.get.result) ≡ c.args.coef = grind (arith, common_steps, to_z-of_z) in
    let is = quotient_pushed c.into_expr-expr.result c.in_ok-dividend.dividend c.push.new.self _ c.args.coef _ c.args.k c.in_ok-push.ensures.ok coef k in
    quotient_quasi c.into_expr-expr.result c.into_expr.result c.in_ok-dividend.dividend c.push.new.self c.args.coef c.args.k _
    c.in_ok-dividend.ensures is refl c.into_expr-expr.ensures.quasi c.into_expr.ensures.quasi c.requires

pub returns-clause-over : goal.returns-clause-over
returns-clause-over c g n over coef_within more within =
    let k : to_z w128 (of_z w128 c.get-2.result) ≡ c.args.k = grind (arith, common_steps, to_z-of_z) in
    let coef : to_z w128 (of_z w128 c.get.result) ≡ c.args.coef = grind (arith, common_steps, to_z-of_z) in
    let is = quotient_pushed c.into_expr-expr.result c.in_ok-dividend.dividend c.push.new.self _ c.args.coef _ c.args.k c.in_ok-push.ensures.ok coef k in
    subst (IsExprOver g n) (sym c.new-2.ensures)
    (quotient_over c.into_expr-expr.result c.into_expr.result c.in_ok-dividend.dividend c.push.new.self c.args.coef c.args.k _ c.in_ok-dividend.ensures is refl
    g n c.requires (subst (IsExprOver g n) (sym c.into_expr-expr.ensures.value) over) coef_within
    (subst (IsExprOver g n) (sym c.into_expr.ensures.value) more) within)

pub returns-clause-value : goal.returns-clause-value
returns-clause-value c point =
    let k : to_z w128 (of_z w128 c.get-2.result) ≡ c.args.k = grind (arith, common_steps, to_z-of_z) in
    let coef : to_z w128 (of_z w128 c.get.result) ≡ c.args.coef = grind (arith, common_steps, to_z-of_z) in
    let is = quotient_pushed c.into_expr-expr.result c.in_ok-dividend.dividend c.push.new.self _ c.args.coef _ c.args.k c.in_ok-push.ensures.ok coef k in
    ap (λ (e : Expr). expr_value e point) c.new-2.ensures
    ∙ quotient_value c.into_expr-expr.result c.into_expr.result c.in_ok-dividend.dividend c.push.new.self c.args.coef c.args.k _ c.in_ok-dividend.ensures is refl point
    ∙ rw (c.into_expr-expr.ensures.value, c.into_expr.ensures.value) refl
