use Rattle.std.proofs.Common.{◌≡◌, refl, sym, subst, arith, ℤ, of_z, to_z, to_z-of_z}
use Rattle.std.specs.Int.{w128}
use Rattle.std.specs.Prelude.{IfOk}
use Rattle.std.proofs.lemmas.Grind.{common_steps}
use Rattle.isl_loop.specs.declared.tree.Atom.{Ceil, Floor}
use Rattle.isl_loop.specs.Expr.{expr_value}
use Rattle.isl_ast.proofs.FormedLaws.{ceiling_parts, floor_parts}
use Rattle.isl_bounds.proofs.ExprLaws.{ceiling_value, floor_value}
use Rattle.isl_bounds.proofs.form.quotient.Goals as goal

pub returns-in-Low-clause-over : goal.returns-in-Low-clause-over
returns-in-Low-clause-over c g n wide over within =
    let k = to_z w128 (of_z w128 c.get.result) in
    let same : c.args.k ≡ k = grind (arith, common_steps, to_z-of_z) in
    c.of_atom.ensures.over g n wide
    ((ceiling_parts g n (Ceil c.in_ok-dividend.dividend k) c.in_ok-dividend.dividend c.args.dividend k c.args.k refl
    (sym c.in_ok-dividend.ensures) same).1 ((c.requires, within), over))

pub returns-in-Low-clause-value : goal.returns-in-Low-clause-value
returns-in-Low-clause-value c point =
    let k = to_z w128 (of_z w128 c.get.result) in
    let same : c.args.k ≡ k = grind (arith, common_steps, to_z-of_z) in
    rw c.in-Low.is (subst (λ (z : ℤ). IfOk c.of_atom.result (λ e. expr_value e point ≡ z))
    (ceiling_value c.in_ok-dividend.dividend c.args.dividend k c.args.k point (sym c.in_ok-dividend.ensures) same)
    (c.of_atom.ensures.value point))

pub returns-in-High-clause-over : goal.returns-in-High-clause-over
returns-in-High-clause-over c g n wide over within =
    let k = to_z w128 (of_z w128 c.get-in-High.result) in
    let same : c.args.k ≡ k = grind (arith, common_steps, to_z-of_z) in
    c.of_atom-in-High.ensures.over g n wide
    ((floor_parts g n (Floor c.in_ok-dividend.dividend k) c.in_ok-dividend.dividend c.args.dividend k c.args.k refl
    (sym c.in_ok-dividend.ensures) same).1 ((c.requires, within), over))

pub returns-in-High-clause-value : goal.returns-in-High-clause-value
returns-in-High-clause-value c point =
    let k = to_z w128 (of_z w128 c.get-in-High.result) in
    let same : c.args.k ≡ k = grind (arith, common_steps, to_z-of_z) in
    rw c.in-High.is (subst (λ (z : ℤ). IfOk c.of_atom-in-High.result (λ e. expr_value e point ≡ z))
    (floor_value c.in_ok-dividend.dividend c.args.dividend k c.args.k point (sym c.in_ok-dividend.ensures) same)
    (c.of_atom-in-High.ensures.value point))
