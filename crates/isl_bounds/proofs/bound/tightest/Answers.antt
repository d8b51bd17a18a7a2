use Rattle.std.proofs.Common.{◌≡◌, ◌∙◌, ◌≤◌, [], refl, sym, ap, subst, arith, pos, ℤ, List, length}
use Rattle.std.specs.Prelude.{IfOk}
use Rattle.std.specs.Int.{int_max, int_min}
use Rattle.std.specs.List.{All}
use Rattle.std.proofs.lemmas.Bool.{false≢true}
use Rattle.std.proofs.lemmas.List.Elements.{All-nil}
use Rattle.isl_meter.proofs.LimitLemmas.{IsWithin-small}
use Rattle.isl_loop.specs.declared.tree.Expr.{Expr}
use Rattle.isl_loop.specs.declared.tree.Atom.{Max, Min}
use Rattle.isl_loop.specs.Expr.{expr_value}
use Rattle.isl_loop.specs.Lists.{extreme_in, IsItemOver}
use Rattle.isl_loop.proofs.TreeLaws.{value_of-Max, value_of-Min}
use Rattle.isl_ast.proofs.FormedLaws.{greatest_parts, least_parts}
use Rattle.isl_bounds.specs.Side.{tighter}
use Rattle.isl_bounds.proofs.ExprLaws.{made_over, nothing_value, two_long}
use Rattle.isl_bounds.proofs.bound.tightest.Goals as goal

pub returns-in_default-clause-over : goal.returns-in_default-clause-over
returns-in_default-clause-over c g n wide over =
    made_over g n c.new.result (pos 0) (subst (All (IsItemOver g n)) (sym c.new.ensures) (All-nil (IsItemOver g n)))
    (IsWithin-small g (pos 0) wide (omega arith))

pub returns-in_default-clause-value : goal.returns-in_default-clause-value
returns-in_default-clause-value c point =
    nothing_value c.new.result point c.new.ensures
    ∙ ap (λ (es : List Expr). extreme_in (tighter c.args.side) es point) (sym c.in_default.ensures.0)

pub returns-in-Low-clause-over : goal.returns-in-Low-clause-over
returns-in-Low-clause-over c g n wide over =
    let same : c.args.bounds ≡ c.push.new.self = c.in-Some.ensures ∙ sym c.in_ok-push.ensures.ok in
    let some : ¬ (c.pop.new.self ≡ []) = λ e. false≢true (sym c.if-is_empty.false ∙ c.is_empty.ensures.1 e) in
    let two : 2 ≤ length c.args.bounds = subst (λ (es : List Expr). 2 ≤ length es) (sym c.in-Some.ensures)
    (two_long c.pop.new.self c.in-Some.last some) in
    c.of_atom.ensures.over g n wide
    ((greatest_parts g n (Max c.push.new.self) c.push.new.self c.args.bounds refl same).1 (over, two))

pub returns-in-Low-clause-value : goal.returns-in-Low-clause-value
returns-in-Low-clause-value c point =
    let same : c.args.bounds ≡ c.push.new.self = c.in-Some.ensures ∙ sym c.in_ok-push.ensures.ok in
    rw c.in-Low.is (subst (λ (z : ℤ). IfOk c.of_atom.result (λ e. expr_value e point ≡ z))
    (value_of-Max c.push.new.self point ∙ ap (λ (es : List Expr). extreme_in int_max es point) (sym same))
    (c.of_atom.ensures.value point))

pub returns-in-High-clause-over : goal.returns-in-High-clause-over
returns-in-High-clause-over c g n wide over =
    let same : c.args.bounds ≡ c.push.new.self = c.in-Some.ensures ∙ sym c.in_ok-push.ensures.ok in
    let some : ¬ (c.pop.new.self ≡ []) = λ e. false≢true (sym c.if-is_empty.false ∙ c.is_empty.ensures.1 e) in
    let two : 2 ≤ length c.args.bounds = subst (λ (es : List Expr). 2 ≤ length es) (sym c.in-Some.ensures)
    (two_long c.pop.new.self c.in-Some.last some) in
    c.of_atom-in-High.ensures.over g n wide
    ((least_parts g n (Min c.push.new.self) c.push.new.self c.args.bounds refl same).1 (over, two))

pub returns-in-High-clause-value : goal.returns-in-High-clause-value
returns-in-High-clause-value c point =
    let same : c.args.bounds ≡ c.push.new.self = c.in-Some.ensures ∙ sym c.in_ok-push.ensures.ok in
    rw c.in-High.is (subst (λ (z : ℤ). IfOk c.of_atom-in-High.result (λ e. expr_value e point ≡ z))
    (value_of-Min c.push.new.self point ∙ ap (λ (es : List Expr). extreme_in int_min es point) (sym same))
    (c.of_atom-in-High.ensures.value point))
