use Rattle.std.proofs.Common.{◌≡◌, ◌≢◌, ◌∙◌, inl, inr, refl, sym, subst, ℤ, pos, ◌<ℤ◌}
use Rattle.std.proofs.lemmas.Bool.{false≢true}
use Rattle.isl_piece.specs.Row.{coef_at}
use Rattle.isl_bounds.proofs.EndsLaws.{ends_both, ends_high, ends_low, ends_other, high_end, low_end, on_ok, on_all_ok}
use Rattle.isl_bounds.proofs.ends.Ends.add.Goals as goal

pub returns-then-is_zero : goal.returns-then-is_zero
returns-then-is_zero c rows is =
    let none : coef_at c.args.row.now c.args.variables ≡ pos 0 = sym c.requires.last ∙ c.is_zero.ensures.0 c.if-is_zero.true in
    on_ok c.push_copy.result c.push_copy.ensures
    (λ made. ends_other c.args.meter.now c.args.variables rows c.args.row.now c.args.self.now is (inl none) _ refl refl made)

pub returns-in-Zero : goal.returns-in-Zero
returns-in-Zero c rows is =
    let some : coef_at c.args.row.now c.args.variables ≢ pos 0 =
    λ e. false≢true (sym c.if-is_zero.false ∙ c.is_zero.ensures.1 (c.requires.last ∙ e)) in
    on_all_ok c.add_equality.result c.add_equality.ensures.rows c.add_equality.ensures.low c.add_equality.ensures.high
    (λ made low high. ends_both c.args.meter.now c.args.variables rows c.args.row.now c.args.self.now is c.args.last c.requires.last
    c.requires.row c.in-Zero.is some low high c.add_equality.new.self made)

pub returns-in-AtLeast : goal.returns-in-AtLeast
returns-in-AtLeast c rows is =
    let positive : pos 0 <ℤ coef_at c.args.row.now c.args.variables =
    subst (λ (z : ℤ). pos 0 <ℤ z) c.requires.last (c.is_positive.ensures.0 c.if-is_positive.true) in
    on_ok c.push_copy-in-AtLeast.result c.push_copy-in-AtLeast.ensures
    (λ made. ends_low c.args.meter.now c.args.variables rows c.args.row.now c.args.self.now is
    (low_end c.args.meter.now c.args.variables c.args.row.now c.requires.row c.requires.within c.in-AtLeast.is positive) _ made refl refl)

pub returns-in-AtLeast-2 : goal.returns-in-AtLeast-2
returns-in-AtLeast-2 c rows is =
    let some : coef_at c.args.row.now c.args.variables ≢ pos 0 =
    λ e. false≢true (sym c.if-is_zero.false ∙ c.is_zero.ensures.1 (c.requires.last ∙ e)) in
    let not_above : ¬ (pos 0 <ℤ coef_at c.args.row.now c.args.variables) =
    λ p. false≢true (sym c.if-is_positive.false ∙ c.is_positive.ensures.1 (subst (λ (z : ℤ). pos 0 <ℤ z) (sym c.requires.last) p)) in
    on_ok c.push_copy-in-AtLeast-2.result c.push_copy-in-AtLeast-2.ensures
    (λ made. ends_high c.args.meter.now c.args.variables rows c.args.row.now c.args.self.now is
    (high_end c.args.meter.now c.args.variables c.args.row.now c.requires.row c.requires.within c.in-AtLeast-2.is some not_above) _ refl
    made
    refl)

pub returns-in-Divides : goal.returns-in-Divides
returns-in-Divides c rows is =
    on_ok c.push_copy-in-Divides.result c.push_copy-in-Divides.ensures
    (λ made. ends_other c.args.meter.now c.args.variables rows c.args.row.now c.args.self.now is (inr c.in-Divides.is) _ refl refl made)
