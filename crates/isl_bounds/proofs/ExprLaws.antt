-- Expressions as they are made.
use Rattle.std.proofs.Common.{◌≡◌, refl, sym, ap, ◌∙◌, arith, ℕ, ◌≤◌, ℤ, pos, ◌+ℤ◌, ◌*ℤ◌, List, [], ◌∷◌, ◌++◌}
use Rattle.std.proofs.Common.{length, length-append}
use Rattle.std.specs.List.{All}
use Rattle.std.proofs.lemmas.List.Elements.{All-cons, All-nil}
use Rattle.isl_math.specs.Divide.{floor_div}
use Rattle.isl_math.proofs.Ring.{linear}
use Rattle.isl_meter.specs.Gauge.{Gauge, IsWithin}
use Rattle.isl_loop.specs.declared.tree.Expr.{Expr, out-Expr, roll-Expr, items_hidden-the_row-Item-2, items_shown-the_row-Item-2}
use Rattle.isl_loop.specs.declared.tree.Atom.TheBlock.{hidden-the_row-Item-2}
use Rattle.isl_loop.specs.declared.tree.Item.{Item}
use Rattle.isl_loop.specs.declared.tree.Atom.{Ceil, Floor}
use Rattle.isl_loop.specs.Expr.{atom_value, ceil_div, expr_value}
use Rattle.isl_loop.specs.Formed.{IsAtomOver, IsExprOver}
use Rattle.isl_loop.specs.Lists.{sum_of, IsItemOver}
use Rattle.isl_loop.proofs.TreeLaws.{value_of-Ceil, value_of-Expr, value_of-Floor}
use Rattle.isl_ast.proofs.FormedLaws.{expr_parts}

abbrev pub made_expr : List Item → ℤ → Expr
made_expr items z = roll-Expr (record { items = items; constant = z })

items_made : (items : List Item) (z : ℤ) → (out-Expr (made_expr items z)).items ≡ items
unfolding out-Expr roll-Expr denote.Hole.Carrier.out denote.Hole.Carrier.roll
items_made items z = items_shown-the_row-Item-2 _ (hidden-the_row-Item-2 items) ∙ items_hidden-the_row-Item-2 items

constant_made : (items : List Item) (z : ℤ) → (out-Expr (made_expr items z)).constant ≡ z
unfolding out-Expr roll-Expr denote.Hole.Carrier.out denote.Hole.Carrier.roll
constant_made items z = refl

pub made_value : (items : List Item) (z : ℤ) (point : List ℤ) → expr_value (made_expr items z) point ≡ sum_of items point +ℤ z
made_value items z point =
    value_of-Expr (made_expr items z) point ∙ rw (items_made items z, constant_made items z) refl

pub made_over : (g : Gauge) (n : ℕ) (items : List Item) (z : ℤ) → All (IsItemOver g n) items → IsWithin g z
    → IsExprOver g n (made_expr items z)
made_over g n items z all within =
    (expr_parts g n (made_expr items z) items z (sym (items_made items z)) (sym (constant_made items z))).1 (within, all)

-- ---- an expression of one atom
pub one_over : (g : Gauge) (n : ℕ) (items : List Item) (item : Item) → items ≡ item ∷ [] → IsWithin g item.coef → IsAtomOver g n item.atom
    → IsWithin g (pos 0) → IsExprOver g n (made_expr items (pos 0))
one_over g n items item is coef atom none =
    made_over g n items (pos 0) (rw is (All-cons (IsItemOver g n) item [] (record { coef = coef; atom = atom }) (All-nil
    (IsItemOver g n)))) none

pub one_value : (items : List Item) (item : Item) (point : List ℤ) → items ≡ item ∷ [] → item.coef ≡ pos 1
    → expr_value (made_expr items (pos 0)) point ≡ atom_value item.atom point
one_value items item point is one =
    made_value items (pos 0) point ∙ ap (λ (them : List Item). sum_of them point +ℤ pos 0) is
    ∙ by item.coef (atom_value item.atom point) one
  where
    by : (coef z : ℤ) → coef ≡ pos 1 → coef *ℤ z +ℤ pos 0 +ℤ pos 0 ≡ z
    by coef z e = let p = ap (λ c. c *ℤ z) e in omega (arith, linear, p)

-- ---- quotients
pub floor_value : (e inner : Expr) (k m : ℤ) (point : List ℤ) → inner ≡ e → m ≡ k
    → atom_value (Floor e k) point ≡ floor_div (expr_value inner point) m
floor_value e inner k m point same number = rw (same, number) (value_of-Floor e k point)

pub ceiling_value : (e inner : Expr) (k m : ℤ) (point : List ℤ) → inner ≡ e → m ≡ k
    → atom_value (Ceil e k) point ≡ ceil_div (expr_value inner point) m
ceiling_value e inner k m point same number = rw (same, number) (value_of-Ceil e k point)

-- ---- few expressions
pub nothing_value : (items : List Item) (point : List ℤ) → items ≡ [] → expr_value (made_expr items (pos 0)) point ≡ pos 0
nothing_value items point is = made_value items (pos 0) point ∙ ap (λ (them : List Item). sum_of them point +ℤ pos 0) is

pub two_long : (es : List Expr) (e : Expr) → ¬ (es ≡ []) → 2 ≤ length (es ++ e ∷ [])
two_long [] e some = absurd (some refl)
two_long (a ∷ es) e some = let long = length-append es (e ∷ []) in omega (arith, long)
