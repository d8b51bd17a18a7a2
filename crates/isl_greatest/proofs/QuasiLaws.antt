-- Sums with quotients as lists of summands, and as they are made.
use mathlib.Core.Former.{Count}
use Rattle.std.proofs.Common.{◌≡◌, ◌∙◌, refl, sym, ap, subst, arith, ℕ, ℤ, pos, ◌<ℤ◌, ◌+ℤ◌, ◌*ℤ◌, List, [], ◌∷◌, ◌++◌}
use Rattle.std.specs.List.{All}
use Rattle.std.proofs.lemmas.List.Elements.{All-cons, All-head, All-nil, All-push, All-tail}
use Rattle.isl_math.specs.Divide.{floor_div}
use Rattle.isl_math.proofs.Ring.{linear}
use Rattle.isl_meter.specs.Gauge.{Gauge, IsWithin}
use Rattle.isl_loop.specs.declared.tree.Expr.{Expr, Expr', out-Expr, roll-Expr, Row_of-Item, end_of-Item, more_of-Item, items-the_row-Item}
use Rattle.isl_loop.specs.declared.tree.Expr.{items_hidden-the_row-Item-2, items_shown-the_row-Item-2}
use Rattle.isl_loop.specs.declared.tree.Atom.{Atom, Floor, Row_of-Expr, end_of-Expr, more_of-Expr}
use Rattle.isl_loop.specs.declared.tree.Atom.TheBlock.{hidden-the_row-Item-2, hidden-the_row-Expr-0}
use Rattle.isl_loop.specs.declared.tree.Item.{Item}
use Rattle.isl_loop.specs.Expr.{atom_value, expr_value}
use Rattle.isl_loop.specs.Formed.{IsAtomOver, IsExprOver}
use Rattle.isl_loop.specs.Lists.{sum_of, IsItemOver}
use Rattle.isl_loop.proofs.TreeLaws.{over-Expr, value_of-Expr, value_of-Floor}
use Rattle.isl_ast.proofs.FormedLaws.{expr_parts, floor_parts}
use Rattle.isl_quast.specs.Quasi.{AreQuasiAffine, IsQuasiAffine, IsQuasiAtom, IsQuasiBoxed}

abbrev pub IsQuasiItem : Item → Type 0
IsQuasiItem item = IsQuasiAtom item.atom

row_quasi : (m : Count) (row : Row_of-Item m) → All IsQuasiItem (items-the_row-Item m row) → AreQuasiAffine row
row_quasi m end_of-Item all = tt
row_quasi m (more_of-Item coef atom row) all = (
  All-head IsQuasiItem (record { coef = coef; atom = atom }) (items-the_row-Item _ row) all,
  row_quasi _ row (All-tail IsQuasiItem (record { coef = coef; atom = atom }) (items-the_row-Item _ row) all),
)

quasi_row : (m : Count) (row : Row_of-Item m) → AreQuasiAffine row → All IsQuasiItem (items-the_row-Item m row)
quasi_row m end_of-Item quasi = All-nil IsQuasiItem
quasi_row m (more_of-Item coef atom row) quasi =
    All-cons IsQuasiItem (record { coef = coef; atom = atom }) (items-the_row-Item _ row) quasi.0 (quasi_row _ row quasi.1)

pub quasi_from : (x : Expr) → All IsQuasiItem (out-Expr x).items → IsQuasiAffine x
unfolding out-Expr denote.Hole.Carrier.out
quasi_from (Expr' s row constant) all = row_quasi _ row (subst (All IsQuasiItem) (items_shown-the_row-Item-2 s row) all)

pub quasi_items : (x : Expr) → IsQuasiAffine x → All IsQuasiItem (out-Expr x).items
unfolding out-Expr denote.Hole.Carrier.out
quasi_items (Expr' s row constant) quasi = subst (All IsQuasiItem) (sym (items_shown-the_row-Item-2 s row)) (quasi_row _ row quasi)

-- ---- expressions as they are made
abbrev pub made_expr : List Item → ℤ → Expr
made_expr items z = roll-Expr (record { items = items; constant = z })

items_made : (items : List Item) (z : ℤ) → (out-Expr (made_expr items z)).items ≡ items
unfolding out-Expr roll-Expr denote.Hole.Carrier.out denote.Hole.Carrier.roll
items_made items z = items_shown-the_row-Item-2 _ (hidden-the_row-Item-2 items) ∙ items_hidden-the_row-Item-2 items

constant_made : (items : List Item) (z : ℤ) → (out-Expr (made_expr items z)).constant ≡ z
unfolding out-Expr roll-Expr denote.Hole.Carrier.out denote.Hole.Carrier.roll
constant_made items z = refl

pub made_quasi : (items : List Item) (z : ℤ) → All IsQuasiItem items → IsQuasiAffine (made_expr items z)
made_quasi items z all = quasi_from (made_expr items z) (subst (All IsQuasiItem) (sym (items_made items z)) all)

pub made_value : (items : List Item) (z : ℤ) (point : List ℤ) → expr_value (made_expr items z) point ≡ sum_of items point +ℤ z
made_value items z point = value_of-Expr (made_expr items z) point ∙ rw (items_made items z, constant_made items z) refl

pub made_over : (g : Gauge) (n : ℕ) (items : List Item) (z : ℤ) → All (IsItemOver g n) items → IsWithin g z → IsExprOver g n (made_expr items z)
made_over g n items z all within =
    (expr_parts g n (made_expr items z) items z (sym (items_made items z)) (sym (constant_made items z))).1 (within, all)

-- ---- one summand more
pub sum_push : (items : List Item) (item : Item) (point : List ℤ)
    → sum_of (items ++ item ∷ []) point ≡ sum_of items point +ℤ item.coef *ℤ atom_value item.atom point
sum_push [] item point = omega (arith, linear)
sum_push (one ∷ items) item point = omega (arith, linear, sum_push items item point)

floor_quasi : (e : Expr) (k : ℤ) → IsQuasiAffine e → pos 0 <ℤ k → IsQuasiAtom (Floor e k)
unfolding hidden-the_row-Expr-0 denote.Hole.Carrier.hidden
floor_quasi e k quasi up = (quasi, up)

-- a sum x, and the quotient e / k so many times
module _ (x e inner : Expr) (items : List Item) (coef k z : ℤ) (same : inner ≡ e) (is : items ≡ (out-Expr x).items ++ record { coef = coef; atom = Floor inner k } ∷ [])
    (constant : z ≡ (out-Expr x).constant) where
  abbrev item : Item
  item = record { coef = coef; atom = Floor inner k }

  pub quotient_quasi : IsQuasiAffine x → IsQuasiAffine e → pos 0 <ℤ k → IsQuasiAffine (made_expr items z)
  quotient_quasi quasi more up =
      made_quasi items z (subst (All IsQuasiItem) (sym is)
      (All-push IsQuasiItem (out-Expr x).items item (quasi_items x quasi) (floor_quasi inner k (subst IsQuasiAffine (sym same) more) up)))

  pub quotient_over : (g : Gauge) (n : ℕ) → pos 0 <ℤ k → IsExprOver g n x → IsWithin g coef → IsExprOver g n e → IsWithin g k
      → IsExprOver g n (made_expr items z)
  quotient_over g n up over coef_within more within =
      let parts = over-Expr g n x over in
      made_over g n items z (subst (All (IsItemOver g n)) (sym is)
      (All-push (IsItemOver g n) (out-Expr x).items item parts.0 (record {
        coef = coef_within;
        atom = (floor_parts g n (Floor inner k) inner inner k k refl refl refl).1 ((up, within), subst (IsExprOver g n) (sym same) more);
      }))) (subst (IsWithin g) (sym constant) parts.1)

  pub quotient_value : (point : List ℤ) → expr_value (made_expr items z) point ≡ expr_value x point +ℤ coef *ℤ floor_div (expr_value e point) k
  quotient_value point =
      by (sum_of (out-Expr x).items point) (coef *ℤ floor_div (expr_value e point) k)
      (made_value items z point ∙ ap (λ (l : List Item). sum_of l point +ℤ z) is ∙ ap (λ y. y +ℤ z) (sum_push (out-Expr x).items item point
      ∙ ap (λ y. sum_of (out-Expr x).items point +ℤ coef *ℤ y)
      (value_of-Floor inner k point ∙ ap (λ (f : Expr). floor_div (expr_value f point) k) same)))
      (value_of-Expr x point)
    where
      by : (a p : ℤ) → expr_value (made_expr items z) point ≡ a +ℤ p +ℤ z → expr_value x point ≡ a +ℤ (out-Expr x).constant
          → expr_value (made_expr items z) point ≡ expr_value x point +ℤ p
      by a p whole own = omega (arith, linear, whole, own, constant)

-- the summand as it is pushed
pub quotient_pushed : (x inner : Expr) (items : List Item) (a coef b k : ℤ) → items ≡ (out-Expr x).items ++ record { coef = a; atom = Floor inner b } ∷ []
    → a ≡ coef → b ≡ k → items ≡ (out-Expr x).items ++ record { coef = coef; atom = Floor inner k } ∷ []
quotient_pushed x inner items a coef b k is same number =
    is ∙ ap (λ z. (out-Expr x).items ++ record { coef = z; atom = Floor inner b } ∷ []) same
    ∙ ap (λ z. (out-Expr x).items ++ record { coef = coef; atom = Floor inner z } ∷ []) number
