-- Sums and extremes, part by part; and the atoms of the code.
use Rattle.std.proofs.Common.{◌≡◌, ◌∙◌, inl, inr, refl, sym, ap, subst, arith, ℕ, ◌+◌, ◌<◌, ◌≤◌, ℤ, pos, ◌+ℤ◌, ◌*ℤ◌, List, ◌∷◌}
use Rattle.std.proofs.Common.{length, get_or, drop, Option, Some, None}
use Rattle.std.specs.List.{All, Any}
use Rattle.std.proofs.lemmas.List.{drop_all, drop_more}
use Rattle.std.specs.Prelude.{MatchOption, Result, Ok, Err}
use Rattle.isl_math.proofs.ListLaws.{Any-first, Any-later}
use Rattle.isl_math.proofs.Ring.{linear}
use Rattle.isl_meter.specs.Gauge.{Gauge, IsMeasured, IsWithin, overflown}
use Rattle.isl_loop.specs.declared.tree.Expr.{Expr, out-Expr}
use Rattle.isl_loop.specs.declared.tree.Item.{Item}
use Rattle.isl_loop.specs.Expr.{atom_value, expr_value}
use Rattle.isl_loop.specs.Formed.{AtomPasses, ExprPasses, IsAtomOver, IsExprOver}
use Rattle.isl_loop.specs.Lists.{extreme_in, extreme_past, IsItemOver, ItemsPass, sum_of}
use Rattle.isl_loop.proofs.TreeLaws.{over-Expr, passes-Expr, value_of-Expr}
use Rattle.isl_ast.specs.Value.{IsChosen, IsSummed, IsValued}

-- ---- sums
pub summed-start : (g : Gauge) (point : List ℤ) (items : List Item) → IsSummed g point items (pos 0) items
summed-start g point items = record { total = omega (arith, linear); passes = λ p. p }

-- what is left begins with the next one
pub left_with : {X : Type 0} (xs : List X) (i : ℕ) (x : X) → i < length xs → x ≡ get_or xs i x → drop i xs ≡ x ∷ drop (i + 1) xs
left_with xs i x inside is = drop_more xs i x inside ∙ ap (λ y. y ∷ drop (i + 1) xs) (sym is)

pub summed-more : (g : Gauge) (point : List ℤ) (items rest : List Item) (item : Item) (sum number product next : ℤ)
    → IsSummed g point items sum (item ∷ rest) → number ≡ atom_value item.atom point → product ≡ item.coef *ℤ number → next ≡ sum +ℤ product
    → IsSummed g point items next rest
summed-more g point items rest item sum number product next s is times plus =
    let whole : next ≡ sum +ℤ item.coef *ℤ atom_value item.atom point =
    plus ∙ ap (λ (z : ℤ). sum +ℤ z) (times ∙ ap (λ (z : ℤ). item.coef *ℤ z) is) in
    record {
      total = rw whole (by sum (item.coef *ℤ atom_value item.atom point) (sum_of rest point) ∙ s.total);
      passes = λ p. s.passes (inr (inr (inr (subst (λ (z : ℤ). ItemsPass g point z rest) whole p))));
    }
  where
    by : (a b c : ℤ) → a +ℤ b +ℤ c ≡ a +ℤ (b +ℤ c)
    by a b c = omega (arith, linear)

pub past-atom : (g : Gauge) (point : List ℤ) (items rest : List Item) (item : Item) (sum : ℤ) → IsSummed g point items sum (item ∷ rest)
    → AtomPasses g point item.atom → ItemsPass g point (pos 0) items
past-atom g point items rest item sum s p = s.passes (inl p)

pub past-product : (g : Gauge) (point : List ℤ) (items rest : List Item) (item : Item) (sum number : ℤ)
    → IsSummed g point items sum (item ∷ rest)
    → number ≡ atom_value item.atom point → ¬ IsWithin g (item.coef *ℤ number) → ItemsPass g point (pos 0) items
past-product g point items rest item sum number s is n =
    s.passes (inr (inl (subst (λ (z : ℤ). ¬ IsWithin g (item.coef *ℤ z)) is n)))

pub past-sum : (g : Gauge) (point : List ℤ) (items rest : List Item) (item : Item) (sum number product : ℤ)
    → IsSummed g point items sum (item ∷ rest) → number ≡ atom_value item.atom point → product ≡ item.coef *ℤ number
    → ¬ IsWithin g (sum +ℤ product) → ItemsPass g point (pos 0) items
past-sum g point items rest item sum number product s is times n =
    s.passes (inr (inr (inl (subst (λ (z : ℤ). ¬ IsWithin g (sum +ℤ z)) (times ∙ ap (λ (z : ℤ). item.coef *ℤ z) is) n))))

-- the same at the places of the list
at_left : (g : Gauge) (point : List ℤ) (items : List Item) (i : ℕ) (item : Item) (sum : ℤ) → i < length items → item ≡ get_or items i item
    → IsSummed g point items sum (drop i items) → IsSummed g point items sum (item ∷ drop (i + 1) items)
at_left g point items i item sum low is s = subst (IsSummed g point items sum) (left_with items i item low is) s

pub item_over : (g h : Gauge) (n : ℕ) (items : List Item) (i : ℕ) (item : Item) → All (IsItemOver g n) items → i < length items
    → item ≡ get_or items i item → h ≡ g → IsAtomOver h n item.atom
item_over g h n items i item all low is same =
    subst (λ (m : Gauge). IsAtomOver m n item.atom) (sym same)
    (subst (λ (x : Item). IsAtomOver g n x.atom) (sym is) (all i item low).atom)

pub total_more : (g : Gauge) (point : List ℤ) (items : List Item) (i : ℕ) (item : Item) (sum number coef product next : ℤ)
    → i < length items
    → item ≡ get_or items i item → IsSummed g point items sum (drop i items) → number ≡ atom_value item.atom point
    → coef ≡ item.coef → product ≡ coef *ℤ number → next ≡ sum +ℤ product → IsSummed g point items next (drop (i + 1) items)
total_more g point items i item sum number coef product next low is s value own times plus =
    summed-more g point items (drop (i + 1) items) item sum number product next (at_left g point items i item sum low is s) value
    (times ∙ ap (λ (z : ℤ). z *ℤ number) own) plus

pub total_atom : (g h k : Gauge) (point : List ℤ) (items : List Item) (i : ℕ) (item : Item) (sum : ℤ) → i < length items
    → item ≡ get_or items i item → IsSummed g point items sum (drop i items) → h ≡ g
    → AtomPasses h point item.atom × (k ≡ overflown h) → ItemsPass g point (pos 0) items × (k ≡ overflown g)
total_atom g h k point items i item sum low is s same e = (
  past-atom g point items (drop (i + 1) items) item sum (at_left g point items i item sum low is s)
      (subst (λ (m : Gauge). AtomPasses m point item.atom) same e.0),
  e.1 ∙ ap overflown same,
)

pub total_product : (g h k : Gauge) (point : List ℤ) (items : List Item) (i : ℕ) (item : Item) (sum number coef : ℤ) → i < length items
    → item ≡ get_or items i item → IsSummed g point items sum (drop i items) → h ≡ g → number ≡ atom_value item.atom point
    → coef ≡ item.coef → (¬ IsWithin h (coef *ℤ number)) × (k ≡ overflown h) → ItemsPass g point (pos 0) items × (k ≡ overflown g)
total_product g h k point items i item sum number coef low is s same value own e = (
  past-product g point items (drop (i + 1) items) item sum number (at_left g point items i item sum low is s) value
      (subst (λ (z : ℤ). ¬ IsWithin g (z *ℤ number)) own (subst (λ (m : Gauge). ¬ IsWithin m (coef *ℤ number)) same e.0)),
  e.1 ∙ ap overflown same,
)

pub total_sum : (g h k : Gauge) (point : List ℤ) (items : List Item) (i : ℕ) (item : Item) (sum number coef product : ℤ) → i < length items
    → item ≡ get_or items i item → IsSummed g point items sum (drop i items) → h ≡ g → number ≡ atom_value item.atom point
    → coef ≡ item.coef → product ≡ coef *ℤ number → (¬ IsWithin h (sum +ℤ product)) × (k ≡ overflown h)
    → ItemsPass g point (pos 0) items × (k ≡ overflown g)
total_sum g h k point items i item sum number coef product low is s same value own times e = (
  past-sum g point items (drop (i + 1) items) item sum number product (at_left g point items i item sum low is s) value
      (times ∙ ap (λ (z : ℤ). z *ℤ number) own)
      (subst (λ (m : Gauge). ¬ IsWithin m (sum +ℤ product)) same e.0),
  e.1 ∙ ap overflown same,
)

-- at the end
pub total_end : (g : Gauge) (point : List ℤ) (items : List Item) (i : ℕ) (sum : ℤ) → length items ≤ i
    → IsSummed g point items sum (drop i items) → sum ≡ sum_of items point
total_end g point items i sum long s = by (subst (IsSummed g point items sum) (drop_all i items long) s).total
  where
    by : sum +ℤ pos 0 ≡ sum_of items point → sum ≡ sum_of items point
    by e = omega (arith, linear, e)

-- ---- the least, or the greatest
pub chosen-start : (g : Gauge) (point : List ℤ) (f : ℤ → ℤ → ℤ) (es : List Expr) → IsChosen g point f es None es
chosen-start g point f es = record { value = refl; passes = λ p. p }

pub chosen-more : (g : Gauge) (point : List ℤ) (f : ℤ → ℤ → ℤ) (es rest : List Expr) (e : Expr) (best : Option ℤ) (number next : ℤ)
    → IsChosen g point f es best (e ∷ rest) → number ≡ expr_value e point → MatchOption best (next ≡ number) (λ old. next ≡ f old number)
    → IsChosen g point f es (Some next) rest
chosen-more g point f es rest e None number next c is same = record {
  value = ap (λ (z : ℤ). extreme_past f z rest point) (same ∙ is) ∙ c.value;
  passes = λ p. c.passes (Any-later (ExprPasses g point) e rest p);
}
chosen-more g point f es rest e (Some old) number next c is better = record {
  value = ap (λ (z : ℤ). extreme_past f z rest point) (better ∙ ap (λ (z : ℤ). f old z) is) ∙ c.value;
  passes = λ p. c.passes (Any-later (ExprPasses g point) e rest p);
}

pub chosen-past : (g : Gauge) (point : List ℤ) (f : ℤ → ℤ → ℤ) (es rest : List Expr) (e : Expr) (best : Option ℤ)
    → IsChosen g point f es best (e ∷ rest) → ExprPasses g point e → Any (ExprPasses g point) es
chosen-past g point f es rest e best c p = c.passes (Any-first (ExprPasses g point) e rest p)

-- the same at the places of the list
one_left : (g : Gauge) (point : List ℤ) (f : ℤ → ℤ → ℤ) (es : List Expr) (i : ℕ) (e : Expr) (best : Option ℤ) → i < length es
    → e ≡ get_or es i e → IsChosen g point f es best (drop i es) → IsChosen g point f es best (e ∷ drop (i + 1) es)
one_left g point f es i e best low is c = subst (IsChosen g point f es best) (left_with es i e low is) c

pub expr_over : (g h : Gauge) (n : ℕ) (es : List Expr) (i : ℕ) (e : Expr) → All (IsExprOver g n) es → i < length es → e ≡ get_or es i e
    → h ≡ g → IsExprOver h n e
expr_over g h n es i e all low is same =
    subst (λ (m : Gauge). IsExprOver m n e) (sym same) (subst (IsExprOver g n) (sym is) (all i e low))

pub best_more : (g : Gauge) (point : List ℤ) (f : ℤ → ℤ → ℤ) (es : List Expr) (i : ℕ) (e : Expr) (best : Option ℤ) (number next : ℤ)
    → i < length es → e ≡ get_or es i e → IsChosen g point f es best (drop i es) → number ≡ expr_value e point
    → MatchOption best (next ≡ number) (λ old. next ≡ f old number) → IsChosen g point f es (Some next) (drop (i + 1) es)
best_more g point f es i e best number next low is c value better =
    chosen-more g point f es (drop (i + 1) es) e best number next (one_left g point f es i e best low is c) value better

pub best_past : (g h k : Gauge) (point : List ℤ) (f : ℤ → ℤ → ℤ) (es : List Expr) (i : ℕ) (e : Expr) (best : Option ℤ) → i < length es
    → e ≡ get_or es i e → IsChosen g point f es best (drop i es) → h ≡ g → ExprPasses h point e × (k ≡ overflown h)
    → Any (ExprPasses g point) es × (k ≡ overflown g)
best_past g h k point f es i e best low is c same p = (
  chosen-past g point f es (drop (i + 1) es) e best (one_left g point f es i e best low is c)
      (subst (λ (m : Gauge). ExprPasses m point e) same p.0),
  p.1 ∙ ap overflown same,
)

pub best_end : (g : Gauge) (point : List ℤ) (f : ℤ → ℤ → ℤ) (es : List Expr) (i : ℕ) (best : Option ℤ) (number : ℤ) → length es ≤ i
    → IsChosen g point f es best (drop i es) → MatchOption best (number ≡ pos 0) (λ old. number ≡ old) → number ≡ extreme_in f es point
best_end g point f es i None number long c is = is ∙ (subst (IsChosen g point f es None) (drop_all i es long) c).value
best_end g point f es i (Some old) number long c is = is ∙ (subst (IsChosen g point f es (Some old)) (drop_all i es long) c).value

-- ---- expressions and atoms, as the code has them
pub expr_is : (x : Expr) (point : List ℤ) (items : List Item) (sum number : ℤ) → items ≡ (out-Expr x).items → sum ≡ sum_of items point
    → number ≡ sum +ℤ (out-Expr x).constant → number ≡ expr_value x point
expr_is x point items sum number is total plus =
    plus ∙ ap (λ (z : ℤ). z +ℤ (out-Expr x).constant) (total ∙ ap (λ (l : List Item). sum_of l point) is) ∙ sym (value_of-Expr x point)

pub expr_items : (g : Gauge) (n : ℕ) (x : Expr) (items : List Item) → items ≡ (out-Expr x).items → IsExprOver g n x
    → All (IsItemOver g n) items
expr_items g n x items is over = subst (All (IsItemOver g n)) (sym is) (over-Expr g n x over).0

pub expr_total : (g k : Gauge) (point : List ℤ) (x : Expr) (items : List Item) → items ≡ (out-Expr x).items
    → ItemsPass g point (pos 0) items × (k ≡ overflown g) → ExprPasses g point x × (k ≡ overflown g)
expr_total g k point x items is e = (passes-Expr g point x (inl (subst (ItemsPass g point (pos 0)) is e.0)), e.1)

pub expr_sum : (g h k : Gauge) (point : List ℤ) (x : Expr) (items : List Item) (sum : ℤ) → items ≡ (out-Expr x).items
    → sum ≡ sum_of items point
    → h ≡ g → (¬ IsWithin h (sum +ℤ (out-Expr x).constant)) × (k ≡ overflown h) → ExprPasses g point x × (k ≡ overflown g)
expr_sum g h k point x items sum is total same e = (
  passes-Expr g point x (inr (λ (w : IsWithin g (expr_value x point)). e.0
      (subst (λ (m : Gauge). IsWithin m (sum +ℤ (out-Expr x).constant)) (sym same)
      (subst (IsWithin g) (sym (expr_is x point items sum (sum +ℤ (out-Expr x).constant) is total refl)) w)))),
  e.1 ∙ ap overflown same,
)

pub expr_answer : {E : Type 0} (g h k : Gauge) (point : List ℤ) (x : Expr) (items : List Item) (sum constant : ℤ) (result : Result ℤ E)
    → items ≡ (out-Expr x).items → sum ≡ sum_of items point → constant ≡ (out-Expr x).constant → h ≡ g
    → IsMeasured h k (sum +ℤ constant) result → IsValued g k (expr_value x point) (ExprPasses g point x) result
expr_answer g h k point x items sum constant (Ok v) is total own same m =
    (expr_is x point items sum v is total (m.0 ∙ ap (λ (z : ℤ). sum +ℤ z) own), m.2 ∙ same)
expr_answer g h k point x items sum constant (Err e) is total own same m =
    expr_sum g h k point x items sum is total same (subst (λ (z : ℤ). ¬ IsWithin h (sum +ℤ z)) own m.0, m.1)
