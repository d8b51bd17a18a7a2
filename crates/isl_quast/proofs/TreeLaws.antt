-- Trees at the constructors of the code; and trees that are right wherever a context holds.
use Rattle.std.proofs.Common.{◌≡◌, ◌⊎◌, ◌∙◌, inl, inr, refl, sym, ap, subst, arith, ℕ, ◌+◌, ◌<◌, ℤ, pos, ◌<ℤ◌, ◌≤ℤ◌, Bool, true, false, List, [], map, Option, Some, None, length}
use Rattle.std.specs.Prelude.{int_lt, if◌then◌else◌}
use Rattle.std.proofs.lemmas.Bool.{false≢true}
use Rattle.isl_math.proofs.Ring.{linear}
use Rattle.isl_meter.specs.Gauge.{Gauge}
use Rattle.isl_loop.specs.declared.tree.Expr.{Expr}
use Rattle.isl_loop.specs.Expr.{expr_value}
use Rattle.isl_loop.specs.Formed.{IsExprOver, ExprPasses}
use Rattle.isl_quast.specs.declared.tree.Quast.{Quast, Missing, Leaf, If, If'}
use Rattle.isl_quast.specs.declared.tree.Quast.TheBlock.{hidden-the_row-Quast-0}
use Rattle.isl_quast.specs.Size.{quast_size, size_in}
use Rattle.isl_quast.specs.Tree.{quast_at, quast_in, HasWidth, IsQuastOver, WayPasses}

-- ---- a test
pub at-If : (test : Expr) (up down : Quast) (numbers : List ℤ)
    → quast_at (If test up down) numbers ≡ (if int_lt (expr_value test numbers) (pos 0) then quast_at down numbers else quast_at up numbers)
unfolding hidden-the_row-Quast-0 denote.Hole.Carrier.hidden
at-If test up down numbers = refl

pub over-If : (g : Gauge) (n : ℕ) (test : Expr) (up down : Quast) → IsQuastOver g n (If test up down)
    → IsExprOver g n test × IsQuastOver g n up × IsQuastOver g n down
unfolding hidden-the_row-Quast-0 denote.Hole.Carrier.hidden
over-If g n test up down over = (over.0, over.1, over.2)

pub passes_test : (g : Gauge) (numbers : List ℤ) (test : Expr) (up down : Quast) → ExprPasses g numbers test → WayPasses g numbers (If test up down)
unfolding hidden-the_row-Quast-0 denote.Hole.Carrier.hidden
passes_test g numbers test up down p = inl p

pub passes_down : (g : Gauge) (numbers : List ℤ) (test : Expr) (up down : Quast) → int_lt (expr_value test numbers) (pos 0) ≡ true
    → WayPasses g numbers down → WayPasses g numbers (If test up down)
unfolding hidden-the_row-Quast-0 denote.Hole.Carrier.hidden
passes_down g numbers test up down below p = inr (inl (below, p))

pub passes_up : (g : Gauge) (numbers : List ℤ) (test : Expr) (up down : Quast) → int_lt (expr_value test numbers) (pos 0) ≡ false
    → WayPasses g numbers up → WayPasses g numbers (If test up down)
unfolding hidden-the_row-Quast-0 denote.Hole.Carrier.hidden
passes_up g numbers test up down above p = inr (inr (above, p))

pub size-If : (test : Expr) (up down : Quast) → quast_size (If test up down) ≡ 1 + (quast_size up + quast_size down)
unfolding hidden-the_row-Quast-0 denote.Hole.Carrier.hidden
size-If test up down = refl

some_size : (tree : Quast) → 0 < quast_size tree
some_size Missing = omega arith
some_size (Leaf exprs) = omega arith
some_size (If' test s up t down) = omega arith

-- ---- what a call leaves, by what it found
pub up_smaller : (tree : Quast) (test : Expr) (up down : Quast) → tree ≡ If test up down → quast_size up < quast_size tree
up_smaller tree test up down is = let e = ap quast_size is ∙ size-If test up down in let p = some_size down in omega (arith, e, p)

pub down_smaller : (tree : Quast) (test : Expr) (up down : Quast) → tree ≡ If test up down → quast_size down < quast_size tree
down_smaller tree test up down is = let e = ap quast_size is ∙ size-If test up down in let p = some_size up in omega (arith, e, p)

-- a tree whose test has a number below 0, or not
module _ (numbers : List ℤ) (tree : Quast) (test inside : Expr) (up down inner : Quast) (number : ℤ) (is : tree ≡ If test up down)
    (value : number ≡ expr_value inside numbers) (shown : inside ≡ test) where
  sign_is : (b : Bool) → int_lt number (pos 0) ≡ b → int_lt (expr_value test numbers) (pos 0) ≡ b
  sign_is b s = ap (λ (z : ℤ). int_lt z (pos 0)) (sym (value ∙ ap (λ (e : Expr). expr_value e numbers) shown)) ∙ s

  chosen : (b : Bool) → int_lt (expr_value test numbers) (pos 0) ≡ b → quast_at tree numbers ≡ (if b then quast_at down numbers else quast_at up numbers)
  chosen b s = ap (λ (a : Quast). quast_at a numbers) is ∙ at-If test up down numbers ∙ ap (λ (c : Bool). if c then quast_at down numbers else quast_at up numbers) s

  below_sign : number <ℤ pos 0 → int_lt number (pos 0) ≡ true
  below_sign l = grind arith

  above_sign : ¬ (number <ℤ pos 0) → int_lt number (pos 0) ≡ false
  above_sign l = grind arith

  pub same_down : inner ≡ down → number <ℤ pos 0 → quast_at inner numbers ≡ quast_at tree numbers
  same_down held l = ap (λ (a : Quast). quast_at a numbers) held ∙ sym (chosen true (sign_is true (below_sign l)))

  pub same_up : inner ≡ up → ¬ (number <ℤ pos 0) → quast_at inner numbers ≡ quast_at tree numbers
  same_up held l = ap (λ (a : Quast). quast_at a numbers) held ∙ sym (chosen false (sign_is false (above_sign l)))

  pub past_down : (g : Gauge) → inner ≡ down → number <ℤ pos 0 → WayPasses g numbers inner → WayPasses g numbers tree
  past_down g held l p =
      subst (WayPasses g numbers) (sym is) (passes_down g numbers test up down (sign_is true (below_sign l)) (subst (WayPasses g numbers) held p))

  pub past_up : (g : Gauge) → inner ≡ up → ¬ (number <ℤ pos 0) → WayPasses g numbers inner → WayPasses g numbers tree
  past_up g held l p =
      subst (WayPasses g numbers) (sym is) (passes_up g numbers test up down (sign_is false (above_sign l)) (subst (WayPasses g numbers) held p))

pub over_up : (g : Gauge) (n : ℕ) (tree : Quast) (test : Expr) (up down inner : Quast) → tree ≡ If test up down → inner ≡ up → IsQuastOver g n tree → IsQuastOver g n inner
over_up g n tree test up down inner is held over = subst (IsQuastOver g n) (sym held) (over-If g n test up down (subst (IsQuastOver g n) is over)).1

pub over_down : (g : Gauge) (n : ℕ) (tree : Quast) (test : Expr) (up down inner : Quast) → tree ≡ If test up down → inner ≡ down → IsQuastOver g n tree → IsQuastOver g n inner
over_down g n tree test up down inner is held over = subst (IsQuastOver g n) (sym held) (over-If g n test up down (subst (IsQuastOver g n) is over)).2

-- ---- trees that are made
pub If-over : (g : Gauge) (n : ℕ) (test : Expr) (up down : Quast) → IsExprOver g n test → IsQuastOver g n up → IsQuastOver g n down
    → IsQuastOver g n (If test up down)
unfolding hidden-the_row-Quast-0 denote.Hole.Carrier.hidden
If-over g n test up down t u d = (t, u, d)

pub If-width : (w : ℕ) (test : Expr) (up down : Quast) → HasWidth w up → HasWidth w down → HasWidth w (If test up down)
unfolding hidden-the_row-Quast-0 denote.Hole.Carrier.hidden
If-width w test up down u d = (u, d)
