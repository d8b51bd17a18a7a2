-- The atoms of the code.
use Rattle.std.proofs.Common.{◌≡◌, ◌∙◌, sym, ap, subst, ℕ, ℤ, List}
use Rattle.std.specs.Prelude.{Result, Ok, Err}
use Rattle.std.specs.Int.{int_max, int_min}
use Rattle.std.specs.List.{All, Any}
use Rattle.isl_math.specs.Divide.{floor_div}
use Rattle.isl_meter.specs.Gauge.{Gauge, overflown}
use Rattle.isl_loop.specs.declared.tree.Expr.{Expr}
use Rattle.isl_loop.specs.declared.tree.Atom.{Atom, Floor, Ceil, Min, Max}
use Rattle.isl_loop.specs.Expr.{atom_value, ceil_div, expr_value}
use Rattle.isl_loop.specs.Formed.{AtomPasses, ExprPasses, IsAtomOver, IsExprOver}
use Rattle.isl_loop.specs.Lists.{extreme_in}
use Rattle.isl_loop.proofs.TreeLaws.{over-Ceil, over-Floor, over-Max, over-Min, passes-Ceil, passes-Floor, passes-Max, passes-Min}
use Rattle.isl_loop.proofs.TreeLaws.{value_of-Ceil, value_of-Floor, value_of-Max, value_of-Min}
use Rattle.isl_ast.specs.Value.{IsValued}

-- ---- quotients
pub floor_over : (g : Gauge) (n : ℕ) (x : Atom) (e inner : Expr) (k : ℤ) → x ≡ Floor e k → inner ≡ e → IsAtomOver g n x
    → IsExprOver g n inner
floor_over g n x e inner k is same over = subst (IsExprOver g n) (sym same) (over-Floor g n e k (subst (IsAtomOver g n) is over)).0

pub floor_value : (x : Atom) (e inner : Expr) (k m : ℤ) (point : List ℤ) (number result : ℤ) → x ≡ Floor e k → inner ≡ e
    → number ≡ expr_value inner point → result ≡ floor_div number m → m ≡ k → result ≡ atom_value x point
floor_value x e inner k m point number result is same value quotient divisor =
    quotient ∙ ap (λ (z : ℤ). floor_div number z) divisor
    ∙ ap (λ (z : ℤ). floor_div z k) (value ∙ ap (λ (y : Expr). expr_value y point) same)
    ∙ sym (ap (λ (a : Atom). atom_value a point) is ∙ value_of-Floor e k point)

pub floor_past : (g h : Gauge) (point : List ℤ) (x : Atom) (e inner : Expr) (k : ℤ) → x ≡ Floor e k → inner ≡ e
    → ExprPasses g point inner × (h ≡ overflown g) → AtomPasses g point x × (h ≡ overflown g)
floor_past g h point x e inner k is same p =
    (subst (AtomPasses g point) (sym is) (passes-Floor g point e k (subst (ExprPasses g point) same p.0)), p.1)

pub ceiling_over : (g : Gauge) (n : ℕ) (x : Atom) (e inner : Expr) (k : ℤ) → x ≡ Ceil e k → inner ≡ e → IsAtomOver g n x
    → IsExprOver g n inner
ceiling_over g n x e inner k is same over = subst (IsExprOver g n) (sym same) (over-Ceil g n e k (subst (IsAtomOver g n) is over)).0

pub ceiling_value : (x : Atom) (e inner : Expr) (k m : ℤ) (point : List ℤ) (number result : ℤ) → x ≡ Ceil e k → inner ≡ e
    → number ≡ expr_value inner point → result ≡ ceil_div number m → m ≡ k → result ≡ atom_value x point
ceiling_value x e inner k m point number result is same value quotient divisor =
    quotient ∙ ap (λ (z : ℤ). ceil_div number z) divisor
    ∙ ap (λ (z : ℤ). ceil_div z k) (value ∙ ap (λ (y : Expr). expr_value y point) same)
    ∙ sym (ap (λ (a : Atom). atom_value a point) is ∙ value_of-Ceil e k point)

pub ceiling_past : (g h : Gauge) (point : List ℤ) (x : Atom) (e inner : Expr) (k : ℤ) → x ≡ Ceil e k → inner ≡ e
    → ExprPasses g point inner × (h ≡ overflown g) → AtomPasses g point x × (h ≡ overflown g)
ceiling_past g h point x e inner k is same p =
    (subst (AtomPasses g point) (sym is) (passes-Ceil g point e k (subst (ExprPasses g point) same p.0)), p.1)

-- ---- the least, and the greatest
pub least_over : (g : Gauge) (n : ℕ) (x : Atom) (es slice : List Expr) → x ≡ Min es → slice ≡ es → IsAtomOver g n x
    → All (IsExprOver g n) slice
least_over g n x es slice is same over =
    subst (All (IsExprOver g n)) (sym same) (over-Min g n es (subst (IsAtomOver g n) is over)).0

pub least_is : {E : Type 0} (g h : Gauge) (point : List ℤ) (x : Atom) (es slice : List Expr) (result : Result ℤ E) → x ≡ Min es → slice ≡ es
    → IsValued g h (extreme_in int_min slice point) (Any (ExprPasses g point) slice) result
    → IsValued g h (atom_value x point) (AtomPasses g point x) result
least_is g h point x es slice (Ok v) is same p = (
  p.0 ∙ ap (λ (l : List Expr). extreme_in int_min l point) same ∙ sym (ap (λ (a : Atom). atom_value a point) is ∙ value_of-Min es point),
  p.1,
)
least_is g h point x es slice (Err e) is same p =
    (subst (AtomPasses g point) (sym is) (passes-Min g point es (subst (Any (ExprPasses g point)) same p.0)), p.1)

pub greatest_over : (g : Gauge) (n : ℕ) (x : Atom) (es slice : List Expr) → x ≡ Max es → slice ≡ es → IsAtomOver g n x
    → All (IsExprOver g n) slice
greatest_over g n x es slice is same over =
    subst (All (IsExprOver g n)) (sym same) (over-Max g n es (subst (IsAtomOver g n) is over)).0

pub greatest_is : {E : Type 0} (g h : Gauge) (point : List ℤ) (x : Atom) (es slice : List Expr) (result : Result ℤ E) → x ≡ Max es
    → slice ≡ es
    → IsValued g h (extreme_in int_max slice point) (Any (ExprPasses g point) slice) result
    → IsValued g h (atom_value x point) (AtomPasses g point x) result
greatest_is g h point x es slice (Ok v) is same p = (
  p.0 ∙ ap (λ (l : List Expr). extreme_in int_max l point) same ∙ sym (ap (λ (a : Atom). atom_value a point) is ∙ value_of-Max es point),
  p.1,
)
greatest_is g h point x es slice (Err e) is same p =
    (subst (AtomPasses g point) (sym is) (passes-Max g point es (subst (Any (ExprPasses g point)) same p.0)), p.1)
