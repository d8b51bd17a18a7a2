-- What stands in a formula is smaller.
use mathlib.Core.Former.{Count}
use Rattle.std.proofs.Common.{◌≡◌, ◌<◌, ◌+◌, ◌∙◌, ℕ, zero, suc, List, [], ◌∷◌, length, get_or, refl, ap, arith}
use Rattle.isl_tree.specs.declared.tree.Binder.{Binder}
use Rattle.isl_tree.specs.declared.tree.Formula.{Formula, Implies, Or, And, Not, Exists, Row_of-Formula, end_of-Formula, more_of-Formula}
use Rattle.isl_tree.specs.declared.tree.Formula.{items-the_row-Formula, items_hidden-the_row-Formula-0}
use Rattle.isl_tree.specs.declared.tree.Formula.TheBlock.{hidden-the_row-Formula-0, hidden-the_row-Formula-1}
use Rattle.isl_alternatives.specs.Size.{size_of, row_size, list_size}

row_is : (m : Count) (row : Row_of-Formula m) → row_size row ≡ list_size (items-the_row-Formula m row)
row_is m end_of-Formula = refl
row_is m (more_of-Formula f row) = ap (λ (n : ℕ). 2 + size_of f + n) (row_is _ row)

inside : (fs : List Formula) → row_size (hidden-the_row-Formula-0 fs) ≡ list_size fs
inside fs = row_is _ (hidden-the_row-Formula-0 fs) ∙ ap list_size (items_hidden-the_row-Formula-0 fs)

pub and_smaller : (x : Formula) (fs : List Formula) → x ≡ And fs → list_size fs < size_of x
and_smaller x fs is = let whole = ap size_of is in let row = inside fs in omega (arith, whole, row)

pub or_smaller : (x : Formula) (fs : List Formula) → x ≡ Or fs → list_size fs < size_of x
or_smaller x fs is = let whole = ap size_of is in let row = inside fs in omega (arith, whole, row)

pub implies_smaller : (x : Formula) (fs : List Formula) → x ≡ Implies fs → list_size fs < size_of x
implies_smaller x fs is = let whole = ap size_of is in let row = inside fs in omega (arith, whole, row)

size-Not : (f : Formula) → size_of (Not f) ≡ 1 + (2 + size_of f + 0)
unfolding hidden-the_row-Formula-1 denote.Hole.Carrier.hidden
size-Not f = refl

size-Exists : (bs : List Binder) (f : Formula) → size_of (Exists bs f) ≡ 1 + (2 + size_of f + 0)
unfolding hidden-the_row-Formula-1 denote.Hole.Carrier.hidden
size-Exists bs f = refl

pub not_smaller : (x f : Formula) → x ≡ Not f → size_of f < size_of x
not_smaller x f is = let whole = ap size_of is in let one = size-Not f in omega (arith, whole, one)

pub exists_smaller : (x : Formula) (bs : List Binder) (f : Formula) → x ≡ Exists bs f → 1 + size_of f < size_of x
exists_smaller x bs f is = let whole = ap size_of is in let one = size-Exists bs f in omega (arith, whole, one)

pub element_smaller : (fs : List Formula) (i : ℕ) (f : Formula) → i < length fs → f ≡ get_or fs i f → 1 + size_of f < list_size fs
element_smaller [] i f low is = absurd (omega (arith, low))
element_smaller (x ∷ fs) zero f low is = let same = ap size_of is in omega (arith, same)
element_smaller (x ∷ fs) (suc i) f low is = let rest = element_smaller fs i f (omega (arith, low)) is in omega (arith, rest)

pub element_less : (fs : List Formula) (i : ℕ) (f : Formula) → i < length fs → f ≡ get_or fs i f → size_of f < list_size fs
element_less fs i f low is = let more = element_smaller fs i f low is in omega (arith, more)

pub one_less : (f : Formula) → size_of f < 1 + size_of f
one_less f = omega arith
