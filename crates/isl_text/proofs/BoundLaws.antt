-- The equations of the counts at the constructors of the code.
use mathlib.Core.Former.{Count}
use Rattle.std.proofs.Common.{◌≡◌, ℕ, ◌+◌, List, refl, sym, ap, ◌∙◌, arith}
use Rattle.std.specs.Prelude.{ℤ}
use Rattle.isl_tree.specs.declared.tree.Factor.{Factor, Inner, Floor, Ceil, Row_of-Signed, end_of-Signed, more_of-Signed}
use Rattle.isl_tree.specs.declared.tree.Factor.{items-the_row-Signed, items_hidden-the_row-Signed-0}
use Rattle.isl_tree.specs.declared.tree.Factor.TheBlock.{hidden-the_row-Signed-0}
use Rattle.isl_tree.specs.declared.tree.Signed.{Signed}
use Rattle.isl_tree.specs.declared.tree.Compare.{Compare}
use Rattle.isl_tree.specs.declared.tree.Binder.{Binder}
use Rattle.isl_tree.specs.declared.tree.Formula.{Formula, Implies, Or, And, Not, Exists, Chain, Row_of-Formula, end_of-Formula}
use Rattle.isl_tree.specs.declared.tree.Formula.{more_of-Formula, items-the_row-Formula, items_hidden-the_row-Formula-0}
use Rattle.isl_tree.specs.declared.tree.Formula.TheBlock.{hidden-the_row-Formula-0, hidden-the_row-Formula-1}
use Rattle.isl_tree.specs.declared.tree.Tuple.{Tuple, Pair}
use Rattle.isl_tree.specs.declared.tree.Tuple.TheBlock.{hidden-the_row-Tuple-0}
use Rattle.isl_text.specs.Bound.{in_factor, in_row, in_part, in_term, in_side, in_links, by_binders, in_formula, in_formula_row}
use Rattle.isl_text.specs.Bound.{in_formulas, in_tuple, capped}
use Rattle.isl_text.proofs.Counting.{capped_right, capped_sum}

-- ---- terms

row_is : (m : Count) (row : Row_of-Signed m) → in_row row ≡ in_term (items-the_row-Signed m row)
row_is m end_of-Signed = refl
row_is m (more_of-Signed part row) = ap (λ n. in_part part + n) (row_is _ row)

inside : (term : List Signed) → in_row (hidden-the_row-Signed-0 term) ≡ in_term term
inside term = row_is _ (hidden-the_row-Signed-0 term) ∙ ap in_term (items_hidden-the_row-Signed-0 term)

pub at-Inner : (x : Factor) (term : List Signed) (n : ℕ) → x ≡ Inner term → n ≡ capped (in_term term) → n ≡ capped (in_factor x)
at-Inner x term n is count = count ∙ ap capped (sym (ap in_factor is ∙ inside term))

pub at-Floor : (x : Factor) (term : List Signed) (k : ℤ) (n r : ℕ) → x ≡ Floor term k → n ≡ capped (in_term term) → r ≡ capped (1 + n)
    → r ≡ capped (in_factor x)
at-Floor x term k n r is count sum = capped_right 1 (in_term term) n r count sum
    ∙ ap capped (sym (ap in_factor is ∙ ap (λ m. 1 + m) (inside term)))

pub at-Ceil : (x : Factor) (term : List Signed) (k : ℤ) (n r : ℕ) → x ≡ Ceil term k → n ≡ capped (in_term term) → r ≡ capped (1 + n)
    → r ≡ capped (in_factor x)
at-Ceil x term k n r is count sum = capped_right 1 (in_term term) n r count sum
    ∙ ap capped (sym (ap in_factor is ∙ ap (λ m. 1 + m) (inside term)))

pub ruleset factors = (at-Inner, at-Floor, at-Ceil)

pub ruleset parts = (capped_right)

-- ---- formulas

formulas_are : (m : Count) (row : Row_of-Formula m) → in_formula_row row ≡ in_formulas (items-the_row-Formula m row)
formulas_are m end_of-Formula = refl
formulas_are m (more_of-Formula f row) = ap (λ n. in_formula f + n) (formulas_are _ row)

joined : (fs : List Formula) → in_formula_row (hidden-the_row-Formula-0 fs) ≡ in_formulas fs
joined fs = formulas_are _ (hidden-the_row-Formula-0 fs) ∙ ap in_formulas (items_hidden-the_row-Formula-0 fs)

pub at-Implies : (x : Formula) (fs : List Formula) (n : ℕ) → x ≡ Implies fs → n ≡ capped (in_formulas fs) → n ≡ capped (in_formula x)
at-Implies x fs n is count = count ∙ ap capped (sym (ap in_formula is ∙ joined fs))

pub at-Or : (x : Formula) (fs : List Formula) (n : ℕ) → x ≡ Or fs → n ≡ capped (in_formulas fs) → n ≡ capped (in_formula x)
at-Or x fs n is count = count ∙ ap capped (sym (ap in_formula is ∙ joined fs))

pub at-And : (x : Formula) (fs : List Formula) (n : ℕ) → x ≡ And fs → n ≡ capped (in_formulas fs) → n ≡ capped (in_formula x)
at-And x fs n is count = count ∙ ap capped (sym (ap in_formula is ∙ joined fs))

pub in_formula-Not : (f : Formula) → in_formula (Not f) ≡ in_formula f
unfolding hidden-the_row-Formula-1 denote.Hole.Carrier.hidden
in_formula-Not f = omega arith

pub in_formula-Exists : (bs : List Binder) (f : Formula) → in_formula (Exists bs f) ≡ by_binders bs + in_formula f
unfolding hidden-the_row-Formula-1 denote.Hole.Carrier.hidden
in_formula-Exists bs f = omega arith

pub at-Not : (x f : Formula) (n : ℕ) → x ≡ Not f → n ≡ capped (in_formula f) → n ≡ capped (in_formula x)
at-Not x f n is count = count ∙ ap capped (sym (ap in_formula is ∙ in_formula-Not f))

pub at-Exists : (x f : Formula) (bs : List Binder) (m n r : ℕ) → x ≡ Exists bs f → m ≡ capped (by_binders bs) → n ≡ capped (in_formula f)
    → r ≡ capped (m + n) → r ≡ capped (in_formula x)
at-Exists x f bs m n r is first second sum = capped_sum (by_binders bs) (in_formula f) m n r first second sum
    ∙ ap capped (sym (ap in_formula is ∙ in_formula-Exists bs f))

pub at-Chain : (x : Formula) (side : List (List Signed)) (links : List (Compare × List (List Signed))) (m n r : ℕ) → x ≡ Chain side links
    → m ≡ capped (in_side side) → n ≡ capped (in_links links) → r ≡ capped (m + n) → r ≡ capped (in_formula x)
at-Chain x side links m n r is first second sum = capped_sum (in_side side) (in_links links) m n r first second sum
    ∙ ap capped (sym (ap in_formula is))

pub ruleset formulas = (at-Implies, at-Or, at-And, at-Not, at-Exists, at-Chain)

-- ---- tuples

pub in_tuple-Pair : (a b : Tuple) → in_tuple (Pair a b) ≡ in_tuple a + in_tuple b
unfolding hidden-the_row-Tuple-0 denote.Hole.Carrier.hidden
in_tuple-Pair a b = omega arith

pub at-Pair : (x a b : Tuple) (m n r : ℕ) → x ≡ Pair a b → m ≡ capped (in_tuple a) → n ≡ capped (in_tuple b) → r ≡ capped (m + n)
    → r ≡ capped (in_tuple x)
at-Pair x a b m n r is first second sum = capped_sum (in_tuple a) (in_tuple b) m n r first second sum
    ∙ ap capped (sym (ap in_tuple is ∙ in_tuple-Pair a b))

pub ruleset tuples = (at-Pair)
