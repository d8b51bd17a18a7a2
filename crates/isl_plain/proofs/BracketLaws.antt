-- Terms in round brackets, at the constructors of the code.
use mathlib.Core.Former.{Count}
use Rattle.std.proofs.Common.{◌≡◌, ◌∙◌, refl, sym, ap, ℤ, Bool, ◌&&◌, List, ◌++◌}
use Rattle.isl_tree.specs.declared.tree.Factor.{Factor, Inner, Row_of-Signed, end_of-Signed, more_of-Signed}
use Rattle.isl_tree.specs.declared.tree.Factor.{items-the_row-Signed, items_hidden-the_row-Signed-0}
use Rattle.isl_tree.specs.declared.tree.Factor.TheBlock.{hidden-the_row-Signed-0}
use Rattle.isl_tree.specs.Term.{Term}
use Rattle.isl_tree.specs.Plain.{is_linear_part, is_linear_factor, are_linear_parts, is_linear}
use Rattle.isl_plain.specs.Linear.{part_times, factor_times, row_times, term_times}

-- ---- linear terms
parts_are : (m : Count) (row : Row_of-Signed m) → are_linear_parts row ≡ is_linear (items-the_row-Signed m row)
parts_are m end_of-Signed = refl
parts_are m (more_of-Signed part row) = ap (λ (b : Bool). is_linear_part part && b) (parts_are _ row)

pub linear_inner : (x : Factor) (term : Term) (b : Bool) → x ≡ Inner term → b ≡ is_linear term → b ≡ is_linear_factor x
linear_inner x term b is all =
    all ∙ sym (ap is_linear_factor is ∙ parts_are _ (hidden-the_row-Signed-0 term)
    ∙ ap is_linear (items_hidden-the_row-Signed-0 term))

pub ruleset linears = (linear_inner)

-- ---- multiplied out
times_are : (negative : Bool) (numbers : List ℤ) (m : Count) (row : Row_of-Signed m)
    → row_times negative numbers row ≡ term_times negative numbers (items-the_row-Signed m row)
times_are negative numbers m end_of-Signed = refl
times_are negative numbers m (more_of-Signed part row) =
    ap (λ (parts : Term). part_times negative numbers part ++ parts) (times_are negative numbers _ row)

-- a term in brackets times numbers is the row of it
pub factor_inner : (negative : Bool) (numbers slice : List ℤ) (x : Factor) (term inside : Term) → x ≡ Inner term → inside ≡ term
    → slice ≡ numbers → term_times negative slice inside ≡ factor_times negative numbers x
factor_inner negative numbers slice x term inside is same own =
    rw (same, own) (sym (ap (factor_times negative numbers) is ∙ times_are negative numbers _ (hidden-the_row-Signed-0 term)
    ∙ ap (term_times negative numbers) (items_hidden-the_row-Signed-0 term)))
