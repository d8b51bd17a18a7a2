-- Chains that are joined by `and`.
use mathlib.Core.Former.{Count}
use Rattle.std.proofs.Common.{◌≡◌, ◌∙◌, refl, ap, ℕ, List, ◌++◌}
use Rattle.isl_tree.specs.declared.tree.Formula.{Formula, And, Row_of-Formula, end_of-Formula, more_of-Formula, items-the_row-Formula}
use Rattle.isl_tree.specs.declared.tree.Formula.{items_hidden-the_row-Formula-0}
use Rattle.isl_tree.specs.declared.tree.Formula.TheBlock.{hidden-the_row-Formula-0}
use Rattle.isl_plain.specs.Rows.{Written, written_chain, written_chains, written_list, written_formula}

written_row : (n : ℕ) (m : Count) (row : Row_of-Formula m) → written_chains n row ≡ written_list n (items-the_row-Formula m row)
written_row n m end_of-Formula = refl
written_row n m (more_of-Formula f row) = ap (λ (l : List Written). written_chain n f ++ l) (written_row n _ row)

pub written-And : (n : ℕ) (fs : List Formula) → written_formula n (And fs) ≡ written_list n fs
written-And n fs = written_row n _ (hidden-the_row-Formula-0 fs) ∙ ap (written_list n) (items_hidden-the_row-Formula-0 fs)

pub ruleset formula_steps = (written-And)
