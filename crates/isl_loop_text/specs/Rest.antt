-- inner: what is left to write of a sum, and of loops one behind another.
use Rattle.std.specs.Prelude.{◌≡◌, ℕ, ℤ, Bool, false, List, [], ◌∷◌, ◌++◌, length, ◌-◌}
use Rattle.isl_space.specs.Name.{Name}
use Rattle.isl_row_text.specs.Joined.{Text}
use Rattle.isl_loop.specs.declared.tree.Item.{Item}
use Rattle.isl_loop.specs.declared.tree.Loop.{Loop}
use Rattle.isl_loop_text.specs.ExprText.{coefficient_text, constant_text, atom_text}
use Rattle.isl_loop_text.specs.LoopText.{names_inside, loop_lines}

-- as `sum_text`, of a list
abbrev pub sum_rest : List Name → Bool → List Item → ℤ → Text
sum_rest names is_first [] constant = constant_text is_first constant
sum_rest names is_first (item ∷ items) constant =
    coefficient_text is_first item.coef ++ atom_text names item.atom ++ sum_rest names false items constant

-- as `lines_in`, of a list
abbrev pub lines_of : List Name → ℕ → Text → List Loop → Text
lines_of params depth margin [] = []
lines_of params depth margin (part ∷ parts) = loop_lines params depth margin part ++ lines_of params depth margin parts

-- inside of how many loops names are those of the columns
abbrev pub depth_of : List Name → List Name → ℕ
depth_of params names = length names - length params

-- the names are those of the columns inside of some loops
abbrev pub IsScope : List Name → List Name → Type 0
IsScope params names = names ≡ names_inside params (depth_of params names)
