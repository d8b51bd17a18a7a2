-- inner: how trees of spaces are stored, which a model asks for: as the tuples of their parts.
use Rattle.std.specs.Prelude.{List, refl}
use Rattle.std.specs.Coded.{Coded, codes, code_by, coded×, coded_list, coded_ℕ}
use Rattle.isl_space.specs.Name.{Name}
use Rattle.isl_space.specs.SpaceForm.{SpaceForm}
use Rattle.isl_space.specs.FormCode.{space_form_code}
use Rattle.isl_quast.specs.declared.tree.Quast.{Quast}
use Rattle.isl_quast.specs.contracts.tree.Quast as quast
use Rattle.isl_quast.specs.ForestText.{ForestView, SpaceTree}

abbrev pub space_tree_code : Coded SpaceTree
space_tree_code =
    code_by (SpaceForm × Quast) (coded× space_form_code quast.the_row.coded) (λ t. (t.space, t.tree))
    (λ parts. record { space = parts.0; tree = parts.1 }) (λ _. refl)

abbrev pub forest_code : Coded ForestView
forest_code =
    code_by (List Name × List SpaceTree) (coded× (coded_list (coded_list coded_ℕ)) (coded_list space_tree_code))
    (λ forest. (forest.params, forest.trees)) (λ parts. record { params = parts.0; trees = parts.1 }) (λ _. refl)
