-- public: the text of a tree tells its numbers. (isl manual, on printing abstract syntax trees)
use Rattle.std.specs.Prelude.{◌≡◌, ◌≤◌, ℤ, List, All, length}
use Rattle.isl_meter.specs.Gauge.{Gauge}
use Rattle.isl_space.specs.Name.{Name, IsLiteralName}
use Rattle.isl_space.specs.Names.{AreDistinct}
use Rattle.isl_quast.specs.declared.tree.Quast.{Quast}
use Rattle.isl_quast.specs.ForestText.{tree_lines}
use Rattle.isl_quast.specs.Tree.{quast_at, IsQuastOver}
use Rattle.isl_row_text.specs.Joined.{Text}

-- the tree is over columns with these names, with numbers of at most 127 bits
pub record IsTreeOver (names : List Name) (tree : Quast) : Type 0 where
  pub gauge : Gauge
  pub bits : gauge.bits ≤ 127
  pub over : IsQuastOver gauge (length names) tree

abbrev pub OneTree : Type 0
OneTree =
    (names : List Name) (margin : Text) (a b : Quast) → AreDistinct names → All IsLiteralName names → IsTreeOver names a → IsTreeOver names b
    → tree_lines names margin a ≡ tree_lines names margin b → (numbers : List ℤ) → quast_at a numbers ≡ quast_at b numbers
