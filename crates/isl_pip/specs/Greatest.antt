-- inner: the greatest lists that systems leave behind a front.
use Rattle.std.specs.Prelude.{◌≡◌, ℕ, ℤ, neg_ℤ, List, length, map, option_map}
use Rattle.isl_meter.specs.Gauge.{Gauge}
use Rattle.isl_piece.specs.declared.system.System.{System}
use Rattle.isl_quast.specs.declared.tree.Quast.{Quast}
use Rattle.isl_quast.specs.Tree.{quast_at, HasWidth, IsQuastOver}
use Rattle.isl_greatest_law.specs.Front.{GivesGreatest}
use Rattle.isl_greatest.specs.Search.{HasGreatest}
use Rattle.isl_pip_law.specs.Levels.{AreBehind}

-- behind each front that the systems leave some list there is a greatest one
abbrev pub HaveGreatest : ℕ → ℕ → List System → Type 0
HaveGreatest front width systems = (v : List ℤ) → length v ≡ front → HasGreatest (AreBehind width systems v)

-- the tree gives the negatives of the greatest list behind each front, or nothing where there is none
pub record IsGreatestTree (g : Gauge) (front count : ℕ) (systems : List System) (tree : Quast) : Type 0 where
  pub gives : (v : List ℤ) → length v ≡ front → GivesGreatest (AreBehind count systems v) (option_map (map neg_ℤ) (quast_at tree v))
  pub over : IsQuastOver g front tree
  pub width : HasWidth count tree
