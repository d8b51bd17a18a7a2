-- inner: the systems of a space, with negatives behind the front.
use Rattle.std.specs.Prelude.{◌≡◌, ℕ, zero, suc, ◌+◌, List}
use Rattle.std.specs.List.{AllZip}
use Rattle.isl_meter.specs.Gauge.{Gauge}
use Rattle.isl_piece.specs.declared.system.System.{System}
use Rattle.isl_pip_law.specs.Mirror.{IsMirror, IsOneMore}
use Rattle.isl_pip.specs.Levels.{ArePlainOver}

-- as many columns behind the front as are chosen: where there is none, one that is 0
abbrev pub chosen_width : ℕ → ℕ
chosen_width zero = 1
chosen_width (suc width) = suc width

abbrev pub IsPutBehind : Gauge → ℕ → ℕ → System → System → Type 0
IsPutBehind g front zero s made = IsOneMore g s made
IsPutBehind g front (suc width) s made = IsMirror g front s made

pub record ArePutBehind (g : Gauge) (front width : ℕ) (systems made : List System) : Type 0 where
  pub plain : ArePlainOver g (front + chosen_width width) made
  pub each : AllZip (IsPutBehind g front width) systems made
