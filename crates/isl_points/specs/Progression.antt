-- inner: arithmetic progressions of whole numbers, and the congruences among rows over one column, which leave such numbers.
use Rattle.std.specs.Prelude.{◌≡◌, ℤ, pos, ◌-ℤ◌, ◌<ℤ◌, [], ◌∷◌}
use Rattle.isl_math.specs.Divide as divide
use Rattle.isl_meter.specs.Gauge.{Gauge, IsWithin}
use Rattle.isl_piece.specs.declared.row.RowKind.TheVariants.{Divides}
use Rattle.isl_piece.specs.declared.row.Row.{Row}
use Rattle.isl_piece.specs.Row.{HoldsRow}
use Rattle.isl_points.specs.declared.progression.Progression.{Progression}

-- x is the first number, or so many steps above or below it
abbrev pub IsOn : Progression → ℤ → Type 0
IsOn p x = divide.Divides p.step (x -ℤ p.first)

-- the step is above 0, and both numbers are within the limit
pub record IsProgression (g : Gauge) (p : Progression) : Type 0 where
  pub positive : pos 0 <ℤ p.step
  pub first_within : IsWithin g p.first
  pub step_within : IsWithin g p.step

-- the row holds at the number x of its only column, where it is a congruence
abbrev pub MeetsCongruence : ℤ → Row → Type 0
MeetsCongruence x r = r.kind ≡ Divides → HoldsRow r (x ∷ [])
