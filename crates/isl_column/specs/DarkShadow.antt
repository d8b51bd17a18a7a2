-- public: the dark shadow of rows as it is kept, with splinters, which are taken out of it one after another. (Pugh, the Omega test)
use Rattle.std.specs.Prelude.{◌≡◌, ◌↔◌, ◌⊎◌, ℕ, ◌-◌, ℤ, List, [], ◌∷◌, ◌++◌, length, All, Any, None, IfSome}
use Rattle.isl_meter.specs.Gauge.{Gauge}
use Rattle.isl_piece.specs.declared.row.Row.{Row}
use Rattle.isl_piece.specs.Normal.{IsNormal}
use Rattle.isl_piece.specs.System.{HoldRows}
use Rattle.isl_omega.specs.Column.{IsProper}
use Rattle.isl_omega.specs.Sides.{SidesHold}
use Rattle.isl_column.specs.declared.dark_shadow.DarkShadow.{DarkShadow}
use Rattle.isl_omega.specs.declared.shadow.Splinters.{Splinters}
use Rattle.isl_omega.specs.declared.sides.Sides.{Sides}
use Rattle.isl_shadows.specs.Splinters.{HoldsDark, HasSplinter, KeepBound, AreSplinters, without_last, HasFewSplinters}
use Rattle.isl_omega.specs.Magnitude.{substituted_magnitude}
use Rattle.isl_piece.specs.Row.{IsRowUpTo}
use Rattle.isl_shadows.specs.Magnitude.{AreSmallSplinters}

-- a dark shadow, whatever it is made from
pub record IsDarkShadow (g : Gauge) (columns col : ℕ) (dark_shadow : DarkShadow) : Type 0 where
  pub rows : All (IsProper g columns) dark_shadow.rows
  pub dark : IfSome dark_shadow.dark (λ rows. All (IsProper g (columns - 1)) rows × IsNormal rows)
  pub tails : All (AreSplinters g columns col) dark_shadow.tails.items
  pub bounds : All (λ t. KeepBound columns col dark_shadow.rows t.lower) dark_shadow.tails.items

-- the dark shadow holds, or some lower bound has a splinter
abbrev pub HoldsDarkShadow : DarkShadow → ℕ → List ℤ → Type 0
HoldsDarkShadow dark_shadow col point = HoldsDark dark_shadow.dark point ⊎ Any (HasSplinter dark_shadow.rows col point) dark_shadow.tails.items

-- ---- inside
-- some x meets the sides exactly where it holds
pub record IsDarkShadowOf (g : Gauge) (columns col : ℕ) (sides : Sides) (dark_shadow : DarkShadow) : Type 0 where
  pub is_dark_shadow : IsDarkShadow g columns col dark_shadow
  pub points : (point : List ℤ) → length point ≡ columns - 1 → ((x : ℤ) × SidesHold sides col point x) ↔ HoldsDarkShadow dark_shadow col point
  pub open_above : sides.uppers ≡ [] → dark_shadow.tails.items ≡ []

-- ---- one splinter after another
-- the tail was put back without its last splinter
pub record IsSplit (old : DarkShadow) (t : Splinters) (new : DarkShadow) : Type 0 where
  pub rows : new.rows ≡ old.rows
  pub dark : new.dark ≡ old.dark
  pub tails : new.tails.items ≡ old.tails.items ++ without_last t ∷ []

-- these rows were taken out of a dark shadow
pub record IsTakenOut (g : Gauge) (columns col : ℕ) (old : DarkShadow) (rows : List Row) (new : DarkShadow) : Type 0 where
  pub proper : All (IsProper g (columns - 1)) rows
  pub normal : IsNormal rows
  pub points : (point : List ℤ) → length point ≡ columns - 1 → HoldsDarkShadow old col point ↔ (HoldRows rows point ⊎ HoldsDarkShadow new col point)
  pub rest : IsDarkShadow g columns col new
  pub dark : new.dark ≡ None

-- it holds nowhere
abbrev pub IsNoDarkShadow : ℕ → ℕ → DarkShadow → Type 0
IsNoDarkShadow columns col dark_shadow = (point : List ℤ) → length point ≡ columns - 1 → ¬ HoldsDarkShadow dark_shadow col point

-- ---- what the code makes
-- a dark shadow of the sides, with no more splinters than the bounds ask for
abbrev pub IsDarkShadowWithFewSplinters : Gauge → ℕ → ℕ → ℤ → Sides → DarkShadow → Type 0
IsDarkShadowWithFewSplinters g columns col neighbours sides dark_shadow =
    IsDarkShadowOf g columns col sides dark_shadow × HasFewSplinters neighbours col sides dark_shadow.tails.items

-- ---- inside
-- a dark_shadow with numbers of at most 2^61 and such tails
pub record IsSmallDarkShadow (dark_shadow : DarkShadow) : Type 0 where
  pub rows : All (IsRowUpTo substituted_magnitude) dark_shadow.rows
  pub tails : All AreSmallSplinters dark_shadow.tails.items
