-- public: several rows of one column that moduli must not divide: what they say of a number depends on its residue alone. (Pugh, the Omega test)
use Rattle.std.specs.Prelude.{◌≡◌, ◌↔◌, ℕ, ◌-◌, ℤ, pos, ◌+ℤ◌, ◌-ℤ◌, ◌*ℤ◌, ◌≤ℤ◌, ◌<ℤ◌, List, [], ◌∷◌, length, All}
use Rattle.isl_math.specs.Divide as divide
use Rattle.isl_meter.specs.Gauge.{Gauge}
use Rattle.isl_piece.specs.declared.row.Row.{Row}
use Rattle.isl_piece.specs.Row.{coef_at}
use Rattle.isl_shadows.specs.Splinters.{splinter_total}
use Rattle.isl_omega.specs.Congruence.{product_of_periods}
use Rattle.isl_omega.specs.Sides.{AreSided, SidesHold}
use Rattle.isl_omega.specs.Step.{HasFactorsUpTo}
use Rattle.isl_shadows.specs.Units.{greatest_factor, all_splinters, pairs}
use Rattle.isl_omega.specs.declared.sides.Sides.{Sides}

-- each row says the same of x and of x + p
pub record IsPeriod (col : ℕ) (rows : List Row) (p : ℤ) : Type 0 where
  pub positive : pos 0 <ℤ p
  pub small : p ≤ℤ product_of_periods col rows
  pub multiples : All (λ r. divide.Divides r.k (coef_at r col *ℤ p)) rows

-- some whole number at the column meets the sides, and leaves t when divided by p
abbrev pub HasResidue : Sides → ℕ → ℤ → ℤ → List ℤ → Type 0
HasResidue sides col p t point = (x : ℤ) × SidesHold sides col point x × divide.Divides p (x -ℤ t)

-- some does, and leaves less than t when divided by p
abbrev pub HasResidueBelow : Sides → ℕ → ℤ → ℤ → List ℤ → Type 0
HasResidueBelow sides col p t point = (x : ℤ) × SidesHold sides col point x × (divide.floor_mod x p <ℤ t)

-- the most units for one residue of the period p
abbrev pub residue_units : ℕ → ℤ → Sides → ℤ
residue_units col p sides = pos 1 +ℤ pairs sides.lowers sides.uppers +ℤ all_splinters col p sides.lowers sides.uppers

-- ---- inside
-- both divide m, which is at most their product
pub record IsCommonMultiple (a b m : ℤ) : Type 0 where
  pub positive : pos 0 <ℤ m
  pub small : m ≤ℤ (a *ℤ b)
  pub first : divide.Divides a m
  pub second : divide.Divides b m

-- some whole number at the column meets the sides
abbrev pub HasNumber : Sides → ℕ → List ℤ → Type 0
HasNumber sides col point = (x : ℤ) × SidesHold sides col point x

-- sides with p y + t in the column's place, where p is a period of the rows that divisors must not divide
pub record IsResidueOf (g : Gauge) (columns col : ℕ) (p t : ℤ) (old new : Sides) : Type 0 where
  pub sided : AreSided g columns col new
  pub divides : new.divides ≡ []
  pub not_divides : new.not_divides ≡ []
  pub points : (point : List ℤ) → length point ≡ columns - 1 → HasNumber new col point ↔ HasResidue old col p t point
  pub narrowed : HasFactorsUpTo col p old new

-- ---- units
-- the splinters of sides, further for each neighbour: none where there is no upper bound
abbrev pub splinter_bound : ℤ → ℕ → List Row → List Row → ℤ
splinter_bound neighbours col lowers [] = pos 0
splinter_bound neighbours col lowers (u ∷ uppers) = splinter_total neighbours (greatest_factor col (u ∷ uppers)) col lowers

-- the units for a dark shadow of sides with so many neighbours
abbrev pub shadow_units : ℤ → ℕ → Sides → ℤ
shadow_units neighbours col sides = pairs sides.lowers sides.uppers +ℤ splinter_bound neighbours col sides.lowers sides.uppers

-- the most units for sides without congruences: those for each residue of the periods of the rows that moduli must not divide
abbrev pub sides_units : ℕ → Sides → ℤ
sides_units col sides = let p = product_of_periods col sides.not_divides in p *ℤ residue_units col p sides
