-- public: what is left of rows without some columns: their projection. (isl manual, on projecting out)
use Rattle.std.specs.Prelude.{◌≡◌, ◌↔◌, Any, if◌then◌else◌, nat_eq, ℕ, suc, ◌-◌, ℤ, List, [], ◌∷◌, ◌++◌, length, All}
use Rattle.std.specs.List.{insert, list_any}
use Rattle.isl_meter.specs.Gauge.{Gauge}
use Rattle.isl_piece.specs.declared.definition.Definition.{Definition}
use Rattle.isl_piece.specs.declared.row.Row.{Row}
use Rattle.isl_piece.specs.declared.system.System.{System}
use Rattle.isl_piece.specs.Normal.{IsNormal}
use Rattle.isl_piece.specs.System.{HoldsSystem, IsSystemWithin, free_columns}
use Rattle.isl_shadows.specs.Column.{HoldAtAny}
use Rattle.isl_omega.specs.Column.{IsProper}

-- the elements that stand at none of the columns, in order, where the first stands at the column i
abbrev pub without_from : {A : Type 0} → ℕ → List ℕ → List A → List A
without_from i cols [] = []
without_from i cols (x ∷ xs) = if list_any (λ c. nat_eq c i) cols then without_from (suc i) cols xs else x ∷ without_from (suc i) cols xs

-- a point without the numbers at the columns
abbrev pub without : List ℕ → List ℤ → List ℤ
without cols whole = without_from 0 cols whole

-- some whole numbers put at the columns make a point of P out of this one
abbrev pub HoldsAlong : ℕ → List ℕ → (List ℤ → Type 0) → List ℤ → Type 0
HoldsAlong columns cols P point = (whole : List ℤ) × (length whole ≡ columns) × (without cols whole ≡ point) × P whole

-- lists of normal rows without the columns were added, of which some holds at a point exactly where some whole numbers at the columns make
-- it one of P
pub record AddsAlong (g : Gauge) (columns : ℕ) (cols : List ℕ) (P : List ℤ → Type 0) (old new : List (List Row)) : Type 0 where
  pub added : List (List Row)
  pub pushed : new ≡ old ++ added
  pub proper : All (λ rows. All (IsProper g (columns - length cols)) rows) added
  pub normal : All IsNormal added
  pub points : (point : List ℤ) → length point ≡ columns - length cols → HoldAtAny added point ↔ HoldsAlong columns cols P point

-- ---- systems
-- the system of the rows over so many columns, of which the last have the definitions
abbrev pub system_of : ℕ → List Definition → List Row → System
system_of columns definitions rows = record { columns = columns; definitions = definitions; rows = rows }

-- some of the systems holds at the point
abbrev pub HoldsAtAny : List System → List ℤ → Type 0
HoldsAtAny systems point = Any (λ s. HoldsSystem s point) systems

-- a system over the same columns with the same definitions, which holds at the same points
pub record IsReducedSystem (g : Gauge) (old new : System) : Type 0 where
  pub within : IsSystemWithin g new
  pub columns : new.columns ≡ old.columns
  pub definitions : new.definitions ≡ old.definitions
  pub normal : IsNormal old.rows → IsNormal new.rows
  pub points : (point : List ℤ) → HoldsSystem new point ↔ HoldsSystem old point

-- the new systems have the free columns of the old one without `col`, and some of them holds at a point exactly where some whole number
-- put at `col` makes the old one hold
pub record IsProjection (old : System) (col : ℕ) (new : List System) : Type 0 where
  pub columns : All (λ s. free_columns s ≡ free_columns old - 1) new
  pub points : (point : List ℤ) → length point ≡ free_columns old - 1 → HoldsAtAny new point ↔ ((x : ℤ) × HoldsSystem old (insert point col x))

-- the new systems have the free columns of the old one without `cols`, and some of them holds at a point exactly where some whole numbers
-- put at `cols` make the old one hold
pub record IsProjectionAlong (old : System) (cols : List ℕ) (new : List System) : Type 0 where
  pub columns : All (λ s. free_columns s ≡ free_columns old - length cols) new
  pub points : (point : List ℤ) → length point ≡ free_columns old - length cols → HoldsAtAny new point ↔ HoldsAlong (free_columns old) cols (HoldsSystem old) point
