-- public: the points of systems, the forms that are 0 at all of them, and how far these are found.
use Rattle.std.specs.Prelude.{◌≡◌, ◌↔◌, ◌≤◌, ℕ, ℤ, pos, ◌+ℤ◌, List, [], All, length, take, drop}
use Rattle.std.specs.List.{AllByRecursion}
use Rattle.isl_math.specs.Dot.{dot}
use Rattle.isl_meter.specs.Gauge.{Gauge}
use Rattle.isl_piece.specs.declared.row.Row.{Row}
use Rattle.isl_piece.specs.declared.system.System.{System}
use Rattle.isl_piece.specs.declared.row.RowKind.TheVariants.{Zero}
use Rattle.isl_piece.specs.Normal.{IsNormal}
use Rattle.isl_piece.specs.Row.{IsRowWithin, IsWellFormed}
use Rattle.isl_piece.specs.System.{HoldRows, IsSystemWithin, free_columns}
use Rattle.isl_elim.specs.Elimination.{HoldsAtAny}
use Rattle.isl_span.specs.Forms.{IsForm, forms_of}
use Rattle.isl_span.specs.Independent.{AreIndependent}
use Rattle.isl_span.specs.Spanned.{HaveOwn, IsSpanned, Vanish}

-- a system with so many free columns, within the limit
pub record IsOver (g : Gauge) (columns : ℕ) (s : System) : Type 0 where
  pub free : free_columns s ≡ columns
  pub within : IsSystemWithin g s

-- so many numbers at which some of the systems holds
pub record IsPoint (columns : ℕ) (systems : List System) (point : List ℤ) : Type 0 where
  pub long : length point ≡ columns
  pub holds : HoldsAtAny systems point

-- the form over so many columns is 0 at all points of P
pub record VanishesOnAll (columns : ℕ) (P : List ℤ → Type 0) (coefs : List ℤ) (constant : ℤ) : Type 0 where
  pub long : length coefs ≡ columns
  pub zero : (point : List ℤ) → P point → dot coefs point +ℤ constant ≡ pos 0

-- Equations, of which those behind the first so many are 0 at all points of P: all are 0 at some point, each has a point of its own, and a
-- form that is 0 at all points of P is a sum of multiples of them, up to a factor.
pub record AreFormsFor (g : Gauge) (columns : ℕ) (P : List ℤ → Type 0) (count : ℕ) (rows : List Row) : Type 0 where
  pub few : count ≤ length rows
  pub forms : All (IsForm g columns) rows
  pub start : List ℤ
  pub at_start : Vanish (forms_of rows) start
  pub points : List (List ℤ)
  pub long : AllByRecursion (λ point. length point ≡ columns) points
  pub own : HaveOwn (forms_of rows) points
  pub proved : (point : List ℤ) → P point → Vanish (forms_of (drop count rows)) point
  pub spanned : (coefs : List ℤ) (constant : ℤ) → VanishesOnAll columns P coefs constant
      → IsSpanned (forms_of (drop count rows)) (forms_of (take count rows)) (λ point. dot coefs point +ℤ constant)

-- independent normal equations that hold exactly where each form is 0 that is 0 at all points of P, of which there is one
pub record IsHullSystem (g : Gauge) (columns : ℕ) (P : List ℤ → Type 0) (hull : System) : Type 0 where
  pub width : hull.columns ≡ columns
  pub plain : hull.definitions ≡ []
  pub equations : All (λ r. r.kind ≡ Zero) hull.rows
  pub formed : All (IsWellFormed columns) hull.rows
  pub within : All (IsRowWithin g) hull.rows
  pub normal : IsNormal hull.rows
  pub independent : AreIndependent columns hull.rows
  pub some : ¬ ((point : List ℤ) → ¬ P point)
  pub exact : (point : List ℤ) → HoldRows hull.rows point
      ↔ ((coefs : List ℤ) (constant : ℤ) → VanishesOnAll columns P coefs constant → dot coefs point +ℤ constant ≡ pos 0)
