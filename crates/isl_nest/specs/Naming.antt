-- public: rows by the last column that they name.
use Rattle.std.specs.Prelude.{◌≡◌, ◌↔◌, ℕ, ◌≤◌, ℤ, List, All, Contains, length, take}
use Rattle.isl_piece.specs.declared.row.Row.{Row}
use Rattle.isl_piece.specs.Row.{HoldsRow}
use Rattle.isl_piece.specs.System.{HoldRows}
use Rattle.isl_nest.specs.Item.{named}

-- the row over its first columns
abbrev pub cut : ℕ → Row → Row
cut columns r = record { kind = r.kind; coefs = take columns r.coefs; constant = r.constant; k = r.k }

-- the row is one of the rows whose last named column is from `least` to `columns`, counted from 1, over so many columns
abbrev pub IsCutOf : ℕ → ℕ → List Row → Row → Type 0
IsCutOf least columns rows r =
    (whole : Row) × Contains rows whole × (r ≡ cut columns whole) × (least ≤ named whole.coefs) × (named whole.coefs ≤ columns)

-- the rows whose last named column is from `least` to `columns`, counted from 1, over so many columns
pub record AreNaming (least columns : ℕ) (rows own : List Row) : Type 0 where
  pub each : All (IsCutOf least columns rows) own
  pub points : (front : List ℤ) → length front ≡ columns
      → HoldRows own front ↔ All (λ r. least ≤ named r.coefs → named r.coefs ≤ columns → HoldsRow r front) rows
