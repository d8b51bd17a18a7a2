-- public: a column that two bounds pin to a quotient, which becomes a defined column. (isl manual, on integer divisions)
use Rattle.std.specs.Prelude.{◌≡◌, ℕ, ℤ, pos, negsuc, ◌+ℤ◌, ◌<ℤ◌, ◌≤ℤ◌, List, [], ◌∷◌, ◌++◌, All, Any, map, slice_index_or}
use Rattle.std.specs.List.{remove}
use Rattle.isl_math.specs.Dot.{scaled}
use Rattle.isl_piece.specs.declared.definition.Definition.{Definition}
use Rattle.isl_piece.specs.declared.row.Row.{Row}
use Rattle.isl_piece.specs.declared.row.RowKind.TheVariants.{AtLeast}
use Rattle.isl_piece.specs.declared.system.System.{System}
use Rattle.isl_piece.specs.Row.{coef_at}

-- the number at the place stands behind the others
abbrev pub turned : ℕ → List ℤ → List ℤ
turned i xs = remove xs i ++ slice_index_or xs i (pos 0) ∷ []

-- a row over the other columns and, behind them, this one
abbrev pub turned_row : ℕ → Row → Row
turned_row col r = record { kind = r.kind; coefs = turned col r.coefs; constant = r.constant; k = r.k }

-- a definition over the other columns
abbrev pub short_definition : ℕ → Definition → Definition
short_definition col d = record { coefs = remove d.coefs col; constant = d.constant; k = d.k }

-- what the upper bound has beside the column, divided by the column's factor in the lower bound
abbrev pub quotient_of : ℕ → Row → Row → Definition
quotient_of col upper lower = record { coefs = remove upper.coefs col; constant = upper.constant; k = coef_at lower col }

-- the free column gone, and in its place a last one that is defined by the quotient
abbrev pub with_quotient : ℕ → Row → Row → System → System
with_quotient col upper lower s = record {
  columns = s.columns;
  definitions = map (short_definition col) s.definitions ++ quotient_of col upper lower ∷ [];
  rows = map (turned_row col) s.rows;
}

-- the bounds leave the column no number but the quotient: k x <= e + c, and e + c <= k x + s where s < k
pub record IsQuotient (col : ℕ) (upper lower : Row) : Type 0 where
  pub upper_kind : upper.kind ≡ AtLeast
  pub lower_kind : lower.kind ≡ AtLeast
  pub opposite : upper.coefs ≡ scaled (negsuc 0) lower.coefs
  pub positive : pos 0 <ℤ coef_at lower col
  pub near : (upper.constant +ℤ lower.constant) <ℤ coef_at lower col

-- and k is at least 2, and some number may be between: 0 <= s
pub record IsPinning (col : ℕ) (upper lower : Row) : Type 0 where
  pub quotient : IsQuotient col upper lower
  pub steep : pos 1 <ℤ coef_at lower col
  pub somewhere : pos 0 ≤ℤ (upper.constant +ℤ lower.constant)

-- the row is such an upper bound with none of the rows
abbrev pub PinsNone : List Row → ℕ → Row → Type 0
PinsNone rows col upper = All (λ lower. ¬ IsPinning col upper lower) rows

-- two of the rows are such bounds of the column
abbrev pub HavePinning : List Row → ℕ → Type 0
HavePinning rows col = Any (λ upper. Any (IsPinning col upper) rows) rows

-- no definition names the column
abbrev pub IsUndefining : ℕ → List Definition → Type 0
IsUndefining col definitions = All (λ d. slice_index_or d.coefs col (pos 0) ≡ pos 0) definitions
