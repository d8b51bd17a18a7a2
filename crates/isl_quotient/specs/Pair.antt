-- inner: a pair of bounds of one of the columns.
use Rattle.std.specs.Prelude.{◌≡◌, ◌<◌, ◌||◌, Bool, true, nat_eq, ℕ, pos, List, All, length, slice_index_or}
use Rattle.std.specs.List.{list_all}
use Rattle.std.specs.Ordering.{int_eq}
use Rattle.isl_piece.specs.declared.row.Row.{Row}
use Rattle.isl_quotient.specs.declared.pairs.Pair.{Pair}
use Rattle.isl_quotient.specs.Quotient.{IsQuotient, PinsNone}

-- the row names none of the columns but this one
abbrev pub names_only : ℕ → List ℕ → Row → Bool
names_only col cols r = list_all (λ c. nat_eq c col || int_eq (slice_index_or r.coefs c (pos 0)) (pos 0)) cols

-- the rows at the places pin the column to a quotient, of which the upper one names none of the columns beside
pub record IsPairAt (rows : List Row) (cols : List ℕ) (col : ℕ) (p : Pair) : Type 0 where
  pub column : p.col ≡ col
  pub upper : p.upper < length rows
  pub lower : p.lower < length rows
  pub quotient : (d : Row) → IsQuotient col (slice_index_or rows p.upper d) (slice_index_or rows p.lower d)
  pub alone : (d : Row) → names_only col cols (slice_index_or rows p.upper d) ≡ true

-- no two of the rows pin the column, of which the upper one names none of the columns beside
abbrev pub PinNone : List Row → List ℕ → ℕ → Type 0
PinNone rows cols col = All (λ upper. names_only col cols upper ≡ true → PinsNone rows col upper) rows

-- those of one of the columns
pub record IsPairOf (rows : List Row) (cols : List ℕ) (p : Pair) : Type 0 where
  pub index : ℕ
  pub among : index < length cols
  pub column : slice_index_or cols index 0 ≡ p.col
  pub pair : IsPairAt rows cols p.col p
