-- inner: where the row with a bound stands among rows
use Rattle.std.specs.Prelude.{◌≡◌, ◌<◌, ℕ, ℤ, pos, unsigned_abs, true, false, if◌then◌else◌, All, AllPairs, Contains, Option, MatchOption}
use Rattle.std.specs.Prelude.{List, [], fold, length, slice_index_or}
use Rattle.std.specs.Int.{w128, int_rem_euclid, int_wrapping_add, int_wrapping_mul}
use Rattle.isl_piece.specs.declared.index.TheConstants.{MULTIPLIER}
use Rattle.isl_piece.specs.declared.row.RowKind.TheVariants.{AtLeast}
use Rattle.isl_piece.specs.declared.row.Row.{Row}
use Rattle.isl_piece.specs.Normal.{same_kind, same_bound}

-- the place of a row with the bound of r; none where no row has it
abbrev pub IsPlaceOf : List Row → Row → Option ℕ → Type 0
IsPlaceOf rows r found = MatchOption found
    (All (λ a. same_bound a r ≡ false) rows)
    (λ place. (place < length rows) × (same_bound (slice_index_or rows place r) r ≡ true))

-- one of the places, at which a row with the bound of r stands; none where it stands at none of them
abbrev pub IsPlaceAmong : List Row → Row → List ℕ → Option ℕ → Type 0
IsPlaceAmong rows r places found = MatchOption found
    (All (λ place. place < length rows → same_bound (slice_index_or rows place r) r ≡ false) places)
    (λ place. (place < length rows) × (same_bound (slice_index_or rows place r) r ≡ true))

-- a hash, with one number more
abbrev pub mixed : ℤ → ℤ → ℤ
mixed hash z = int_wrapping_mul w128 (int_wrapping_add w128 hash z) MULTIPLIER

-- the constant, where it is part of the bound
abbrev pub bound_constant : Row → ℤ
bound_constant r = if same_kind r.kind AtLeast then pos 0 else r.constant

-- a number that rows with the same bound share
unfoldable pub bound_hash : Row → ℤ
bound_hash r = mixed (fold mixed r.k r.coefs) (bound_constant r)

-- which of so many slots is the row's
unfoldable pub slot_of : ℕ → Row → ℕ
slot_of count r = unsigned_abs (int_rem_euclid (bound_hash r) (pos count))

-- each bound stands once among the rows, and each row's place in the row's slot, if there are slots
pub record IsIndexOf (slots : List (List ℕ)) (rows : List Row) : Type 0 where
  pub distinct : AllPairs (λ a b. same_bound a b ≡ false) rows
  pub placed : 0 < length slots → (place : ℕ) (d : Row) → place < length rows
      → Contains (slice_index_or slots (slot_of (length slots) (slice_index_or rows place d)) []) place
