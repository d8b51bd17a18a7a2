-- public: what a row says of a point: equations, inequalities and congruences of linear forms. (isl manual, on basic sets; Pugh, the Omega
-- test)
use Rattle.std.specs.Prelude.{◌≡◌, ℕ, ◌+◌, ◌<◌, ◌≤◌, ◌⊎◌, ℤ, pos, ◌+ℤ◌, ◌*ℤ◌, ◌≤ℤ◌, ◌<ℤ◌, List, All, length, take, slice_index_or, unsigned_abs}
use Rattle.isl_math.specs.Divide as divide
use Rattle.isl_math.specs.Dot.{dot}
use Rattle.isl_meter.specs.Gauge.{Gauge, IsWithin}
use Rattle.isl_piece.specs.declared.row.RowKind.{RowKind}
use Rattle.isl_piece.specs.declared.row.RowKind.TheVariants.{Zero, AtLeast, Divides, NotDivides}
use Rattle.isl_piece.specs.declared.row.Row.{Row}

-- what a kind asks of the number z: to be 0, to be at least 0, to be divisible by k, not to be
abbrev pub HoldsValue : RowKind → ℤ → ℤ → Type 0
HoldsValue Zero k z = z ≡ pos 0
HoldsValue AtLeast k z = pos 0 ≤ℤ z
HoldsValue Divides k z = divide.Divides k z
HoldsValue NotDivides k z = ¬ divide.Divides k z

-- the number that the row's form has at a point
abbrev pub value_at : Row → List ℤ → ℤ
value_at r xs = dot r.coefs xs +ℤ r.constant

-- the row holds at a point
abbrev pub HoldsRow : Row → List ℤ → Type 0
HoldsRow r xs = HoldsValue r.kind r.k (value_at r xs)

-- the row holds at some point, and fails at some
pub record IsContingent (r : Row) : Type 0 where
  pub possible : ¬ ((xs : List ℤ) → ¬ HoldsRow r xs)
  pub refutable : ¬ ((xs : List ℤ) → HoldsRow r xs)

-- the modulus of each kind: 1 where none is asked for
abbrev pub HasModulus : RowKind → ℤ → Type 0
HasModulus Zero k = k ≡ pos 1
HasModulus AtLeast k = k ≡ pos 1
HasModulus Divides k = pos 0 <ℤ k
HasModulus NotDivides k = pos 0 <ℤ k

-- the row has as many coefficients as columns, and a modulus of its kind
pub record IsWellFormed (columns : ℕ) (r : Row) : Type 0 where
  pub width : length r.coefs ≡ columns
  pub modulus : HasModulus r.kind r.k

-- each number of the row is within the limit
pub record IsRowWithin (g : Gauge) (r : Row) : Type 0 where
  pub coefs : All (IsWithin g) r.coefs
  pub constant : IsWithin g r.constant
  pub k : IsWithin g r.k

-- the magnitude of each number of the row is at most b
pub record IsRowUpTo (b : ℕ) (r : Row) : Type 0 where
  pub coefs : All (λ c. unsigned_abs c ≤ b) r.coefs
  pub constant : unsigned_abs r.constant ≤ b
  pub k : unsigned_abs r.k ≤ b

-- the coefficient at a column
abbrev pub coef_at : Row → ℕ → ℤ
coef_at r column = slice_index_or r.coefs column (pos 0)

-- a product of the form at a point, or the sum of the first products, or the whole sum passes the limit
abbrev pub FormPassesLimit : Gauge → List ℤ → ℤ → List ℤ → Type 0
FormPassesLimit g cs c xs =
    ((i : ℕ) × (i < length cs) × ((¬ IsWithin g (slice_index_or cs i (pos 0) *ℤ slice_index_or xs i (pos 0))) ⊎ (¬ IsWithin g (dot (take (i + 1) cs) (take (i + 1) xs)))))
    ⊎ (¬ IsWithin g (dot cs xs +ℤ c))
