-- public: whether a system is bounded. (isl manual, on bounded sets)
use Rattle.std.specs.Prelude.{◌≡◌, ℕ, ◌+◌, ◌≤◌, ℤ, List, ◌++◌, length, All, unsigned_abs}
use Rattle.isl_piece.specs.declared.system.System.{System}
use Rattle.isl_piece.specs.System.{HoldsSystem, free_columns}

-- each of the numbers has at most this magnitude
abbrev pub AreUpTo : ℕ → List ℤ → Type 0
AreUpTo bound numbers = All (λ z. unsigned_abs z ≤ bound) numbers

-- some number bounds the magnitudes of the other numbers of all points that these begin
abbrev pub IsBoundedAt : System → List ℤ → Type 0
IsBoundedAt s front = (bound : ℕ) × ((rest : List ℤ) → length front + length rest ≡ free_columns s → HoldsSystem s (front ++ rest)
    → AreUpTo bound rest)

-- the system is bounded at each list of numbers for its first `outer` columns
abbrev pub IsBounded : System → ℕ → Type 0
IsBounded s outer = (front : List ℤ) → length front ≡ outer → IsBoundedAt s front
