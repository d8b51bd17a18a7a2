-- public: towers of projections: what a system says of its first columns, of one column more, and so on. (isl manual, on projecting
-- out)
use Rattle.std.specs.Prelude.{◌≡◌, ◌↔◌, ℕ, ◌+◌, ◌<◌, ◌≤◌, ℤ, List, [], ◌++◌, length, slice_index_or, All}
use Rattle.isl_piece.specs.declared.system.System.{System}
use Rattle.isl_piece.specs.System.{HoldsSystem, free_columns}
use Rattle.isl_elim.specs.Elimination.{HoldsAtAny}

-- these numbers begin a point at which the system holds: some whole numbers for the other columns make it hold
abbrev pub BeginsPoint : System → List ℤ → Type 0
BeginsPoint s front = (rest : List ℤ) × (length front + length rest ≡ free_columns s) × HoldsSystem s (front ++ rest)

-- the systems are over the first so many columns, and some of them holds exactly where the numbers begin a point of the system
pub record IsProjectionOnto (s : System) (width : ℕ) (systems : List System) : Type 0 where
  pub columns : All (λ t. free_columns t ≡ width) systems
  pub points : (front : List ℤ) → length front ≡ width → HoldsAtAny systems front ↔ BeginsPoint s front

-- at each height from 0 to the number of the other columns there is the projection onto the first `outer` columns and so many more
pub record IsTowerOf (s : System) (outer : ℕ) (levels : List (List System)) : Type 0 where
  pub outer_in : outer ≤ free_columns s
  pub count : outer + length levels ≡ free_columns s + 1
  pub projections : (height : ℕ) → height < length levels → IsProjectionOnto s (outer + height) (slice_index_or levels height [])

-- the tower of some system
abbrev pub IsTower : List (List System) → Type 0
IsTower levels = (s : System) × (outer : ℕ) × IsTowerOf s outer levels
