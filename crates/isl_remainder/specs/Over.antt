-- public: what is left of a system without others, and without its last columns. (isl manual, on subtracting sets and on projecting out)
use Rattle.std.specs.Prelude.{◌≡◌, ◌↔◌, ◌⊎◌, ◌+◌, ◌-◌, ◌<◌, ℕ, ℤ, pos, negsuc, List, [], ◌∷◌, ◌++◌, All, length, take, drop}
use Rattle.isl_meter.specs.Gauge.{Gauge}
use Rattle.isl_piece.specs.declared.row.Row.{Row}
use Rattle.isl_piece.specs.declared.row.RowKind.TheVariants.{Zero}
use Rattle.isl_piece.specs.declared.system.System.{System}
use Rattle.isl_piece.specs.Row.{coef_at}
use Rattle.isl_piece.specs.System.{HoldsSystem, IsSystemWithin, free_columns}
use Rattle.isl_elim.specs.Elimination.{HoldsAtAny}
use Rattle.isl_difference.specs.Difference.{IsOutside}
use Rattle.isl_difference.specs.Split.{IsLive}
use Rattle.isl_blocks.specs.Left.{HoldsBefore}
use Rattle.isl_remainder.specs.declared.over.Remainder.{Remainder}

-- ---- what is asked for
-- some `count` numbers behind those of the point make the system hold, and none of the others
abbrev pub Remains : Remainder → List ℤ → Type 0
Remains r point = (behind : List ℤ) × (length behind ≡ r.count) × IsOutside r.system r.others.items (point ++ behind)

-- a system over so many columns, within the limit
pub record IsAcross (g : Gauge) (columns : ℕ) (s : System) : Type 0 where
  pub free : free_columns s ≡ columns
  pub within : IsSystemWithin g s

-- the systems are ones over the kept columns and the last ones
pub record IsRemainder (g : Gauge) (kept : ℕ) (r : Remainder) : Type 0 where
  pub system : IsAcross g (kept + r.count) r.system
  pub others : All (IsAcross g (kept + r.count)) r.others.items

pub record IsPlainRemainder (r : Remainder) : Type 0 where
  pub system : r.system.definitions ≡ []
  pub others : All (λ s. s.definitions ≡ []) r.others.items

-- normal systems over the kept columns, each with a point, of which some holds at a point exactly where some numbers behind it make the
-- system hold, and none of the others
pub record IsLeftOver (g : Gauge) (kept : ℕ) (r : Remainder) (left : List System) : Type 0 where
  pub points : (point : List ℤ) → length point ≡ kept → HoldsAtAny left point ↔ Remains r point
  pub live : All (IsLive g kept) left
  pub definitions : IsPlainRemainder r → All (λ s. s.definitions ≡ []) left

-- ---- a row that gives the last column
-- an equation in which the last of the first `free` columns has the coefficient 1 or -1, and those behind it have 0
pub record GivesColumn (free : ℕ) (row : Row) : Type 0 where
  pub some : 0 < free
  pub kind : row.kind ≡ Zero
  pub last : (coef_at row (free - 1) ≡ pos 1) ⊎ (coef_at row (free - 1) ≡ negsuc 0)
  pub behind : All (λ c. c ≡ pos 0) (drop free row.coefs)

-- the system of this row alone, over these columns
abbrev pub row_alone : ℕ → Row → System
row_alone free row =
    record {
      columns = free;
      definitions = [];
      rows = record { kind = Zero; coefs = take free row.coefs; constant = row.constant; k = pos 1 } ∷ [];
    }

-- a system that holds wherever the other does, and has at most one number at the last column behind those before it
pub record GivesLast (g : Gauge) (s one : System) : Type 0 where
  pub across : IsAcross g (free_columns s) one
  pub definitions : one.definitions ≡ []
  pub holds : (point : List ℤ) → length point ≡ free_columns s → HoldsSystem s point → HoldsSystem one point
  pub sole : (point : List ℤ) (x y : ℤ) → length point + 1 ≡ free_columns s → HoldsSystem one (point ++ x ∷ [])
      → HoldsSystem one (point ++ y ∷ []) → x ≡ y

-- ---- without the last column
-- the system holds at a point of so many columns
pub record HoldsLong (columns : ℕ) (point : List ℤ) (s : System) : Type 0 where
  pub long : length point ≡ columns
  pub holds : HoldsSystem s point

-- some number behind the point makes the system hold, and the one that gives it
pub record HoldsGiven (one : System) (columns : ℕ) (point : List ℤ) (s : System) : Type 0 where
  pub long : length point ≡ columns
  pub number : ℤ
  pub holds : HoldsSystem s (point ++ number ∷ [])
  pub given : HoldsSystem one (point ++ number ∷ [])

-- some `count` numbers behind a point of so many columns make the system hold
pub record HoldsLongBefore (columns count : ℕ) (point : List ℤ) (s : System) : Type 0 where
  pub long : length point ≡ columns
  pub holds : HoldsBefore s count point

-- the system holds exactly where some number behind the point makes the other hold
pub record IsShortened (g : Gauge) (columns : ℕ) (old new : System) : Type 0 where
  pub across : IsAcross g columns new
  pub points : (point : List ℤ) → length point ≡ columns → HoldsSystem new point ↔ ((x : ℤ) × HoldsSystem old (point ++ x ∷ []))
  pub definitions : old.definitions ≡ [] → new.definitions ≡ []

-- the same points remain
pub record IsReduced (g : Gauge) (kept : ℕ) (old new : Remainder) : Type 0 where
  pub is : IsRemainder g kept new
  pub points : (point : List ℤ) → length point ≡ kept → Remains new point ↔ Remains old point
  pub plain : IsPlainRemainder old → IsPlainRemainder new
