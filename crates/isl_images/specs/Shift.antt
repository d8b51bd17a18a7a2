-- inner: systems over more columns, and systems of two that share some of theirs. (isl manual, on joining relations)
use Rattle.std.specs.Prelude.{◌≡◌, ◌↔◌, ◌+◌, ◌-◌, ◌≤◌, ℕ, ℤ, List, [], ◌++◌, length}
use Rattle.std.specs.List.{range_with_len}
use Rattle.isl_meter.specs.Gauge.{Gauge}
use Rattle.isl_piece.specs.declared.system.System.{System}
use Rattle.isl_piece.specs.System.{HoldsSystem, IsSystemWithin, free_columns}
use Rattle.isl_images.specs.declared.shift.Shift.{Shift}

-- so many columns fit among those of the shift: the first stay, and the others stand from a later place on
pub record IsShift (free : ℕ) (shift : Shift) : Type 0 where
  pub some : shift.stay ≤ free
  pub later : shift.stay ≤ shift.start
  pub inside : shift.start + (free - shift.stay) ≤ shift.columns

-- where the columns stand then
abbrev pub shifted_places : ℕ → Shift → List ℕ
shifted_places free shift = range_with_len 0 shift.stay ++ range_with_len shift.start (free - shift.stay)

-- the system that was made holds where the other does once the numbers between those that stay and those that were shifted, and the numbers
-- behind, are left out
pub record IsShifted (g : Gauge) (system : System) (shift : Shift) (made : System) : Type 0 where
  pub points : (front between back behind : List ℤ) → length front ≡ shift.stay → length front + length between ≡ shift.start
      → length front + length back ≡ free_columns system
      → length front + (length between + (length back + length behind)) ≡ shift.columns
      → HoldsSystem made (front ++ (between ++ (back ++ behind))) ↔ HoldsSystem system (front ++ back)
  pub within : IsSystemWithin g made
  pub definitions : system.definitions ≡ [] → made.definitions ≡ []

-- the first is a system over parameters, x and y, and the second one over parameters, y and z, where x has `from` columns
pub record ShareMiddle (first second : System) (parameters from : ℕ) : Type 0 where
  pub own : parameters + from ≤ free_columns first
  pub shared : free_columns first ≤ free_columns second + from

-- the system over parameters, x, y and z holds where the first holds at parameters, x and y, and the second at parameters, y and z
pub record IsOfBoth (g : Gauge) (first second : System) (parameters from : ℕ) (made : System) : Type 0 where
  pub points : (v x y z : List ℤ) → length v ≡ parameters → length x ≡ from → length v + (length x + length y) ≡ free_columns first
      → length v + (length y + length z) ≡ free_columns second
      → HoldsSystem made (v ++ (x ++ (y ++ z))) ↔ (HoldsSystem first (v ++ (x ++ y)) × HoldsSystem second (v ++ (y ++ z)))
  pub within : IsSystemWithin g made
  pub columns : free_columns made ≡ free_columns second + from
  pub definitions : first.definitions ≡ [] → second.definitions ≡ [] → made.definitions ≡ []
