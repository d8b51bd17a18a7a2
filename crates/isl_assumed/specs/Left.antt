-- inner: what is left of several systems without their last columns, and of a region over other names.
use Rattle.std.specs.Prelude.{◌≡◌, ◌↔◌, ◌+◌, ◌≤◌, ℕ, ℤ, List, [], All, Any, length, take}
use Rattle.isl_meter.specs.Gauge.{Gauge}
use Rattle.isl_space.specs.Element.{Element}
use Rattle.isl_space.specs.Name.{Name}
use Rattle.isl_space.specs.Valuation.{Valuation, values_of}
use Rattle.isl_piece.specs.declared.system.System.{System}
use Rattle.isl_piece.specs.System.{HoldsSystem, IsSystemWithin, free_columns}
use Rattle.isl_difference.specs.Split.{IsLive}
use Rattle.isl_elim.specs.Elimination.{HoldsAtAny}
use Rattle.isl_elim.specs.Sample.{IsNowhere}
use Rattle.isl_blocks.specs.Left.{HoldsBefore}
use Rattle.isl_union.specs.KeptValue.{KeptPiece, HasElement}

-- normal systems over the first `kept` columns, each with a point, of which some holds at a point exactly where some `count` numbers behind
-- it make some of the systems hold; not fewer, where each of these holds somewhere
pub record AreLeftOf (g : Gauge) (kept count : ℕ) (systems left : List System) : Type 0 where
  pub points : (point : List ℤ) → length point ≡ kept → HoldsAtAny left point ↔ Any (λ s. HoldsBefore s count point) systems
  pub live : All (IsLive g kept) left
  pub many : All (λ s. ¬ IsNowhere kept (HoldsBefore s count)) systems → length systems ≤ length left
  pub definitions : All (λ s. s.definitions ≡ []) systems → All (λ s. s.definitions ≡ []) left

-- such systems over the columns of these names: some of them holds at a valuation exactly where some of the others does at one that has the
-- same numbers of these names; not fewer
pub record IsOnto (g : Gauge) (names : List Name) (systems : List System) (params : List Name) (left : List System) : Type 0 where
  pub points : (valuation : Valuation) → HoldsAtAny left (values_of params valuation)
      ↔ ((other : Valuation) × (values_of params other ≡ values_of params valuation) × HoldsAtAny systems (values_of names other))
  pub live : All (IsLive g (length params)) left
  pub many : length systems ≤ length left
  pub definitions : All (λ s. s.definitions ≡ []) systems → All (λ s. s.definitions ≡ []) left

-- ---- pairs
-- the system holds where the one does, and the other at the first numbers
pub record IsPair (g : Gauge) (names more : ℕ) (system other pair : System) : Type 0 where
  pub points : (point : List ℤ) → length point ≡ names + more
      → HoldsSystem pair point ↔ (HoldsSystem system point × HoldsSystem other (take names point))
  pub within : IsSystemWithin g pair
  pub free : free_columns pair ≡ names + more
  pub definitions : system.definitions ≡ [] → other.definitions ≡ [] → pair.definitions ≡ []

-- some of the systems holds where the one does, and some of the others at the first numbers
pub record ArePairs (g : Gauge) (names more : ℕ) (system : System) (others pairs : List System) : Type 0 where
  pub points : (point : List ℤ) → length point ≡ names + more
      → HoldsAtAny pairs point ↔ (HoldsSystem system point × HoldsAtAny others (take names point))
  pub within : All (IsSystemWithin g) pairs
  pub free : All (λ s. free_columns s ≡ names + more) pairs
  pub definitions : system.definitions ≡ [] → All (λ s. s.definitions ≡ []) others → All (λ s. s.definitions ≡ []) pairs

-- some of the systems holds where some of the first do, and some of the others, all over so many columns
pub record AreMet (g : Gauge) (names : ℕ) (systems others met : List System) : Type 0 where
  pub points : (point : List ℤ) → length point ≡ names → HoldsAtAny met point ↔ (HoldsAtAny systems point × HoldsAtAny others point)
  pub within : All (IsSystemWithin g) met
  pub free : All (λ s. free_columns s ≡ names) met
  pub definitions : All (λ s. s.definitions ≡ []) systems → All (λ s. s.definitions ≡ []) others → All (λ s. s.definitions ≡ []) met

-- live systems over the columns of all names, of which some holds at a valuation where some of the first do, and some of the others, each
-- over the columns of their own names
pub record IsCommon (g : Gauge) (all names : List Name) (systems : List System) (other_names : List Name) (others common : List System)
    : Type 0 where
  pub points : (valuation : Valuation) → HoldsAtAny common (values_of all valuation)
      ↔ (HoldsAtAny systems (values_of names valuation) × HoldsAtAny others (values_of other_names valuation))
  pub live : All (IsLive g (length all)) common
  pub definitions : All (λ s. s.definitions ≡ []) systems → All (λ s. s.definitions ≡ []) others → All (λ s. s.definitions ≡ []) common

-- ---- values
-- normal systems over the columns of the parameters, each with a point, of which some holds at a valuation exactly where some of the pieces
-- has an element
pub record AreLeftOfPieces (g : Gauge) (params : List Name) (pieces : List KeptPiece) (left : List System) : Type 0 where
  pub points : (valuation : Valuation) → HoldsAtAny left (values_of params valuation)
      ↔ Any (λ piece. (element : Element) × HasElement params valuation element piece) pieces
  pub live : All (IsLive g (length params)) left
  pub definitions : All (λ piece. piece.definitions ≡ []) pieces → All (λ s. s.definitions ≡ []) left
