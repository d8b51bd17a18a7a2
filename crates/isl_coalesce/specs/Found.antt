-- inner: what is found of systems and of pieces on the way.
use Rattle.std.specs.Prelude.{◌≡◌, ◌↔◌, ◌⊎◌, ◌++◌, ◌≤◌, [], ℕ, ℤ, All, AllPairs, List, Some, length, map, take}
use Rattle.isl_meter.specs.Gauge.{Gauge}
use Rattle.isl_space.specs.Element.{Element}
use Rattle.isl_space.specs.Name.{Name}
use Rattle.isl_space.specs.Valuation.{Valuation}
use Rattle.isl_piece.specs.declared.row.Row.{Row}
use Rattle.isl_piece.specs.declared.system.System.{System}
use Rattle.isl_piece.specs.Normal.{normal_rows, IsNormal}
use Rattle.isl_piece.specs.Piece.{PieceView}
use Rattle.isl_piece.specs.Row.{HoldsRow, IsRowWithin, IsWellFormed}
use Rattle.isl_piece.specs.System.{HoldRows, HoldsSystem, IsSystemWithin}
use Rattle.isl_elim.specs.Elimination.{HoldsAtAny}
use Rattle.isl_union.specs.KeptValue.{KeptValue, Has, HasNoDefinitions, IsKeptValue}
use Rattle.isl_union.specs.Numbers.{IsWithinLimit}
use Rattle.isl_union.specs.Piece.{kept_piece, IsPieceOf}
use Rattle.isl_assumed.specs.declared.assumed.Assumed.{Assumed}
use Rattle.isl_assumed.specs.declared.assumed.Assumed.TheVariants.{Nothing, Where}
use Rattle.isl_assumed.specs.Assumed as assumed
use Rattle.isl_coalesce.specs.Coalesced.{IsCoalescedBy, Leads}
use Rattle.isl_coalesce.specs.Joint.{AreUnjoined, IsJointAt}
use Rattle.isl_coalesce.specs.Parts.{AreParts}

-- ---- what is known of points
-- what is assumed holds at the first numbers of the point
abbrev pub IsKnown : Assumed → List ℤ → Type 0
IsKnown Nothing point = Unit {0}
IsKnown (Where region) point = HoldsAtAny region.systems.items (take (length region.params) point)

-- what is assumed speaks of some of so many columns, defines none, and is within the limit
pub record IsKnownOf (g : Gauge) (columns : ℕ) (known : Assumed) : Type 0 where
  pub sound : assumed.IsSound g known
  pub plain : assumed.IsPlain known
  pub fits : length (assumed.names_of known) ≤ columns

-- what is assumed speaks of just these names, unless nothing is, defines no column, and is within the limit
pub record IsKnownFor (g : Gauge) (params : List Name) (known : Assumed) : Type 0 where
  pub sound : assumed.IsSound g known
  pub plain : assumed.IsPlain known
  pub over : assumed.IsOver params known

-- ---- systems that define no column
-- the row holds at each known point of the system
abbrev pub IsTrueThroughout : (List ℤ → Type 0) → System → Row → Type 0
IsTrueThroughout K s r = (point : List ℤ) → length point ≡ s.columns → K point → HoldsSystem s point → HoldsRow r point

-- a row over so many columns, with its numbers within the limit
abbrev pub IsFit : Gauge → ℕ → Row → Type 0
IsFit g columns r = IsWellFormed columns r × IsRowWithin g r

-- a system that defines no column, within the limit
pub record IsPlain (g : Gauge) (s : System) : Type 0 where
  pub definitions : s.definitions ≡ []
  pub within : IsSystemWithin g s

-- the known points at which the rows and the others hold are ones of the two systems
abbrev pub AreOfEither : (List ℤ → Type 0) → System → System → List Row → List Row → Type 0
AreOfEither K p q first second =
    (point : List ℤ) → length point ≡ p.columns → K point → HoldRows first point → HoldRows second point
    → HoldsSystem p point ⊎ HoldsSystem q point

-- there is no such point
abbrev pub AreUnknown : (List ℤ → Type 0) → ℕ → List Row → List Row → Type 0
AreUnknown K columns first second = (point : List ℤ) → length point ≡ columns → K point → HoldRows first point → ¬ HoldRows second point

-- the system has known points, and all of them are ones of the two
pub record IsOfEither (K : List ℤ → Type 0) (p q joint : System) : Type 0 where
  pub some : ¬ ((point : List ℤ) → length point ≡ joint.columns → K point → ¬ HoldsSystem joint point)
  pub covered : (point : List ℤ) → length point ≡ joint.columns → K point → HoldsSystem joint point
      → HoldsSystem p point ⊎ HoldsSystem q point

-- some of the systems has a point, and all their points are ones of the two
pub record HavePointsIn (columns : ℕ) (p q : System) (systems : List System) : Type 0 where
  pub some : ¬ ((point : List ℤ) → length point ≡ columns → ¬ HoldsAtAny systems point)
  pub covered : (point : List ℤ) → length point ≡ columns → HoldsAtAny systems point → HoldsSystem p point ⊎ HoldsSystem q point

-- the normal system of what both keep beside the other, which has known points, all of which are ones of the two
pub record IsJointSystem (g : Gauge) (K : List ℤ → Type 0) (p q joint : System) : Type 0 where
  pub first : List Row
  pub second : List Row
  pub own : AreParts (IsTrueThroughout K q) p.rows first
  pub others : AreParts (IsTrueThroughout K p) q.rows second
  pub rows : normal_rows (first ++ second) ≡ Some joint.rows
  pub columns : joint.columns ≡ p.columns
  pub plain : IsPlain g joint
  pub normal : IsNormal joint.rows
  pub covered : AreOfEither K p q first second
  pub some : ¬ AreUnknown K p.columns first second

-- what both keep beside the other has no known points, or not all of these are ones of the two
pub record AreUnjoinedSystems (K : List ℤ → Type 0) (p q : System) : Type 0 where
  pub first : List Row
  pub second : List Row
  pub own : AreParts (IsTrueThroughout K q) p.rows first
  pub others : AreParts (IsTrueThroughout K p) q.rows second
  pub beyond : AreOfEither K p q first second → ¬ ¬ AreUnknown K p.columns first second

-- ---- pieces
-- a piece that a value with these parameters may have, which defines no column, within the limit
pub record IsPlainPiece (g : Gauge) (params : List Name) (piece : PieceView) : Type 0 where
  pub sound : IsPieceOf params piece
  pub plain : IsPlain g piece.system

-- the joint piece of two, as a value may have it
pub record IsJointPiece (g : Gauge) (P : Valuation → Type 0) (params : List Name) (p q joint : PieceView) : Type 0 where
  pub joins : IsJointAt P params (kept_piece p) (kept_piece q) (kept_piece joint)
  pub fits : IsPlainPiece g params joint

-- pieces of which no two can be put together, reached from others by steps
pub record AreJoined (g : Gauge) (P : Valuation → Type 0) (params : List Name) (old new : List PieceView) : Type 0 where
  pub fit : All (IsPlainPiece g params) new
  pub leads : Leads (IsJointAt P params) (map kept_piece old) (map kept_piece new)
  pub ended : AllPairs (AreUnjoined (IsJointAt P params)) (map kept_piece new)

-- the value of pieces that those of another were put together to, with the elements that it has at valuations of P
pub record IsGathered (g : Gauge) (P : Valuation → Type 0) (a value : KeptValue) : Type 0 where
  pub kept : IsKeptValue value
  pub coalesced : IsCoalescedBy (IsJointAt P a.params) a value
  pub elements : (valuation : Valuation) (element : Element) → P valuation → Has value valuation element ↔ Has a valuation element
  pub definitions : HasNoDefinitions value
  pub numbers : IsWithinLimit g value
  pub few : length value.pieces ≤ length a.pieces
