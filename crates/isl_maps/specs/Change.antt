-- inner: the operations that make of each piece of a value one piece or none, taken as one: what each selects, and the space that it forms.
use Rattle.std.specs.Prelude.{◌≡◌, ℕ, ◌≤◌, ◌↔◌, Option, Some, None, IfSome, MatchOption, List, [], All, Any, unsigned_abs}
use Rattle.isl_meter.specs.Gauge.{Gauge, limit_of}
use Rattle.isl_meter.specs.declared.Cut.TheVariants.{NoMemory}
use Rattle.isl_space.specs.Element.{Element}
use Rattle.isl_space.specs.Form.{leaf, pair}
use Rattle.isl_space.specs.Name.{Name}
use Rattle.isl_space.specs.SpaceForm.{SpaceForm, set_of, map_of, IsTooWideSpace}
use Rattle.isl_space.specs.Valuation.{Valuation}
use Rattle.isl_space.specs.declared.fault.SpaceFault.{SpaceFault}
use Rattle.isl_space.specs.declared.fault.SpaceFault.TheVariants as space_fault
use Rattle.isl_piece.specs.declared.system.System.{System}
use Rattle.isl_piece.specs.Formed.{IsSystemUpTo}
use Rattle.isl_piece.specs.Normal.{IsNormal}
use Rattle.isl_piece.specs.Piece.{PieceView}
use Rattle.isl_piece.specs.System.{HoldsSystem, IsSystemWithin, free_columns}
use Rattle.isl_elim.specs.Sample.{IsNowhere}
use Rattle.isl_relation.specs.Pairs.{DomainMapHas, RangeMapHas, WrapHas, ZipHas}
use Rattle.isl_relation.specs.Sets.{IdentityHas, UnwrapHas}
use Rattle.isl_union.specs.KeptValue.{KeptPiece, HasElement, columns_of}
use Rattle.isl_union.specs.Numbers.{IsPieceUpTo}
use Rattle.isl_union.specs.Piece.{piece_of}
use Rattle.isl_union.specs.declared.fault.OpFault.{OpFault}
use Rattle.isl_union.specs.declared.fault.OpFault.TheVariants as op_fault
use Rattle.isl_maps.specs.declared.change.Change.{Change}
use Rattle.isl_maps.specs.declared.change.Change.TheVariants.{Wrap, Unwrap, Zip, Identity, DomainMap, RangeMap}

-- ---- each operation
-- the elements that it selects of those of its operand
abbrev pub selects : Change → (Element → Type 0) → Element → Type 0
selects Wrap M element = WrapHas M element
selects Unwrap M element = UnwrapHas M element
selects Zip M element = ZipHas M element
selects Identity M element = IdentityHas M element
selects DomainMap M element = DomainMapHas M element
selects RangeMap M element = RangeMapHas M element

-- the space that it forms of this one; none where an element of this one gives none
abbrev pub formed_space : Change → SpaceForm → Option SpaceForm
formed_space Wrap (set_of x) = None
formed_space Wrap (map_of x y) = Some (set_of (pair x y))
formed_space Unwrap (set_of (leaf name width)) = None
formed_space Unwrap (set_of (pair x y)) = Some (map_of x y)
formed_space Unwrap (map_of x y) = None
formed_space Zip (set_of x) = None
formed_space Zip (map_of (leaf name width) z) = None
formed_space Zip (map_of (pair x y) (leaf name width)) = None
formed_space Zip (map_of (pair x y) (pair u w)) = Some (map_of (pair x u) (pair y w))
formed_space Identity (set_of x) = Some (map_of x x)
formed_space Identity (map_of x y) = None
formed_space DomainMap (set_of x) = None
formed_space DomainMap (map_of x y) = Some (map_of (pair x y) x)
formed_space RangeMap (set_of x) = None
formed_space RangeMap (map_of x y) = Some (map_of (pair x y) y)

-- the space that it forms is too wide
abbrev pub FormsWide : Change → SpaceForm → Type 0
FormsWide change space = MatchOption (formed_space change space) ⊥ IsTooWideSpace

-- the columns stay where they are, and there are no others
abbrev pub KeepsColumns : Change → Type 0
KeepsColumns Wrap = Unit {0}
KeepsColumns Unwrap = Unit {0}
KeepsColumns _ = ⊥

-- there are more columns than before
abbrev pub AddsColumns : Change → Type 0
AddsColumns Identity = Unit {0}
AddsColumns DomainMap = Unit {0}
AddsColumns RangeMap = Unit {0}
AddsColumns _ = ⊥

-- the greatest magnitude of the numbers in rows that it adds
abbrev pub added_number : Change → ℕ
added_number Wrap = 0
added_number Unwrap = 0
added_number Zip = 0
added_number _ = 1

-- ---- what is made
-- The system new over the formed space has the elements that the operation selects of those of the system own over the other space.
-- It has a point if that has one, and is one over the columns of the formed space. The rest of what is kept stays.
pub record IsImageSystem (g : Gauge) (change : Change) (params : List Name) (space formed : SpaceForm) (own new : System) : Type 0 where
  pub elements : (v : Valuation) (e : Element)
      → HasElement params v e (piece_of formed new) ↔ selects change (λ x. HasElement params v x (piece_of space own)) e
  pub live : IsNowhere (free_columns new) (HoldsSystem new) → IsNowhere (free_columns own) (HoldsSystem own)
  pub free : free_columns new ≡ columns_of params formed
  pub within : added_number change ≤ unsigned_abs (limit_of g) → IsSystemWithin g new
  pub normal : KeepsColumns change → IsNormal own.rows → IsNormal new.rows
  pub definitions : own.definitions ≡ [] → new.definitions ≡ []
  pub numbers : (most : ℕ) → added_number change ≤ most → IsSystemUpTo most own → IsSystemUpTo most new

-- the same of the system that is made for a piece, if the operation forms a space of the piece's
abbrev pub IsChangedSystem : Change → List Name → PieceView → System → Type 0
IsChangedSystem change params piece new =
    (g : Gauge) → IsSystemWithin g piece.system
    → IfSome (formed_space change piece.space) (λ formed. IsImageSystem g change params piece.space formed piece.system new)

-- the images have the elements that the operation selects of those of the pieces, no definition where the pieces have none, and no number
-- that is greater than theirs and the added ones
pub record AreImages (change : Change) (params : List Name) (pieces images : List KeptPiece) : Type 0 where
  pub elements : (v : Valuation) (e : Element)
      → Any (HasElement params v e) images ↔ Any (λ piece. selects change (λ x. HasElement params v x piece) e) pieces
  pub definitions : All (λ piece. piece.definitions ≡ []) pieces → All (λ piece. piece.definitions ≡ []) images
  pub numbers : (most : ℕ) → added_number change ≤ most → All (IsPieceUpTo most) pieces → All (IsPieceUpTo most) images

-- ---- why there is no result
abbrev pub IsSpaceFault : Type 0 → SpaceFault → Type 0
IsSpaceFault Wide space_fault.TooWide = Wide
IsSpaceFault Wide space_fault.NoMemory = Unit {0}

abbrev pub IsChangeFault : Type 0 → OpFault → Type 0
IsChangeFault Wide op_fault.TooWide = Wide
IsChangeFault Wide (op_fault.Cut cut) = cut ≡ NoMemory
