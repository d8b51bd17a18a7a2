-- public: the joint piece of two: what both keep of their rows beside the other, where that has exactly the elements of the two.
-- (isl manual, on coalescing)
use Rattle.std.specs.Prelude.{◌≡◌, ◌↔◌, ◌⊎◌, Some, List, [], ◌++◌}
use Rattle.isl_space.specs.Element.{Element}
use Rattle.isl_space.specs.Name.{Name}
use Rattle.isl_space.specs.Valuation.{Valuation}
use Rattle.isl_piece.specs.declared.row.Row.{Row}
use Rattle.isl_piece.specs.Normal.{normal_rows}
use Rattle.isl_piece.specs.Row.{HoldsRow}
use Rattle.isl_union.specs.KeptValue.{KeptPiece, HasElement, point_of}
use Rattle.isl_assumed.specs.Values.{IsDeadAt}
use Rattle.isl_coalesce.specs.Parts.{AreParts}

-- the row holds at each element that the piece has at some valuation
abbrev pub IsTrueOn : List Name → KeptPiece → Row → Type 0
IsTrueOn params piece r =
    (valuation : Valuation) (element : Element) → HasElement params valuation element piece → HoldsRow r (point_of params valuation element)

-- the piece of one space with the normal rows of what the first keeps beside the second, and the second beside the first, which has exactly
-- the elements of the two, and defines no column
pub record IsJointOf (params : List Name) (p q joint : KeptPiece) : Type 0 where
  pub same : q.space ≡ p.space
  pub space : joint.space ≡ p.space
  pub definitions : joint.definitions ≡ []
  pub first : List Row
  pub second : List Row
  pub own : AreParts (IsTrueOn params q) p.rows first
  pub others : AreParts (IsTrueOn params p) q.rows second
  pub rows : normal_rows (first ++ second) ≡ Some joint.rows
  pub elements : (valuation : Valuation) (element : Element)
      → HasElement params valuation element joint ↔ (HasElement params valuation element p ⊎ HasElement params valuation element q)

-- the row holds at each element that the piece has at a valuation of P
abbrev pub IsTrueAt : (Valuation → Type 0) → List Name → KeptPiece → Row → Type 0
IsTrueAt P params piece r =
    (valuation : Valuation) (element : Element) → P valuation → HasElement params valuation element piece
    → HoldsRow r (point_of params valuation element)

-- the same where only valuations of P are looked at: what both keep there, with exactly the elements that the two have there, and some
pub record IsJointAt (P : Valuation → Type 0) (params : List Name) (p q joint : KeptPiece) : Type 0 where
  pub same : q.space ≡ p.space
  pub space : joint.space ≡ p.space
  pub definitions : joint.definitions ≡ []
  pub first : List Row
  pub second : List Row
  pub own : AreParts (IsTrueAt P params q) p.rows first
  pub others : AreParts (IsTrueAt P params p) q.rows second
  pub rows : normal_rows (first ++ second) ≡ Some joint.rows
  pub elements : (valuation : Valuation) (element : Element) → P valuation
      → HasElement params valuation element joint ↔ (HasElement params valuation element p ⊎ HasElement params valuation element q)
  pub some : ¬ IsDeadAt P params joint

-- ---- none
-- where J says when a piece is the joint piece of two: the two have none, whichever of them comes first
pub record AreUnjoined (J : KeptPiece → KeptPiece → KeptPiece → Type 0) (p q : KeptPiece) : Type 0 where
  pub forth : (joint : KeptPiece) → ¬ J p q joint
  pub back : (joint : KeptPiece) → ¬ J q p joint
