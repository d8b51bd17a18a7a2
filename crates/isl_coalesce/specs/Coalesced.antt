-- public: pieces put together until no two of them can be. (isl manual, on coalescing)
use Rattle.std.specs.Prelude.{◌≡◌, List, [], ◌∷◌, ◌++◌, AllPairs}
use Rattle.isl_union.specs.KeptValue.{KeptPiece, KeptValue}
use Rattle.isl_assumed.specs.declared.assumed.Assumed.{Assumed}
use Rattle.isl_assumed.specs.Assumed.{Assumes}
use Rattle.isl_coalesce.specs.Joint.{AreUnjoined, IsJointAt, IsJointOf}

-- two pieces, wherever they stand, give way to their joint piece, which stands in the place of the later one; the others stay
pub record IsStep (J : KeptPiece → KeptPiece → KeptPiece → Type 0) (old new : List KeptPiece) : Type 0 where
  pub before : List KeptPiece
  pub first : KeptPiece
  pub between : List KeptPiece
  pub second : KeptPiece
  pub behind : List KeptPiece
  pub joint : KeptPiece
  pub joins : J first second joint
  pub from : old ≡ before ++ first ∷ (between ++ second ∷ behind)
  pub to : new ≡ before ++ (between ++ joint ∷ behind)

-- from the old pieces through each of these states in turn to the new ones
abbrev pub AreSteps : (KeptPiece → KeptPiece → KeptPiece → Type 0) → List KeptPiece → List (List KeptPiece) → List KeptPiece → Type 0
AreSteps J old [] new = new ≡ old
AreSteps J old (next ∷ states) new = IsStep J old next × AreSteps J next states new

-- any number of steps
abbrev pub Leads : (KeptPiece → KeptPiece → KeptPiece → Type 0) → List KeptPiece → List KeptPiece → Type 0
Leads J old new = (states : List (List KeptPiece)) × AreSteps J old states new

-- the new value is reached from the other by such steps, and none is left
pub record IsCoalescedBy (J : KeptPiece → KeptPiece → KeptPiece → Type 0) (value new : KeptValue) : Type 0 where
  pub params : new.params ≡ value.params
  pub leads : Leads J value.pieces new.pieces
  pub ended : AllPairs (AreUnjoined J) new.pieces

-- the joint pieces have at every valuation exactly the elements of the two
abbrev pub IsCoalesced : KeptValue → KeptValue → Type 0
IsCoalesced value new = IsCoalescedBy (IsJointOf value.params) value new

-- they have them at every assumed valuation
abbrev pub IsCoalescedUnder : Assumed → KeptValue → KeptValue → Type 0
IsCoalescedUnder assumed value new = IsCoalescedBy (IsJointAt (Assumes assumed) value.params) value new
