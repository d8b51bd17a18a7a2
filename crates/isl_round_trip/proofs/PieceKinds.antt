-- The pieces of a value with elements in spaces of a kind lie in such spaces.
use Rattle.std.proofs.Common.{inl, inr, List, [], ◌∷◌, All}
use Rattle.std.proofs.Common.{sym, subst, refl}
use Rattle.std.specs.Prelude.{Any}
use Rattle.std.proofs.lemmas.List.Elements.{All-nil, All-cons, All-head, All-tail}
use Rattle.isl_math.proofs.ListLaws.{Any-none, Any-first, Any-later, Any-cases}
use Rattle.isl_space.specs.Name.{Name}
use Rattle.isl_space.specs.Names.{AreDistinct}
use Rattle.isl_space.specs.SpaceForm.{SpaceForm, set_of, map_of}
use Rattle.isl_space.specs.Element.{Element}
use Rattle.isl_space.specs.Valuation.{Valuation}
use Rattle.isl_piece.specs.System.{HoldsSystem}
use Rattle.isl_union.specs.KeptValue.{KeptPiece, KeptValue, Has, HasElement, IsKeptPiece, IsKeptValue, piece_system}
use Rattle.isl_union.proofs.CompareLaws.{valuation_at, element_at, element_is, point_at}
use Rattle.isl_assumed.specs.declared.assumed.Assumed.{Assumed}
use Rattle.isl_assumed.specs.Assumed.{Assumes}
use Rattle.isl_assumed.specs.Values.{IsDeadAt}
use Rattle.isl_values.specs.Live.{IsLiveUnder}
use Rattle.isl_tree.specs.declared.statement.ValueKind.{ValueKind}
use Rattle.isl_tree.specs.declared.statement.ValueKind.TheVariants.{Set, Map, List as Pair}
use Rattle.isl_round_trip.specs.Written.{IsSpaceOf, IsOfKind}

-- what is not without a space of its kind has one
pub stable : (kind : ValueKind) (space : SpaceForm) → ¬ (¬ IsSpaceOf kind space) → IsSpaceOf kind space
stable Set (set_of form) there = tt
stable Map (map_of from to) there = tt
stable Pair (map_of from to) there = tt
stable kind space there = absurd (there (λ h. h))

-- ---- the pieces of a value with elements in such spaces
module _ (kind : ValueKind) where
  pub has_kind : (params : List Name) (valuation : Valuation) (element : Element) (pieces : List KeptPiece)
      → All (λ piece. IsSpaceOf kind piece.space) pieces → Any (HasElement params valuation element) pieces → IsSpaceOf kind element.space
  has_kind params valuation element [] all has = absurd (Any-none (HasElement params valuation element) has)
  has_kind params valuation element (piece ∷ pieces) all has = elim (Any-cases (HasElement params valuation element) piece pieces has) [
    | inl here ↦ subst (IsSpaceOf kind) here.space (All-head (λ (p : KeptPiece). IsSpaceOf kind p.space) piece pieces all)
    | inr there ↦ has_kind params valuation element pieces (All-tail (λ (p : KeptPiece). IsSpaceOf kind p.space) piece pieces all) there
  ]

  -- a piece has an element
  piece_kind : (params : List Name) (piece : KeptPiece) → AreDistinct params → IsKeptPiece params piece
      → ((valuation : Valuation) (element : Element) → HasElement params valuation element piece → IsSpaceOf kind element.space)
      → IsSpaceOf kind piece.space
  piece_kind params piece distinct kept have = stable kind piece.space (λ none. kept.live (λ point long holds. none (
      have (valuation_at params piece.space point distinct long) (element_at params piece.space point distinct long) (record {
        numbers = element_is params piece.space point distinct long;
        space = refl;
        holds = subst (HoldsSystem (piece_system params piece)) (sym (point_at params piece.space point distinct long)) holds;
      }))))

  pieces_kind : (params : List Name) (pieces : List KeptPiece) → AreDistinct params → All (IsKeptPiece params) pieces
      → ((valuation : Valuation) (element : Element) → Any (HasElement params valuation element) pieces → IsSpaceOf kind element.space)
      → All (λ piece. IsSpaceOf kind piece.space) pieces
  pieces_kind params [] distinct kept have = All-nil (λ (p : KeptPiece). IsSpaceOf kind p.space)
  pieces_kind params (piece ∷ pieces) distinct kept have =
      All-cons (λ (p : KeptPiece). IsSpaceOf kind p.space) piece pieces
      (piece_kind params piece distinct (All-head (IsKeptPiece params) piece pieces kept)
      (λ valuation element h. have valuation element (Any-first (HasElement params valuation element) piece pieces h)))
      (pieces_kind params pieces distinct (All-tail (IsKeptPiece params) piece pieces kept)
      (λ valuation element h. have valuation element (Any-later (HasElement params valuation element) piece pieces h)))

  pub value_kind : (value : KeptValue) → IsKeptValue value
      → ((valuation : Valuation) (element : Element) → Has value valuation element → IsSpaceOf kind element.space) → IsOfKind kind value
  value_kind value kept have = pieces_kind value.params value.pieces kept.params.distinct kept.pieces have

  -- ---- the same where each piece has an element at an assumed valuation
  module _ (assumed : Assumed) where
    live_piece_kind : (params : List Name) (piece : KeptPiece) → ¬ IsDeadAt (Assumes assumed) params piece
        → ((valuation : Valuation) (element : Element) → Assumes assumed valuation → HasElement params valuation element piece
        → IsSpaceOf kind element.space)
        → IsSpaceOf kind piece.space
    live_piece_kind params piece lives have =
        stable kind piece.space (λ none. lives (λ valuation element here has. none
        (subst (IsSpaceOf kind) (sym has.space) (have valuation element here has))))

    live_pieces_kind : (params : List Name) (pieces : List KeptPiece) → All (λ piece. ¬ IsDeadAt (Assumes assumed) params piece) pieces
        → ((valuation : Valuation) (element : Element) → Assumes assumed valuation → Any (HasElement params valuation element) pieces
        → IsSpaceOf kind element.space)
        → All (λ piece. IsSpaceOf kind piece.space) pieces
    live_pieces_kind params [] live have = All-nil (λ (p : KeptPiece). IsSpaceOf kind p.space)
    live_pieces_kind params (piece ∷ pieces) live have =
        let Lives : KeptPiece → Type 0 = λ p. ¬ IsDeadAt (Assumes assumed) params p in
        All-cons (λ (p : KeptPiece). IsSpaceOf kind p.space) piece pieces
        (live_piece_kind params piece (All-head Lives piece pieces live)
        (λ valuation element here h. have valuation element here (Any-first (HasElement params valuation element) piece pieces h)))
        (live_pieces_kind params pieces (All-tail Lives piece pieces live)
        (λ valuation element here h. have valuation element here (Any-later (HasElement params valuation element) piece pieces h)))

    pub live_kind : (value : KeptValue) → IsLiveUnder assumed value
        → ((valuation : Valuation) (element : Element) → Assumes assumed valuation → Has value valuation element
        → IsSpaceOf kind element.space)
        → IsOfKind kind value
    live_kind value live have = live_pieces_kind value.params value.pieces live have
