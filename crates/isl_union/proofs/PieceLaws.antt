-- Pieces that a value has, by content.
use Rattle.std.proofs.Common.{◌≡◌, ◌<◌, ◌≤◌, ◌+◌, ℕ, Bool, false, nat_eq, IsTrue, List, [], ◌∷◌, ◌++◌}
use Rattle.std.proofs.Common.{map, take, length, get_or, refl, sym, ap, ◌∙◌, ◌↔◌, subst, arith, All, Any}
use Rattle.std.proofs.lemmas.Bool.{false≢true}
use Rattle.std.proofs.lemmas.List.{map_more, map-append, take_all}
use Rattle.std.proofs.lemmas.List.Elements.{All-head, All-map, All-nil, All-push}
use Rattle.isl_math.proofs.ListLaws.{Any-first, Any-none}
use Rattle.isl_space.specs.Element.{Element}
use Rattle.isl_space.specs.Name.{Name}
use Rattle.isl_space.specs.Names.{IsParameterList}
use Rattle.isl_space.specs.Valuation.{Valuation}
use Rattle.isl_piece.specs.Piece.{PieceView}
use Rattle.isl_union.specs.Compare.{IsEmpty}
use Rattle.isl_union.specs.KeptValue.{KeptPiece, KeptValue, HasElement, IsKeptPiece, IsKeptValue}
use Rattle.isl_union.specs.Piece.{kept_piece, IsPieceOf}
use Rattle.isl_union.proofs.SystemLaws.{void_exactly}

pub no_pieces : (params : List Name) → All (IsPieceOf params) []
no_pieces params = All-nil (IsPieceOf params)

-- what a value's pieces are, seen by content
pub IsKeptValue-from_pieces : (params : List Name) (pieces : List PieceView) → IsParameterList params → All (IsPieceOf params) pieces
    → IsKeptValue (record { params = params; pieces = map kept_piece pieces })
IsKeptValue-from_pieces params pieces p all = record {
  params = p;
  pieces = All-map (IsKeptPiece params) kept_piece pieces (λ k d low. (all k d low).kept);
}

-- a loop's step: the copy of the i-th piece is put behind the copies
pub copied_more : (params : List Name) (pieces made pushed : List PieceView) (i : ℕ) (piece copy : PieceView) → i < length pieces
    → piece ≡ get_or pieces i piece → copy ≡ piece → pushed ≡ made ++ copy ∷ [] → All (IsPieceOf params) pieces
    → (map kept_piece made ≡ map kept_piece (take i pieces)) × All (IsPieceOf params) made
    → (map kept_piece pushed ≡ map kept_piece (take (i + 1) pieces)) × All (IsPieceOf params) pushed
copied_more params pieces made pushed i piece copy low at same is all so_far =
    let one : kept_piece copy ≡ kept_piece (get_or pieces i piece) = ap kept_piece (same ∙ at) in
    let sound : IsPieceOf params copy = subst (IsPieceOf params) (sym (same ∙ at)) (all i piece low) in (
      ap (map kept_piece) is ∙ map-append kept_piece made (copy ∷ []) ∙ ap (λ l. l ++ kept_piece copy ∷ []) so_far.0
          ∙ ap (λ k. map kept_piece (take i pieces) ++ k ∷ []) one ∙ sym (map_more kept_piece pieces i piece low),
      subst (All (IsPieceOf params)) (sym is) (All-push (IsPieceOf params) made copy so_far.1 sound),
    )

-- all copies, behind the same parameters
pub copied_all : (pieces made : List PieceView) (i : ℕ) (params copied : List Name) (value : KeptValue) → copied ≡ params
    → record { params = params; pieces = map kept_piece pieces } ≡ value → length pieces ≤ i
    → map kept_piece made ≡ map kept_piece (take i pieces)
    → record { params = copied; pieces = map kept_piece made } ≡ value
copied_all pieces made i params copied value same is over so_far =
    let whole : map kept_piece made ≡ map kept_piece pieces = so_far ∙ ap (map kept_piece) (take_all i pieces over) in
    let names : record { params = copied; pieces = map kept_piece made } ≡ record { params = params; pieces = map kept_piece pieces } =
    cc in
    names ∙ is

pub ruleset made = (no_pieces, IsKeptValue-from_pieces)

-- ---- values without elements
-- a value is empty exactly where it has no piece
pub empty_exactly : (value : KeptValue) → IsKeptValue value → (value.pieces ≡ []) ↔ IsEmpty value
empty_exactly value kept = (
  (λ none v e has. Any-none (HasElement value.params v e) (subst (Any (HasElement value.params v e)) none has)),
  (λ empty. by value.pieces kept.pieces (λ v e a. empty v e a)),
)
  where
    by : (pieces : List KeptPiece) → All (IsKeptPiece value.params) pieces
        → ((v : Valuation) (e : Element) → ¬ Any (HasElement value.params v e) pieces) → pieces ≡ []
    by [] kept none = refl
    by (piece ∷ pieces) all none =
        absurd ((All-head (IsKeptPiece value.params) piece pieces all).live
        ((void_exactly value.params piece kept.params.distinct).1
        (λ v e has. none v e (Any-first (HasElement value.params v e) piece pieces has))))

-- so is it told by the number of its pieces
pub empty_told : (b : Bool) (pieces : List PieceView) (value : KeptValue) → b ≡ nat_eq (length pieces) 0
    → map kept_piece pieces ≡ value.pieces → IsKeptValue value → IsTrue b ↔ IsEmpty value
empty_told b [] value e is kept = ((λ t. (empty_exactly value kept).0 (sym is)), (λ empty. e))
empty_told b (piece ∷ pieces) value e is kept =
    let no : nat_eq (length (piece ∷ pieces)) 0 ≡ false = grind arith in (
      (λ t. absurd (false≢true (sym no ∙ sym e ∙ t))),
      (λ empty. absurd (let never = is ∙ (empty_exactly value kept).1 empty in cc)),
    )
