-- The spaces that pieces lie in, each once.
use Rattle.std.proofs.Common.{◌≡◌, ◌≢◌, refl, sym, ap, ◌∙◌, subst, arith, ℕ, ◌+◌, ◌<◌, List, [], ◌∷◌, ◌++◌, length, get_or, take}
use Rattle.std.specs.List.{All, Any}
use Rattle.std.proofs.lemmas.List.{get_or_default, take_more}
use Rattle.std.proofs.lemmas.List.Elements.{All-nil, All-push, All-weaker}
use Rattle.std.proofs.lemmas.List.Quantifiers.{all_pairs_push}
use Rattle.isl_math.proofs.ListLaws.{Any-first, Any-left, Any-right}
use Rattle.isl_space.specs.SpaceForm.{SpaceForm}
use Rattle.isl_piece.specs.Piece.{PieceView}
use Rattle.isl_by_space.specs.Spaces.{AreSpacesOf}
use Rattle.isl_by_space.proofs.OnceLaws.{once_known, once_new}

pub spaces_none : AreSpacesOf [] []
spaces_none = record {
  order = refl;
  once = λ i j d before within same. absurd (omega (arith, within));
  all = All-nil (λ (piece : PieceView). Any (λ s. piece.space ≡ s) []);
  only = All-nil (λ (s : SpaceForm). Any (λ (piece : PieceView). piece.space ≡ s) []);
}

module _ (pieces : List PieceView) (i : ℕ) (piece : PieceView) (low : i < length pieces) (at : piece ≡ get_or pieces i piece)
    (spaces : List SpaceForm) (so_far : AreSpacesOf (take i pieces) spaces) where
  abbrev before : List PieceView
  before = take i pieces

  more : take (i + 1) pieces ≡ before ++ piece ∷ []
  more = take_more pieces i piece low ∙ ap (λ p. before ++ p ∷ []) (sym at)

  -- spaces of pieces before are spaces of one more
  only_more : All (λ s. Any (λ (p : PieceView). p.space ≡ s) (before ++ piece ∷ [])) spaces
  only_more = All-weaker (λ s. Any (λ (p : PieceView). p.space ≡ s) before)
      (λ s. Any (λ (p : PieceView). p.space ≡ s) (before ++ piece ∷ []))
      (λ s h. Any-left (λ (p : PieceView). p.space ≡ s) before (piece ∷ []) h) spaces so_far.only

  -- a space that is there is one of a piece before, and none other
  before_it : Any (λ s. piece.space ≡ s) spaces → Any (λ (p : PieceView). p.space ≡ piece.space) before
  before_it there = subst (λ s. Any (λ (p : PieceView). p.space ≡ s) before) (there.3 ∙ sym there.4) (so_far.only there.0 there.1 there.2)

  not_before : ¬ Any (λ s. piece.space ≡ s) spaces → ¬ Any (λ (p : PieceView). p.space ≡ piece.space) before
  not_before none a =
      none (subst (λ t. Any (λ s. t ≡ s) spaces) (ap (λ (p : PieceView). p.space) a.3 ∙ a.4) (so_far.all a.0 a.1 a.2))

  -- one whose space is there
  pub spaces_known : Any (λ s. piece.space ≡ s) spaces → AreSpacesOf (take (i + 1) pieces) spaces
  spaces_known there = subst (λ ps. AreSpacesOf ps spaces) (sym more) (record {
    order = so_far.order ∙ sym (once_known before piece (before_it there));
    once = so_far.once;
    all = All-push (λ (p : PieceView). Any (λ s. p.space ≡ s) spaces) before piece so_far.all there;
    only = only_more;
  })

  -- one whose space is not
  pub spaces_new : ¬ Any (λ s. piece.space ≡ s) spaces → (pushed : List SpaceForm) → pushed ≡ spaces ++ piece.space ∷ []
      → AreSpacesOf (take (i + 1) pieces) pushed
  spaces_new none pushed made = subst (λ ps. AreSpacesOf ps pushed) (sym more) (rw made (record {
    order = ap (λ l. l ++ piece.space ∷ []) so_far.order ∙ sym (once_new before piece (not_before none));
    once = all_pairs_push (λ s t. s ≢ t) spaces piece.space so_far.once (λ k d l same.
        none (k, get_or spaces k d, l, get_or_default spaces k (get_or spaces k d) d l, sym same));
    all = All-push (λ (p : PieceView). Any (λ s. p.space ≡ s) (spaces ++ piece.space ∷ [])) before piece
        (All-weaker (λ (p : PieceView). Any (λ s. p.space ≡ s) spaces) (λ p. Any (λ s. p.space ≡ s) (spaces ++ piece.space ∷ []))
        (λ p h. Any-left (λ s. p.space ≡ s) spaces (piece.space ∷ []) h) before so_far.all)
        (Any-right (λ s. piece.space ≡ s) spaces (piece.space ∷ []) (Any-first (λ s. piece.space ≡ s) piece.space [] refl));
    only = All-push (λ s. Any (λ (p : PieceView). p.space ≡ s) (before ++ piece ∷ [])) spaces piece.space only_more
        (Any-right (λ (p : PieceView). p.space ≡ piece.space) before (piece ∷ [])
        (Any-first (λ (p : PieceView). p.space ≡ piece.space) piece [] refl));
  }))
