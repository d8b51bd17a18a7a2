-- Each of some spaces once, in the order in which they come first.
use Rattle.std.proofs.Common.{◌≡◌, refl, ap, ◌∙◌, Bool, true, false, not, ◌||◌, cond, if◌then◌else◌, List, [], ◌∷◌, ◌++◌, filter, map, Any}
use Rattle.std.specs.List.{list_any}
use Rattle.std.proofs.lemmas.Bool.{false_from_ne_true}
use Rattle.std.proofs.lemmas.List.{append-nil, map-append}
use Rattle.std.proofs.lemmas.List.Elements.{filter-append}
use Rattle.std.proofs.lemmas.List.Folds.{Any-from_list_any, list_any-from_Any}
use Rattle.isl_math.proofs.ListLaws.{Any-unmapped, Any-weaker}
use Rattle.isl_space.specs.SpaceForm.{SpaceForm}
use Rattle.isl_piece.specs.Piece.{PieceView}
use Rattle.isl_index.specs.Same.{is_same_space}
use Rattle.isl_index.proofs.SameLaws.{space_is, space_itself}
use Rattle.isl_union.proofs.AlignedLaws.{Any-mapped}
use Rattle.isl_by_space.specs.Spaces.{each_once}

-- one space more: it comes last, where it is none of the others
once_more : (spaces : List SpaceForm) (space : SpaceForm) → each_once (spaces ++ space ∷ [])
    ≡ (if list_any (λ s. is_same_space s space) spaces then each_once spaces else each_once spaces ++ space ∷ [])
once_more [] space = refl
once_more (s ∷ spaces) space =
    ap (λ (l : List SpaceForm). s ∷ filter differs l) (once_more spaces space)
    ∙ by (is_same_space s space) (list_any (λ s. is_same_space s space) spaces) refl
  where
    differs : SpaceForm → Bool
    differs t = not (is_same_space s t)

    rest : List SpaceForm
    rest = each_once spaces

    behind : (b : Bool) → is_same_space s space ≡ b → filter differs (rest ++ space ∷ []) ≡ filter differs rest ++ cond (not b) (space ∷ []) []
    behind b is =
        filter-append differs rest (space ∷ []) ∙ ap (λ (b : Bool). filter differs rest ++ cond (not b) (space ∷ []) []) is

    by : (b c : Bool) → is_same_space s space ≡ b → s ∷ filter differs (if c then rest else rest ++ space ∷ [])
        ≡ (if b || c then s ∷ filter differs rest else (s ∷ filter differs rest) ++ space ∷ [])
    by true true is = refl
    by true false is = ap (λ (l : List SpaceForm). s ∷ l) (behind true is ∙ append-nil (filter differs rest))
    by false true is = refl
    by false false is = ap (λ (l : List SpaceForm). s ∷ l) (behind false is)

module _ (before : List PieceView) (piece : PieceView) where
  abbrev spaces : List SpaceForm
  spaces = map (λ (p : PieceView). p.space) before

  abbrev IsIt : SpaceForm → Type 0
  IsIt s = is_same_space s piece.space ≡ true

  told : (b : Bool) → list_any (λ s. is_same_space s piece.space) spaces ≡ b → each_once (map (λ (p : PieceView). p.space) (before ++ piece ∷ []))
      ≡ (if b then each_once spaces else each_once spaces ++ piece.space ∷ [])
  told b is =
      ap each_once (map-append (λ (p : PieceView). p.space) before (piece ∷ [])) ∙ once_more spaces piece.space
      ∙ ap (λ (b : Bool). if b then each_once spaces else each_once spaces ++ piece.space ∷ []) is

  -- a piece of a space that comes before
  pub once_known : Any (λ (p : PieceView). p.space ≡ piece.space) before
      → each_once (map (λ (p : PieceView). p.space) (before ++ piece ∷ [])) ≡ each_once spaces
  once_known there = told true (list_any-from_Any (λ s. is_same_space s piece.space) spaces
      (Any-mapped IsIt (λ (p : PieceView). p.space) before (Any-weaker (λ (p : PieceView). p.space ≡ piece.space) (λ p. IsIt p.space)
      (λ p same. ap (λ (s : SpaceForm). is_same_space s piece.space) same ∙ space_itself piece.space) before there)))

  -- and of one that does not
  pub once_new : ¬ Any (λ (p : PieceView). p.space ≡ piece.space) before
      → each_once (map (λ (p : PieceView). p.space) (before ++ piece ∷ [])) ≡ each_once spaces ++ piece.space ∷ []
  once_new none = told false (false_from_ne_true (list_any (λ s. is_same_space s piece.space) spaces) (λ e. none
      (Any-weaker (λ (p : PieceView). IsIt p.space) (λ (p : PieceView). p.space ≡ piece.space) (λ p same. space_is p.space piece.space same) before
      (Any-unmapped IsIt (λ (p : PieceView). p.space) before (Any-from_list_any (λ s. is_same_space s piece.space) spaces e)))))
