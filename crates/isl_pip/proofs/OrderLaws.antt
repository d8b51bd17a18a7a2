-- Spaces by their text.
use Rattle.std.proofs.Common.{◌≡◌, ◌⊎◌, inl, inr, refl, sym, ap, ◌∙◌, subst, ℕ, ◌+◌, ◌<◌, Bool, true, false, List, [], ◌∷◌, ◌++◌, get_or, length, map, take}
use Rattle.std.specs.Prelude.{if◌then◌else◌}
use Rattle.std.specs.Cmp.{IsTotalOrder}
use Rattle.std.specs.List.{All, Any}
use Rattle.std.proofs.lemmas.Cmp.{on_total, nat_list_cmp_total}
use Rattle.std.proofs.lemmas.List.{map-append, take_more}
use Rattle.std.proofs.lemmas.List.Elements.{All-cons, All-head, All-tail, All-weaker}
use Rattle.isl_math.proofs.ListLaws.{Any-cases, Any-first, Any-later}
use Rattle.isl_space.specs.SpaceForm.{SpaceForm, space_text_of}
use Rattle.isl_row_text.specs.Ordered.{in_order, placed}
use Rattle.isl_piece.specs.Piece.{PieceView}
use Rattle.isl_by_space.specs.Spaces.{AreSpacesOf}
use Rattle.isl_pip.specs.Least.{space_before, space_cmp}
use Rattle.isl_pip.specs.Trees.{AreOrderedSpaces}

-- one element more on both sides
pub mapped_more : {X Y Z : Type 0} (f : X → Z) (g : Y → Z) (xs all : List X) (x : X) (ys : List Y) (i : ℕ) (y : Y) → all ≡ xs ++ x ∷ []
    → i < length ys → y ≡ get_or ys i y → f x ≡ g y → map f xs ≡ map g (take i ys) → map f all ≡ map g (take (i + 1) ys)
mapped_more {Y = Y} f g xs all x ys i y is inside read same so_far =
    ap (map f) is ∙ map-append f xs (x ∷ []) ∙ ap (λ l. l ++ f x ∷ []) so_far ∙ ap (λ z. map g (take i ys) ++ z ∷ []) same
    ∙ sym (map-append g (take i ys) (y ∷ [])) ∙ sym (ap (map g) (take_more ys i y inside ∙ ap (λ (z : Y). take i ys ++ z ∷ []) (sym read)))

pub space_cmp_total : IsTotalOrder space_cmp
space_cmp_total = on_total space_text_of nat_list_cmp_total

-- what is in order has the same elements
module _ {X : Type 0} (before : X → X → Bool) (P : X → Type 0) where
  all_placed : (x : X) (xs : List X) → P x → All P xs → All P (placed before x xs)
  all_placed x [] own all = All-cons P x [] own all
  all_placed x (y ∷ ys) own all = by (before y x) (all_placed x ys own (All-tail P y ys all))
    where
      by : (b : Bool) → All P (placed before x ys) → All P (if b then y ∷ placed before x ys else x ∷ y ∷ ys)
      by true again = All-cons P y (placed before x ys) (All-head P y ys all) again
      by false again = All-cons P x (y ∷ ys) own all

  pub all_in_order : (xs : List X) → All P xs → All P (in_order before xs)
  all_in_order [] all = all
  all_in_order (x ∷ xs) all = all_placed x (in_order before xs) (All-head P x xs all) (all_in_order xs (All-tail P x xs all))

  any_placed : (x : X) (xs : List X) → P x ⊎ Any P xs → Any P (placed before x xs)
  any_placed x [] (inl own) = Any-first P x [] own
  any_placed x [] (inr some) = Any-later P x [] some
  any_placed x (y ∷ ys) some = by (before y x) (λ other. any_placed x ys other)
    where
      rest : (P x ⊎ Any P ys → Any P (placed before x ys)) → P x ⊎ Any P (y ∷ ys) → P y ⊎ Any P (placed before x ys)
      rest more (inl own) = inr (more (inl own))
      rest more (inr found) = elim (Any-cases P y ys found) [ inl here ↦ inl here | inr later ↦ inr (more (inr later)) ]

      whole : P x ⊎ Any P (y ∷ ys) → Any P (x ∷ y ∷ ys)
      whole (inl own) = Any-first P x (y ∷ ys) own
      whole (inr found) = Any-later P x (y ∷ ys) found

      by : (b : Bool) → (P x ⊎ Any P ys → Any P (placed before x ys)) → Any P (if b then y ∷ placed before x ys else x ∷ y ∷ ys)
      by true more = elim (rest more some) [ inl here ↦ Any-first P y (placed before x ys) here | inr later ↦ Any-later P y (placed before x ys) later ]
      by false more = whole some

  pub any_in_order : (xs : List X) → Any P xs → Any P (in_order before xs)
  any_in_order [] some = some
  any_in_order (x ∷ xs) some =
      any_placed x (in_order before xs)
      (elim (Any-cases P x xs some) [ inl here ↦ inl here | inr later ↦ inr (any_in_order xs later) ])

-- the spaces of pieces, once they are put in order
pub ordered_are : (pieces : List PieceView) (found spaces : List SpaceForm) → AreSpacesOf pieces found → spaces ≡ in_order space_before found
    → AreOrderedSpaces pieces spaces
ordered_are pieces found spaces are is = record {
  order = is ∙ ap (in_order space_before) are.order;
  all = subst (λ (ss : List SpaceForm). All (λ (p : PieceView). Any (λ s. p.space ≡ s) ss) pieces) (sym is)
      (All-weaker (λ (p : PieceView). Any (λ s. p.space ≡ s) found) (λ (p : PieceView). Any (λ s. p.space ≡ s) (in_order space_before found))
      (λ p h. any_in_order space_before (λ s. p.space ≡ s) found h) pieces are.all);
  only = subst (All (λ s. Any (λ (p : PieceView). p.space ≡ s) pieces)) (sym is)
      (all_in_order space_before (λ s. Any (λ (p : PieceView). p.space ≡ s) pieces) found are.only);
}
