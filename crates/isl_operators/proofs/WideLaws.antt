-- Spaces in which there are elements.
use Rattle.std.proofs.Common.{◌≡◌, ◌⊎◌, ◌∙◌, inl, inr, sym}
use Rattle.std.specs.Prelude.{IfOk, Result}
use Rattle.std.proofs.lemmas.List.Elements.{All-contains}
use Rattle.std.proofs.lemmas.Result.{IfOk-weaker}
use Rattle.isl_math.proofs.ListLaws.{Any-contains, Any-element}
use Rattle.isl_space.specs.Element.{Element}
use Rattle.isl_space.specs.SpaceForm.{SpaceForm}
use Rattle.isl_space.specs.Valuation.{Valuation}
use Rattle.isl_union.specs.KeptValue.{KeptPiece, KeptValue, Has, HasElement, IsKeptPiece, IsKeptValue}
use Rattle.isl_union.proofs.SystemLaws.{void_exactly}
use Rattle.isl_relation.specs.Wide.{FormsTooWide, IsLiveIn, PairsTooWide}
use Rattle.isl_operators.specs.Formed.{AreIn, FormsWide, PairsWide}
use Rattle.isl_operators.proofs.ElementLaws.{lives}

-- a piece of a value has an element at some valuation
pub are_in : (value : KeptValue) (space : SpaceForm) → IsKeptValue value → IsLiveIn value space → AreIn (Has value) space
are_in value space kept live none =
    let P : KeptPiece → Type 0 = λ p. p.space ≡ space in
    let piece = Any-element P value.pieces live in
    let place = piece.1 in
    let void = void_exactly value.params piece.0 kept.params.distinct in
    (All-contains (IsKeptPiece value.params) value.pieces piece.0 kept.pieces place).live (void.1 (λ v e h.
    none v e (Any-contains (HasElement value.params v e) value.pieces piece.0 place h) (sym h.space ∙ piece.2)))

module _ (Forms : SpaceForm → SpaceForm → Type 0) (a : KeptValue) where
  pub forms_wide : IsKeptValue a → FormsTooWide Forms a → FormsWide Forms (Has a)
  forms_wide kept wide = (wide.0, wide.1, are_in a wide.0 kept wide.2, wide.3, wide.4)

  pub forms_narrow : {E : Type 0} (r : Result KeptValue E) → IfOk r (λ _. ¬ FormsTooWide Forms a) → IfOk r (λ _. ¬ FormsWide Forms (Has a))
  forms_narrow r narrow =
      IfOk-weaker r (λ _. ¬ FormsTooWide Forms a) (λ _. ¬ FormsWide Forms (Has a))
      (λ _ never wide. wide.2 (λ v e has at. never (wide.0, wide.1, lives a v e wide.0 has at, wide.3, wide.4))) narrow

module _ (Forms : SpaceForm → SpaceForm → SpaceForm → Type 0) (a b : KeptValue) where
  pub pairs_wide : IsKeptValue a → IsKeptValue b → PairsTooWide Forms a b → PairsWide Forms (Has a) (Has b)
  pairs_wide one two wide = (wide.0, wide.1, wide.2, are_in a wide.0 one wide.3, are_in b wide.1 two wide.4, wide.5, wide.6)

  pub pairs_narrow : ¬ PairsTooWide Forms a b → ¬ PairsWide Forms (Has a) (Has b)
  pairs_narrow never wide =
      wide.3 (λ v e has at. wide.4 (λ w f have there.
      never (wide.0, wide.1, wide.2, lives a v e wide.0 has at, lives b w f wide.1 have there, wide.5, wide.6)))

-- the same of spaces that are formed in one of two ways, and of two values in the other order
module _ (One Other : SpaceForm → SpaceForm → SpaceForm → Type 0) (L R : Valuation → Element → Type 0) where
  pub either_wide : (wide : PairsWide One L R ⊎ PairsWide Other L R) → PairsWide (λ s t formed. One s t formed ⊎ Other s t formed) L R
  either_wide (inl w) = (w.0, w.1, w.2, w.3, w.4, inl w.5, w.6)
  either_wide (inr w) = (w.0, w.1, w.2, w.3, w.4, inr w.5, w.6)

  pub neither_wide : ¬ PairsWide One L R → ¬ PairsWide Other L R → ¬ PairsWide (λ s t formed. One s t formed ⊎ Other s t formed) L R
  neither_wide first second w = elim w.5 [
    | inl forms ↦ first (w.0, w.1, w.2, w.3, w.4, forms, w.6)
    | inr forms ↦ second (w.0, w.1, w.2, w.3, w.4, forms, w.6)
  ]

-- where neither is formed too wide of two values
pub both_narrow : (One Other : SpaceForm → SpaceForm → SpaceForm → Type 0) (a b : KeptValue) → ¬ PairsTooWide One a b
    → ¬ PairsTooWide Other a b → ¬ PairsWide (λ s t formed. One s t formed ⊎ Other s t formed) (Has a) (Has b)
both_narrow One Other a b first second =
    neither_wide One Other (Has a) (Has b) (pairs_narrow One a b first) (pairs_narrow Other a b second)

module _ (Forms : SpaceForm → SpaceForm → SpaceForm → Type 0) (L R : Valuation → Element → Type 0) where
  pub turned_wide : PairsWide Forms R L → PairsWide (λ s t formed. Forms t s formed) L R
  turned_wide w = (w.1, w.0, w.2, w.4, w.3, w.5, w.6)

  pub turned_narrow : ¬ PairsWide Forms R L → ¬ PairsWide (λ s t formed. Forms t s formed) L R
  turned_narrow never w = never (w.1, w.0, w.2, w.4, w.3, w.5, w.6)
