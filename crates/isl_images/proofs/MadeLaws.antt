-- Pieces that are made of others, one after another.
use Rattle.std.proofs.Common.{◌≡◌, ◌↔◌, ◌⊎◌, inl, inr, sym, ap, ◌∙◌, subst, ℕ, ◌+◌, ◌<◌, ◌≤◌, List, [], ◌∷◌, ◌++◌, Any}
use Rattle.std.proofs.Common.{length, get_or, map, take}
use Rattle.std.proofs.lemmas.List.{map-append, take_all, take_more}
use Rattle.std.proofs.lemmas.List.Elements.{All-append, All-nil, All-map}
use Rattle.isl_math.proofs.ListLaws.{Any-left, Any-none, Any-one, Any-parts, Any-right, Any-first}
use Rattle.isl_meter.specs.Gauge.{Gauge, IsCharged}
use Rattle.isl_space.specs.Element.{Element}
use Rattle.isl_space.specs.Name.{Name}
use Rattle.isl_space.specs.Names.{IsParameterList}
use Rattle.isl_space.specs.Valuation.{Valuation}
use Rattle.isl_piece.specs.Piece.{PieceView}
use Rattle.isl_piece.specs.System.{IsSystemWithin}
use Rattle.isl_piece.proofs.FormedLaws.{system_within_kept}
use Rattle.isl_union.specs.KeptValue.{KeptPiece, KeptValue, Has, HasElement, HasNoDefinitions, IsKeptValue}
use Rattle.isl_union.specs.Numbers.{AreWithinLimit, IsWithinLimit}
use Rattle.isl_union.specs.Piece.{kept_piece, IsPieceOf}
use Rattle.isl_union.proofs.MeetSteps.{charged_bits}
use Rattle.isl_union.proofs.MinusLaws.{left_numbers}
use Rattle.isl_union.proofs.PieceLaws.{IsKeptValue-from_pieces}
use Rattle.isl_images.specs.Made.{elements_of, elements_of_all, ArePiecesOf, IsPlain}

-- ---- operations that take elements one by one
pub record IsAdditive (T : (Element → Type 0) → Element → Type 0) : Type 1 where
  pub grows : (M N : Element → Type 0) → ((f : Element) → M f → N f) → (e : Element) → T M e → T N e
  pub splits : (M N : Element → Type 0) (e : Element) → T (λ f. M f ⊎ N f) e → T M e ⊎ T N e
  pub some : (M : Element → Type 0) (e : Element) → T M e → (f : Element) × M f

-- ---- pieces that have the same
pub of_same : (g : Gauge) (params : List Name) (Plain Simple : Type 0) (P Q : Valuation → Element → Type 0) (pieces : List PieceView)
    → (Simple → Plain) → ((v : Valuation) (e : Element) → P v e ↔ Q v e) → ArePiecesOf g params Plain P pieces
    → ArePiecesOf g params Simple Q pieces
of_same g params Plain Simple P Q pieces plain same made = record {
  elements = λ v e.
      let a = made.elements v e in
      let b = same v e in
      ((λ h. b.0 (a.0 h)), (λ h. a.1 (b.1 h)));
  sound = made.sound;
  within = made.within;
  definitions = λ h. made.definitions (plain h);
}

pub of_nothing : (g : Gauge) (params : List Name) (Plain : Type 0) (Q : Valuation → Element → Type 0) (pieces : List PieceView)
    → pieces ≡ [] → ((v : Valuation) (e : Element) → ¬ Q v e) → ArePiecesOf g params Plain Q pieces
of_nothing g params Plain Q pieces is none = rw is (record {
  elements = λ v e. ((λ a. absurd (Any-none (HasElement params v e) a)), (λ h. absurd (none v e h)));
  sound = All-nil (IsPieceOf params);
  within = All-nil (λ (p : PieceView). IsSystemWithin g p.system);
  definitions = λ h. All-nil IsPlain;
})

pub within_before : (g h : Gauge) (pieces : List PieceView) → IsCharged g h → AreWithinLimit h pieces → AreWithinLimit g pieces
within_before g h pieces p within = λ k d l.
    system_within_kept g h (get_or pieces k d).system (sym (charged_bits g h p)) (within k d l)

-- what is within the limit at one time is so at an earlier one
pub of_before : (g h : Gauge) (params : List Name) (Plain : Type 0) (Q : Valuation → Element → Type 0) (pieces : List PieceView)
    → IsCharged g h → ArePiecesOf h params Plain Q pieces → ArePiecesOf g params Plain Q pieces
of_before g h params Plain Q pieces charged made = record {
  elements = made.elements;
  sound = made.sound;
  within = within_before g h pieces charged made.within;
  definitions = made.definitions;
}

-- ---- one more of the pieces
module _ (g : Gauge) (params : List Name) (T : Valuation → (Element → Type 0) → Element → Type 0)
    (additive : (v : Valuation) → IsAdditive (T v)) (Plain : Type 0) where
  abbrev Of : List PieceView → Valuation → Element → Type 0
  Of pieces v e = T v (elements_of_all params pieces v) e

  pub of_none : (made : List PieceView) → made ≡ [] → ArePiecesOf g params Plain (Of []) made
  of_none made is = of_nothing g params Plain (Of []) made is
      (λ v e h. let one = (additive v).some (elements_of_all params [] v) e h in Any-none (HasElement params v one.0) one.1)

  module _ (pieces : List PieceView) (i : ℕ) where
    pub of_all : length pieces ≤ i → (made : List PieceView) → ArePiecesOf g params Plain (Of (take i pieces)) made
        → ArePiecesOf g params Plain (Of pieces) made
    of_all end made so_far =
        subst (λ (ps : List PieceView). ArePiecesOf g params Plain (Of ps) made) (take_all i pieces end) so_far

    module _ (piece : PieceView) (low : i < length pieces) (at : piece ≡ get_or pieces i piece) where
      next : map kept_piece (take (i + 1) pieces) ≡ map kept_piece (take i pieces) ++ kept_piece piece ∷ []
      next =
          ap (map kept_piece) (take_more pieces i piece low) ∙ map-append kept_piece (take i pieces) (get_or pieces i piece ∷ [])
          ∙ ap (λ p. map kept_piece (take i pieces) ++ kept_piece p ∷ []) (sym at)

      there : (v : Valuation) (e : Element) → Of (take (i + 1) pieces) v e ↔ (Of (take i pieces) v e ⊎ T v (elements_of params piece v) e)
      there v e = (
        (λ h. (additive v).splits (elements_of_all params (take i pieces) v) (elements_of params piece v) e
            ((additive v).grows (elements_of_all params (take (i + 1) pieces) v) _
            (λ f a. apart f (subst (Any (HasElement params v f)) next a)) e h)),
        (λ h. elim h [
          | inl a ↦ (additive v).grows (elements_of_all params (take i pieces) v) (elements_of_all params (take (i + 1) pieces) v)
              (λ f x. subst (Any (HasElement params v f)) (sym next)
              (Any-left (HasElement params v f) (map kept_piece (take i pieces)) (kept_piece piece ∷ []) x)) e a
          | inr b ↦ (additive v).grows (elements_of params piece v) (elements_of_all params (take (i + 1) pieces) v)
              (λ f y. subst (Any (HasElement params v f)) (sym next)
              (Any-right (HasElement params v f) (map kept_piece (take i pieces)) (kept_piece piece ∷ [])
              (Any-first (HasElement params v f) (kept_piece piece) [] y))) e b
        ]),
      )
        where
          apart : (f : Element) → Any (HasElement params v f) (map kept_piece (take i pieces) ++ kept_piece piece ∷ [])
              → elements_of_all params (take i pieces) v f ⊎ elements_of params piece v f
          apart f a = elim (Any-parts (HasElement params v f) (map kept_piece (take i pieces)) (kept_piece piece ∷ []) a) [
            | inl x ↦ inl x
            | inr y ↦ inr (Any-one (HasElement params v f) (kept_piece piece) y)
          ]

      pub of_more : (Here : Type 0) → (Plain → Here) → (h : Gauge) → IsCharged g h → (made more pushed : List PieceView)
          → pushed ≡ made ++ more → ArePiecesOf g params Plain (Of (take i pieces)) made
          → ArePiecesOf h params Here (λ v. T v (elements_of params piece v)) more
          → ArePiecesOf g params Plain (Of (take (i + 1) pieces)) pushed
      of_more Here simple h charged made more pushed is so_far one = rw is (record {
        elements = λ v e.
            let a = so_far.elements v e in
            let b = one.elements v e in
            let c = there v e in
            let H = HasElement params v e in
            rw (map-append kept_piece made more) (
              (λ all. elim (Any-parts H (map kept_piece made) (map kept_piece more) all) [
                | inl x ↦ c.1 (inl (a.0 x))
                | inr y ↦ c.1 (inr (b.0 y))
              ]),
              (λ all. elim (c.0 all) [
                | inl x ↦ Any-left H (map kept_piece made) (map kept_piece more) (a.1 x)
                | inr y ↦ Any-right H (map kept_piece made) (map kept_piece more) (b.1 y)
              ]),
            );
        sound = All-append (IsPieceOf params) made more so_far.sound one.sound;
        within = All-append (λ (p : PieceView). IsSystemWithin g p.system) made more so_far.within
            (within_before g h more charged one.within);
        definitions = λ plain. All-append IsPlain made more (so_far.definitions plain) (one.definitions (simple plain));
      })

-- ---- the value of the pieces
module _ (g : Gauge) (params : List Name) (Plain : Type 0) (Q : Valuation → Element → Type 0) (made : List PieceView)
    (are : ArePiecesOf g params Plain Q made) (value : KeptValue) (is : value ≡ record { params = params; pieces = map kept_piece made })
  where
    pub value_has : (v : Valuation) (e : Element) → Has value v e ↔ Q v e
    value_has v e = rw is (are.elements v e)

    pub value_kept : IsParameterList params → IsKeptValue value
    value_kept names = rw is (IsKeptValue-from_pieces params made names are.sound)

    pub value_small : IsWithinLimit g value
    value_small = left_numbers g params made value are.sound are.within is

    pub value_plain : Plain → HasNoDefinitions value
    value_plain plain =
        rw is (All-map (λ (p : KeptPiece). p.definitions ≡ []) kept_piece made (λ k d l. are.definitions plain k d l))

-- ---- the pieces of a value
module _ (value : KeptValue) (params : List Name) (pieces : List PieceView) (names : params ≡ value.params)
    (content : map kept_piece pieces ≡ value.pieces) where
  pub all_have : (v : Valuation) (e : Element) → elements_of_all params pieces v e → Has value v e
  all_have v e h =
      subst (Any (HasElement value.params v e)) content
      (subst (λ (n : List Name). Any (HasElement n v e) (map kept_piece pieces)) names h)

  pub have_all : (v : Valuation) (e : Element) → Has value v e → elements_of_all params pieces v e
  have_all v e h =
      subst (λ (n : List Name). Any (HasElement n v e) (map kept_piece pieces)) (sym names)
      (subst (Any (HasElement value.params v e)) (sym content) h)
