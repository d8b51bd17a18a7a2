-- Pieces without definitions.
use Rattle.std.proofs.Common.{◌≡◌, ◌↔◌, sym, ap, ap₂, refl, ◌∙◌, arith, subst, inl, inr, Bool, false, IsTrue, ℕ, ◌<◌, List, [], ◌∷◌, ◌++◌}
use Rattle.std.proofs.Common.{◌≤◌, All, Any, append_assoc, get_or, length, length-append, map, take}
use Rattle.std.proofs.lemmas.List.{append-nil, map-append, take_all}
use Rattle.std.proofs.lemmas.List.Elements.{All-head, All-tail}
use Rattle.isl_math.proofs.ListLaws.{All-unmapped, Any-cases, Any-first, Any-later, Any-left, Any-one, Any-parts, Any-right}
use Rattle.isl_space.specs.Element.{Element}
use Rattle.isl_space.specs.Name.{Name}
use Rattle.isl_space.specs.SpaceForm.{coordinates_of}
use Rattle.isl_space.specs.Valuation.{Valuation, values_of}
use Rattle.isl_space.proofs.ValuationLaws.{length-values_of}
use Rattle.isl_piece.specs.declared.definition.Definition.{Definition}
use Rattle.isl_piece.specs.declared.system.System.{System}
use Rattle.isl_piece.specs.Piece.{PieceView}
use Rattle.isl_piece.specs.System.{free_columns}
use Rattle.isl_elim.specs.Flatten.{IsFlattening}
use Rattle.isl_union.specs.Flat.{AreFlatOf, AreInPlaceOf, IsFlatOf}
use Rattle.isl_union.specs.KeptValue.{KeptPiece, KeptValue, Has, HasElement, HasNoDefinitions, columns_of, point_of}
use Rattle.isl_union.specs.Piece.{kept_piece}
use Rattle.isl_union.specs.Pieces.{IsOfAny}
use Rattle.isl_union.proofs.MadeLaws.{not_true}
use Rattle.isl_union.proofs.MeetSteps.{item_has}
use Rattle.isl_union.proofs.SystemLaws.{point_long}

module _ (params : List Name) (piece : PieceView) (free : free_columns piece.system ≡ columns_of params piece.space) (systems : List System)
    (flat : IsFlattening piece.system systems) where
  pub flat_columns : All (λ t. free_columns t ≡ columns_of params piece.space) systems
  flat_columns = λ k d l.
      let c = flat.columns k d l in
      let n = ap (λ (ds : List Definition). length ds) (flat.definitions k d l) in
      omega (arith, c, n, free)

  pub flat_has : (v : Valuation) (e : Element) → IsOfAny params piece.space systems v e ↔ HasElement params v e (kept_piece piece)
  flat_has v e = (
    (λ h.
        let both = length-append (values_of params v) e.coordinates in
        let names = length-values_of params v in
        let n = h.numbers ∙ ap coordinates_of h.lies in record {
          numbers = h.numbers;
          space = sym h.lies;
          holds = (flat.points (point_of params v e) (omega (arith, both, names, n, free))).0 h.holds;
        }),
    (λ h. record {
      numbers = h.numbers;
      lies = sym h.space;
      holds = (flat.points (point_of params v e) (point_long params v e (kept_piece piece) h ∙ sym free)).1 h.holds;
    }),
  )

-- a piece of a value without definitions has none
pub never_opened : (pieces : List PieceView) (kept : List KeptPiece) (i : ℕ) (piece : PieceView) (s : System) (empty : Bool)
    → i < length pieces
    → piece ≡ get_or pieces i piece → map kept_piece pieces ≡ kept → s ≡ piece.system → empty ≡ false → (s.definitions ≡ [] → IsTrue empty)
    → All (λ p. p.definitions ≡ []) kept → ⊥
never_opened pieces kept i piece s empty low at content is shut test none =
    let all = subst (All (λ (p : KeptPiece). p.definitions ≡ [])) (sym content) none in
    let here = item_has (λ p. p.system.definitions ≡ []) pieces i piece low at
    (All-unmapped (λ (p : KeptPiece). p.definitions ≡ []) kept_piece pieces all) in
    not_true empty shut (test (ap (λ (t : System). t.definitions) is ∙ here))

-- ---- piece by piece
-- with what stands in the place of one piece more
pub flat_more : (params : List Name) (pieces flat : List KeptPiece) (piece : KeptPiece) (more : List KeptPiece)
    → AreFlatOf params pieces flat → AreInPlaceOf params piece more → AreFlatOf params (pieces ++ piece ∷ []) (flat ++ more)
flat_more params [] flat piece more are one = (more, [], ap (λ l. l ++ more) are ∙ sym (append-nil more), one, refl)
flat_more params (next ∷ pieces) flat piece more are one = (
  are.0,
  are.1 ++ more,
  ap (λ l. l ++ more) are.2 ∙ append_assoc are.0 are.1 more,
  are.3,
  flat_more params pieces are.1 piece more are.4 one,
)

-- the same of pieces as they are kept
pub flat_pushed : (params : List Name) (pieces : List KeptPiece) (piece : KeptPiece) (kept more pushed : List PieceView)
    → pushed ≡ kept ++ more → AreFlatOf params pieces (map kept_piece kept) → AreInPlaceOf params piece (map kept_piece more)
    → AreFlatOf params (pieces ++ piece ∷ []) (map kept_piece pushed)
flat_pushed params pieces piece kept more pushed is are one =
    rw (is, map-append kept_piece kept more) (flat_more params pieces (map kept_piece kept) piece (map kept_piece more) are one)

-- pieces may stay as they are
pub piece_itself : (params : List Name) (piece : KeptPiece) → AreInPlaceOf params piece (piece ∷ [])
piece_itself params piece = record {
  elements = λ v e. (
    (λ a. Any-one (HasElement params v e) piece a),
    (λ h. Any-first (HasElement params v e) piece [] h),
  );
  same = λ _. refl;
}

pub each_itself : (params : List Name) (pieces : List KeptPiece) → AreFlatOf params pieces pieces
each_itself params [] = refl
each_itself params (piece ∷ pieces) = (piece ∷ [], pieces, refl, piece_itself params piece, each_itself params pieces)

pub flat_itself : (value : KeptValue) → IsFlatOf value value
flat_itself value = record { params = refl; pieces = each_itself value.params value.pieces }

-- all of them have the elements of the pieces
flat_any : (params : List Name) (v : Valuation) (e : Element) (pieces flat : List KeptPiece) → AreFlatOf params pieces flat
    → Any (HasElement params v e) flat ↔ Any (HasElement params v e) pieces
flat_any params v e [] flat are =
    subst (λ (l : List KeptPiece). Any (HasElement params v e) l ↔ Any (HasElement params v e) []) (sym are) ((λ a. a), (λ a. a))
flat_any params v e (piece ∷ pieces) flat are =
    let H : KeptPiece → Type 0 = HasElement params v e in
    let here = are.3.elements v e in
    let later = flat_any params v e pieces are.1 are.4 in (
      (λ a. elim (Any-parts H are.0 are.1 (subst (Any H) are.2 a)) [
        | inl x ↦ Any-first H piece pieces (here.0 x)
        | inr y ↦ Any-later H piece pieces (later.0 y)
      ]),
      (λ a. subst (Any H) (sym are.2) (elim (Any-cases H piece pieces a) [
        | inl x ↦ Any-left H are.0 are.1 (here.1 x)
        | inr y ↦ Any-right H are.0 are.1 (later.1 y)
      ])),
    )

-- pieces that define no column stay
pub plain_stay : (params : List Name) (pieces flat : List KeptPiece) → AreFlatOf params pieces flat
    → All (λ p. p.definitions ≡ []) pieces → flat ≡ pieces
plain_stay params [] flat are plain = are
plain_stay params (piece ∷ pieces) flat are plain =
    let P : KeptPiece → Type 0 = λ p. p.definitions ≡ [] in
    let here = are.3.same (All-head P piece pieces plain) in
    are.2 ∙ ap₂ (λ (l m : List KeptPiece). l ++ m) here (plain_stay params pieces are.1 are.4 (All-tail P piece pieces plain))

module _ (defined value : KeptValue) (flat : IsFlatOf defined value) where
  pub flat_elements : (v : Valuation) (e : Element) → Has value v e ↔ Has defined v e
  flat_elements v e = rw flat.params (flat_any defined.params v e defined.pieces value.pieces flat.pieces)

  pub flat_same : HasNoDefinitions defined → value ≡ defined
  flat_same plain =
      ap₂ (λ (names : List Name) (pieces : List KeptPiece). record { params = names; pieces = pieces }) flat.params
      (plain_stay defined.params defined.pieces value.pieces flat.pieces plain)

-- once all of the pieces were looked at
pub flat_all : (params : List Name) (pieces kept : List PieceView) (i : ℕ) (self value : KeptValue) → length pieces ≤ i
    → params ≡ self.params → map kept_piece pieces ≡ self.pieces → value ≡ record { params = params; pieces = map kept_piece kept }
    → AreFlatOf params (map kept_piece (take i pieces)) (map kept_piece kept) → IsFlatOf self value
flat_all params pieces kept i self value end names content is are = rw is (record {
  params = names;
  pieces = rw names at (rw (ap (map kept_piece) (take_all i pieces end) ∙ content) at are);
})
