-- What values say of one another.
use Rattle.std.proofs.Common.{◌≡◌, ◌↔◌, refl, sym, ap, ◌∙◌, arith, subst, ℕ, ◌+◌, ◌<◌, ℤ, List, [], ◌∷◌, ◌++◌, length, get_or}
use Rattle.std.proofs.Common.{map, take, drop, take-append-drop, inl, inr, Bool, IfOk, IsTrue, Result, Ok, Err}
use Rattle.std.specs.List.{zip}
use Rattle.std.proofs.lemmas.List.{length-drop, length-take-le}
use Rattle.isl_math.proofs.ListLaws.{Any-first, Any-none, Any-one, Any-parts}
use Rattle.isl_meter.specs.Gauge.{Gauge}
use Rattle.isl_space.specs.Element.{Element, IsElement}
use Rattle.isl_space.specs.Name.{Name}
use Rattle.isl_space.specs.Names.{AreDistinct}
use Rattle.isl_space.specs.SpaceForm.{SpaceForm}
use Rattle.isl_space.specs.Valuation.{Valuation, values_of}
use Rattle.isl_space.proofs.ValuationLaws.{values_of-zip}
use Rattle.isl_piece.specs.declared.system.System.{System}
use Rattle.isl_piece.specs.Piece.{PieceView}
use Rattle.isl_piece.specs.System.{HoldsSystem}
use Rattle.isl_elim.specs.Elimination.{HoldsAtAny}
use Rattle.isl_difference.specs.Difference.{IsCovered}
use Rattle.isl_union.specs.Compare.{AreEqual, IsSubset}
use Rattle.isl_union.specs.KeptValue.{KeptPiece, KeptValue, HasElement, columns_of, point_of}
use Rattle.isl_union.specs.Minus.{systems_in, AreCovered, ArePiecesOver}
use Rattle.isl_union.specs.Piece.{kept_piece, IsPieceOf}
use Rattle.isl_union.proofs.MinusLaws.{element_long, in_space, kept_more}
use Rattle.isl_union.proofs.SystemLaws.{view_free}

-- ---- each list of numbers is the point of some element at some valuation
module _ (params : List Name) (space : SpaceForm) (point : List ℤ) (distinct : AreDistinct params)
    (long : length point ≡ columns_of params space) where
  abbrev pub valuation_at : Valuation
  valuation_at = zip params (take (length params) point)

  abbrev pub element_at : Element
  element_at = record { space = space; coordinates = drop (length params) point }

  pub element_is : IsElement element_at
  element_is = let behind = length-drop (length params) point in omega (arith, behind, long)

  pub point_at : point_of params valuation_at element_at ≡ point
  point_at =
      let n = length params in
      let front = length-take-le n point (omega (arith, long)) in
      let named : values_of params valuation_at ≡ take n point = values_of-zip params (take n point) distinct (sym front) in
      ap (λ xs. xs ++ drop n point) named ∙ take-append-drop n point

-- ---- one piece
module _ (params : List Name) (p : PieceView) (sound : IsPieceOf params p) (others : List PieceView) (systems : List System)
    (are : systems ≡ systems_in p.space others) where
  -- the others have its elements exactly where each point of its system is one of theirs
  pub covered_from : IsCovered p.system systems → AreCovered params (kept_piece p ∷ []) (map kept_piece others)
  covered_from covered = record {
    elements = λ v e a.
        let own = Any-one (HasElement params v e) (kept_piece p) a in
        let long = element_long params v e p.space own.numbers own.space ∙ sym (view_free params p sound) in
        (in_space params v e p.space others own.numbers own.space).0
        (subst (λ ss. HoldsAtAny ss (point_of params v e)) are (covered (point_of params v e) long own.holds));
  }

  pub covered_back : AreDistinct params → AreCovered params (kept_piece p ∷ []) (map kept_piece others) → IsCovered p.system systems
  covered_back distinct covered point l holds =
      let long = l ∙ view_free params p sound in
      let v = valuation_at params p.space point distinct long in
      let e = element_at params p.space point distinct long in
      let is = point_at params p.space point distinct long in
      let numbers = element_is params p.space point distinct long in
      let has = covered.elements v e (Any-first (HasElement params v e) (kept_piece p) []
      (record { numbers = numbers; space = refl; holds = subst (HoldsSystem p.system) (sym is) holds })) in
      subst (HoldsAtAny systems) is
      (subst (λ ss. HoldsAtAny ss (point_of params v e)) (sym are) ((in_space params v e p.space others numbers refl).1 has))

-- an answer that is yes only where Q is so, and there, says whether P is so, if P is so exactly where Q is
pub true_exactly : {E : Type 0} (Q P : Type 0) (r : Result Bool E) → (Q → P) → (P → Q) → IfOk r (λ b. IsTrue b → Q)
    → IfOk r (λ b. Q → IsTrue b) → IfOk r (λ b. IsTrue b ↔ P)
true_exactly Q P (Ok b) f k h q = ((λ t. f (h t)), (λ p. q (k p)))
true_exactly Q P (Err e) f k h q = tt

-- ---- one piece after another
pub covered_first : (params : List Name) (others : List KeptPiece) → AreCovered params [] others
covered_first params others = record { elements = λ v e a. absurd (Any-none (HasElement params v e) a) }

pub covered_step : (params : List Name) (pieces : List PieceView) (piece : PieceView) (i : ℕ) (others : List KeptPiece) → i < length pieces
    → piece ≡ get_or pieces i piece → AreCovered params (map kept_piece (take i pieces)) others
    → AreCovered params (kept_piece piece ∷ []) others
    → AreCovered params (map kept_piece (take (i + 1) pieces)) others
covered_step params pieces piece i others low at so_far more = rw (kept_more pieces piece i low at) (record {
  elements = λ v e a. elim (Any-parts (HasElement params v e) (map kept_piece (take i pieces)) (kept_piece piece ∷ []) a) [
    | inl x ↦ so_far.elements v e x
    | inr y ↦ more.elements v e y
  ];
})

-- ---- values
module _ (g : Gauge) (params : List Name) (a b : KeptValue) (own others : List PieceView)
    (p : ArePiecesOver g params a own) (q : ArePiecesOver g params b others) where
  pub covered_value : AreCovered params (map kept_piece own) (map kept_piece others) ↔ IsSubset a b
  covered_value = (
    (λ h v e x. (q.elements v e).0 (h.elements v e ((p.elements v e).1 x))),
    (λ h. record { elements = λ v e x. (q.elements v e).1 (h v e ((p.elements v e).0 x)) }),
  )

  -- an answer that says so of the pieces says so of the values
  pub subset_value : (r : Bool) → (IsTrue r ↔ AreCovered params (map kept_piece own) (map kept_piece others)) → IsTrue r ↔ IsSubset a b
  subset_value r h = ((λ t. covered_value.0 (h.0 t)), (λ s. h.1 (covered_value.1 s)))

pub equal_value : (g : Gauge) (params : List Name) (a b : KeptValue) (own others : List PieceView) → ArePiecesOver g params a own
    → ArePiecesOver g params b others → (r : Bool)
    → (IsTrue r ↔ (AreCovered params (map kept_piece own) (map kept_piece others)
    × AreCovered params (map kept_piece others) (map kept_piece own)))
    → IsTrue r ↔ AreEqual a b
equal_value g params a b own others p q r h =
    let one = covered_value g params a b own others p q in
    let other = covered_value g params b a others own q p in (
      (λ t. let x = h.0 t in (one.0 x.0, other.0 x.1)),
      (λ e. h.1 (one.1 e.0, other.1 e.1)),
    )

pub equal_turned : (a b : KeptValue) (r : Bool) → (IsTrue r ↔ AreEqual b a) → IsTrue r ↔ AreEqual a b
equal_turned a b r h = ((λ t. let x = h.0 t in (x.1, x.0)), (λ e. h.1 (e.1, e.0)))
