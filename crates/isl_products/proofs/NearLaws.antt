-- What is made with those pieces that can be put together with one is what is made with all.
use Rattle.std.proofs.Common.{◌≡◌, ◌↔◌, refl, sym, ap, ◌∙◌, arith, ℕ, ◌+◌, Bool, true, false, cond, filter, List, [], ◌∷◌, Any, map, Some, None}
use Rattle.std.proofs.Common.{if◌then◌else◌}
use Rattle.std.proofs.lemmas.Bool.{false≢true, false_from_ne_true}
use Rattle.std.proofs.lemmas.List.Sums.{sum_by-cons}
use Rattle.std.proofs.lemmas.List.Elements.{All-filter}
use Rattle.isl_space.specs.Element.{Element}
use Rattle.isl_space.specs.Form.{Form}
use Rattle.isl_space.specs.Name.{Name}
use Rattle.isl_space.specs.SpaceForm.{SpaceForm, set_of, map_of}
use Rattle.isl_space.specs.Valuation.{Valuation}
use Rattle.isl_meter.specs.Gauge.{Gauge}
use Rattle.isl_piece.specs.declared.system.System.{System}
use Rattle.isl_piece.specs.Piece.{PieceView}
use Rattle.isl_elim.proofs.ProjectionLaws.{any_mapped}
use Rattle.isl_index.proofs.PassLaws.{Any-pass, Any-passed, none_pass}
use Rattle.isl_math.proofs.ListLaws.{Any-unmapped}
use Rattle.isl_union.specs.KeptValue.{KeptPiece}
use Rattle.isl_union.specs.Meet.{is_same_form}
use Rattle.isl_union.specs.Piece.{kept_piece}
use Rattle.isl_relation.specs.Together.{pair_count, partners, spaces_of}
use Rattle.isl_products.specs.declared.layout.Place.{Place}
use Rattle.isl_products.specs.declared.layout.Place.TheVariants.{Domain, Range}
use Rattle.isl_products.specs.declared.layout.Product.{Product}
use Rattle.isl_products.specs.declared.layout.Product.TheVariants.{Universal, CrossSets, CrossMaps, Restrict}
use Rattle.isl_products.specs.Layout.{LayoutView, are_together, form_at, layout_of, may_follow, may_join, restrict_view}
use Rattle.isl_products.specs.Made.{AreBeside, IsMadeOf, IsMadeWith}

-- ---- nothing is put beside a set, and a product that looks for no form takes all
pub none_near : (place : Place) (s : SpaceForm) (x : Form) (others : List PieceView) → s ≡ set_of x
    → [] ≡ filter (may_join (Restrict place) s) others
none_near place s x others is = none_pass others ∙ ap (λ (t : SpaceForm). filter (may_join (Restrict place) t) others) (sym is)

all_pass : (others : List PieceView) → others ≡ filter (λ piece. true) others
all_pass [] = refl
all_pass (p ∷ others) = ap (λ l. p ∷ l) (all_pass others)

pub all_near : (product : Product) (s : SpaceForm) (others : List PieceView) → ((place : Place) → product ≡ Restrict place → ⊥)
    → others ≡ filter (may_join product s) others
all_near Universal s others other = all_pass others
all_near CrossSets s others other = all_pass others
all_near CrossMaps s others other = all_pass others
all_near (Restrict place) s others other = absurd (other place refl)

-- ---- two spaces
pub follows : (product : Product) (s t : SpaceForm) → are_together product s t ≡ true → may_follow product s t ≡ true
follows Universal s t e = refl
follows CrossSets s t e = refl
follows CrossMaps s t e = refl
follows (Restrict Domain) (set_of x) t e = absurd (false≢true e)
follows (Restrict Domain) (map_of x y) (set_of z) e = e
follows (Restrict Domain) (map_of x y) (map_of u w) e = absurd (false≢true e)
follows (Restrict Range) (set_of x) t e = absurd (false≢true e)
follows (Restrict Range) (map_of x y) (set_of z) e = e
follows (Restrict Range) (map_of x y) (map_of u w) e = absurd (false≢true e)

laid : (product : Product) (s t : SpaceForm) (layout : LayoutView) → layout_of product s t ≡ Some layout → may_follow product s t ≡ true
laid Universal s t layout e = refl
laid CrossSets s t layout e = refl
laid CrossMaps s t layout e = refl
laid (Restrict place) (set_of x) (set_of z) layout e = absurd cc
laid (Restrict place) (set_of x) (map_of u w) layout e = absurd cc
laid (Restrict place) (map_of x y) (map_of u w) layout e = absurd cc
laid (Restrict place) (map_of x y) (set_of z) layout e = by (is_same_form (form_at place x y) z) e
  where
    by : (b : Bool) → (if b then Some (restrict_view place x y) else None) ≡ Some layout → b ≡ true
    by true is = refl
    by false is = absurd cc

-- ---- as many are put together with it
one_less : (m n k : ℕ) → m ≡ k → n ≡ 0 → m ≡ n + k
one_less m n k e z = omega arith

pub partners_near : (product : Product) (s : SpaceForm) (others : List PieceView)
    → partners (are_together product) (spaces_of (filter (may_join product s) others)) s
    ≡ partners (are_together product) (spaces_of others) s
partners_near product s [] = refl
partners_near product s (p ∷ others) =
    by (may_follow product s p.space) refl (partners_near product s others)
    ∙ sym (sum_by-cons (pair_count (are_together product) s) p.space (spaces_of others))
  where
    rest : List PieceView
    rest = filter (may_join product s) others

    by : (b : Bool) → may_follow product s p.space ≡ b
        → partners (are_together product) (spaces_of rest) s ≡ partners (are_together product) (spaces_of others) s
        → partners (are_together product) (spaces_of (cond b (p ∷ rest) rest)) s
        ≡ pair_count (are_together product) s p.space + partners (are_together product) (spaces_of others) s
    by true is same =
        sum_by-cons (pair_count (are_together product) s) p.space (spaces_of rest) ∙ ap (λ n. pair_count (are_together product) s p.space + n) same
    by false is same =
        let apart = false_from_ne_true (are_together product s p.space) (λ e. false≢true (sym is ∙ follows product s p.space e)) in
        let zero : pair_count (are_together product) s p.space ≡ 0 = ap (λ (b : Bool). if b then 1 else 0) apart in
        one_less (partners (are_together product) (spaces_of rest) s) (pair_count (are_together product) s p.space)
        (partners (are_together product) (spaces_of others) s) same zero

-- ---- the same is made
-- what two pieces are together, where the product puts them together
module _ (product : Product) (s : SpaceForm) (P : KeptPiece → Type 0) (others : List PieceView) where
  pub any_near : Any P (map kept_piece (filter (may_join product s) others)) → Any P (map kept_piece others)
  any_near has =
      any_mapped P kept_piece others
      (Any-passed (may_join product s) (λ p. P (kept_piece p)) others
      (Any-unmapped P kept_piece (filter (may_join product s) others) has))

  pub near_any : ((b : KeptPiece) → P b → may_follow product s b.space ≡ true) → Any P (map kept_piece others)
      → Any P (map kept_piece (filter (may_join product s) others))
  near_any passes has =
      any_mapped P kept_piece (filter (may_join product s) others)
      (Any-pass (may_join product s) (λ p. P (kept_piece p)) (λ p h. passes (kept_piece p) h) others (Any-unmapped P kept_piece others has))

pub made_near : (product : Product) (params : List Name) (piece : PieceView) (others : List PieceView) (v : Valuation) (e : Element)
    → IsMadeWith product params (map kept_piece (filter (may_join product piece.space) others)) v e (kept_piece piece)
    ↔ IsMadeWith product params (map kept_piece others) v e (kept_piece piece)
made_near product params piece others v e =
    let P : KeptPiece → Type 0 = λ b. IsMadeOf product params v e (kept_piece piece) b in (
      (λ h. any_near product piece.space P others h),
      (λ h. near_any product piece.space P others (λ b made. laid product piece.space b.space made.layout made.forms) h),
    )

-- ---- the same is beside it
pub beside_near : (g : Gauge) (place : Place) (params : List Name) (piece : PieceView) (others : List PieceView) (systems : List System)
    → AreBeside g place params piece (filter (may_join (Restrict place) piece.space) others) systems
    → AreBeside g place params piece others systems
beside_near g place params piece others systems are = record {
  over = are.over;
  plain = λ none. are.plain (All-filter (may_join (Restrict place) piece.space) (λ other. other.system.definitions ≡ []) others none);
  holds = λ v e has.
      let one = are.holds v e has in
      let other = made_near (Restrict place) params piece others v e in
      ((λ h. other.0 (one.0 h)), (λ h. one.1 (other.1 h)));
}
