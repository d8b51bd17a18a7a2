-- What is made with those pieces that can be put together with one is what is made with all.
use Rattle.std.proofs.Common.{◌≡◌, ◌↔◌, refl, sym, ap, ap₂, ◌∙◌, arith, ℕ, ◌+◌, Bool, true, false, cond, filter, List, [], ◌∷◌, Any}
use Rattle.std.proofs.Common.{if◌then◌else◌}
use Rattle.std.proofs.lemmas.Bool.{false≢true, false_from_ne_true}
use Rattle.std.proofs.lemmas.List.Sums.{sum_by-cons}
use Rattle.isl_space.specs.Element.{Element}
use Rattle.isl_space.specs.Form.{Form}
use Rattle.isl_space.specs.Name.{Name}
use Rattle.isl_space.specs.SpaceForm.{SpaceForm, set_of, map_of}
use Rattle.isl_space.specs.Valuation.{Valuation}
use Rattle.isl_piece.specs.Piece.{PieceView}
use Rattle.isl_elim.proofs.ProjectionLaws.{any_mapped}
use Rattle.isl_index.proofs.PassLaws.{Any-pass, Any-passed, none_pass}
use Rattle.isl_math.proofs.ListLaws.{Any-unmapped}
use Rattle.isl_union.specs.KeptValue.{KeptPiece, HasElement}
use Rattle.isl_union.specs.Piece.{kept_piece}
use Rattle.isl_relation.specs.Point.{map_element, set_element}
use Rattle.isl_relation.specs.Together.{pair_count, partners, spaces_of}
use Rattle.isl_relation.proofs.TogetherLaws.{form_itself}
use Rattle.isl_images.specs.declared.pairing.Pairing.{Pairing}
use Rattle.isl_images.specs.declared.pairing.Pairing.TheVariants.{Apply, Join}
use Rattle.isl_images.specs.Made.{elements_of, elements_of_all}
use Rattle.isl_images.specs.Pairing.{IsWideJoin, PairHas, are_paired, may_follow, may_pair}
use Rattle.isl_images.proofs.PairingLaws.{second_additive}

-- ---- nothing is put together with a set that comes first
pub none_near : (pairing : Pairing) (s : SpaceForm) (x : Form) (others : List PieceView) → s ≡ set_of x → [] ≡ filter (may_pair pairing s) others
none_near Apply s x others is = none_pass others ∙ ap (λ (t : SpaceForm). filter (may_pair Apply t) others) (sym is)
none_near Join s x others is = none_pass others ∙ ap (λ (t : SpaceForm). filter (may_pair Join t) others) (sym is)

-- ---- two spaces
follows : (pairing : Pairing) (s t : SpaceForm) → are_paired pairing s t ≡ true → may_follow pairing s t ≡ true
follows Apply (set_of x) t e = absurd (false≢true e)
follows Apply (map_of x y) (set_of z) e = e
follows Apply (map_of x y) (map_of u w) e = absurd (false≢true e)
follows Join (set_of x) t e = absurd (false≢true e)
follows Join (map_of x y) (set_of z) e = absurd (false≢true e)
follows Join (map_of x y) (map_of u w) e = e

-- ---- as many are put together with it
one_less : (m n k : ℕ) → m ≡ k → n ≡ 0 → m ≡ n + k
one_less m n k e z = omega arith

pub partners_near : (pairing : Pairing) (s : SpaceForm) (others : List PieceView)
    → partners (are_paired pairing) (spaces_of (filter (may_pair pairing s) others)) s
    ≡ partners (are_paired pairing) (spaces_of others) s
partners_near pairing s [] = refl
partners_near pairing s (p ∷ others) =
    by (may_follow pairing s p.space) refl (partners_near pairing s others)
    ∙ sym (sum_by-cons (pair_count (are_paired pairing) s) p.space (spaces_of others))
  where
    rest : List PieceView
    rest = filter (may_pair pairing s) others

    by : (b : Bool) → may_follow pairing s p.space ≡ b
        → partners (are_paired pairing) (spaces_of rest) s ≡ partners (are_paired pairing) (spaces_of others) s
        → partners (are_paired pairing) (spaces_of (cond b (p ∷ rest) rest)) s
        ≡ pair_count (are_paired pairing) s p.space + partners (are_paired pairing) (spaces_of others) s
    by true is same =
        sum_by-cons (pair_count (are_paired pairing) s) p.space (spaces_of rest) ∙ ap (λ n. pair_count (are_paired pairing) s p.space + n) same
    by false is same =
        let apart = false_from_ne_true (are_paired pairing s p.space) (λ e. false≢true (sym is ∙ follows pairing s p.space e)) in
        let zero : pair_count (are_paired pairing) s p.space ≡ 0 = ap (λ (b : Bool). if b then 1 else 0) apart in
        one_less (partners (are_paired pairing) (spaces_of rest) s) (pair_count (are_paired pairing) s p.space)
        (partners (are_paired pairing) (spaces_of others) s) same zero

-- ---- the same is made
module _ (params : List Name) (v : Valuation) (f : Element) (pairing : Pairing) (s : SpaceForm) (others : List PieceView) where
  abbrev H : KeptPiece → Type 0
  H = HasElement params v f

  has_near : may_follow pairing s f.space ≡ true → elements_of_all params others v f
      → elements_of_all params (filter (may_pair pairing s) others) v f
  has_near may has =
      any_mapped H kept_piece (filter (may_pair pairing s) others)
      (Any-pass (may_pair pairing s) (λ p. H (kept_piece p)) (λ p h. ap (may_follow pairing s) h.space ∙ may) others
      (Any-unmapped H kept_piece others has))

  near_has : elements_of_all params (filter (may_pair pairing s) others) v f → elements_of_all params others v f
  near_has has =
      any_mapped H kept_piece others
      (Any-passed (may_pair pairing s) (λ p. H (kept_piece p)) others
      (Any-unmapped H kept_piece (filter (may_pair pairing s) others) has))

pub pair_near : (pairing : Pairing) (params : List Name) (piece : PieceView) (others : List PieceView) (v : Valuation) (e : Element)
    → PairHas pairing (elements_of params piece v) (elements_of_all params (filter (may_pair pairing piece.space) others) v) e
    ↔ PairHas pairing (elements_of params piece v) (elements_of_all params others v) e
pair_near Apply params piece others v e = (
  (λ h. (second_additive Apply (elements_of params piece v)).grows
      (elements_of_all params (filter (may_pair Apply piece.space) others) v) (elements_of_all params others v)
      (λ f. near_has params v f Apply piece.space others) e h),
  (λ h.
      let may = ap (λ (t : SpaceForm). may_follow Apply t (set_of h.0.form)) h.2.has.space ∙ form_itself h.0.form in (
        h.0,
        h.1,
        h.2,
        record { point = h.3.point; has = has_near params v (set_element h.0) Apply piece.space others may h.3.has },
        h.4,
      )),
)
pair_near Join params piece others v e = (
  (λ h. (second_additive Join (elements_of params piece v)).grows
      (elements_of_all params (filter (may_pair Join piece.space) others) v) (elements_of_all params others v)
      (λ f. near_has params v f Join piece.space others) e h),
  (λ h.
      let may = ap (λ (t : SpaceForm). may_follow Join t (map_of h.1.form h.2.form)) h.3.has.space ∙ form_itself h.1.form in (
        h.0,
        h.1,
        h.2,
        h.3,
        record {
          from = h.4.from;
          to = h.4.to;
          has = has_near params v (map_element h.1 h.2) Join piece.space others may h.4.has;
        },
        h.5,
      )),
)

-- ---- joins that are too wide
pub wide_near : (s : SpaceForm) (others : List PieceView)
    → Any (λ q. IsWideJoin s q.space) (filter (may_pair Join s) others) ↔ Any (λ q. IsWideJoin s q.space) others
wide_near s others = (
  (λ a. Any-passed (may_pair Join s) (λ q. IsWideJoin s q.space) others a),
  (λ a. Any-pass (may_pair Join s) (λ q. IsWideJoin s q.space)
      (λ q wide. ap₂ (may_follow Join) wide.1.3 wide.1.4 ∙ form_itself wide.1.1) others a),
)
