-- Whether points have several times, from systems to values.
use Rattle.std.proofs.Common.{◌≡◌, ◌↔◌, inl, inr, refl, sym, ap, ◌∙◌, subst, arith, Bool, true, false, ℕ, zero, suc, ◌+◌, ◌<◌, ◌≤◌, ◌^◌}
use Rattle.std.proofs.Common.{List, [], ◌∷◌, length, get_or, map}
use Rattle.std.specs.Prelude.{IsTrue}
use Rattle.std.specs.List.{All, Any}
use Rattle.isl_math.specs.Order.{IsBefore}
use Rattle.isl_math.proofs.ListLaws.{All-zipped, Any-first, Any-later, Any-unmapped, Any-weaker, Any-zipped}
use Rattle.isl_math.proofs.OrderLaws.{IsBefore-cases, IsBefore_irrefl}
use Rattle.isl_difference.proofs.BoundLaws.{not_so}
use Rattle.isl_meter.specs.Gauge.{Gauge}
use Rattle.isl_space.specs.Element.{Element}
use Rattle.isl_space.specs.Form.{Form, width_of}
use Rattle.isl_space.specs.Name.{Name}
use Rattle.isl_space.specs.Shape.{form_of}
use Rattle.isl_space.specs.Limits.{most_coordinates, most_parameters}
use Rattle.isl_space.specs.Names.{IsParameterList}
use Rattle.isl_space.specs.SpaceForm.{SpaceForm, coordinates_of, set_of, map_of}
use Rattle.isl_space.specs.Valuation.{Valuation}
use Rattle.isl_piece.specs.Piece.{PieceView}
use Rattle.isl_union.specs.KeptValue.{KeptPiece, KeptValue, HasElement}
use Rattle.isl_union.specs.Piece.{kept_piece, IsPieceOf}
use Rattle.isl_relation.specs.Point.{Point, map_element, set_element}
use Rattle.isl_relation.specs.Wide.{IsLiveIn}
use Rattle.isl_schedule.specs.Differ.{AreSingle, IsOver, IsSingleWith}
use Rattle.isl_schedule.specs.Schedule.{domain_form, time_form, HasNested, HasOneTimeForm, HasSingleTimes, IsPair, IsVisitedAt}
use Rattle.isl_schedule.specs.Shapes.{HaveOneShape}
use Rattle.isl_schedule.specs.Visits.{AreVisitsOf, IsVisitOf, Visit}
use Rattle.isl_schedule.specs.declared.visits.Visits.{Visits}
use Rattle.isl_schedule.proofs.VisitLaws.{HasIt, points_same}

-- ---- more elements, more visits
visited_more : (P Q : Element → Type 0) → ((e : Element) → P e → Q e) → (x t : Point) → IsVisitedAt P x t → IsVisitedAt Q x t
visited_more P Q more x t (inl h) = inl (record { point = h.0.point; has = more (set_element x) h.0.has }, h.1)
visited_more P Q more x t (inr h) = inr (record { from = h.from; to = h.to; has = more (map_element x t) h.has })

any_kept : (P : KeptPiece → Type 0) (pieces : List PieceView) (i : ℕ) (d : PieceView) → i < length pieces
    → P (kept_piece (get_or pieces i d)) → Any P (map kept_piece pieces)
any_kept P [] i d low h = absurd (omega (arith, low))
any_kept P (p ∷ pieces) zero d low h = Any-first P (kept_piece p) (map kept_piece pieces) h
any_kept P (p ∷ pieces) (suc i) d low h =
    Any-later P (kept_piece p) (map kept_piece pieces) (any_kept P pieces i d (omega (arith, low)) h)

-- what is so of all is so of one
at_one : {X : Type 0} (P Q : X → Type 0) (xs : List X) (a : Any Q xs) → All P xs → P a.1
at_one P Q xs a all = subst P a.3 (all a.0 a.1 a.2)

module _ (params : List Name) (pieces : List PieceView) where
  abbrev pub HasAny : Valuation → Element → Type 0
  HasAny v element = Any (HasElement params v element) (map kept_piece pieces)

  abbrev Tells : PieceView → Type 0
  Tells piece = (v : Valuation) (x t : Point) → IsVisitedAt (HasIt params piece v) x t → IsVisitedAt (HasAny v) x t

  abbrev IsTold : Visits → Type 0
  IsTold visits = (v : Valuation) (x t : Point) → Visit params v x t visits → IsVisitedAt (HasAny v) x t

  all_tell : All Tells pieces
  all_tell = λ i d low v x t h.
      visited_more (HasIt params (get_or pieces i d) v) (HasAny v) (λ e has. any_kept (HasElement params v e) pieces i d low has) x t h

  somewhere : (v : Valuation) (x t : Point) → IsVisitedAt (HasAny v) x t → Any (λ piece. IsVisitedAt (HasIt params piece v) x t) pieces
  somewhere v x t (inl h) =
      Any-weaker (λ (p : PieceView). HasElement params v (set_element x) (kept_piece p))
      (λ (p : PieceView). IsVisitedAt (HasIt params p v) x t)
      (λ p has. inl (record { point = h.0.point; has = has }, h.1)) pieces
      (Any-unmapped (HasElement params v (set_element x)) kept_piece pieces h.0.has)
  somewhere v x t (inr h) =
      Any-weaker (λ (p : PieceView). HasElement params v (map_element x t) (kept_piece p))
      (λ (p : PieceView). IsVisitedAt (HasIt params p v) x t)
      (λ p has. inr (record { from = h.from; to = h.to; has = has })) pieces
      (Any-unmapped (HasElement params v (map_element x t)) kept_piece pieces h.has)

  module _ (g : Gauge) (visits : List Visits) (zipped : AreVisitsOf g params pieces visits) (shapes : HaveOneShape pieces) where
    all_told : All IsTold visits
    all_told =
        All-zipped (IsVisitOf g params) Tells IsTold (λ p one r told v x t h. told v x t ((r.visited v x t).1 h)) pieces visits zipped
        all_tell

    visited_by : (v : Valuation) (x t : Point) → IsVisitedAt (HasAny v) x t → Any (Visit params v x t) visits
    visited_by v x t h =
        Any-zipped (IsVisitOf g params) (λ (p : PieceView). IsVisitedAt (HasIt params p v) x t) (Visit params v x t)
        (λ p one r told. (r.visited v x t).0 told) pieces visits zipped (somewhere v x t h)

    pub same_times : All (λ one. All (λ other. form_of one.time.value ≡ form_of other.time.value) visits) visits
    same_times =
        All-zipped (IsVisitOf g params) (λ (p : PieceView). All (λ q. time_form p.space ≡ time_form q.space) pieces)
        (λ (one : Visits). All (λ other. form_of one.time.value ≡ form_of other.time.value) visits)
        (λ p one r all. All-zipped (IsVisitOf g params) (λ (q : PieceView). time_form p.space ≡ time_form q.space)
        (λ (other : Visits). form_of one.time.value ≡ form_of other.time.value)
        (λ q other k e. r.time ∙ e ∙ sym k.time) pieces visits zipped
        all) pieces visits zipped shapes

    abbrev Single : Type 0
    Single = (v : Valuation) (x t u : Point) → IsVisitedAt (HasAny v) x t → IsVisitedAt (HasAny v) x u → t ≡ u

    single_from : AreSingle params visits → Single
    single_from all v x t u h k =
        let a = visited_by v x t h in
        let b = visited_by v x u k in
        let P : Visits → Visits → Type 0 = λ one other. IsSingleWith params one other in
        let T : Visits → Visits → Type 0 = λ one other. form_of one.time.value ≡ form_of other.time.value in
        let from = at_one (P a.1) (Visit params v x u) visits b (at_one (λ one. All (P one) visits) (Visit params v x t) visits a all) in
        let back = at_one (P b.1) (Visit params v x t) visits a (at_one (λ one. All (P one) visits) (Visit params v x u) visits b all) in
        let time = at_one (T a.1) (Visit params v x u) visits b
        (at_one (λ one. All (T one) visits) (Visit params v x t) visits a same_times) in
        let domain : form_of a.1.domain.value ≡ form_of b.1.domain.value = sym a.4.domain ∙ b.4.domain in
        let form : t.form ≡ u.form = a.4.time ∙ time ∙ sym b.4.time in
        let long : length t.numbers ≡ length u.numbers = a.4.at ∙ ap width_of form ∙ sym b.4.at in
        elim (IsBefore-cases t.numbers u.numbers long) [
          | inl before ↦ absurd (from domain v x t u a.4 b.4 before)
          | inr rest ↦ elim rest [
            | inl same ↦ points_same u t form same
            | inr after ↦ absurd (back (sym domain) v x u t b.4 a.4 after)
          ]
        ]

    single_to : Single → AreSingle params visits
    single_to single = λ i d low j e deep domain v x t u h k before.
        IsBefore_irrefl t.numbers (subst (λ (p : Point). IsBefore t.numbers p.numbers)
        (sym (single v x t u (all_told i d low v x t h) (all_told j e deep v x u k))) before)

    pub single_exact : AreSingle params visits ↔ Single
    single_exact = (single_from, single_to)

-- ---- values
module _ (value : KeptValue) (pieces : List PieceView) (are : map kept_piece pieces ≡ value.pieces) where
  live : (s : SpaceForm) → IsLiveIn value s → Any (λ p. p.space ≡ s) pieces
  live s a = Any-unmapped (λ (piece : KeptPiece). piece.space ≡ s) kept_piece pieces
      (subst (λ (ps : List KeptPiece). Any (λ piece. piece.space ≡ s) ps) (sym are) a)

  lives : (i : ℕ) (d : PieceView) → i < length pieces → IsLiveIn value (get_or pieces i d).space
  lives i d low = subst (λ (ps : List KeptPiece). Any (λ piece. piece.space ≡ (get_or pieces i d).space) ps) are
      (any_kept (λ (piece : KeptPiece). piece.space ≡ (get_or pieces i d).space) pieces i d low refl)

  pub nested_exact : Any (λ piece. IsPair (domain_form piece.space)) pieces ↔ HasNested value
  nested_exact = (
    (λ a. (a.1.space, subst (λ (p : PieceView). IsLiveIn value p.space) a.3 (lives a.0 a.1 a.2), a.4)),
    (λ h.
        let p = live h.0 h.1 in
        (p.0, p.1, p.2, p.3, subst (λ (s : SpaceForm). IsPair (domain_form s)) (sym p.4) h.2)),
  )

  pub shapes_exact : HaveOneShape pieces ↔ HasOneTimeForm value
  shapes_exact = (
    (λ all s t a b.
        let p = live s a in
        let q = live t b in
        let e = at_one (λ (other : PieceView). time_form p.1.space ≡ time_form other.space) (λ (r : PieceView). r.space ≡ t) pieces q
        (at_one (λ (piece : PieceView). All (λ other. time_form piece.space ≡ time_form other.space) pieces)
        (λ (r : PieceView). r.space ≡ s) pieces p all) in
        sym (ap time_form p.4) ∙ e ∙ ap time_form q.4),
    (λ one i d low j e deep. one (get_or pieces i d).space (get_or pieces j e).space (lives i d low) (lives j e deep)),
  )

  pub times_exact : (g : Gauge) (visits : List Visits) → AreVisitsOf g value.params pieces visits → HaveOneShape pieces
      → AreSingle value.params visits ↔ HasSingleTimes value
  times_exact g visits zipped shapes =
      subst (λ (ps : List KeptPiece). AreSingle value.params visits ↔ ((v : Valuation) (x t u : Point)
      → IsVisitedAt (λ element. Any (HasElement value.params v element) ps) x t
      → IsVisitedAt (λ element. Any (HasElement value.params v element) ps) x u → t ≡ u)) are
      (single_exact value.params pieces g visits zipped shapes)

-- ---- shapes of pieces
-- all have one where all have that of the first
pub first_shape : (pieces : List PieceView) (first : PieceView) (form : Form) (b : Bool) → 0 < length pieces → first ≡ get_or pieces 0 first
    → form ≡ time_form first.space → IsTrue b ↔ All (λ piece. time_form piece.space ≡ form) pieces → IsTrue b ↔ HaveOneShape pieces
first_shape pieces first form b some is same told = (
  (λ t i d low j e deep. told.0 t i d low ∙ sym (told.0 t j e deep)),
  (λ one. told.1 (λ i d low. one i d low 0 first some ∙ sym (ap (λ (p : PieceView). time_form p.space) is) ∙ sym same)),
)

pub no_shape : (pieces : List PieceView) → length pieces ≡ 0 → HaveOneShape pieces
no_shape pieces none = λ i d low. absurd (omega (arith, low, none))

-- ---- how many columns visits have
forms_wide : (s : SpaceForm) (n : ℕ) → coordinates_of s ≤ n → (width_of (domain_form s) ≤ n) × (width_of (time_form s) ≤ n)
forms_wide (set_of a) n most = (most, most)
forms_wide (map_of a b) n most = (omega (arith, most), omega (arith, most))

visit_over : (g : Gauge) (params : List Name) → length params ≤ most_parameters → (p : PieceView) (visits : Visits)
    → IsVisitOf g params p visits → IsPieceOf params p → IsOver g params visits
visit_over g params few p visits r sound =
    let both = forms_wide p.space most_coordinates sound.kept.space.narrow.coordinates in
    let domain = ap width_of r.domain in
    let time = ap width_of r.time in
    record {
      within = r.within;
      free = r.free;
      narrow = small (length params) (width_of (form_of visits.domain.value)) (width_of (form_of visits.time.value)) few
          (omega (arith, both.0, domain)) (omega (arith, both.1, time));
    }
  where
    small : (n d t : ℕ) → n ≤ most_parameters → d ≤ most_coordinates → t ≤ most_coordinates → n + (d + (t + (t + 0))) < 2 ^ 32
    small n d t a b e = omega (arith, a, b, e)

pub all_over : (g : Gauge) (params : List Name) → IsParameterList params → (pieces : List PieceView) (visits : List Visits)
    → AreVisitsOf g params pieces visits → All (IsPieceOf params) pieces → All (IsOver g params) visits
all_over g params list pieces visits zipped sound =
    All-zipped (IsVisitOf g params) (IsPieceOf params) (IsOver g params) (visit_over g params list.few) pieces visits zipped sound

-- ---- the answer
module _ (value : KeptValue) (pieces : List PieceView) (are : map kept_piece pieces ≡ value.pieces) where
  pub flat_told : (b : Bool) → b ≡ false → IsTrue b ↔ Any (λ piece. IsPair (domain_form piece.space)) pieces → ¬ HasNested value
  flat_told b failed told n =
      not_so (Any (λ piece. IsPair (domain_form piece.space)) pieces) b failed told ((nested_exact value pieces are).1 n)

  pub nested_told : (b : Bool) → b ≡ true → IsTrue b ↔ Any (λ piece. IsPair (domain_form piece.space)) pieces → HasNested value
  nested_told b passed told = (nested_exact value pieces are).0 (told.0 passed)

  pub form_told : (b : Bool) → b ≡ true → IsTrue b ↔ HaveOneShape pieces → HasOneTimeForm value
  form_told b passed told = (shapes_exact value pieces are).0 (told.0 passed)

  pub forms_told : (b : Bool) → b ≡ false → IsTrue b ↔ HaveOneShape pieces → ¬ HasOneTimeForm value
  forms_told b failed told one = not_so (HaveOneShape pieces) b failed told ((shapes_exact value pieces are).1 one)
