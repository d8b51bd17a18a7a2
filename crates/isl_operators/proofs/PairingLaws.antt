-- What operators make of two sets, and of two maps: where there are none, and where the spaces of the sets are too wide.
use Rattle.std.proofs.Common.{◌≡◌, ◌↔◌, ◌∙◌, inl, inr, refl, sym, ap₂, subst, List, Any, Contains, map}
use Rattle.std.proofs.Common.{Bool, IfErr, IfOk, IsTrue, Result, Ok, Err, arith}
use Rattle.std.specs.Result.{is_err}
use Rattle.std.proofs.lemmas.Bool.{false≢true}
use Rattle.isl_math.proofs.ListLaws.{Any-contains, Any-element, Any-unmapped}
use Rattle.isl_space.specs.Element.{Element}
use Rattle.isl_space.specs.Form.{Form, pair}
use Rattle.isl_space.specs.Space.{space_form_of}
use Rattle.isl_space.specs.SpaceForm.{SpaceForm, map_of, set_of, IsTooWideSpace, IsWellFormedSpace}
use Rattle.isl_space.specs.Valuation.{Valuation}
use Rattle.isl_space.specs.declared.fault.SpaceFault.{SpaceFault}
use Rattle.isl_space.specs.declared.fault.SpaceFault.TheVariants.{TooWide}
use Rattle.isl_space.specs.declared.space.Space.{Space}
use Rattle.isl_piece.specs.Piece.{PieceView}
use Rattle.isl_union.specs.KeptValue.{KeptPiece, KeptValue, Has}
use Rattle.isl_union.specs.Piece.{kept_piece}
use Rattle.isl_union.proofs.AlignedLaws.{Any-mapped}
use Rattle.isl_relation.specs.Point.{Point, HasPoint, Relates, map_element, set_element}
use Rattle.isl_relation.specs.Wide.{IsLiveIn, PairsTooWide}
use Rattle.isl_operators.specs.Made.{HasMaps, HasSets}
use Rattle.isl_operators.specs.Pairing.{IsWideOfSets, MapsForm, MapsHave, SetsForm, SetsHave}
use Rattle.isl_operators.specs.declared.pairing.Pairing.{Pairing}
use Rattle.isl_operators.specs.declared.pairing.Pairing.TheVariants as pairs
use Rattle.isl_operators.proofs.ElementLaws.{lives}
use Rattle.isl_operators.proofs.SpaceLaws.{IsOfMaps, IsOfSets}

-- ---- what is formed
are_of_sets : (pairing : Pairing) (s t formed : SpaceForm) → SetsForm pairing s t formed → IsOfSets s × IsOfSets t
are_of_sets pairs.Cross s t formed f = ((f.0, f.2), (f.1, f.3))
are_of_sets pairs.Less s t formed f = ((f.0, f.1), (f.0, f.2))
are_of_sets pairs.LessEqual s t formed f = ((f.0, f.1), (f.0, f.2))
are_of_sets pairs.Greater s t formed f = ((f.0, f.1), (f.0, f.2))
are_of_sets pairs.GreaterEqual s t formed f = ((f.0, f.1), (f.0, f.2))

are_of_maps : (pairing : Pairing) (s t formed : SpaceForm) → MapsForm pairing s t formed → IsOfMaps s × IsOfMaps t
are_of_maps pairs.Cross s t formed f = ((f.0, f.1, f.4), (f.2, f.3, f.5))
are_of_maps pairs.Less s t formed f = ((f.0, f.2, f.3), (f.1, f.2, f.4))
are_of_maps pairs.LessEqual s t formed f = ((f.0, f.2, f.3), (f.1, f.2, f.4))
are_of_maps pairs.Greater s t formed f = ((f.0, f.2, f.3), (f.1, f.2, f.4))
are_of_maps pairs.GreaterEqual s t formed f = ((f.0, f.2, f.3), (f.1, f.2, f.4))

-- ---- what is selected
abbrev pub TwoPoints : (Element → Type 0) → (Element → Type 0) → Type 0
TwoPoints S T = (x : Point) × (y : Point) × HasPoint S x × HasPoint T y

abbrev pub TwoPairs : (Element → Type 0) → (Element → Type 0) → Type 0
TwoPairs M N = (x : Point) × (y : Point) × (u : Point) × (w : Point) × Relates M x y × Relates N u w

two_points : (pairing : Pairing) (S T : Element → Type 0) (e : Element) → SetsHave pairing S T e → TwoPoints S T
two_points pairs.Cross S T e h = (h.0, h.1, h.2, h.3)
two_points pairs.Less S T e h = (h.0, h.1, h.2, h.3)
two_points pairs.LessEqual S T e h = (h.0, h.1, h.2, h.3)
two_points pairs.Greater S T e h = (h.0, h.1, h.2, h.3)
two_points pairs.GreaterEqual S T e h = (h.0, h.1, h.2, h.3)

two_pairs : (pairing : Pairing) (M N : Element → Type 0) (e : Element) → MapsHave pairing M N e → TwoPairs M N
two_pairs pairs.Cross M N e h = (h.0, h.1, h.2, h.3, h.4, h.5)
two_pairs pairs.Less M N e h = (h.0, h.2, h.1, h.3, h.4, h.5)
two_pairs pairs.LessEqual M N e h = (h.0, h.2, h.1, h.3, h.4, h.5)
two_pairs pairs.Greater M N e h = (h.0, h.2, h.1, h.3, h.4, h.5)
two_pairs pairs.GreaterEqual M N e h = (h.0, h.2, h.1, h.3, h.4, h.5)

-- ---- where one of two has none
module _ (pairing : Pairing) (left right : KeptValue) where
  pub no_sets_form : ¬ (HasSets left × HasSets right) → ¬ PairsTooWide (SetsForm pairing) left right
  no_sets_form never wide =
      let of = are_of_sets pairing wide.0 wide.1 wide.2 wide.5 in
      never ((of.0.0, subst (IsLiveIn left) of.0.1 wide.3), (of.1.0, subst (IsLiveIn right) of.1.1 wide.4))

  pub no_maps_form : ¬ (HasMaps left × HasMaps right) → ¬ PairsTooWide (MapsForm pairing) left right
  no_maps_form never wide =
      let of = are_of_maps pairing wide.0 wide.1 wide.2 wide.5 in
      never ((of.0.0, of.0.1, subst (IsLiveIn left) of.0.2 wide.3), (of.1.0, of.1.1, subst (IsLiveIn right) of.1.2 wide.4))

  module _ (v : Valuation) (e : Element) where
    pub no_sets_have : ¬ (HasSets left × HasSets right) → ¬ SetsHave pairing (Has left v) (Has right v) e
    no_sets_have never h =
        let two = two_points pairing (Has left v) (Has right v) e h in
        never (
          (two.0.form, lives left v (set_element two.0) (set_of two.0.form) two.2.has refl),
          (two.1.form, lives right v (set_element two.1) (set_of two.1.form) two.3.has refl),
        )

    pub no_maps_have : ¬ (HasMaps left × HasMaps right) → ¬ MapsHave pairing (Has left v) (Has right v) e
    no_maps_have never h =
        let two = two_pairs pairing (Has left v) (Has right v) e h in
        never (
          (two.0.form, two.1.form, lives left v (map_element two.0 two.1) (map_of two.0.form two.1.form) two.4.has refl),
          (two.2.form, two.3.form, lives right v (map_element two.2 two.3) (map_of two.2.form two.3.form) two.5.has refl),
        )

-- ---- one space that is too wide
narrow_never : (space : SpaceForm) → IsWellFormedSpace space → ¬ IsTooWideSpace space
narrow_never space formed (inl wide) = let n = formed.narrow.coordinates in omega (arith, n, wide)
narrow_never space formed (inr wide) = let n = formed.narrow.leaves in omega (arith, n, wide)

wide_map : (r : Result Space SpaceFault) (x y : Form) → IfOk r (λ s. space_form_of s ≡ map_of x y)
    → IfOk r (λ s. IsWellFormedSpace (space_form_of s)) → IfErr r (λ f. (f ≡ TooWide) × IsTooWideSpace (map_of x y))
    → IsTrue (is_err r) ↔ IsTooWideSpace (map_of x y)
wide_map (Ok s) x y made formed err = (
  (λ t. absurd (false≢true t)),
  (λ wide. absurd (narrow_never (map_of x y) (subst IsWellFormedSpace made formed) wide)),
)
wide_map (Err f) x y made formed err = ((λ t. err.1), (λ w. refl))

same_set : (y z : Form) → set_of y ≡ set_of z → y ≡ z
same_set y z e = cc

module _ (s t : SpaceForm) (r : Result Space SpaceFault) (b : Bool) (is : b ≡ is_err r)
    (formed : IfOk r (λ f. IsWellFormedSpace (space_form_of f))) where
  -- a pair is as wide as the map from its first form to its second
  pub wide_pair : (x y : Form) → s ≡ set_of x → t ≡ set_of y → IfOk r (λ f. space_form_of f ≡ map_of x y)
      → IfErr r (λ f. (f ≡ TooWide) × IsTooWideSpace (map_of x y)) → IsTrue b ↔ IsWideOfSets pairs.Cross s t
  wide_pair x y first second made err =
      let both = wide_map r x y made formed err in (
        (λ yes. (set_of (pair x y), (x, y, first, second, refl), both.0 (subst IsTrue is yes))),
        (λ k.
            let one = same_set x k.1.0 (sym first ∙ k.1.2) in
            let two = same_set y k.1.1 (sym second ∙ k.1.3) in
            let wide : IsTooWideSpace (map_of k.1.0 k.1.1) = subst IsTooWideSpace k.1.4 k.2 in
            subst IsTrue (sym is) (both.1 (subst IsTooWideSpace (ap₂ map_of (sym one) (sym two)) wide))),
      )

  pub wide_same : (x : Form) → s ≡ set_of x → t ≡ set_of x → IfOk r (λ f. space_form_of f ≡ map_of x x)
      → IfErr r (λ f. (f ≡ TooWide) × IsTooWideSpace (map_of x x)) → IsTrue b ↔ IsWideOfSets pairs.Less s t
  wide_same x first second made err =
      let both = wide_map r x x made formed err in (
        (λ yes. (map_of x x, (x, first, second, refl), both.0 (subst IsTrue is yes))),
        (λ k.
            let one = same_set x k.1.0 (sym first ∙ k.1.1) in
            subst IsTrue (sym is) (both.1 (subst IsTooWideSpace (k.1.3 ∙ ap₂ map_of (sym one) (sym one)) k.2))),
      )

-- ---- the spaces of values
live_in : (value : KeptValue) (pieces : List PieceView) (p : PieceView) → map kept_piece pieces ≡ value.pieces → Contains pieces p
    → IsLiveIn value p.space
live_in value pieces p is there =
    let P : KeptPiece → Type 0 = λ q. q.space ≡ p.space in
    subst (Any P) is (Any-mapped P kept_piece pieces (Any-contains (λ q. P (kept_piece q)) pieces p there refl))

live_piece : (value : KeptValue) (pieces : List PieceView) (s : SpaceForm) → map kept_piece pieces ≡ value.pieces → IsLiveIn value s
    → (p : PieceView) × Contains pieces p × (p.space ≡ s)
live_piece value pieces s is live =
    let P : KeptPiece → Type 0 = λ q. q.space ≡ s in
    Any-element (λ p. P (kept_piece p)) pieces (Any-unmapped P kept_piece pieces (subst (Any P) (sym is) live))

pub wide_exactly : (pairing : Pairing) (a b : KeptValue) (pieces others : List PieceView) → map kept_piece pieces ≡ a.pieces
    → map kept_piece others ≡ b.pieces
    → Any (λ p. Any (λ q. IsWideOfSets pairing p.space q.space) others) pieces ↔ PairsTooWide (SetsForm pairing) a b
wide_exactly pairing a b pieces others first second = (
  (λ h.
      let one = Any-element (λ p. Any (λ q. IsWideOfSets pairing p.space q.space) others) pieces h in
      let two = Any-element (λ q. IsWideOfSets pairing one.0.space q.space) others one.2 in (
        one.0.space,
        two.0.space,
        two.2.0,
        live_in a pieces one.0 first one.1,
        live_in b others two.0 second two.1,
        two.2.1,
        two.2.2,
      )),
  (λ k.
      let one = live_piece a pieces k.0 first k.3 in
      let two = live_piece b others k.1 second k.4 in
      let wide : IsWideOfSets pairing k.0 k.1 = (k.2, k.5, k.6) in
      Any-contains (λ p. Any (λ q. IsWideOfSets pairing p.space q.space) others) pieces one.0 one.1
      (Any-contains (λ q. IsWideOfSets pairing one.0.space q.space) others two.0 two.1
      (subst (λ (s : SpaceForm). IsWideOfSets pairing s two.0.space) (sym one.2)
      (subst (λ (t : SpaceForm). IsWideOfSets pairing k.0 t) (sym two.2) wide)))),
)
