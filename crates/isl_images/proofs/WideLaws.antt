-- Joins whose space is too wide, and why operations on two values have no result.
use Rattle.std.proofs.Common.{◌≡◌, ◌↔◌, inl, inr, refl, sym, ap₂, ◌∙◌, subst, arith, ℕ, ◌<◌, List}
use Rattle.std.proofs.Common.{All, Any, Contains, length, get_or, map, Bool, IfErr, IfOk, IsTrue, Result, Ok, Err}
use Rattle.std.specs.Result.{is_err}
use Rattle.std.proofs.lemmas.Bool.{false≢true}
use Rattle.std.proofs.lemmas.List.{get_or-map, length-map}
use Rattle.isl_math.proofs.ListLaws.{Any-contains, Any-element, Any-unmapped}
use Rattle.isl_meter.specs.Gauge.{Gauge, IsCutBy}
use Rattle.isl_meter.proofs.CutLemmas.{IsCharged_refl, IsCutBy-charged}
use Rattle.isl_space.specs.Form.{Form}
use Rattle.isl_space.specs.Name.{Name}
use Rattle.isl_space.specs.SpaceForm.{SpaceForm, map_of, IsTooWideSpace, IsWellFormedSpace}
use Rattle.isl_piece.specs.Piece.{PieceView}
use Rattle.isl_elim.proofs.ProjectionLaws.{any_mapped}
use Rattle.isl_union.specs.declared.fault.OpFault.{OpFault}
use Rattle.isl_union.specs.declared.fault.OpFault.TheVariants as op_fault
use Rattle.isl_union.specs.Fault.{IsPlainFault}
use Rattle.isl_union.specs.KeptValue.{KeptPiece, KeptValue, HasElement}
use Rattle.isl_union.specs.Minus.{ArePiecesOver, IsAlignedPair}
use Rattle.isl_union.specs.Piece.{kept_piece}
use Rattle.isl_union.proofs.SystemLaws.{void_exactly}
use Rattle.isl_space.specs.Names.{AreDistinct}
use Rattle.isl_space.specs.Space.{space_form_of}
use Rattle.isl_space.specs.declared.fault.SpaceFault.{SpaceFault}
use Rattle.isl_space.specs.declared.fault.SpaceFault.TheVariants.{TooWide}
use Rattle.isl_space.specs.declared.space.Space.{Space}
use Rattle.isl_relation.specs.Formed.{FormsJoin}
use Rattle.isl_relation.specs.Together.{spaces_of}
use Rattle.isl_relation.specs.Wide.{IsFormFault, IsLiveIn, PairsTooWide}
use Rattle.isl_images.specs.declared.pairing.Pairing.TheVariants.{Join}
use Rattle.isl_images.specs.Pairing.{IsNarrowPair, IsWideJoin}
use Rattle.isl_images.proofs.ImageLaws.{same_forms}

-- ---- pieces whose join is too wide
abbrev spaces : KeptValue → List SpaceForm
spaces value = map (λ piece. piece.space) value.pieces

live_in : (value : KeptValue) (pieces : List PieceView) (p : PieceView) → spaces_of pieces ≡ spaces value → Contains pieces p
    → IsLiveIn value p.space
live_in value pieces p are there =
    let P : SpaceForm → Type 0 = λ s. s ≡ p.space in
    Any-unmapped P (λ piece. piece.space) value.pieces
    (subst (Any P) are (any_mapped P (λ q. q.space) pieces (Any-contains (λ q. P q.space) pieces p there refl)))

live_piece : (value : KeptValue) (pieces : List PieceView) (s : SpaceForm) → spaces_of pieces ≡ spaces value → IsLiveIn value s
    → (p : PieceView) × Contains pieces p × (p.space ≡ s)
live_piece value pieces s are live =
    let P : SpaceForm → Type 0 = λ t. t ≡ s in
    Any-element (λ p. P p.space) pieces
    (Any-unmapped P (λ q. q.space) pieces (subst (Any P) (sym are) (any_mapped P (λ piece. piece.space) value.pieces live)))

pub wide_exactly : (a b : KeptValue) (pieces others : List PieceView) → spaces_of pieces ≡ spaces a → spaces_of others ≡ spaces b
    → Any (λ p. Any (λ q. IsWideJoin p.space q.space) others) pieces ↔ PairsTooWide FormsJoin a b
wide_exactly a b pieces others first second = (
  (λ h.
      let one = Any-element (λ p. Any (λ q. IsWideJoin p.space q.space) others) pieces h in
      let two = Any-element (λ q. IsWideJoin one.0.space q.space) others one.2 in (
        one.0.space,
        two.0.space,
        two.2.0,
        live_in a pieces one.0 first one.1,
        live_in b others two.0 second two.1,
        two.2.1,
        two.2.2,
      )),
  (λ k.
      let one = live_piece a pieces k.0 first k.3 in
      let two = live_piece b others k.1 second k.4 in
      let wide : IsWideJoin k.0 k.1 = (k.2, k.5, k.6) in
      Any-contains (λ p. Any (λ q. IsWideJoin p.space q.space) others) pieces one.0 one.1
      (Any-contains (λ q. IsWideJoin one.0.space q.space) others two.0 two.1
      (subst (λ (s : SpaceForm). IsWideJoin s two.0.space) (sym one.2) (subst (λ (t : SpaceForm). IsWideJoin k.0 t) (sym two.2) wide)))),
)

-- ---- pieces over more parameters lie in the same spaces
contains_mapped : (pieces : List PieceView) (k : ℕ) (d : PieceView) → k < length pieces
    → Contains (map kept_piece pieces) (kept_piece (get_or pieces k d))
contains_mapped pieces k d l =
    (k, rw (length-map pieces kept_piece) l, get_or-map kept_piece pieces k d (kept_piece (get_or pieces k d)) l)

space_lives : (g : Gauge) (params : List Name) (value : KeptValue) (pieces : List PieceView) → AreDistinct params
    → ArePiecesOver g params value pieces → (k : ℕ) (d : PieceView) → k < length pieces → ¬ ¬ IsLiveIn value (get_or pieces k d).space
space_lives g params value pieces distinct over k d l none =
    let p = get_or pieces k d in
    (over.sound k d l).kept.live ((void_exactly params (kept_piece p) distinct).1 (λ v e h.
    let has = (over.elements v e).0 (Any-contains (HasElement params v e) (map kept_piece pieces) (kept_piece p)
    (contains_mapped pieces k d l) h) in
    let one = Any-element (HasElement value.params v e) value.pieces has in
    none (Any-contains (λ (q : KeptPiece). q.space ≡ p.space) value.pieces one.0 one.1 (one.2.space ∙ sym h.space))))

pub narrow_pairs : (g : Gauge) (a b : KeptValue) (params : List Name) (own others : List PieceView) → IsAlignedPair g a b params own others
    → ¬ PairsTooWide FormsJoin a b → All (λ p. All (λ q. IsNarrowPair Join p.space q.space) others) own
narrow_pairs g a b params own others pair never = λ k d l i z m wide.
    let distinct = pair.well_formed.distinct in
    space_lives g params a own distinct pair.own k d l (λ first.
    space_lives g params b others distinct pair.others i z m (λ second.
    never ((get_or own k d).space, (get_or others i z).space, wide.0, first, second, wide.1, wide.2)))

-- ---- faults
pub form_plain : (params : List Name) (Wide : Type 0) (g : Gauge) (fault : OpFault) → IsPlainFault params fault
    → IsFormFault params Wide g g fault
form_plain params Wide g op_fault.TooWide wide = (inl wide, refl)
form_plain params Wide g (op_fault.Cut cut) is = (inr is, subst (IsCutBy g g) (sym is) (IsCutBy-charged g g (IsCharged_refl g g refl)))

-- ---- one join
narrow_never : (space : SpaceForm) → IsWellFormedSpace space → ¬ IsTooWideSpace space
narrow_never space formed (inl wide) = let n = formed.narrow.coordinates in omega (arith, n, wide)
narrow_never space formed (inr wide) = let n = formed.narrow.leaves in omega (arith, n, wide)

wide_space : (r : Result Space SpaceFault) (x z : Form) → IfOk r (λ s. space_form_of s ≡ map_of x z)
    → IfOk r (λ s. IsWellFormedSpace (space_form_of s)) → IfErr r (λ f. (f ≡ TooWide) × IsTooWideSpace (map_of x z))
    → IsTrue (is_err r) ↔ IsTooWideSpace (map_of x z)
wide_space (Ok s) x z made formed err = (
  (λ t. absurd (false≢true t)),
  (λ wide. absurd (narrow_never (map_of x z) (subst IsWellFormedSpace made formed) wide)),
)
wide_space (Err f) x z made formed err = ((λ t. err.1), (λ w. refl))

pub wide_join : (s t : SpaceForm) (x y z : Form) → s ≡ map_of x y → t ≡ map_of y z → (r : Result Space SpaceFault) (b : Bool)
    → b ≡ is_err r → IfOk r (λ f. space_form_of f ≡ map_of x z) → IfOk r (λ f. IsWellFormedSpace (space_form_of f))
    → IfErr r (λ f. (f ≡ TooWide) × IsTooWideSpace (map_of x z)) → IsTrue b ↔ IsWideJoin s t
wide_join s t x y z first second r b is made formed err =
    let both = wide_space r x z made formed err in (
      (λ true_b. (map_of x z, (x, y, z, first, second, refl), both.0 (subst IsTrue is true_b))),
      (λ k.
          let one = same_forms x y k.1.0 k.1.1 (sym first ∙ k.1.3) in
          let two = same_forms y z k.1.1 k.1.2 (sym second ∙ k.1.4) in
          subst IsTrue (sym is) (both.1 (subst IsTooWideSpace (k.1.5 ∙ ap₂ map_of (sym one.0) (sym two.1)) k.2))),
    )
