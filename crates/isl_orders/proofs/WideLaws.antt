-- Spaces that are formed of two and too wide.
use Rattle.std.proofs.Common.{◌≡◌, ◌↔◌, inl, inr, refl, sym, ap₂, ◌∙◌, subst, arith, List, Any, Contains, All}
use Rattle.std.proofs.Common.{get_or, map, Bool, IfErr, IfOk, IsTrue, Result, Ok, Err}
use Rattle.std.specs.Result.{is_err}
use Rattle.std.proofs.lemmas.Bool.{false≢true}
use Rattle.std.proofs.lemmas.List.{get_or_default}
use Rattle.std.proofs.lemmas.List.Elements.{All-contains}
use Rattle.isl_math.proofs.ListLaws.{Any-contains, Any-element, Any-unmapped}
use Rattle.isl_meter.specs.Gauge.{Gauge}
use Rattle.isl_space.specs.Form.{Form}
use Rattle.isl_space.specs.Names.{AreDistinct}
use Rattle.isl_space.specs.Name.{Name}
use Rattle.isl_space.specs.Space.{space_form_of}
use Rattle.isl_space.specs.SpaceForm.{SpaceForm, map_of, set_of, IsTooWideSpace, IsWellFormedSpace}
use Rattle.isl_space.specs.declared.fault.SpaceFault.{SpaceFault}
use Rattle.isl_space.specs.declared.fault.SpaceFault.TheVariants.{TooWide}
use Rattle.isl_space.specs.declared.space.Space.{Space}
use Rattle.isl_piece.specs.Piece.{PieceView}
use Rattle.isl_union.specs.KeptValue.{KeptPiece, KeptValue, HasElement}
use Rattle.isl_union.specs.Minus.{ArePiecesOver, IsAlignedPair}
use Rattle.isl_union.specs.Piece.{kept_piece, IsPieceOf}
use Rattle.isl_union.proofs.AlignedLaws.{Any-mapped}
use Rattle.isl_union.proofs.SystemLaws.{void_exactly}
use Rattle.isl_relation.specs.Wide.{IsLiveIn, PairsTooWide}
use Rattle.isl_images.proofs.ImageLaws.{same_forms}
use Rattle.isl_orders.specs.declared.order.Operands.{Operands}
use Rattle.isl_orders.specs.declared.order.Operands.TheVariants.{Sets, Maps}
use Rattle.isl_orders.specs.Comparison.{Forms, IsWide}

-- ---- one space
narrow_never : (space : SpaceForm) → IsWellFormedSpace space → ¬ IsTooWideSpace space
narrow_never space formed (inl wide) = let n = formed.narrow.coordinates in omega (arith, n, wide)
narrow_never space formed (inr wide) = let n = formed.narrow.leaves in omega (arith, n, wide)

wide_space : (r : Result Space SpaceFault) (x z : Form) → IfOk r (λ s. space_form_of s ≡ map_of x z)
    → IfOk r (λ s. IsWellFormedSpace (space_form_of s)) → IfErr r (λ f. (f ≡ TooWide) × IsTooWideSpace (map_of x z))
    → IsTrue (is_err r) ↔ IsTooWideSpace (map_of x z)
wide_space (Ok s) x z made formed err = (
  (λ t. absurd (false≢true t)),
  (λ wide. absurd (narrow_never (map_of x z) (subst IsWellFormedSpace made formed) wide)),
)
wide_space (Err f) x z made formed err = ((λ t. err.1), (λ w. refl))

module _ (s t : SpaceForm) (r : Result Space SpaceFault) (b : Bool) (is : b ≡ is_err r)
    (formed : IfOk r (λ f. IsWellFormedSpace (space_form_of f))) where
  pub wide_same : (x : Form) → s ≡ set_of x → t ≡ set_of x → IfOk r (λ f. space_form_of f ≡ map_of x x)
      → IfErr r (λ f. (f ≡ TooWide) × IsTooWideSpace (map_of x x)) → IsTrue b ↔ IsWide Sets s t
  wide_same x first second made err =
      let both = wide_space r x x made formed err in (
        (λ yes. (map_of x x, (x, first, second, refl), both.0 (subst IsTrue is yes))),
        (λ k.
            let one = same_set x k.1.0 (sym first ∙ k.1.1) in
            subst IsTrue (sym is) (both.1 (subst IsTooWideSpace (k.1.3 ∙ ap₂ map_of (sym one) (sym one)) k.2))),
      )
    where
      same_set : (y z : Form) → set_of y ≡ set_of z → y ≡ z
      same_set y z e = cc

  pub wide_access : (x y z : Form) → s ≡ map_of x z → t ≡ map_of y z → IfOk r (λ f. space_form_of f ≡ map_of x y)
      → IfErr r (λ f. (f ≡ TooWide) × IsTooWideSpace (map_of x y)) → IsTrue b ↔ IsWide Maps s t
  wide_access x y z first second made err =
      let both = wide_space r x y made formed err in (
        (λ yes. (map_of x y, (x, y, z, first, second, refl), both.0 (subst IsTrue is yes))),
        (λ k.
            let one = same_forms x z k.1.0 k.1.2 (sym first ∙ k.1.3) in
            let two = same_forms y z k.1.1 k.1.2 (sym second ∙ k.1.4) in
            subst IsTrue (sym is) (both.1 (subst IsTooWideSpace (k.1.5 ∙ ap₂ map_of (sym one.0) (sym two.0)) k.2))),
      )

-- ---- the spaces of values
live_in : (value : KeptValue) (pieces : List PieceView) (p : PieceView) → map kept_piece pieces ≡ value.pieces → Contains pieces p
    → IsLiveIn value p.space
live_in value pieces p is there =
    let P : KeptPiece → Type 0 = λ q. q.space ≡ p.space in
    subst (Any P) is (Any-mapped P kept_piece pieces (Any-contains (λ q. P (kept_piece q)) pieces p there refl))

live_piece : (value : KeptValue) (pieces : List PieceView) (s : SpaceForm) → map kept_piece pieces ≡ value.pieces → IsLiveIn value s
    → (p : PieceView) × Contains pieces p × (p.space ≡ s)
live_piece value pieces s is live =
    let P : KeptPiece → Type 0 = λ q. q.space ≡ s in
    Any-element (λ p. P (kept_piece p)) pieces (Any-unmapped P kept_piece pieces (subst (Any P) (sym is) live))

pub wide_exactly : (operands : Operands) (a b : KeptValue) (pieces others : List PieceView) → map kept_piece pieces ≡ a.pieces
    → map kept_piece others ≡ b.pieces
    → Any (λ p. Any (λ q. IsWide operands p.space q.space) others) pieces ↔ PairsTooWide (Forms operands) a b
wide_exactly operands a b pieces others first second = (
  (λ h.
      let one = Any-element (λ p. Any (λ q. IsWide operands p.space q.space) others) pieces h in
      let two = Any-element (λ q. IsWide operands one.0.space q.space) others one.2 in (
        one.0.space,
        two.0.space,
        two.2.0,
        live_in a pieces one.0 first one.1,
        live_in b others two.0 second two.1,
        two.2.1,
        two.2.2,
      )),
  (λ k.
      let one = live_piece a pieces k.0 first k.3 in
      let two = live_piece b others k.1 second k.4 in
      let wide : IsWide operands k.0 k.1 = (k.2, k.5, k.6) in
      Any-contains (λ p. Any (λ q. IsWide operands p.space q.space) others) pieces one.0 one.1
      (Any-contains (λ q. IsWide operands one.0.space q.space) others two.0 two.1
      (subst (λ (s : SpaceForm). IsWide operands s two.0.space) (sym one.2)
      (subst (λ (t : SpaceForm). IsWide operands k.0 t) (sym two.2) wide)))),
)

-- pieces over more parameters lie in the spaces of the value's
space_lives : (g : Gauge) (params : List Name) (value : KeptValue) (pieces : List PieceView) (p : PieceView) → AreDistinct params
    → ArePiecesOver g params value pieces → Contains pieces p → ¬ ¬ IsLiveIn value p.space
space_lives g params value pieces p distinct over there none =
    let sound = All-contains (IsPieceOf params) pieces p over.sound there in
    sound.kept.live ((void_exactly params (kept_piece p) distinct).1 (λ v e h.
    let has = (over.elements v e).0 (Any-mapped (HasElement params v e) kept_piece pieces
    (Any-contains (λ q. HasElement params v e (kept_piece q)) pieces p there h)) in
    let one = Any-element (HasElement value.params v e) value.pieces has in
    none (Any-contains (λ (q : KeptPiece). q.space ≡ p.space) value.pieces one.0 one.1 (one.2.space ∙ sym h.space))))

pub narrow_pairs : (operands : Operands) (g : Gauge) (a b : KeptValue) (params : List Name) (own others : List PieceView)
    → IsAlignedPair g a b params own others → ¬ PairsTooWide (Forms operands) a b
    → All (λ p. All (λ q. ¬ IsWide operands p.space q.space) others) own
narrow_pairs operands g a b params own others pair never = λ k d l i z m wide.
    let distinct = pair.well_formed.distinct in
    let p = get_or own k d in
    let q = get_or others i z in
    space_lives g params a own p distinct pair.own (k, l, get_or_default own k p d l) (λ first.
    space_lives g params b others q distinct pair.others (i, m, get_or_default others i q z m) (λ second.
    never (p.space, q.space, wide.0, first, second, wide.1, wide.2)))
