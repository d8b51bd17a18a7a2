-- Accesses whose source and sink form a space that is too wide.
use Rattle.std.proofs.Common.{◌≡◌, ◌↔◌, inl, inr, refl, sym, ap₂, ◌∙◌, subst, arith, ℕ, ◌<◌, List, All, Any, Contains, length, get_or}
use Rattle.std.proofs.Common.{map}
use Rattle.std.proofs.Common.{Bool, IfErr, IfOk, IsTrue, Result, Ok, Err}
use Rattle.std.specs.Result.{is_err}
use Rattle.std.proofs.lemmas.Bool.{false≢true}
use Rattle.std.proofs.lemmas.List.{get_or_default}
use Rattle.isl_math.proofs.ListLaws.{Any-contains, Any-element, Any-unmapped}
use Rattle.isl_meter.specs.Gauge.{Gauge}
use Rattle.isl_space.specs.Form.{Form}
use Rattle.isl_space.specs.Name.{Name}
use Rattle.isl_space.specs.Space.{space_form_of}
use Rattle.isl_space.specs.SpaceForm.{SpaceForm, map_of, IsTooWideSpace, IsWellFormedSpace}
use Rattle.isl_space.specs.declared.fault.SpaceFault.{SpaceFault}
use Rattle.isl_space.specs.declared.fault.SpaceFault.TheVariants.{TooWide}
use Rattle.isl_space.specs.declared.space.Space.{Space}
use Rattle.isl_piece.specs.Piece.{PieceView}
use Rattle.isl_elim.proofs.ProjectionLaws.{any_mapped}
use Rattle.isl_union.specs.KeptValue.{KeptPiece, KeptValue}
use Rattle.isl_union.specs.Minus.{ArePiecesOver}
use Rattle.isl_union.specs.Piece.{kept_piece}
use Rattle.isl_relation.specs.Formed.{FormsAccess}
use Rattle.isl_relation.specs.Wide.{IsLiveIn, PairsTooWide}
use Rattle.isl_images.proofs.ImageLaws.{same_forms}
use Rattle.isl_precedence.specs.WideAccess.{IsWideAccess}

-- ---- values
live_in : (value : KeptValue) (pieces : List PieceView) (p : PieceView) → map kept_piece pieces ≡ value.pieces → Contains pieces p
    → IsLiveIn value p.space
live_in value pieces p is there =
    let P : KeptPiece → Type 0 = λ q. q.space ≡ p.space in
    subst (Any P) is (any_mapped P kept_piece pieces (Any-contains (λ q. P (kept_piece q)) pieces p there refl))

live_piece : (value : KeptValue) (pieces : List PieceView) (s : SpaceForm) → map kept_piece pieces ≡ value.pieces → IsLiveIn value s
    → (p : PieceView) × Contains pieces p × (p.space ≡ s)
live_piece value pieces s is live =
    let P : KeptPiece → Type 0 = λ q. q.space ≡ s in
    Any-element (λ p. P (kept_piece p)) pieces (Any-unmapped P kept_piece pieces (subst (Any P) (sym is) live))

pub wide_exactly : (a b : KeptValue) (pieces others : List PieceView) → map kept_piece pieces ≡ a.pieces → map kept_piece others ≡ b.pieces
    → Any (λ p. Any (λ q. IsWideAccess p.space q.space) others) pieces ↔ PairsTooWide FormsAccess a b
wide_exactly a b pieces others first second = (
  (λ h.
      let one = Any-element (λ p. Any (λ q. IsWideAccess p.space q.space) others) pieces h in
      let two = Any-element (λ q. IsWideAccess one.0.space q.space) others one.2 in (
        one.0.space,
        two.0.space,
        two.2.0,
        live_in a pieces one.0 first one.1,
        live_in b others two.0 second two.1,
        two.2.1,
        two.2.2,
      )),
  (λ k.
      let one = live_piece a pieces k.0 first k.3 in
      let two = live_piece b others k.1 second k.4 in
      let wide : IsWideAccess k.0 k.1 = (k.2, k.5, k.6) in
      Any-contains (λ p. Any (λ q. IsWideAccess p.space q.space) others) pieces one.0 one.1
      (Any-contains (λ q. IsWideAccess one.0.space q.space) others two.0 two.1
      (subst (λ (s : SpaceForm). IsWideAccess s two.0.space) (sym one.2) (subst (λ (t : SpaceForm). IsWideAccess k.0 t) (sym two.2)
      wide)))),
)

-- pieces over more parameters lie in the same spaces
space_lives : (g : Gauge) (params : List Name) (value : KeptValue) (pieces : List PieceView) → ArePiecesOver g params value pieces
    → (k : ℕ) (d : PieceView) → k < length pieces → IsLiveIn value (get_or pieces k d).space
space_lives g params value pieces over k d l =
    let p = get_or pieces k d in
    let P : SpaceForm → Type 0 = λ s. s ≡ p.space in
    let there = any_mapped P (λ (q : PieceView). q.space) pieces (Any-contains (λ (q : PieceView). P q.space) pieces p (
      k,
      l,
      same k d
          l,
    ) refl) in
    Any-unmapped P (λ (q : KeptPiece). q.space) value.pieces (subst (Any P) over.spaces there)
  where
    same : (i : ℕ) (z : PieceView) → i < length pieces → get_or pieces i (get_or pieces i z) ≡ get_or pieces i z
    same i z low = get_or_default pieces i (get_or pieces i z) z low

pub narrow_pairs : (g : Gauge) (a b : KeptValue) (params : List Name) (own others : List PieceView) → ArePiecesOver g params a own
    → ArePiecesOver g params b others → ¬ PairsTooWide FormsAccess a b → All (λ p. All (λ q. ¬ IsWideAccess p.space q.space) others) own
narrow_pairs g a b params own others first second never = λ k d l i z m wide.
    never (
      (get_or own k d).space,
      (get_or others i z).space,
      wide.0,
      space_lives g params a own first k d l,
      space_lives g params b others second i z m,
      wide.1,
      wide.2,
    )

-- ---- one pair
narrow_never : (space : SpaceForm) → IsWellFormedSpace space → ¬ IsTooWideSpace space
narrow_never space formed (inl wide) = let n = formed.narrow.coordinates in omega (arith, n, wide)
narrow_never space formed (inr wide) = let n = formed.narrow.leaves in omega (arith, n, wide)

wide_space : (r : Result Space SpaceFault) (x y : Form) → IfOk r (λ s. space_form_of s ≡ map_of x y)
    → IfOk r (λ s. IsWellFormedSpace (space_form_of s)) → IfErr r (λ f. (f ≡ TooWide) × IsTooWideSpace (map_of x y))
    → IsTrue (is_err r) ↔ IsTooWideSpace (map_of x y)
wide_space (Ok s) x y made formed err = (
  (λ t. absurd (false≢true t)),
  (λ wide. absurd (narrow_never (map_of x y) (subst IsWellFormedSpace made formed) wide)),
)
wide_space (Err f) x y made formed err = ((λ t. err.1), (λ w. refl))

pub wide_access : (s t : SpaceForm) (x y a : Form) → s ≡ map_of x a → t ≡ map_of y a → (r : Result Space SpaceFault) (b : Bool)
    → b ≡ is_err r → IfOk r (λ f. space_form_of f ≡ map_of x y) → IfOk r (λ f. IsWellFormedSpace (space_form_of f))
    → IfErr r (λ f. (f ≡ TooWide) × IsTooWideSpace (map_of x y)) → IsTrue b ↔ IsWideAccess s t
wide_access s t x y a first second r b is made formed err =
    let both = wide_space r x y made formed err in (
      (λ true_b. (map_of x y, (x, y, a, first, second, refl), both.0 (subst IsTrue is true_b))),
      (λ k.
          let one = same_forms x a k.1.0 k.1.2 (sym first ∙ k.1.3) in
          let two = same_forms y a k.1.1 k.1.2 (sym second ∙ k.1.4) in
          subst IsTrue (sym is) (both.1 (subst IsTooWideSpace (k.1.5 ∙ ap₂ map_of (sym one.0) (sym two.0)) k.2))),
    )
