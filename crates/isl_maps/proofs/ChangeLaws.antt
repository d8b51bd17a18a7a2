-- What an operation makes of the pieces of a value.
use Rattle.std.proofs.Common.{◌≡◌, ◌↔◌, inl, inr, refl, sym, ap, ◌∙◌, arith, subst, ℕ, ◌+◌, ◌-◌, ◌^◌, ◌<◌, ◌≤◌, Option, Some, None}
use Rattle.std.proofs.Common.{option_map, option_to_list, IfSome, List, [], ◌∷◌, ◌++◌}
use Rattle.std.proofs.Common.{All, Any, get_or, length, map, pow_mono, take, unsigned_abs}
use Rattle.std.proofs.lemmas.List.{get_or-map, length-map, map-append, take_more}
use Rattle.std.proofs.lemmas.List.Elements.{All-append, All-cons, All-head, All-map, All-nil}
use Rattle.isl_math.proofs.ListLaws.{All-parts, Any-cases, Any-first, Any-left, Any-none, Any-parts, Any-right, Any-weaker}
use Rattle.isl_meter.specs.Gauge.{Gauge, limit_of}
use Rattle.isl_space.specs.Element.{Element}
use Rattle.isl_space.specs.Name.{Name}
use Rattle.isl_space.specs.SpaceForm.{SpaceForm, IsWellFormedSpace}
use Rattle.isl_space.specs.Valuation.{Valuation}
use Rattle.isl_piece.specs.declared.system.System.{System}
use Rattle.isl_piece.specs.Normal.{IsNormal}
use Rattle.isl_piece.specs.Piece.{PieceView}
use Rattle.isl_piece.specs.System.{HoldsSystem, IsSystemWithin, free_columns}
use Rattle.isl_elim.specs.Sample.{IsNowhere}
use Rattle.isl_relation.specs.Pairs.{DomainMapHas, RangeMapHas, WrapHas, ZipHas}
use Rattle.isl_relation.specs.Point.{map_element, paired, set_element}
use Rattle.isl_relation.specs.Sets.{IdentityHas, UnwrapHas}
use Rattle.isl_union.specs.KeptValue.{KeptPiece, KeptValue, Has, HasElement, IsLive, columns_of, piece_system}
use Rattle.isl_union.specs.Live.{settled}
use Rattle.isl_union.specs.Numbers.{IsPieceUpTo}
use Rattle.isl_union.specs.Piece.{kept_piece, piece_of, IsPieceOf}
use Rattle.isl_union.specs.declared.fault.OpFault.{OpFault}
use Rattle.isl_union.specs.declared.fault.OpFault.TheVariants as op_fault
use Rattle.isl_union.proofs.AlignedLaws.{Any-mapped}
use Rattle.isl_union.proofs.LiveLaws.{settled_has, settled_up_to}
use Rattle.isl_union.proofs.SystemLaws.{columns_from, kept_from, made_sound, system_is, view_free}
use Rattle.isl_maps.specs.Change.{added_number, formed_space, selects, AreImages, FormsWide, IsChangedSystem, IsChangeFault, IsImageSystem}
use Rattle.isl_maps.specs.declared.change.Change.{Change}
use Rattle.isl_maps.specs.declared.change.Change.TheVariants.{Wrap, Unwrap, Zip, Identity, DomainMap, RangeMap}

-- ---- what is selected of several pieces
module _ (e : Element) where
  selects_more : (change : Change) (M N : Element → Type 0) → ((z : Element) → M z → N z) → selects change M e → selects change N e
  selects_more Wrap M N f h =
      (h.0, h.1, record { from = h.2.from; to = h.2.to; has = f (map_element h.0 h.1) h.2.has }, h.3)
  selects_more Unwrap M N f h =
      (h.0, h.1, h.2, h.3, record { point = h.4.point; has = f (set_element (paired h.0 h.1)) h.4.has }, h.5)
  selects_more Zip M N f h = (
    h.0,
    h.1,
    h.2,
    h.3,
    h.4,
    h.5,
    h.6,
    h.7,
    record { from = h.8.from; to = h.8.to; has = f (map_element (paired h.0 h.1) (paired h.2 h.3)) h.8.has },
    h.9,
  )
  selects_more Identity M N f h = (h.0, record { point = h.1.point; has = f (set_element h.0) h.1.has }, h.2)
  selects_more DomainMap M N f h =
      (h.0, h.1, record { from = h.2.from; to = h.2.to; has = f (map_element h.0 h.1) h.2.has }, h.3)
  selects_more RangeMap M N f h =
      (h.0, h.1, record { from = h.2.from; to = h.2.to; has = f (map_element h.0 h.1) h.2.has }, h.3)

  module _ (H : KeptPiece → Element → Type 0) (pieces : List KeptPiece) where
    abbrev Together : Element → Type 0
    Together z = Any (λ p. H p z) pieces

    selects_some : (change : Change) → selects change Together e → Any (λ p. selects change (H p) e) pieces
    selects_some Wrap h = Any-weaker (λ p. H p (map_element h.0 h.1)) (λ p. WrapHas (H p) e)
        (λ p has. (h.0, h.1, record { from = h.2.from; to = h.2.to; has = has }, h.3)) pieces h.2.has
    selects_some Unwrap h = Any-weaker (λ p. H p (set_element (paired h.0 h.1))) (λ p. UnwrapHas (H p) e)
        (λ p has. (h.0, h.1, h.2, h.3, record { point = h.4.point; has = has }, h.5)) pieces h.4.has
    selects_some Zip h = Any-weaker (λ p. H p (map_element (paired h.0 h.1) (paired h.2 h.3))) (λ p. ZipHas (H p) e)
        (λ p has. (h.0, h.1, h.2, h.3, h.4, h.5, h.6, h.7, record { from = h.8.from; to = h.8.to; has = has }, h.9)) pieces h.8.has
    selects_some Identity h = Any-weaker (λ p. H p (set_element h.0)) (λ p. IdentityHas (H p) e)
        (λ p has. (h.0, record { point = h.1.point; has = has }, h.2)) pieces h.1.has
    selects_some DomainMap h = Any-weaker (λ p. H p (map_element h.0 h.1)) (λ p. DomainMapHas (H p) e)
        (λ p has. (h.0, h.1, record { from = h.2.from; to = h.2.to; has = has }, h.3)) pieces h.2.has
    selects_some RangeMap h = Any-weaker (λ p. H p (map_element h.0 h.1)) (λ p. RangeMapHas (H p) e)
        (λ p has. (h.0, h.1, record { from = h.2.from; to = h.2.to; has = has }, h.3)) pieces h.2.has

    pub selects_any : (change : Change) → Any (λ p. selects change (H p) e) pieces ↔ selects change Together e
    selects_any change = (
      (λ a. selects_more change (H a.1) Together (λ z has. (a.0, a.1, a.2, a.3, has)) a.4),
      (λ h. selects_some change h),
    )

-- ---- images
module _ (change : Change) (params : List Name) where
  abbrev H : Valuation → Element → KeptPiece → Type 0
  H v e = HasElement params v e

  abbrev S : Valuation → Element → KeptPiece → Type 0
  S v e = λ piece. selects change (λ x. HasElement params v x piece) e

  abbrev IsPlain : KeptPiece → Type 0
  IsPlain piece = piece.definitions ≡ []

  pub one_image : (piece made : KeptPiece) → ((v : Valuation) (e : Element) → H v e made ↔ S v e piece)
      → (piece.definitions ≡ [] → made.definitions ≡ [])
      → ((most : ℕ) → added_number change ≤ most → IsPieceUpTo most piece → IsPieceUpTo most made)
      → AreImages change params (piece ∷ []) (made ∷ [])
  one_image piece made has plain small = record {
    elements = λ v e. (
      (λ a. elim (Any-cases (H v e) made [] a) [
        | inl h ↦ Any-first (S v e) piece [] ((has v e).0 h)
        | inr n ↦ absurd (Any-none (H v e) n)
      ]),
      (λ a. elim (Any-cases (S v e) piece [] a) [
        | inl s ↦ Any-first (H v e) made [] ((has v e).1 s)
        | inr n ↦ absurd (Any-none (S v e) n)
      ]),
    );
    definitions = λ h. All-cons IsPlain made [] (plain (All-head IsPlain piece [] h)) (All-nil IsPlain);
    numbers = λ most l h. All-cons (IsPieceUpTo most) made [] (small most l (All-head (IsPieceUpTo most) piece [] h))
        (All-nil (IsPieceUpTo most));
  }

  pub more_images : (pieces images others more : List KeptPiece) → AreImages change params pieces images
      → AreImages change params others more → AreImages change params (pieces ++ others) (images ++ more)
  more_images pieces images others more first second = record {
    elements = λ v e. (
      (λ a. elim (Any-parts (H v e) images more a) [
        | inl h ↦ Any-left (S v e) pieces others ((first.elements v e).0 h)
        | inr h ↦ Any-right (S v e) pieces others ((second.elements v e).0 h)
      ]),
      (λ a. elim (Any-parts (S v e) pieces others a) [
        | inl h ↦ Any-left (H v e) images more ((first.elements v e).1 h)
        | inr h ↦ Any-right (H v e) images more ((second.elements v e).1 h)
      ]),
    );
    definitions = λ h.
        let parts = All-parts IsPlain pieces others h in
        All-append IsPlain images more (first.definitions parts.0) (second.definitions parts.1);
    numbers = λ most l h.
        let parts = All-parts (IsPieceUpTo most) pieces others h in
        All-append (IsPieceUpTo most) images more (first.numbers most l parts.0) (second.numbers most l parts.1);
  }

  -- ---- the image of a piece
  module _ (g : Gauge) (piece : PieceView) (sound : IsPieceOf params piece) (formed : SpaceForm) (new : System)
      (are : IsImageSystem g change params piece.space formed piece.system new) where
    -- the system has a point
    pub image_live : ¬ IsNowhere (free_columns new) (HoldsSystem new)
    image_live nowhere = sound.kept.live (λ q l. are.live nowhere q (l ∙ sym (view_free params piece sound)))

    module _ (room : added_number change ≤ unsigned_abs (limit_of g)) where
      abbrev now : KeptPiece
      now = piece_of formed new

      now_within : IsSystemWithin g (piece_system params now)
      now_within = subst (IsSystemWithin g) (system_is params formed new (columns_from g params formed new (are.within room) are.free))
          (are.within room)

      now_live : IsLive params now
      now_live nowhere = image_live (λ q l. nowhere q (l ∙ are.free))

      pub settled_image : (made : KeptPiece) → made ≡ settled now → AreImages change params (kept_piece piece ∷ []) (made ∷ [])
      settled_image made is = rw is (one_image (kept_piece piece) (settled now)
          (λ v e.
          let own = settled_has g params now now_within now_live v e in
          let here = are.elements v e in ((λ h. here.0 (own.0 h)), (λ s. own.1 (here.1 s))))
          are.definitions
          (λ most l h.
          let small = are.numbers most l (record { rows = h.rows; definitions = h.definitions }) in
          settled_up_to g params now now_within now_live most (record { rows = small.rows; definitions = small.definitions })))

-- ---- pieces whose rows are normal already
pub normal_sound : (g : Gauge) (params : List Name) (space : SpaceForm) (s : System) (m : PieceView)
    → m ≡ record { space = space; system = s } → IsWellFormedSpace space → free_columns s ≡ columns_of params space → IsSystemWithin g s
    → IsNormal s.rows → ¬ IsNowhere (free_columns s) (HoldsSystem s) → IsPieceOf params m
normal_sound g params space s m is formed free within normal live =
    let columns = columns_from g params space s within free in
    let piece_within = subst (IsSystemWithin g) (system_is params space s columns) within in
    let kept = kept_from g params (piece_of space s) formed piece_within normal (λ n. live (λ q l. n q (l ∙ free))) in
    made_sound params m (piece_of space s) (ap kept_piece is) (ap (λ (p : PieceView). p.system.columns) is ∙ columns) kept

-- ---- what the code makes of a piece
pub image_system : (g : Gauge) (change : Change) (params : List Name) (piece : PieceView) (new : System) (formed : SpaceForm)
    → IsChangedSystem change params piece new → IsSystemWithin g piece.system → Some formed ≡ formed_space change piece.space
    → IsImageSystem g change params piece.space formed piece.system new
image_system g change params piece new formed changed within is =
    subst (λ (o : Option SpaceForm). IfSome o (λ f. IsImageSystem g change params piece.space f piece.system new)) (sym is)
    (changed g within)

-- the numbers that are added are within the limit
pub added_room : (change : Change) (g : Gauge) → 8 ≤ g.bits → added_number change ≤ unsigned_abs (limit_of g)
added_room change g bits = by change
  where
    one : 1 ≤ 2 ^ g.bits - 1
    one = let room : 2 ^ 8 ≤ 2 ^ g.bits = pow_mono bits in omega (arith, room)

    by : (change : Change) → added_number change ≤ unsigned_abs (limit_of g)
    by Wrap = omega arith
    by Unwrap = omega arith
    by Zip = omega arith
    by Identity = one
    by DomainMap = one
    by RangeMap = one

-- ---- one more piece
found_more : (found : Option PieceView) → map kept_piece (option_to_list found) ≡ option_to_list (option_map kept_piece found)
found_more None = refl
found_more (Some piece) = refl

module _ (pieces made pushed : List PieceView) (i : ℕ) (piece : PieceView) (found : Option PieceView)
    (is : pushed ≡ made ++ option_to_list found) where
  pub images_more : (change : Change) (params : List Name) → i < length pieces → piece ≡ get_or pieces i piece
      → AreImages change params (take i (map kept_piece pieces)) (map kept_piece made)
      → AreImages change params (kept_piece piece ∷ []) (option_to_list (option_map kept_piece found))
      → AreImages change params (take (i + 1) (map kept_piece pieces)) (map kept_piece pushed)
  images_more change params low at so_far one =
      let here : get_or (map kept_piece pieces) i (kept_piece piece) ≡ kept_piece piece =
      get_or-map kept_piece pieces i piece (kept_piece piece) low ∙ ap kept_piece (sym at) in
      let more : take (i + 1) (map kept_piece pieces) ≡ take i (map kept_piece pieces) ++ kept_piece piece ∷ [] =
      take_more (map kept_piece pieces) i (kept_piece piece) (rw (length-map pieces kept_piece) low) ∙
      ap (λ p. take i (map kept_piece pieces) ++ p ∷ []) here in
      let behind : map kept_piece pushed ≡ map kept_piece made ++ option_to_list (option_map kept_piece found) =
      ap (map kept_piece) is ∙ map-append kept_piece made (option_to_list found) ∙ ap (λ l. map kept_piece made ++ l) (found_more found) in
      rw (more, behind) (more_images change params (take i (map kept_piece pieces)) (map kept_piece made) (kept_piece piece ∷ [])
      (option_to_list (option_map kept_piece found)) so_far one)

  pub sound_more : (P : PieceView → Type 0) → All P made → IfSome found P → All P pushed
  sound_more P so_far one = rw is (All-append P made (option_to_list found) so_far (by found one))
    where
      by : (o : Option PieceView) → IfSome o P → All P (option_to_list o)
      by None h = All-nil P
      by (Some p) h = All-cons P p [] h (All-nil P)

-- ---- values
pub value_images : (change : Change) (a value : KeptValue) (params copied : List Name) (own images : List PieceView)
    → AreImages change params (map kept_piece own) (map kept_piece images) → params ≡ a.params → map kept_piece own ≡ a.pieces
    → value ≡ record { params = copied; pieces = map kept_piece images } → AreImages change a.params a.pieces value.pieces
value_images change a value params copied own images are names is made =
    let pieces = ap (λ (v : KeptValue). v.pieces) made in
    rw pieces (subst (λ (l : List KeptPiece). AreImages change a.params l (map kept_piece images)) is
    (subst (λ (l : List Name). AreImages change l (map kept_piece own) (map kept_piece images)) names are))

pub value_has : (change : Change) (a value : KeptValue) → value.params ≡ a.params → AreImages change a.params a.pieces value.pieces
    → (v : Valuation) (e : Element) → Has value v e ↔ selects change (Has a v) e
value_has change a value names are v e =
    let here = are.elements v e in
    let there = selects_any e (λ p z. HasElement a.params v z p) a.pieces change in (
      (λ h. there.0 (here.0 (subst (λ (l : List Name). Any (HasElement l v e) value.pieces) names h))),
      (λ s. subst (λ (l : List Name). Any (HasElement l v e) value.pieces) (sym names) (here.1 (there.1 s))),
    )

-- ---- faults
module _ (change : Change) (own : List PieceView) (a : KeptValue) (is : map kept_piece own ≡ a.pieces) where
  pub fault_value : (fault : OpFault) → IsChangeFault (Any (λ piece. FormsWide change piece.space) own) fault
      → IsChangeFault (Any (λ piece. FormsWide change piece.space) a.pieces) fault
  fault_value op_fault.TooWide h =
      let P : KeptPiece → Type 0 = λ p. FormsWide change p.space in
      subst (Any P) is (Any-mapped P kept_piece own h)
  fault_value (op_fault.Cut cut) h = h

  pub spaces_value : All (λ piece. ¬ FormsWide change piece.space) own → All (λ piece. ¬ FormsWide change piece.space) a.pieces
  spaces_value h = subst (All (λ (p : KeptPiece). ¬ FormsWide change p.space)) is
      (All-map (λ (p : KeptPiece). ¬ FormsWide change p.space) kept_piece own h)
