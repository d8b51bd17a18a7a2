-- The hulls of a value's spaces, one after another, and the value of them.
use Rattle.std.proofs.Common.{◌≡◌, ◌≢◌, ◌↔◌, ◌∙◌, refl, sym, ap, ap₂, subst, arith, ℕ, ◌+◌, ◌<◌, Bool, true, false, Option, Some, None}
use Rattle.std.proofs.Common.{option_to_list, List, [], ◌∷◌, ◌++◌, map, length, get_or, take, Any}
use Rattle.std.specs.Prelude.{AllPairs, unsigned_abs}
use Rattle.std.specs.List.{All, list_any}
use Rattle.std.proofs.lemmas.Bool.{false≢true}
use Rattle.std.proofs.lemmas.List.{append-nil, get_or-map, get_or-take, length-map, length-take-le, map-append, take_more}
use Rattle.std.proofs.lemmas.List.Elements.{All-map, All-nil, All-push, All-weaker}
use Rattle.std.proofs.lemmas.List.Folds.{Any-from_list_any, list_any-from_Any}
use Rattle.std.proofs.lemmas.List.Quantifiers.{all_pairs_push}
use Rattle.isl_math.proofs.ListLaws.{Any-first, Any-left, Any-right, Any-unmapped, Any-weaker}
use Rattle.isl_meter.specs.Gauge.{Gauge, limit_of}
use Rattle.isl_space.specs.Element.{Element}
use Rattle.isl_space.specs.Name.{Name}
use Rattle.isl_space.specs.Names.{IsParameterList}
use Rattle.isl_space.specs.Space.{space_form_of}
use Rattle.isl_space.specs.declared.space.Space.{Space}
use Rattle.isl_space.specs.SpaceForm.{SpaceForm, IsWellFormedSpace}
use Rattle.isl_space.specs.Valuation.{Valuation}
use Rattle.isl_piece.specs.declared.row.Row.{Row}
use Rattle.isl_piece.specs.declared.row.RowKind.TheVariants.{Zero}
use Rattle.isl_piece.specs.Piece.{PieceView}
use Rattle.isl_piece.specs.System.{IsSystemWithin}
use Rattle.isl_piece.proofs.FormedLaws.{system_within_kept}
use Rattle.isl_by_space.specs.Spaces.{AreSpacesOf}
use Rattle.isl_union.specs.KeptValue.{KeptPiece, KeptValue, Has, HasElement, IsKeptValue, columns_of}
use Rattle.isl_union.specs.Meet.{is_same_space}
use Rattle.isl_union.specs.Numbers.{IsPieceUpTo, IsWithinLimit}
use Rattle.isl_union.specs.Piece.{kept_piece, IsPieceOf}
use Rattle.isl_union.proofs.AlignedLaws.{Any-mapped}
use Rattle.isl_union.proofs.MeetLaws.{space_is, space_itself}
use Rattle.isl_union.proofs.PieceLaws.{IsKeptValue-from_pieces}
use Rattle.isl_union.proofs.SystemLaws.{piece_up_to, view_is}
use Rattle.isl_span.specs.Independent.{AreIndependent}
use Rattle.isl_hull.specs.Hull.{HasNoneIn, HullHas, IsHullOf}
use Rattle.isl_hull.specs.Values.{AreHullsIn, IsHullIn, IsHullPiece}

-- ---- later meters
piece_later : (g h : Gauge) (value : KeptValue) (piece : PieceView) → h.bits ≡ g.bits → IsHullPiece h value piece
    → IsHullPiece g value piece
piece_later g h value piece same p = record {
  sound = p.sound;
  within = system_within_kept g h piece.system same p.within;
  plain = p.plain;
  equations = p.equations;
  independent = p.independent;
  elements = p.elements;
}

pub found_later : (g h : Gauge) (value : KeptValue) (space : SpaceForm) (found : Option PieceView) → h.bits ≡ g.bits
    → IsHullIn h value space found
    → IsHullIn g value space found
found_later g h value space None same none = none
found_later g h value space (Some piece) same p = (p.0, piece_later g h value piece same p.1)

-- ---- one space after another
module _ (g : Gauge) (value : KeptValue) where
  pub hulls_none : AreHullsIn g value [] []
  hulls_none = record {
    each = All-nil (IsHullPiece g value);
    only = All-nil (λ (piece : PieceView). Any (λ space. space ≡ piece.space) []);
    once = λ i j d before within same. absurd (omega (arith, within));
    all = All-nil (λ (space : SpaceForm). ¬ HasNoneIn (Has value) space → Any (λ (piece : PieceView). piece.space ≡ space) []);
  }

  module _ (spaces : List SpaceForm) (hulls : List PieceView) (space : SpaceForm) (so_far : AreHullsIn g value spaces hulls)
      (new : ¬ Any (λ s. s ≡ space) spaces) where
    only_more : All (λ (piece : PieceView). Any (λ s. s ≡ piece.space) (spaces ++ space ∷ [])) hulls
    only_more = All-weaker (λ (piece : PieceView). Any (λ s. s ≡ piece.space) spaces)
        (λ piece. Any (λ s. s ≡ piece.space) (spaces ++ space ∷ []))
        (λ piece any. Any-left (λ s. s ≡ piece.space) spaces (space ∷ []) any) hulls so_far.only

    more : (found : Option PieceView) → IsHullIn g value space found
        → AreHullsIn g value (spaces ++ space ∷ []) (hulls ++ option_to_list found)
    more None none = subst (λ l. AreHullsIn g value (spaces ++ space ∷ []) l) (sym (append-nil hulls)) (record {
      each = so_far.each;
      only = only_more;
      once = so_far.once;
      all = All-push (λ s. ¬ HasNoneIn (Has value) s → Any (λ (piece : PieceView). piece.space ≡ s) hulls) spaces space so_far.all
          (λ some. absurd (some none));
    })
    more (Some piece) found = record {
      each = All-push (IsHullPiece g value) hulls piece so_far.each found.1;
      only = All-push (λ (p : PieceView). Any (λ s. s ≡ p.space) (spaces ++ space ∷ [])) hulls piece only_more
          (Any-right (λ s. s ≡ piece.space) spaces (space ∷ []) (Any-first (λ s. s ≡ piece.space) space [] (sym found.0)));
      once = all_pairs_push (λ (p q : PieceView). p.space ≢ q.space) hulls piece so_far.once
          (λ k d low same. new (Any-weaker (λ s. s ≡ (get_or hulls k d).space) (λ s. s ≡ space) (λ s is. is ∙ same ∙ found.0) spaces
          (so_far.only k d low)));
      all = All-push (λ s. ¬ HasNoneIn (Has value) s → Any (λ (p : PieceView). p.space ≡ s) (hulls ++ piece ∷ [])) spaces space
          (All-weaker (λ s. ¬ HasNoneIn (Has value) s → Any (λ (p : PieceView). p.space ≡ s) hulls)
          (λ s. ¬ HasNoneIn (Has value) s → Any (λ (p : PieceView). p.space ≡ s) (hulls ++ piece ∷ []))
          (λ s there some. Any-left (λ (p : PieceView). p.space ≡ s) hulls (piece ∷ []) (there some)) spaces so_far.all)
          (λ some. Any-right (λ (p : PieceView). p.space ≡ space) hulls (piece ∷ [])
          (Any-first (λ (p : PieceView). p.space ≡ space) piece [] found.0));
    }

  -- the next of distinct spaces
  pub hulls_more : (spaces : List Space) (i : ℕ) (space : Space) (hulls pushed : List PieceView) (found : Option PieceView)
      → i < length spaces
      → space ≡ get_or spaces i space → AllPairs (λ s t. s ≢ t) (map space_form_of spaces) → pushed ≡ hulls ++ option_to_list found
      → IsHullIn g value (space_form_of space) found → AreHullsIn g value (map space_form_of (take i spaces)) hulls
      → AreHullsIn g value (map space_form_of (take (i + 1) spaces)) pushed
  hulls_more spaces i space hulls pushed found low at once is told so_far =
      rw is (subst (λ l. AreHullsIn g value l (hulls ++ option_to_list found)) (sym split)
      (more (map space_form_of (take i spaces)) hulls (space_form_of space) so_far new found told))
    where
      split : map space_form_of (take (i + 1) spaces) ≡ map space_form_of (take i spaces) ++ space_form_of space ∷ []
      split = ap (map space_form_of) (take_more spaces i space low ∙ ap (λ (s : Space). take i spaces ++ s ∷ []) (sym at))
          ∙ map-append space_form_of (take i spaces) (space ∷ [])

      new : ¬ Any (λ s. s ≡ space_form_of space) (map space_form_of (take i spaces))
      new any =
          let some = Any-unmapped (λ s. s ≡ space_form_of space) space_form_of (take i spaces) any in
          earlier some.0 some.1 some.2 some.3 some.4
        where
          earlier : (k : ℕ) (s : Space) → k < length (take i spaces) → get_or (take i spaces) k s ≡ s
              → space_form_of s ≡ space_form_of space → ⊥
          earlier k s inside is_at same =
              let few = length-take-le i spaces (omega (arith, low)) in
              let long = length-map spaces space_form_of in
              let before : k < i = omega (arith, inside, few) in
              once k i (space_form_of space) before (rw long low)
              (get_or-map space_form_of spaces k s (space_form_of space) (omega (arith, before, low))
              ∙ ap space_form_of (sym (get_or-take i spaces k s before) ∙ is_at) ∙ same
              ∙ ap space_form_of at ∙ sym (get_or-map space_form_of spaces i space (space_form_of space) low))

-- ---- all spaces
module _ (g : Gauge) (params : List Name) (pieces hulls : List PieceView) (spaces : List SpaceForm) (names : IsParameterList params)
    (are : AreSpacesOf pieces spaces) where
  abbrev value : KeptValue
  value = record { params = params; pieces = map kept_piece pieces }

  abbrev hull : KeptValue
  hull = record { params = params; pieces = map kept_piece hulls }

  module _ (all : AreHullsIn g value spaces hulls) where
    pub all_sound : All (IsPieceOf params) hulls
    all_sound = All-weaker (IsHullPiece g value) (IsPieceOf params) (λ p h. h.sound) hulls all.each

    pub hull_kept : IsKeptValue hull
    hull_kept = IsKeptValue-from_pieces params hulls names all_sound

    pub hull_small : IsWithinLimit g hull
    hull_small = All-map (IsPieceUpTo (unsigned_abs (limit_of g))) kept_piece hulls (λ k d low.
        let h = all.each k d low in
        piece_up_to g params (kept_piece (get_or hulls k d))
        (subst (IsSystemWithin g) (view_is params (get_or hulls k d) h.sound) h.within))

    -- a space in which there are elements is one of them
    known : (space : SpaceForm) → ¬ HasNoneIn (Has value) space → Any (λ s. s ≡ space) spaces
    known space some = by (list_any (λ s. is_same_space s space) spaces) refl
      where
        here : Any (λ s. s ≡ space) spaces → list_any (λ s. is_same_space s space) spaces ≡ true
        here any = list_any-from_Any (λ s. is_same_space s space) spaces
            (Any-weaker (λ s. s ≡ space) (λ s. is_same_space s space ≡ true)
            (λ s is. ap (λ (t : SpaceForm). is_same_space t space) is ∙ space_itself space) spaces any)

        by : (b : Bool) → list_any (λ s. is_same_space s space) spaces ≡ b → Any (λ s. s ≡ space) spaces
        by true is = Any-weaker (λ s. is_same_space s space ≡ true) (λ s. s ≡ space) (λ s t. space_is s space t) spaces
            (Any-from_list_any (λ s. is_same_space s space) spaces is)
        by false is = absurd (some (λ v e has lies.
            let p = Any-unmapped (HasElement params v e) kept_piece pieces has in
            let there = are.all p.0 p.1 p.2 in
            false≢true (sym is ∙ here (Any-weaker (λ s. (get_or pieces p.0 p.1).space ≡ s) (λ s. s ≡ space)
            (λ s same. sym same ∙ ap (λ (q : PieceView). q.space) p.3 ∙ p.4.space ∙ lies) spaces there))))

    hull_elements : (v : Valuation) (e : Element) → Has hull v e ↔ HullHas value.params (Has value) v e
    hull_elements v e = (
      (λ has.
          let p = Any-unmapped (HasElement params v e) kept_piece hulls has in
          (((subst (IsHullPiece g value) p.3 (all.each p.0 p.1 p.2)).elements v e).0 p.4).1),
      (λ a.
          let there = known e.space a.live in
          let some = (subst (λ s. ¬ HasNoneIn (Has value) s → Any (λ (piece : PieceView). piece.space ≡ s) hulls) there.4
          (subst (λ s. ¬ HasNoneIn (Has value) s → Any (λ (piece : PieceView). piece.space ≡ s) hulls) there.3
          (all.all there.0 there.1 there.2)))
          a.live in
          Any-mapped (HasElement params v e) kept_piece hulls (
            some.0,
            some.1,
            some.2,
            some.3,
            ((subst (IsHullPiece g value) some.3 (all.each some.0 some.1 some.2)).elements v e).1 (some.4, a),
          )),
    )

    mapped_once : (hulls : List PieceView) → AllPairs (λ (p q : PieceView). p.space ≢ q.space) hulls
        → AllPairs (λ (p q : KeptPiece). p.space ≢ q.space) (map kept_piece hulls)
    mapped_once [] once i j d before within same = absurd (omega (arith, within))
    mapped_once (first ∷ rest) once i j d before within same =
        let all = first ∷ rest in
        let long = length-map all kept_piece in
        once i j first before (omega (arith, within, long))
        (sym (ap (λ (k : KeptPiece). k.space) (get_or-map kept_piece all i first d (omega (arith, within, before, long)))) ∙ same
        ∙ ap (λ (k : KeptPiece). k.space) (get_or-map kept_piece all j first d (omega (arith, within, long))))

    pub hull_exact : IsHullOf value hull
    hull_exact = record {
      params = refl;
      elements = hull_elements;
      spaces = mapped_once hulls all.once;
      plain = All-map (λ (p : KeptPiece). p.definitions ≡ []) kept_piece hulls (λ k d low. (all.each k d low).plain);
      equations = All-map (λ (p : KeptPiece). All (λ (r : Row). r.kind ≡ Zero) p.rows) kept_piece hulls
          (λ k d low. (all.each k d low).equations);
      independent = All-map (λ (p : KeptPiece). AreIndependent (columns_of params p.space) p.rows) kept_piece hulls
          (λ k d low. (all.each k d low).independent);
    }

    pub hull_contains : (v : Valuation) (e : Element) → Has value v e → Has hull v e
    hull_contains v e has = (hull_elements v e).1 (record {
      numbers = has.4.numbers;
      live = λ none. none v e has refl;
      zero = λ coefs constant long zero. zero v e has refl;
    })

-- ---- the spaces of pieces
pub space_formed : (params : List Name) (pieces : List PieceView) (spaces : List Space) (i : ℕ) (space : Space) → i < length spaces
    → space ≡ get_or spaces i space → AreSpacesOf pieces (map space_form_of spaces) → All (IsPieceOf params) pieces
    → IsWellFormedSpace (space_form_of space)
space_formed params pieces spaces i space low at are sound =
    let form = space_form_of space in
    let here = get_or-map space_form_of spaces i space form low ∙ ap space_form_of (sym at) in
    let p = subst (λ s. Any (λ (piece : PieceView). piece.space ≡ s) pieces) here
    (are.only i form (let long = length-map spaces space_form_of in rw long low)) in
    subst IsWellFormedSpace p.4 (subst (IsPieceOf params) p.3 (sound p.0 p.1 p.2)).kept.space

pub value_is : (value : KeptValue) (params : List Name) (pieces : List PieceView) → params ≡ value.params
    → map kept_piece pieces ≡ value.pieces
    → record { params = params; pieces = map kept_piece pieces } ≡ value
value_is own params pieces e f = ap₂
    (λ (l : List Name) (ps : List KeptPiece). let v : KeptValue = record { params = l; pieces = ps } in v) e f

-- the value of all hulls
pub record IsWhole (g : Gauge) (value result : KeptValue) : Type 0 where
  pub exact : IsHullOf value result
  pub contains : (v : Valuation) (e : Element) → Has value v e → Has result v e
  pub kept : IsKeptValue result
  pub small : IsWithinLimit g result

pub whole_hull : (g : Gauge) (value : KeptValue) (pieces hulls : List PieceView) (spaces : List SpaceForm) (result : KeptValue)
    → IsKeptValue value
    → map kept_piece pieces ≡ value.pieces → AreSpacesOf pieces spaces → AreHullsIn g value spaces hulls
    → result ≡ record { params = value.params; pieces = map kept_piece hulls } → IsWhole g value result
whole_hull g value pieces hulls spaces result kept content are all made =
    let params = value.params in
    let is = value_is value params pieces refl content in
    let names = kept.params in
    let own = subst (λ (v : KeptValue). AreHullsIn g v spaces hulls) (sym is) all in
    let hull : KeptValue = record { params = params; pieces = map kept_piece hulls } in
    subst (IsWhole g value) (sym made) (record {
      exact = subst (λ (v : KeptValue). IsHullOf v hull) is (hull_exact g params pieces hulls spaces names are own);
      contains = λ v e has. hull_contains g params pieces hulls spaces names are own v e
          (subst (λ (w : KeptValue). Has w v e) (sym is) has);
      kept = hull_kept g params pieces hulls spaces names are own;
      small = hull_small g params pieces hulls spaces names are own;
    })
