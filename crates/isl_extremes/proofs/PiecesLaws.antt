-- The pieces of first elements, space after space.
use Rattle.std.proofs.Common.{◌≡◌, ◌↔◌, inl, inr, refl, sym, ap, ◌∙◌, subst, arith, ℕ, ◌+◌, ◌^◌, ◌<◌, List, [], ◌∷◌, ◌++◌}
use Rattle.std.proofs.Common.{length, get_or, map, take}
use Rattle.std.specs.List.{All, Any}
use Rattle.std.proofs.lemmas.List.{map-append, take_more}
use Rattle.std.proofs.lemmas.List.Elements.{All-append, All-cons, All-map, All-nil}
use Rattle.isl_math.proofs.ListLaws.{Any-first, Any-left, Any-none, Any-one, Any-parts, Any-right, Any-unmapped, Any-weaker}
use Rattle.isl_meter.specs.Gauge.{Gauge, IsCharged}
use Rattle.isl_meter.proofs.CutLemmas.{IsCharged_trans}
use Rattle.isl_space.specs.Element.{Element, IsElement}
use Rattle.isl_space.specs.Name.{Name}
use Rattle.isl_space.specs.Names.{IsParameterList}
use Rattle.isl_space.specs.Space.{space_form_of}
use Rattle.isl_space.specs.declared.space.Space.{Space}
use Rattle.isl_space.specs.SpaceForm.{SpaceForm, IsWellFormedSpace, map_of, set_of}
use Rattle.isl_space.specs.Valuation.{Valuation}
use Rattle.isl_piece.specs.declared.system.System.{System}
use Rattle.isl_piece.specs.Piece.{PieceView}
use Rattle.isl_piece.specs.System.{HoldsSystem, IsSystemWithin, free_columns}
use Rattle.isl_piece.proofs.FormedLaws.{system_within_kept}
use Rattle.isl_elim.specs.Sample.{IsNowhere}
use Rattle.isl_difference.specs.Split.{IsLive}
use Rattle.isl_union.specs.KeptValue.{HasElement, columns_of}
use Rattle.isl_union.specs.Minus.{piece_in, systems_in}
use Rattle.isl_union.specs.Piece.{kept_piece, piece_of, IsPieceOf}
use Rattle.isl_union.proofs.MinusLaws.{parts_have, systems_all, view_somewhere}
use Rattle.isl_union.proofs.SystemLaws.{columns_from, kept_from, system_is, view_free}
use Rattle.isl_relation.specs.Extremes.{FirstHas, HasFirst, IsFirstImage, IsFirstOf}
use Rattle.isl_relation.specs.Point.{Point, map_element, set_element}
use Rattle.isl_by_space.specs.Spaces.{AreSpacesOf}
use Rattle.isl_blocks.specs.declared.cases.Direction.{Direction}
use Rattle.isl_extremes.specs.Pieces.{elements_of_all, front_of, order_of, ordered_width, AreFirstIn, AreFirstSoFar, ArePlainPieces}
use Rattle.isl_extremes.specs.Pieces.{ThereIsFirst}
use Rattle.isl_extremes.specs.Systems.{AreFirst, ArePlain}
use Rattle.isl_extremes.proofs.PointLaws.{first_elements, order_at}

abbrev IsPlain : PieceView → Type 0
IsPlain p = p.system.definitions ≡ []

abbrev IsWithinNow : Gauge → PieceView → Type 0
IsWithinNow g p = IsSystemWithin g p.system

-- ---- the systems of a space
columns_parts : (params : List Name) (space : SpaceForm) → columns_of params space ≡ front_of params space + ordered_width space
columns_parts params (set_of form) = refl
columns_parts params (map_of from to) = omega arith

pub columns_fit : (params : List Name) (space : SpaceForm) → IsParameterList params → IsWellFormedSpace space
    → front_of params space + (ordered_width space + ordered_width space) < 2 ^ 64
columns_fit params (set_of form) names formed =
    let n = names.few in
    let c = formed.narrow.coordinates in
    omega (arith, n, c)
columns_fit params (map_of from to) names formed =
    let n = names.few in
    let c = formed.narrow.coordinates in
    omega (arith, n, c)

pub systems_plain : (g : Gauge) (params : List Name) (space : SpaceForm) (pieces : List PieceView) → ArePlainPieces g params pieces
    → ArePlain g (front_of params space + ordered_width space) (systems_in space pieces)
systems_plain g params space pieces are = record {
  live = systems_all (IsLive g (front_of params space + ordered_width space)) space pieces (λ k d l same.
      let p = get_or pieces k d in
      let sound = are.sound k d l in
      let free : free_columns p.system ≡ front_of params space + ordered_width space =
      view_free params p sound ∙ ap (columns_of params) same ∙ columns_parts params space in
      record {
        free = free;
        within = are.within k d l;
        normal = sound.kept.normal;
        somewhere = subst (λ n. ¬ IsNowhere n (HoldsSystem p.system)) free (view_somewhere params p sound);
      });
  plain = systems_all (λ s. s.definitions ≡ []) space pieces (λ k d l same. are.plain k d l);
}

-- ---- the pieces of one space
module _ (g : Gauge) (params : List Name) (d : Direction) (space : SpaceForm) (pieces : List PieceView) (formed : IsWellFormedSpace space)
    (left : List System) (first : AreFirst g (order_at params space d) (systems_in space pieces) left) where
  piece_sound : (s : System) → IsLive g (front_of params space + ordered_width space) s → IsPieceOf params (piece_in space s)
  piece_sound s live =
      let free : free_columns s ≡ columns_of params space = live.free ∙ sym (columns_parts params space) in
      let columns = columns_from g params space s live.within free in
      record {
        columns = columns;
        kept = kept_from g params (piece_of space s) formed (subst (IsSystemWithin g) (system_is params space s columns) live.within)
            live.normal
            (λ void. live.somewhere (λ point l. void point (l ∙ sym (columns_parts params space))));
      }

  pub first_one : (made : List PieceView) → made ≡ map (piece_in space) left → AreFirstIn g params d (space ∷ []) pieces made
  first_one made is = rw is (record {
    are = record {
      sound = All-map (IsPieceOf params) (piece_in space) left (λ k e l. piece_sound (get_or left k e) (first.are.live k e l));
      within = All-map (IsWithinNow g) (piece_in space) left (λ k e l. (first.are.live k e l).within);
      plain = All-map IsPlain (piece_in space) left (λ k e l. first.are.plain k e l);
    };
    elements = λ v e.
        let both = parts_have params v e space left in
        let M = elements_of_all params pieces v in
        let at : IsElement e → space ≡ e.space → AreFirst g (order_at params e.space d) (systems_in e.space pieces) left =
        λ numbers lies. subst (λ s. AreFirst g (order_at params s d) (systems_in s pieces) left) lies first in (
          (λ a.
              let h = both.0 a in (
                Any-first (λ s. e.space ≡ s) space [] (sym h.1),
                (first_elements params pieces d v g e.space e.coordinates left h.0 (at h.0 h.1)).0 h.2,
              )),
          (λ k.
              let lies = sym (Any-one (λ s. e.space ≡ s) space k.0) in
              let numbers = first_numbers d M (λ f has. element_numbers v f has) e k.1 in
              both.1 (numbers, lies, (first_elements params pieces d v g e.space e.coordinates left numbers (at numbers lies)).1 k.1)),
        );
  })
    where
      element_numbers : (v : Valuation) (f : Element) → elements_of_all params pieces v f → IsElement f
      element_numbers v f has =
          let some = Any-unmapped (HasElement params v f) kept_piece pieces has in
          some.4.numbers

      first_numbers : (d : Direction) (M : Element → Type 0) → ((f : Element) → M f → IsElement f) → (e : Element)
          → FirstHas (order_of d) M e → IsElement e
      first_numbers d M numbers e h = numbers e (elim h [
        | inl s ↦ subst M (sym s.2) s.1.0.has
        | inr m ↦ subst M (sym m.3) m.2.0.has
      ])

-- ---- one space after another
abbrev Lies : Element → SpaceForm → Type 0
Lies e s = e.space ≡ s

module _ (g h : Gauge) (params : List Name) (d : Direction) (pieces : List PieceView) where
  pub so_far_first : (made : List PieceView) → IsCharged g h → made ≡ [] → AreFirstSoFar g h params d [] pieces made
  so_far_first made charged is = rw is (record {
    charged = charged;
    first = record {
      are = record { sound = All-nil (IsPieceOf params); within = All-nil (IsWithinNow g); plain = All-nil IsPlain };
      elements = λ v e. (
        (λ a. absurd (Any-none (HasElement params v e) a)),
        (λ k. absurd (Any-none (Lies e) k.0)),
      );
    };
    there = All-nil (ThereIsFirst params d pieces);
  })

  pieces_plain_before : (made : List PieceView) → IsCharged g h → ArePlainPieces h params made → ArePlainPieces g params made
  pieces_plain_before made charged p = record {
    sound = p.sound;
    within = λ k e l. system_within_kept g h (get_or made k e).system (ap (λ (x : Gauge). x.bits) charged.same) (p.within k e l);
    plain = p.plain;
  }

  pub so_far_more : (k : Gauge) (spaces : List SpaceForm) (space : SpaceForm) (made more all : List PieceView) → all ≡ made ++ more
      → AreFirstSoFar g h params d spaces pieces made → IsCharged h k → AreFirstIn h params d (space ∷ []) pieces more
      → ThereIsFirst params d pieces space → AreFirstSoFar g k params d (spaces ++ space ∷ []) pieces all
  so_far_more k spaces space made more all is so_far charged one there = rw is (record {
    charged = IsCharged_trans g h k so_far.charged charged;
    first = record {
      are =
          let new = pieces_plain_before more so_far.charged one.are in
          let old = so_far.first.are in
          record {
            sound = All-append (IsPieceOf params) made more old.sound new.sound;
            within = All-append (IsWithinNow g) made more old.within new.within;
            plain = All-append IsPlain made more old.plain new.plain;
          };
      elements = λ v e.
          let H = HasElement params v e in
          let old = so_far.first.elements v e in
          let new = one.elements v e in
          rw (map-append kept_piece made more) (
            (λ a. elim (Any-parts H (map kept_piece made) (map kept_piece more) a) [
              | inl x ↦ let o = old.0 x in (Any-left (Lies e) spaces (space ∷ []) o.0, o.1)
              | inr y ↦ let n = new.0 y in (Any-right (Lies e) spaces (space ∷ []) n.0, n.1)
            ]),
            (λ b. elim (Any-parts (Lies e) spaces (space ∷ []) b.0) [
              | inl x ↦ Any-left H (map kept_piece made) (map kept_piece more) (old.1 (x, b.1))
              | inr y ↦ Any-right H (map kept_piece made) (map kept_piece more) (new.1 (y, b.1))
            ]),
          );
    };
    there = All-append (ThereIsFirst params d pieces) spaces (space ∷ []) so_far.there
        (All-cons (ThereIsFirst params d pieces) space [] there (All-nil (ThereIsFirst params d pieces)));
  })

-- ---- all spaces
module _ (params : List Name) (d : Direction) (pieces : List PieceView) (spaces : List SpaceForm) (are : AreSpacesOf pieces spaces) where
  space_is : PieceView → SpaceForm
  space_is p = p.space

  pub space_formed : All (IsPieceOf params) pieces → All IsWellFormedSpace spaces
  space_formed sound = λ k e l.
      let some = are.only k e l in
      let p = sound some.0 some.1 some.2 in
      subst IsWellFormedSpace some.4 (subst (λ (q : PieceView). IsWellFormedSpace q.space) some.3 p.kept.space)

  -- an element of the pieces lies in one of the spaces
  lies_there : (v : Valuation) (e : Element) → elements_of_all params pieces v e → Any (Lies e) spaces
  lies_there v e has =
      let some = Any-unmapped (HasElement params v e) kept_piece pieces has in
      let in_one = are.all some.0 some.1 some.2 in
      let same : (get_or pieces some.0 some.1).space ≡ e.space = ap (λ (q : PieceView). q.space) some.3 ∙ some.4.space in
      Any-weaker (λ s. (get_or pieces some.0 some.1).space ≡ s) (Lies e) (λ s h. sym same ∙ h) spaces in_one

  pub all_elements : (g h : Gauge) (made : List PieceView) → AreFirstSoFar g h params d spaces pieces made → (v : Valuation) (e : Element)
      → elements_of_all params made v e ↔ FirstHas (order_of d) (elements_of_all params pieces v) e
  all_elements g h made so_far v e =
      let both = so_far.first.elements v e in
      let M = elements_of_all params pieces v in (
        (λ a. (both.0 a).1),
        (λ first. both.1 (
          lies_there v e (elim first [
            | inl s ↦ subst M (sym s.2) s.1.0.has
            | inr m ↦ subst M (sym m.3) m.2.0.has
          ]),
          first,
        )),
      )

  -- where there is a first one in each of the spaces, there is one everywhere
  pub there_everywhere : All (ThereIsFirst params d pieces) spaces → (v : Valuation)
      → HasFirst (order_of d) (elements_of_all params pieces v)
  there_everywhere all v = record {
    sets = λ x has.
        let some = lies_there v (set_element x) has.has in
        (all some.0 some.1 some.2 v).sets x (some.4 ∙ sym some.3) has;
    maps = λ x y has.
        let some = lies_there v (map_element x y) has.has in
        (all some.0 some.1 some.2 v).maps x y (some.4 ∙ sym some.3) has;
  }

  pub there_in : (space : SpaceForm) → ((v : Valuation) → HasFirst (order_of d) (elements_of_all params pieces v))
      → ThereIsFirst params d pieces space
  there_in space all v = record { sets = λ x lies has. (all v).sets x has; maps = λ x y lies has. (all v).maps x y has }

-- ---- the same elements
module _ (d : Direction) (M N : Element → Type 0) (same : (f : Element) → M f ↔ N f) where
  set_same : (x : Point) → IsFirstOf (order_of d) M x → IsFirstOf (order_of d) N x
  set_same x first = (
    record { point = first.0.point; has = (same (set_element x)).0 first.0.has },
    λ z has. first.1 z (record { point = has.point; has = (same (set_element z)).1 has.has }),
  )

  image_same : (x y : Point) → IsFirstImage (order_of d) M x y → IsFirstImage (order_of d) N x y
  image_same x y first = (
    record { from = first.0.from; to = first.0.to; has = (same (map_element x y)).0 first.0.has },
    λ z has. first.1 z (record { from = has.from; to = has.to; has = (same (map_element x z)).1 has.has }),
  )

  pub first_same : (e : Element) → FirstHas (order_of d) M e → FirstHas (order_of d) N e
  first_same e h = elim h [
    | inl s ↦ inl (s.0, set_same s.0 s.1, s.2)
    | inr m ↦ inr (m.0, m.1, image_same m.0 m.1 m.2, m.3)
  ]

  pub there_same : HasFirst (order_of d) M → HasFirst (order_of d) N
  there_same there = record {
    sets = λ x has.
        let some = there.sets x (record { point = has.point; has = (same (set_element x)).1 has.has }) in
        (some.0, some.1, set_same some.0 some.2);
    maps = λ x y has.
        let some = there.maps x y (record { from = has.from; to = has.to; has = (same (map_element x y)).1 has.has }) in
        (some.0, some.1, image_same x some.0 some.2);
  }

-- what is within the limit at one time is so at a later one
pub pieces_plain_later : (g h : Gauge) (params : List Name) (made : List PieceView) → IsCharged g h → ArePlainPieces g params made
    → ArePlainPieces h params made
pieces_plain_later g h params made charged p = record {
  sound = p.sound;
  within = λ k e l. system_within_kept h g (get_or made k e).system (sym (ap (λ (x : Gauge). x.bits) charged.same)) (p.within k e l);
  plain = p.plain;
}

-- ---- the spaces as they are kept
pub one_at : {X : Type 0} (P : X → Type 0) (xs : List X) (i : ℕ) (x : X) → i < length xs → x ≡ get_or xs i x → All P xs → P x
one_at P xs i x low at all = subst P (sym at) (all i x low)

pub spaces_more : (spaces : List Space) (i : ℕ) (space : Space) → i < length spaces → space ≡ get_or spaces i space
    → map space_form_of (take (i + 1) spaces) ≡ map space_form_of (take i spaces) ++ space_form_of space ∷ []
spaces_more spaces i space low at =
    ap (map space_form_of) (take_more spaces i space low) ∙ map-append space_form_of (take i spaces) (get_or spaces i space ∷ [])
    ∙ ap (λ p. map space_form_of (take i spaces) ++ space_form_of p ∷ []) (sym at)
