-- Maps without what sets have at one of their places.
use Rattle.std.proofs.Common.{◌≡◌, ◌↔◌, inl, inr, refl, sym, ap, ap₂, ◌∙◌, arith, subst, ℕ, ◌+◌, ◌<◌, ◌≤◌, None, Some, List, []}
use Rattle.std.proofs.Common.{◌∷◌, ◌++◌, All, Any, get_or, length, map, take}
use Rattle.std.proofs.lemmas.List.{take_all, take_more}
use Rattle.std.proofs.lemmas.List.Elements.{All-map, All-nil, All-push}
use Rattle.std.proofs.lemmas.Option.{none-some, same_Some}
use Rattle.isl_math.proofs.ListLaws.{All-last, Any-contains, Any-element, Any-first, Any-left, Any-none, Any-one, Any-parts, Any-right}
use Rattle.isl_meter.specs.Gauge.{Gauge}
use Rattle.isl_space.specs.Element.{Element, IsElement}
use Rattle.isl_space.specs.Form.{Form, width_of}
use Rattle.isl_space.specs.Name.{Name}
use Rattle.isl_space.specs.SpaceForm.{SpaceForm, coordinates_of, map_of, set_of}
use Rattle.isl_space.specs.Valuation.{Valuation}
use Rattle.isl_piece.specs.declared.system.System.{System}
use Rattle.isl_piece.specs.Piece.{PieceView}
use Rattle.isl_piece.specs.System.{HoldsSystem, IsSystemWithin, free_columns}
use Rattle.isl_difference.specs.Difference.{IsDifference}
use Rattle.isl_relation.specs.Point.{Point, HasPoint, Relates, map_element, set_element}
use Rattle.isl_union.specs.KeptValue.{KeptPiece, KeptValue, Has, HasElement, point_of}
use Rattle.isl_union.specs.Minus.{piece_in, IsAlignedPair}
use Rattle.isl_union.specs.Piece.{kept_piece, IsPieceOf}
use Rattle.isl_union.proofs.MinusLaws.{element_long, left_numbers, left_sound, parts_have}
use Rattle.isl_union.proofs.PiecesLaws.{next_piece}
use Rattle.isl_union.proofs.SystemLaws.{view_free}
use Rattle.isl_products.specs.declared.layout.Place.{Place}
use Rattle.isl_products.specs.declared.layout.Place.TheVariants.{Domain, Range}
use Rattle.isl_products.specs.declared.layout.Product.TheVariants.{Restrict}
use Rattle.isl_products.specs.Layout.{LayoutView, form_at, layout_of, part, pick_at, pick_first, restrict_view}
use Rattle.isl_products.specs.Made.{point_at, AreBeside, AreLeft, IsApartFrom, IsMadeOf, IsPlacedAt, IsSystemOver, RemoveHas}
use Rattle.isl_relation.proofs.PointLaws.{behind, behind_is, element_is, front, front_is, halves}
use Rattle.isl_products.proofs.HasLaws.{from_place, picked_first, place_back}
use Rattle.isl_products.proofs.LayoutLaws.{restrict_at, restrict_of, restrict_only, restrict_space}

-- ---- a piece and one of the others
-- the part of the first is the element itself
whole_part : (place : Place) (s t : SpaceForm) (l : LayoutView) (e : Element) → layout_of (Restrict place) s t ≡ Some l → IsElement e
    → s ≡ e.space → part s l.own e ≡ e
whole_part place s t l e forms numbers same =
    let k = restrict_of place s t l forms in
    let m = width_of k.0 + width_of k.1 in
    let wide : length e.coordinates ≤ m = let c = ap coordinates_of (sym same ∙ k.2) in omega (arith, numbers, c) in
    let own : part s (pick_first m) e ≡ e =
    sym (element_is e s _ same (picked_first m e.coordinates ∙ take_all m e.coordinates wide)) in
    ap (λ (v : LayoutView). part s v.own e) (sym k.4) ∙ own

module _ (g : Gauge) (place : Place) (params : List Name) (piece b : PieceView) (l : LayoutView) (s : System)
    (forms : layout_of (Restrict place) piece.space b.space ≡ Some l) (placed : IsPlacedAt g params l.space l.other b s) where
  one_over : IsSystemOver g params piece.space s
  one_over = subst (λ t. IsSystemOver g params t s) (restrict_space place piece.space b.space l forms) placed.over

  one_holds : (v : Valuation) (e : Element) → HasElement params v e (kept_piece piece)
      → HoldsSystem s (point_of params v e) ↔ IsMadeOf (Restrict place) params v e (kept_piece piece) (kept_piece b)
  one_holds v e h =
      let lies : l.space ≡ e.space = restrict_space place piece.space b.space l forms ∙ h.space in
      let both = placed.holds v e h.numbers lies in
      let own = whole_part place piece.space b.space l e forms h.numbers h.space in (
        (λ k. record {
          layout = l;
          forms = forms;
          numbers = h.numbers;
          lies = lies;
          own = subst (λ f. HasElement params v f (kept_piece piece)) (sym own) h;
          other = both.0 k;
        }),
        (λ m.
            let same : m.layout ≡ l = same_Some m.layout l (sym m.forms ∙ forms) in
            both.1 (subst (λ (k : LayoutView). HasElement params v (part b.space k.other e) (kept_piece b)) same m.other)),
      )

-- ---- one more of the others
module _ (g : Gauge) (place : Place) (params : List Name) (piece : PieceView) (others : List PieceView) (b : PieceView) (i : ℕ)
    (systems : List System) (low : i < length others) (at : b ≡ get_or others i b)
    (so_far : AreBeside g place params piece (take i others) systems) where
  abbrev Q : Valuation → Element → KeptPiece → Type 0
  Q v e = IsMadeOf (Restrict place) params v e (kept_piece piece)

  next : map kept_piece (take (i + 1) others) ≡ map kept_piece (take i others) ++ kept_piece b ∷ []
  next = next_piece others i b low at

  plain_before : All (λ (p : PieceView). p.system.definitions ≡ []) (take (i + 1) others)
      → All (λ (p : PieceView). p.system.definitions ≡ []) (take i others) × (b.system.definitions ≡ [])
  plain_before all =
      All-last (λ (p : PieceView). p.system.definitions ≡ []) (take i others) b
      (subst (All (λ (p : PieceView). p.system.definitions ≡ [])) (take_more others i b low
      ∙ ap (λ (x : PieceView). take i others ++ x ∷ []) (sym at)) all)

  pub beside_more : (l : LayoutView) (s : System) (pushed : List System) → layout_of (Restrict place) piece.space b.space ≡ Some l
      → IsPlacedAt g params l.space l.other b s → pushed ≡ systems ++ s ∷ [] → AreBeside g place params piece (take (i + 1) others) pushed
  beside_more l s pushed forms placed is = rw is (record {
    over = All-push (IsSystemOver g params piece.space) systems s so_far.over (one_over g place params piece b l s forms placed);
    plain = λ all. let p = plain_before all in
        All-push (λ (t : System). t.definitions ≡ []) systems s (so_far.plain p.0) (placed.plain p.1);
    holds = λ v e h.
        let P : System → Type 0 = λ t. HoldsSystem t (point_of params v e) in
        let before = so_far.holds v e h in
        let here = one_holds g place params piece b l s forms placed v e h in
        rw next (
          (λ a. elim (Any-parts P systems (s ∷ []) a) [
            | inl x ↦ Any-left (Q v e) (map kept_piece (take i others)) (kept_piece b ∷ []) (before.0 x)
            | inr y ↦ Any-right (Q v e) (map kept_piece (take i others)) (kept_piece b ∷ [])
                (Any-first (Q v e) (kept_piece b) [] (here.0 (Any-one P s y)))
          ]),
          (λ a. elim (Any-parts (Q v e) (map kept_piece (take i others)) (kept_piece b ∷ []) a) [
            | inl x ↦ Any-left P systems (s ∷ []) (before.1 x)
            | inr y ↦ Any-right P systems (s ∷ []) (Any-first P s [] (here.1 (Any-one (Q v e) (kept_piece b) y)))
          ]),
        );
  })

  pub beside_skip : layout_of (Restrict place) piece.space b.space ≡ None → AreBeside g place params piece (take (i + 1) others) systems
  beside_skip none = record {
    over = so_far.over;
    plain = λ all. so_far.plain (plain_before all).0;
    holds = λ v e h.
        let before = so_far.holds v e h in
        rw next (
          (λ a. Any-left (Q v e) (map kept_piece (take i others)) (kept_piece b ∷ []) (before.0 a)),
          (λ a. elim (Any-parts (Q v e) (map kept_piece (take i others)) (kept_piece b ∷ []) a) [
            | inl x ↦ before.1 x
            | inr y ↦ absurd (none-some _ (sym none ∙ (Any-one (Q v e) (kept_piece b) y).forms))
          ]),
        );
  }

pub beside_first : (g : Gauge) (place : Place) (params : List Name) (piece : PieceView) → AreBeside g place params piece [] []
beside_first g place params piece = record {
  over = All-nil (IsSystemOver g params piece.space);
  plain = λ _. All-nil (λ (s : System). s.definitions ≡ []);
  holds = λ v e h. (
    (λ a. absurd (Any-none (λ (t : System). HoldsSystem t (point_of params v e)) a)),
    (λ a. absurd (Any-none (IsMadeOf (Restrict place) params v e (kept_piece piece)) a)),
  );
}

-- ---- what is left of the piece
module _ (g : Gauge) (params : List Name) (p : PieceView) (sound : IsPieceOf params p) where
  -- no other has what it has at the place
  pub left_whole : (left : List PieceView) → IsSystemWithin g p.system → left ≡ p ∷ [] → AreLeft g params p [] left
  left_whole left within made =
      let all : All (IsPieceOf params) (p ∷ []) = All-push (IsPieceOf params) [] p (All-nil (IsPieceOf params)) sound in
      let fits = All-push (λ (q : PieceView). IsSystemWithin g q.system) [] p (All-nil (λ (q : PieceView). IsSystemWithin g q.system))
      within in
      rw made (record {
        sound = all;
        numbers = left_numbers g params (p ∷ []) (record { params = params; pieces = kept_piece p ∷ [] }) all fits refl;
        plain = λ none _. All-push (λ (q : KeptPiece). q.definitions ≡ []) [] (kept_piece p)
            (All-nil (λ (q : KeptPiece). q.definitions ≡ [])) none;
        elements = λ v e. (
          (λ a. (Any-one (HasElement params v e) (kept_piece p) a, Any-none (λ (t : System). HoldsSystem t (point_of params v e)))),
          (λ h. Any-first (HasElement params v e) (kept_piece p) [] h.0),
        );
      })

  pub left_parts : (systems parts : List System) (left : List PieceView) → IsDifference g p.system systems parts
      → (p.system.definitions ≡ [] → All (λ s. s.definitions ≡ []) systems → All (λ s. s.definitions ≡ []) parts)
      → left ≡ map (piece_in p.space) parts → AreLeft g params p systems left
  left_parts systems parts left difference plain made =
      let all : All (IsPieceOf params) (map (piece_in p.space) parts) =
      All-map (IsPieceOf params) (piece_in p.space) parts
      (λ k d l. left_sound g params p sound (get_or parts k d) (difference.each k d l)) in
      let fits : All (λ (q : PieceView). IsSystemWithin g q.system) (map (piece_in p.space) parts) =
      All-map (λ (q : PieceView). IsSystemWithin g q.system) (piece_in p.space) parts (λ k d l. (difference.each k d l).within) in
      rw made (record {
        sound = all;
        numbers = left_numbers g params (map (piece_in p.space) parts)
            (record { params = params; pieces = map kept_piece (map (piece_in p.space) parts) }) all fits refl;
        plain = λ own none.
            let each = plain own none in
            All-map (λ (q : KeptPiece). q.definitions ≡ []) kept_piece (map (piece_in p.space) parts)
            (All-map (λ (q : PieceView). q.system.definitions ≡ []) (piece_in p.space) parts (λ k d l. each k d l));
        elements = λ v e.
            let point = point_of params v e in
            let both = parts_have params v e p.space parts in
            let long : IsElement e → p.space ≡ e.space → length point ≡ free_columns p.system = λ numbers lies.
            element_long params v e p.space numbers lies ∙ sym (view_free params p sound) in (
              (λ a.
                  let h = both.0 a in
                  let out = (difference.points point (long h.0 h.1)).0 h.2 in
                  (record { numbers = h.0; space = h.1; holds = out.0 }, out.1)),
              (λ h. both.1 (
                h.0.numbers,
                h.0.space,
                (difference.points point (long h.0.numbers h.0.space)).1 (h.0.holds, h.1),
              )),
            );
      })

-- ---- a piece without what the others have at the place
module _ (g : Gauge) (place : Place) (params : List Name) (piece : PieceView) (others : List PieceView) (systems : List System)
    (left : List PieceView) (beside : AreBeside g place params piece others systems) (are : AreLeft g params piece systems left) where
  pub left_apart : (from to : Form) → piece.space ≡ map_of from to → (v : Valuation) (e : Element)
      → Any (HasElement params v e) (map kept_piece left) ↔ IsApartFrom place params (map kept_piece others) v e (kept_piece piece)
  left_apart from to space v e = (
    (λ a.
        let h = (are.elements v e).0 a in
        record { from = from; to = to; space = space; has = h.0; apart = λ m. h.1 ((beside.holds v e h.0).1 m) }),
    (λ h. (are.elements v e).1 (h.has, λ k. h.apart ((beside.holds v e h.has).0 k))),
  )

abbrev IsSet : SpaceForm → Type 0
IsSet (set_of form) = Unit {0}
IsSet (map_of from to) = ⊥

-- a piece of sets has nothing of a map
pub set_apart : (place : Place) (params : List Name) (piece : KeptPiece) (others : List KeptPiece) (form : Form) → piece.space ≡ set_of form
    → (v : Valuation) (e : Element) → ¬ IsApartFrom place params others v e piece
set_apart place params piece others form space v e h = subst IsSet (sym space ∙ h.space) tt

-- ---- values
form_of_place : (place : Place) (x y : Point) → (point_at place x y).form ≡ form_at place x.form y.form
form_of_place Domain x y = refl
form_of_place Range x y = refl

module _ (g : Gauge) (place : Place) (a b : KeptValue) (params : List Name) (own others : List PieceView)
    (pair : IsAlignedPair g a b params own others) (v : Valuation) where
  abbrev Apart : Element → KeptPiece → Type 0
  Apart e = IsApartFrom place params (map kept_piece others) v e

  -- a piece of which the set has the point at the place is put together with one of the set's
  made_there : (p q : KeptPiece) (x y : Point) (e : Element) → p.space ≡ map_of x.form y.form → e ≡ map_element x y
      → length x.numbers ≡ width_of x.form → length y.numbers ≡ width_of y.form → HasElement params v e p
      → HasElement params v (set_element (point_at place x y)) q → length (point_at place x y).numbers ≡ width_of (point_at place x y).form
      → IsMadeOf (Restrict place) params v e p q
  made_there p q x y e space whole first second has there long =
      let forms : layout_of (Restrict place) p.space q.space ≡ Some (restrict_view place x.form y.form) =
      ap₂ (layout_of (Restrict place)) space (there.space ∙ ap set_of (form_of_place place x y)) ∙ restrict_at place x.form y.form in
      let S : Element → Type 0 = λ f. HasElement params v f q in
      let other : S (part (set_of (form_at place x.form y.form)) (pick_at place x.form y.form) (map_element x y)) =
      from_place S place x y first second (record { point = long; has = there }) in
      record {
        layout = restrict_view place x.form y.form;
        forms = forms;
        numbers = has.numbers;
        lies = sym space ∙ has.space;
        own = subst S' (sym (whole_part place p.space q.space (restrict_view place x.form y.form) e forms has.numbers has.space)) has;
        other = subst (λ f. S (part q.space (pick_at place x.form y.form) f)) (sym whole)
            (subst (λ s. S (part s (pick_at place x.form y.form) (map_element x y)))
            (sym (there.space ∙ ap set_of (form_of_place place x y))) other);
      }
    where
      S' : Element → Type 0
      S' f = HasElement params v f p

  remove_forth : (e : Element) → Any (Apart e) (map kept_piece own) → RemoveHas place (Has a v) (Has b v) e
  remove_forth e some =
      let first = Any-element (Apart e) (map kept_piece own) some in
      let m = first.2 in
      let c = e.coordinates in
      let space : map_of m.from m.to ≡ e.space = sym m.space ∙ m.has.space in
      let wide : length c ≡ width_of m.from + width_of m.to = m.has.numbers ∙ ap coordinates_of (sym space) in
      let x = front m.from c in
      let y = behind m.from m.to c in
      let long = front_is m.from (width_of m.to) c wide in
      let rest = behind_is m.from m.to c wide in
      let whole : e ≡ map_element x y = element_is e (map_of m.from m.to) _ space (halves (width_of m.from) (width_of m.to) c wide) in (
        x,
        y,
        record {
          from = long;
          to = rest;
          has = subst (Has a v) whole
              ((pair.own.elements v e).0 (Any-contains (HasElement params v e) (map kept_piece own) first.0 first.1 m.has));
        },
        λ h.
            let pt = set_element (point_at place x y) in
            let second = Any-element (HasElement params v pt) (map kept_piece others) ((pair.others.elements v pt).1 h.has) in
            m.apart (Any-contains (IsMadeOf (Restrict place) params v e first.0) (map kept_piece others) second.0 second.1
            (made_there first.0 second.0 x y e m.space whole long rest m.has second.2 h.point)),
        whole,
      )

  remove_at : (x y : Point) → Relates (Has a v) x y → ¬ HasPoint (Has b v) (point_at place x y)
      → Any (Apart (map_element x y)) (map kept_piece own)
  remove_at x y r none =
      let e = map_element x y in
      let first = Any-element (HasElement params v e) (map kept_piece own) ((pair.own.elements v e).1 r.has) in
      let has = first.2 in
      let S = Has b v in
      Any-contains (Apart e) (map kept_piece own) first.0 first.1 (record {
        from = x.form;
        to = y.form;
        space = has.space;
        has = has;
        apart = λ made.
            let second = Any-element (IsMadeOf (Restrict place) params v e first.0) (map kept_piece others) made in
            let m = second.2 in
            let q = second.0 in
            let forms = ap (λ s. layout_of (Restrict place) s q.space) (sym has.space) ∙ m.forms in
            let only = restrict_only place x.form y.form q.space m.layout forms in
            let there : S (part q.space m.layout.other e) =
            (pair.others.elements v (part q.space m.layout.other e)).0
            (Any-contains (HasElement params v (part q.space m.layout.other e)) (map kept_piece others) q second.1 m.other) in
            none (place_back S place x y r.from r.to
            (subst (λ s. S (part s (pick_at place x.form y.form) e)) only.0
            (subst (λ (l : LayoutView). S (part q.space l.other e)) (sym only.1) there)));
      })

  pub remove_has : (e : Element) → Any (Apart e) (map kept_piece own) ↔ RemoveHas place (Has a v) (Has b v) e
  remove_has e = (
    remove_forth e,
    λ h. subst (λ f. Any (Apart f) (map kept_piece own)) (sym h.4) (remove_at h.0 h.1 h.2 h.3),
  )
