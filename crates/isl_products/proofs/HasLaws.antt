-- What products have, in the words of sets and of maps.
use Rattle.std.proofs.Common.{◌≡◌, ◌↔◌, refl, sym, ap, ap₂, ◌∙◌, arith, subst, ℕ, ◌+◌, ◌≤◌, ℤ, List, ◌++◌, append_assoc, drop}
use Rattle.std.proofs.Common.{length, length-append, take}
use Rattle.std.proofs.lemmas.List.{append-nil, drop_at, drop-drop, length-drop, length-take-le, take_all, take_at, take-append-drop}
use Rattle.isl_space.specs.Element.{Element}
use Rattle.isl_space.specs.Form.{Form, pair, width_of}
use Rattle.isl_space.specs.SpaceForm.{SpaceForm, coordinates_of, set_of, map_of}
use Rattle.isl_relation.specs.Maps.{RestrictDomainHas, RestrictRangeHas}
use Rattle.isl_relation.specs.Pairs.{CrossMapsHas}
use Rattle.isl_relation.specs.Point.{Point, HasPoint, Relates, map_element}
use Rattle.isl_relation.specs.Sets.{CrossSetsHas, UniversalHas}
use Rattle.isl_relation.proofs.PointLaws.{behind, behind_is, element_is, front, front_is, halves}
use Rattle.isl_products.specs.declared.layout.Place.{Place}
use Rattle.isl_products.specs.declared.layout.Place.TheVariants.{Domain, Range}
use Rattle.isl_products.specs.declared.layout.Product.{Product}
use Rattle.isl_products.specs.declared.layout.Product.TheVariants.{Universal, CrossSets, CrossMaps, Restrict}
use Rattle.isl_products.specs.Layout.{LayoutView, cross_maps_view, cross_sets_view, form_at, part, pick_at, pick_behind}
use Rattle.isl_products.specs.Layout.{pick_first, picked, restrict_view, universal_view}
use Rattle.isl_products.specs.Made.{point_at, ProductHas}
use Rattle.isl_products.proofs.LayoutLaws.{cross_maps_of, cross_sets_of, restrict_at, restrict_of, universal_of}

-- ---- numbers that are picked
pub picked_first : (m : ℕ) (xs : List ℤ) → picked (pick_first m) xs ≡ take m xs
picked_first m xs = append-nil (take m xs)

picked_behind : (m n : ℕ) (xs : List ℤ) → picked (pick_behind m n) xs ≡ take n (drop m xs)
picked_behind m n xs = append-nil (take n (drop m xs))

front_of : (m : ℕ) (xs ys : List ℤ) → length xs ≡ m → picked (pick_first m) (xs ++ ys) ≡ xs
front_of m xs ys e = picked_first m (xs ++ ys) ∙ take_at xs ys m e

back_of : (m n : ℕ) (xs ys : List ℤ) → length xs ≡ m → length ys ≡ n → picked (pick_behind m n) (xs ++ ys) ≡ ys
back_of m n xs ys e f =
    picked_behind m n (xs ++ ys) ∙ ap (take n) (drop_at xs ys m e) ∙ take_all n ys (let h : length ys ≤ n = omega (arith, f) in h)

module _ (M : Element → Type 0) (space : SpaceForm) (e : Element) where
  -- what is picked at the front and behind it
  at_front : (m : ℕ) → M (part space (pick_first m) e) → M (record { space = space; coordinates = take m e.coordinates })
  at_front m h = subst (λ l. M (record { space = space; coordinates = l })) (picked_first m e.coordinates) h

  at_back : (m n : ℕ) → M (part space (pick_behind m n) e) → M (record { space = space; coordinates = take n (drop m e.coordinates) })
  at_back m n h = subst (λ l. M (record { space = space; coordinates = l })) (picked_behind m n e.coordinates) h

module _ (M : Element → Type 0) (space formed : SpaceForm) (xs ys : List ℤ) where
  abbrev both : Element
  both = record { space = formed; coordinates = xs ++ ys }

  from_front : (m : ℕ) → length xs ≡ m → M (record { space = space; coordinates = xs }) → M (part space (pick_first m) both)
  from_front m e h = subst (λ l. M (record { space = space; coordinates = l })) (sym (front_of m xs ys e)) h

  from_back : (m n : ℕ) → length xs ≡ m → length ys ≡ n → M (record { space = space; coordinates = ys })
      → M (part space (pick_behind m n) both)
  from_back m n e f h = subst (λ l. M (record { space = space; coordinates = l })) (sym (back_of m n xs ys e f)) h

  from_whole : (m : ℕ) → length xs + length ys ≡ m → M (record { space = space; coordinates = xs ++ ys })
      → M (part space (pick_first m) both)
  from_whole m e h =
      let whole : picked (pick_first m) (xs ++ ys) ≡ xs ++ ys = picked_first m (xs ++ ys)
      ∙ take_all m (xs ++ ys) (let l = length-append xs ys in omega (arith, l, e)) in
      subst (λ l. M (record { space = space; coordinates = l })) (sym whole) h

both_long : (xs ys : List ℤ) (m n : ℕ) → length xs ≡ m → length ys ≡ n → length (xs ++ ys) ≡ m + n
both_long xs ys m n e f = length-append xs ys ∙ ap₂ (λ k l. k + l) e f

-- what is picked by a layout is picked by one that is the same
module _ (M N : Element → Type 0) (product : Product) (e : Element) (h : ProductHas product M N e) where
  own_by : (l : LayoutView) (s : SpaceForm) → h.s ≡ s → l ≡ h.layout → M (part s l.own e)
  own_by l s p q = subst (λ t. M (part t l.own e)) p (subst (λ (k : LayoutView). M (part h.s k.own e)) (sym q) h.own)

  other_by : (l : LayoutView) (t : SpaceForm) → h.t ≡ t → l ≡ h.layout → N (part t l.other e)
  other_by l t p q = subst (λ s. N (part s l.other e)) p (subst (λ (k : LayoutView). N (part h.t k.other e)) (sym q) h.other)

  space_by : (l : LayoutView) → l ≡ h.layout → l.space ≡ e.space
  space_by l q = ap (λ (k : LayoutView). k.space) q ∙ h.lies

-- ---- products of two sets
module _ (M N : Element → Type 0) (e : Element) where
  pub universal_has : ProductHas Universal M N e ↔ UniversalHas M N e
  universal_has = (
    (λ h.
        let k = universal_of h.s h.t h.layout h.forms in
        let space = space_by M N Universal e h (universal_view k.0 k.1) k.4 in
        let wide : length e.coordinates ≡ width_of k.0 + width_of k.1 = h.numbers ∙ ap coordinates_of (sym space) in (
          front k.0 e.coordinates,
          behind k.0 k.1 e.coordinates,
          record {
            point = front_is k.0 (width_of k.1) e.coordinates wide;
            has = at_front M (set_of k.0) e (width_of k.0) (own_by M N Universal e h (universal_view k.0 k.1) (set_of k.0) k.2 k.4);
          },
          record {
            point = behind_is k.0 k.1 e.coordinates wide;
            has = at_back N (set_of k.1) e (width_of k.0) (width_of k.1)
                (other_by M N Universal e h (universal_view k.0 k.1) (set_of k.1) k.3 k.4);
          },
          element_is e (map_of k.0 k.1) _ space (halves (width_of k.0) (width_of k.1) e.coordinates wide),
        )),
    (λ h.
        let x = h.0 in
        let y = h.1 in
        let m = width_of x.form in
        let n = width_of y.form in
        let formed = map_of x.form y.form in
        subst (ProductHas Universal M N) (sym h.4) (record {
          s = set_of x.form;
          t = set_of y.form;
          layout = universal_view x.form y.form;
          forms = refl;
          numbers = both_long x.numbers y.numbers m n h.2.point h.3.point;
          lies = refl;
          own = from_front M (set_of x.form) formed x.numbers y.numbers m h.2.point h.2.has;
          other = from_back N (set_of y.form) formed x.numbers y.numbers m n h.2.point h.3.point h.3.has;
        })),
  )

  pub cross_sets_has : ProductHas CrossSets M N e ↔ CrossSetsHas M N e
  cross_sets_has = (
    (λ h.
        let k = cross_sets_of h.s h.t h.layout h.forms in
        let space = space_by M N CrossSets e h (cross_sets_view k.0 k.1) k.4 in
        let wide : length e.coordinates ≡ width_of k.0 + width_of k.1 = h.numbers ∙ ap coordinates_of (sym space) in (
          front k.0 e.coordinates,
          behind k.0 k.1 e.coordinates,
          record {
            point = front_is k.0 (width_of k.1) e.coordinates wide;
            has = at_front M (set_of k.0) e (width_of k.0) (own_by M N CrossSets e h (cross_sets_view k.0 k.1) (set_of k.0) k.2 k.4);
          },
          record {
            point = behind_is k.0 k.1 e.coordinates wide;
            has = at_back N (set_of k.1) e (width_of k.0) (width_of k.1)
                (other_by M N CrossSets e h (cross_sets_view k.0 k.1) (set_of k.1) k.3 k.4);
          },
          element_is e (set_of (pair k.0 k.1)) _ space (halves (width_of k.0) (width_of k.1) e.coordinates wide),
        )),
    (λ h.
        let x = h.0 in
        let y = h.1 in
        let m = width_of x.form in
        let n = width_of y.form in
        let formed = set_of (pair x.form y.form) in
        subst (ProductHas CrossSets M N) (sym h.4) (record {
          s = set_of x.form;
          t = set_of y.form;
          layout = cross_sets_view x.form y.form;
          forms = refl;
          numbers = both_long x.numbers y.numbers m n h.2.point h.3.point;
          lies = refl;
          own = from_front M (set_of x.form) formed x.numbers y.numbers m h.2.point h.2.has;
          other = from_back N (set_of y.form) formed x.numbers y.numbers m n h.2.point h.3.point h.3.has;
        })),
  )

-- ---- maps that are restricted
-- those x → y of the map of which the set has the one at the place
abbrev RestrictHas : Place → (Element → Type 0) → (Element → Type 0) → Element → Type 0
RestrictHas place M S e = (x : Point) × (y : Point) × Relates M x y × HasPoint S (point_at place x y) × (e ≡ map_element x y)

at_place : (S : Element → Type 0) (place : Place) (x y : Form) (e : Element) → length e.coordinates ≡ width_of x + width_of y
    → S (part (set_of (form_at place x y)) (pick_at place x y) e)
    → HasPoint S (point_at place (front x e.coordinates) (behind x y e.coordinates))
at_place S Domain x y e wide h = record {
  point = front_is x (width_of y) e.coordinates wide;
  has = at_front S (set_of x) e (width_of x) h;
}
at_place S Range x y e wide h = record {
  point = behind_is x y e.coordinates wide;
  has = at_back S (set_of y) e (width_of x) (width_of y) h;
}

pub from_place : (S : Element → Type 0) (place : Place) (x y : Point) → length x.numbers ≡ width_of x.form
    → length y.numbers ≡ width_of y.form
    → HasPoint S (point_at place x y)
    → S (part (set_of (form_at place x.form y.form)) (pick_at place x.form y.form) (map_element x y))
from_place S Domain x y p q h = from_front S (set_of x.form) (map_of x.form y.form) x.numbers y.numbers (width_of x.form) p h.has
from_place S Range x y p q h =
    from_back S (set_of y.form) (map_of x.form y.form) x.numbers y.numbers (width_of x.form) (width_of y.form) p q h.has

-- the set has the point at the place where it has the picked part
pub place_back : (S : Element → Type 0) (place : Place) (x y : Point) → length x.numbers ≡ width_of x.form
    → length y.numbers ≡ width_of y.form
    → S (part (set_of (form_at place x.form y.form)) (pick_at place x.form y.form) (map_element x y)) → HasPoint S (point_at place x y)
place_back S Domain x y p q h = record {
  point = p;
  has = subst (λ l. S (record { space = set_of x.form; coordinates = l })) (front_of (width_of x.form) x.numbers y.numbers p) h;
}
place_back S Range x y p q h = record {
  point = q;
  has = subst (λ l. S (record { space = set_of y.form; coordinates = l }))
      (back_of (width_of x.form) (width_of y.form) x.numbers y.numbers p q) h;
}

module _ (place : Place) (M S : Element → Type 0) (e : Element) where
  restrict_forth : ProductHas (Restrict place) M S e → RestrictHas place M S e
  restrict_forth h =
      let k = restrict_of place h.s h.t h.layout h.forms in
      let view = restrict_view place k.0 k.1 in
      let m = width_of k.0 in
      let n = width_of k.1 in
      let space = space_by M S (Restrict place) e h view k.4 in
      let wide : length e.coordinates ≡ m + n = h.numbers ∙ ap coordinates_of (sym space) in
      let parts = halves m n e.coordinates wide in
      let all = take_all (m + n) e.coordinates (let l : length e.coordinates ≤ m + n = omega (arith, wide) in l) in
      let own = at_front M (map_of k.0 k.1) e (m + n) (own_by M S (Restrict place) e h view (map_of k.0 k.1) k.2 k.4) in (
        front k.0 e.coordinates,
        behind k.0 k.1 e.coordinates,
        record {
          from = front_is k.0 n e.coordinates wide;
          to = behind_is k.0 k.1 e.coordinates wide;
          has = subst (λ l. M (record { space = map_of k.0 k.1; coordinates = l })) (all ∙ sym parts) own;
        },
        at_place S place k.0 k.1 e wide (other_by M S (Restrict place) e h view (set_of (form_at place k.0 k.1)) k.3 k.4),
        element_is e (map_of k.0 k.1) _ space parts,
      )

  restrict_back : RestrictHas place M S e → ProductHas (Restrict place) M S e
  restrict_back h =
      let x = h.0 in
      let y = h.1 in
      let m = width_of x.form in
      let n = width_of y.form in
      let formed = map_of x.form y.form in
      subst (ProductHas (Restrict place) M S) (sym h.4) (record {
        s = formed;
        t = set_of (form_at place x.form y.form);
        layout = restrict_view place x.form y.form;
        forms = restrict_at place x.form y.form;
        numbers = both_long x.numbers y.numbers m n h.2.from h.2.to;
        lies = refl;
        own = from_whole M formed formed x.numbers y.numbers (m + n) (ap₂ (λ k l. k + l) h.2.from h.2.to) h.2.has;
        other = from_place S place x y h.2.from h.2.to h.3;
      })

module _ (M S : Element → Type 0) (e : Element) where
  pub restrict_domain_has : ProductHas (Restrict Domain) M S e ↔ RestrictDomainHas M S e
  restrict_domain_has = (restrict_forth Domain M S e, restrict_back Domain M S e)

  pub restrict_range_has : ProductHas (Restrict Range) M S e ↔ RestrictRangeHas M S e
  restrict_range_has = (restrict_forth Range M S e, restrict_back Range M S e)

-- ---- products of two maps
-- a list in four parts
quarters : (m k n l : ℕ) (xs : List ℤ) → length xs ≡ (m + k) + (n + l)
    → (take m xs ++ take k (drop m xs)) ++ (take n (drop (m + k) xs) ++ take l (drop (m + k + n) xs)) ≡ xs
quarters m k n l xs wide =
    let rest = length-drop (m + k) xs in
    let one = take-append-drop m xs in
    let two : take k (drop m xs) ++ drop (m + k) xs ≡ drop m xs =
    ap (λ ys. take k (drop m xs) ++ ys) (ap (λ i. drop i xs) (omega arith) ∙ sym (drop-drop k m xs)) ∙ take-append-drop k (drop m xs) in
    let three : take n (drop (m + k) xs) ++ take l (drop (m + k + n) xs) ≡ drop (m + k) xs =
    ap (λ ys. take n (drop (m + k) xs) ++ take l ys) (ap (λ i. drop i xs) (omega arith) ∙ sym (drop-drop n (m + k) xs))
    ∙ halves n l (drop (m + k) xs) (omega (arith, rest, wide)) in
    append_assoc (take m xs) (take k (drop m xs)) (take n (drop (m + k) xs) ++ take l (drop (m + k + n) xs))
    ∙ ap (λ ys. take m xs ++ ys) (ap (λ ys. take k (drop m xs) ++ ys) three ∙ two) ∙ one

abbrev stretch : Form → ℕ → List ℤ → Point
stretch x before xs = record { form = x; numbers = take (width_of x) (drop before xs) }

stretch_is : (x : Form) (before : ℕ) (xs : List ℤ) → before + width_of x ≤ length xs
    → length (take (width_of x) (drop before xs)) ≡ width_of x
stretch_is x before xs inside =
    let rest = length-drop before xs in
    length-take-le (width_of x) (drop before xs) (omega (arith, rest, inside))

-- four lists behind one another: the first and the third are picked, or the second and the last
module _ (m k n l : ℕ) (xs us ys ws : List ℤ) (first : length xs ≡ m) (second : length us ≡ k) (third : length ys ≡ n)
    (fourth : length ws ≡ l) where
  abbrev four : List ℤ
  four = (xs ++ us) ++ (ys ++ ws)

  front_half : length (xs ++ us) ≡ m + k
  front_half = both_long xs us m k first second

  from_first : take m four ≡ xs
  from_first = ap (take m) (append_assoc xs us (ys ++ ws)) ∙ take_at xs (us ++ (ys ++ ws)) m first

  from_second : take k (drop m four) ≡ us
  from_second =
      ap (λ zs. take k (drop m zs)) (append_assoc xs us (ys ++ ws)) ∙ ap (take k) (drop_at xs (us ++ (ys ++ ws)) m first)
      ∙ take_at us (ys ++ ws) k second

  from_third : take n (drop (m + k) four) ≡ ys
  from_third = ap (take n) (drop_at (xs ++ us) (ys ++ ws) (m + k) front_half) ∙ take_at ys ws n third

  from_fourth : take l (drop (m + k + n) four) ≡ ws
  from_fourth =
      let parts : (xs ++ us) ++ (ys ++ ws) ≡ ((xs ++ us) ++ ys) ++ ws = sym (append_assoc (xs ++ us) ys ws) in
      let long : length ((xs ++ us) ++ ys) ≡ m + k + n = both_long (xs ++ us) ys (m + k) n front_half third in
      ap (λ zs. take l (drop (m + k + n) zs)) parts ∙ ap (take l) (drop_at ((xs ++ us) ++ ys) ws (m + k + n) long)
      ∙ take_all l ws (let h : length ws ≤ l = omega (arith, fourth) in h)

module _ (M N : Element → Type 0) (e : Element) where
  pub cross_maps_has : ProductHas CrossMaps M N e ↔ CrossMapsHas M N e
  cross_maps_has = (
    (λ h.
        let q = cross_maps_of h.s h.t h.layout h.forms in
        let view = cross_maps_view q.0 q.1 q.2 q.3 in
        let c = e.coordinates in
        let m = width_of q.0 in
        let n = width_of q.1 in
        let k = width_of q.2 in
        let l = width_of q.3 in
        let space = space_by M N CrossMaps e h view q.6 in
        let wide : length c ≡ (m + k) + (n + l) = h.numbers ∙ ap coordinates_of (sym space) in (
          stretch q.0 0 c,
          stretch q.1 (m + k) c,
          stretch q.2 m c,
          stretch q.3 (m + k + n) c,
          record {
            from = stretch_is q.0 0 c (omega (arith, wide));
            to = stretch_is q.1 (m + k) c (omega (arith, wide));
            has = subst (λ (i : ℕ). M (record { space = map_of q.0 q.1; coordinates = take m c ++ take n (drop i c) })) (omega arith)
                (own_by M N CrossMaps e h view (map_of q.0 q.1) q.4 q.6);
          },
          record {
            from = stretch_is q.2 m c (omega (arith, wide));
            to = stretch_is q.3 (m + k + n) c (omega (arith, wide));
            has = other_by M N CrossMaps e h view (map_of q.2 q.3) q.5 q.6;
          },
          element_is e (map_of (pair q.0 q.2) (pair q.1 q.3)) _ space (quarters m k n l c wide),
        )),
    (λ h.
        let x = h.0 in
        let y = h.1 in
        let u = h.2 in
        let w = h.3 in
        let m = width_of x.form in
        let n = width_of y.form in
        let k = width_of u.form in
        let l = width_of w.form in
        let whole = (x.numbers ++ u.numbers) ++ (y.numbers ++ w.numbers) in
        let numbers = λ (before : ℕ). take n (drop before whole) in
        let first = from_first m k n l x.numbers u.numbers y.numbers w.numbers h.4.from h.5.from h.4.to h.5.to in
        let second = from_second m k n l x.numbers u.numbers y.numbers w.numbers h.4.from h.5.from h.4.to h.5.to in
        let third = from_third m k n l x.numbers u.numbers y.numbers w.numbers h.4.from h.5.from h.4.to h.5.to in
        let fourth = from_fourth m k n l x.numbers u.numbers y.numbers w.numbers h.4.from h.5.from h.4.to h.5.to in
        let start : 0 + m + k ≡ m + k = omega arith in
        subst (ProductHas CrossMaps M N) (sym h.6) (record {
          s = map_of x.form y.form;
          t = map_of u.form w.form;
          layout = cross_maps_view x.form y.form u.form w.form;
          forms = refl;
          numbers = both_long (x.numbers ++ u.numbers) (y.numbers ++ w.numbers) (m + k) (n + l)
              (both_long x.numbers u.numbers m k h.4.from h.5.from) (both_long y.numbers w.numbers n l h.4.to h.5.to);
          lies = refl;
          own = subst (λ zs. M (record { space = map_of x.form y.form; coordinates = zs }))
              (sym (ap₂ (λ f g. f ++ g) first (ap numbers start ∙ third))) h.4.has;
          other = subst (λ zs. N (record { space = map_of u.form w.form; coordinates = zs }))
              (sym (ap₂ (λ f g. f ++ g) second fourth)) h.5.has;
        })),
  )
