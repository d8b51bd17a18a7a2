-- What the operations on one value make of its pieces.
use Rattle.std.proofs.Common.{◌≡◌, ◌↔◌, ◌⊎◌, inl, inr, refl, sym, ap, ◌∙◌, subst, arith, ℕ, ◌*◌, ◌≤◌, ℤ, List, ◌++◌, length}
use Rattle.std.proofs.Common.{length-append, take, drop, take-append-drop}
use Rattle.std.proofs.lemmas.List.{append-nil, drop_all, length-drop, length-take-le, take_all}
use Rattle.isl_meter.specs.Gauge.{Gauge}
use Rattle.isl_space.specs.Element.{Element, IsElement}
use Rattle.isl_space.specs.Form.{Form, width_of}
use Rattle.isl_space.specs.Name.{Name}
use Rattle.isl_space.specs.SpaceForm.{SpaceForm, set_of, map_of, coordinates_of}
use Rattle.isl_space.specs.Valuation.{Valuation, values_of}
use Rattle.isl_space.proofs.ValuationLaws.{length-values_of}
use Rattle.isl_piece.specs.declared.system.System.{System}
use Rattle.isl_piece.specs.Piece.{PieceView}
use Rattle.isl_piece.specs.System.{HoldsSystem}
use Rattle.isl_union.specs.Project.{put_between}
use Rattle.isl_relation.specs.Maps.{differences, DeltasHas, DomainHas, RangeHas}
use Rattle.isl_relation.specs.Point.{Point, Relates, map_element}
use Rattle.isl_images.specs.declared.image.Image.{Image}
use Rattle.isl_images.specs.declared.image.Image.TheVariants.{Deltas, Domain, Range}
use Rattle.isl_images.specs.Differences.{IsWithDifferences}
use Rattle.isl_images.specs.Image.{ImageHas}
use Rattle.isl_images.specs.Made.{elements_of}
use Rattle.isl_images.specs.Shadow.{IsShadow}
use Rattle.isl_images.proofs.DifferenceLaws.{length-differences}
use Rattle.isl_images.proofs.MadeLaws.{IsAdditive}

-- ---- maps that have more elements, or those of two
pub relates_grow : (M N : Element → Type 0) (x y : Point) → ((f : Element) → M f → N f) → Relates M x y → Relates N x y
relates_grow M N x y grows h = record { from = h.from; to = h.to; has = grows (map_element x y) h.has }

pub relates_split : (M N : Element → Type 0) (x y : Point) → Relates (λ f. M f ⊎ N f) x y → Relates M x y ⊎ Relates N x y
relates_split M N x y h = elim h.has [
  | inl a ↦ inl (record { from = h.from; to = h.to; has = a })
  | inr b ↦ inr (record { from = h.from; to = h.to; has = b })
]

pub image_additive : (image : Image) → IsAdditive (ImageHas image)
image_additive Domain = record {
  grows = λ M N g e h. (h.0, h.1, relates_grow M N h.0 h.1 g h.2, h.3);
  splits = λ M N e h. elim (relates_split M N h.0 h.1 h.2) [
    | inl a ↦ inl (h.0, h.1, a, h.3)
    | inr b ↦ inr (h.0, h.1, b, h.3)
  ];
  some = λ M e h. (map_element h.0 h.1, h.2.has);
}
image_additive Range = record {
  grows = λ M N g e h. (h.0, h.1, relates_grow M N h.0 h.1 g h.2, h.3);
  splits = λ M N e h. elim (relates_split M N h.0 h.1 h.2) [
    | inl a ↦ inl (h.0, h.1, a, h.3)
    | inr b ↦ inr (h.0, h.1, b, h.3)
  ];
  some = λ M e h. (map_element h.0 h.1, h.2.has);
}
image_additive Deltas = record {
  grows = λ M N g e h. (h.0, h.1, relates_grow M N h.0 h.1 g h.2, h.3, h.4);
  splits = λ M N e h. elim (relates_split M N h.0 h.1 h.2) [
    | inl a ↦ inl (h.0, h.1, a, h.3, h.4)
    | inr b ↦ inr (h.0, h.1, b, h.3, h.4)
  ];
  some = λ M e h. (map_element h.0 h.1, h.2.has);
}

-- ---- elements
pub element_is : (e : Element) (s : SpaceForm) → e.space ≡ s → e ≡ record { space = s; coordinates = e.coordinates }
element_is e s lies = ap (λ (t : SpaceForm). let f : Element = record { space = t; coordinates = e.coordinates } in f) lies

-- numbers that are put behind all others
pub put_behind : (n : ℕ) (m xs : List ℤ) → length xs ≤ n → put_between n m xs ≡ xs ++ m
put_behind n m xs h = rw (take_all n xs h, drop_all n xs h) (ap (λ l. xs ++ l) (append-nil m))

-- the forms of equal maps are equal
pub same_forms : (x y u w : Form) → map_of x y ≡ map_of u w → (x ≡ u) × (y ≡ w)
same_forms x y u w e = (cc, cc)

-- ---- a piece that is a map
module _ (params : List Name) (p : PieceView) (x y : Form) (lies : p.space ≡ map_of x y) (v : Valuation) (e : Element) where
  pub domain_same : IsShadow params (set_of x) p.system (record { from = width_of x; count = width_of y }) v e
      ↔ DomainHas (elements_of params p v) e
  domain_same = (
    (λ h.
        let long : length e.coordinates ≡ width_of x = h.numbers ∙ ap coordinates_of h.lies in
        let both = length-append e.coordinates h.middle in
        let m = h.long in (
          record { form = x; numbers = e.coordinates },
          record { form = y; numbers = h.middle },
          record {
            from = long;
            to = h.long;
            has = record {
              numbers = omega (arith, long, both, m);
              space = lies;
              holds = subst (λ xs. HoldsSystem p.system (values_of params v ++ xs))
                  (put_behind (width_of x) h.middle e.coordinates (omega (arith, long))) h.holds;
            };
          },
          element_is e (set_of x) h.lies,
        )),
    (λ k.
        let forms = same_forms x y k.0.form k.1.form (sym lies ∙ k.2.has.space) in
        let long : length k.0.numbers ≡ width_of x = k.2.from ∙ ap width_of (sym forms.0) in
        let same : e.coordinates ≡ k.0.numbers = ap (λ (f : Element). f.coordinates) k.3 in
        record {
          numbers = subst IsElement (sym k.3) k.2.from;
          lies = ap (λ (f : Element). f.space) k.3 ∙ ap set_of (sym forms.0);
          middle = k.1.numbers;
          long = k.2.to ∙ ap width_of (sym forms.1);
          holds = subst (λ xs. HoldsSystem p.system (values_of params v ++ xs))
              (sym (ap (put_between (width_of x) k.1.numbers) same
              ∙ put_behind (width_of x) k.1.numbers k.0.numbers (omega (arith, long))))
              k.2.has.holds;
        }),
  )

  pub range_same : IsShadow params (set_of y) p.system (record { from = 0; count = width_of x }) v e
      ↔ RangeHas (elements_of params p v) e
  range_same = (
    (λ h.
        let long : length e.coordinates ≡ width_of y = h.numbers ∙ ap coordinates_of h.lies in
        let both = length-append h.middle e.coordinates in
        let m = h.long in (
          record { form = x; numbers = h.middle },
          record { form = y; numbers = e.coordinates },
          record {
            from = h.long;
            to = long;
            has = record { numbers = omega (arith, long, both, m); space = lies; holds = h.holds };
          },
          element_is e (set_of y) h.lies,
        )),
    (λ k.
        let forms = same_forms x y k.0.form k.1.form (sym lies ∙ k.2.has.space) in
        let same : e.coordinates ≡ k.1.numbers = ap (λ (f : Element). f.coordinates) k.3 in
        record {
          numbers = subst IsElement (sym k.3) k.2.to;
          lies = ap (λ (f : Element). f.space) k.3 ∙ ap set_of (sym forms.1);
          middle = k.0.numbers;
          long = k.2.from ∙ ap width_of (sym forms.0);
          holds = subst (λ xs. HoldsSystem p.system (values_of params v ++ (k.0.numbers ++ xs))) (sym same) k.2.has.holds;
        }),
  )

-- ---- a piece that is a map in one form
module _ (g : Gauge) (params : List Name) (p : PieceView) (x : Form) (lies : p.space ≡ map_of x x) (moved : System)
    (with : IsWithDifferences g p.system (length params) (width_of x) moved) where
  pub deltas_same : (v : Valuation) (e : Element)
      → IsShadow params (set_of x) moved (record { from = width_of x; count = 2 * width_of x }) v e
      ↔ DeltasHas (elements_of params p v) e
  deltas_same v e = (
    (λ h.
        let w = width_of x in
        let vs = values_of params v in
        let xs = take w h.middle in
        let ys = drop w h.middle in
        let long : length e.coordinates ≡ w = h.numbers ∙ ap coordinates_of h.lies in
        let m = h.long in
        let k : length xs ≡ w = length-take-le w h.middle (omega (arith, m)) in
        let behind = length-drop w h.middle in
        let l : length ys ≡ w = omega (arith, behind, m) in
        let there = put_behind w h.middle e.coordinates (omega (arith, long))
        ∙ ap (λ ns. e.coordinates ++ ns) (sym (take-append-drop w h.middle)) in
        let both = (with.points vs e.coordinates xs ys (length-values_of params v) long k l).0
        (subst (λ ns. HoldsSystem moved (vs ++ ns)) there h.holds) in
        let one = length-append xs ys in (
          record { form = x; numbers = xs },
          record { form = x; numbers = ys },
          record { from = k; to = l; has = record { numbers = omega (arith, one, k, l); space = lies; holds = both.0 } },
          refl,
          element_is e (set_of x) h.lies ∙ ap (λ ns. let f : Element = record { space = set_of x; coordinates = ns } in f) both.1,
        )),
    (λ k.
        let w = width_of x in
        let vs = values_of params v in
        let X = k.0 in
        let Y = k.1 in
        let forms = same_forms x x X.form Y.form (sym lies ∙ k.2.has.space) in
        let a : length X.numbers ≡ w = k.2.from ∙ ap width_of (sym forms.0) in
        let b : length Y.numbers ≡ w = k.2.to ∙ ap width_of (sym forms.1) in
        let same : e.coordinates ≡ differences X.numbers Y.numbers = ap (λ (f : Element). f.coordinates) k.4 in
        let lies_there : e.space ≡ set_of x = ap (λ (f : Element). f.space) k.4 ∙ ap set_of (sym forms.0) in
        let long : length e.coordinates ≡ w = ap (length {A = ℤ}) same
        ∙ length-differences X.numbers Y.numbers (a ∙ sym b) ∙ a in
        let one = length-append X.numbers Y.numbers in
        let there = put_behind w (X.numbers ++ Y.numbers) e.coordinates (omega (arith, long)) in
        record {
          numbers = long ∙ ap coordinates_of (sym lies_there);
          lies = lies_there;
          middle = X.numbers ++ Y.numbers;
          long = omega (arith, one, a, b);
          holds = subst (λ ns. HoldsSystem moved (vs ++ ns)) (sym there)
              ((with.points vs e.coordinates X.numbers Y.numbers (length-values_of params v) long a b).1 (k.2.has.holds, same));
        }),
  )
