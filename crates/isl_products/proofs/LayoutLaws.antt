-- By which layouts products put elements together.
use Rattle.std.proofs.Common.{◌≡◌, refl, sym, ap, ap₂, ◌∙◌, arith, subst, inl, inr, Bool, true, false, Option, Some, None, cond, option_map}
use Rattle.std.proofs.lemmas.Bool.{cases_lt, false_from_ne_true}
use Rattle.std.proofs.lemmas.Option.{cond_some, none-some, same_Some}
use Rattle.isl_space.specs.Form.{Form}
use Rattle.isl_space.specs.Limits.{most_coordinates, most_leaves}
use Rattle.isl_space.specs.SpaceForm.{space_leaves_of}
use Rattle.isl_space.specs.SpaceForm.{SpaceForm, set_of, map_of, coordinates_of, IsNamedSpace, IsNarrowSpace, IsTooWideSpace}
use Rattle.isl_space.specs.SpaceForm.{IsWellFormedSpace}
use Rattle.isl_union.specs.Meet.{is_same_form}
use Rattle.isl_relation.proofs.TogetherLaws.{form_itself, same_form}
use Rattle.isl_products.specs.declared.layout.Layout.{Layout}
use Rattle.isl_products.specs.declared.layout.Place.{Place}
use Rattle.isl_products.specs.declared.layout.Place.TheVariants.{Domain, Range}
use Rattle.isl_products.specs.declared.layout.Product.{Product}
use Rattle.isl_products.specs.declared.layout.Product.TheVariants.{Universal, CrossSets, CrossMaps, Restrict}
use Rattle.isl_products.specs.Layout.{LayoutView, are_together, cross_maps_view, cross_sets_view, form_at, layout_of, layout_view}
use Rattle.isl_products.specs.Layout.{of_map_and_set}
use Rattle.isl_products.specs.Layout.{restrict_view, universal_view}
use Rattle.isl_products.specs.Layout.{IsPickOf, IsWide}

-- ---- what has a layout
pub universal_of : (s t : SpaceForm) (l : LayoutView) → layout_of Universal s t ≡ Some l
    → (x : Form) × (y : Form) × (s ≡ set_of x) × (t ≡ set_of y) × (universal_view x y ≡ l)
universal_of (set_of x) (set_of y) l e = (x, y, refl, refl, same_Some _ l e)
universal_of (set_of x) (map_of u w) l e = absurd (none-some l e)
universal_of (map_of x y) (set_of z) l e = absurd (none-some l e)
universal_of (map_of x y) (map_of u w) l e = absurd (none-some l e)

pub cross_sets_of : (s t : SpaceForm) (l : LayoutView) → layout_of CrossSets s t ≡ Some l
    → (x : Form) × (y : Form) × (s ≡ set_of x) × (t ≡ set_of y) × (cross_sets_view x y ≡ l)
cross_sets_of (set_of x) (set_of y) l e = (x, y, refl, refl, same_Some _ l e)
cross_sets_of (set_of x) (map_of u w) l e = absurd (none-some l e)
cross_sets_of (map_of x y) (set_of z) l e = absurd (none-some l e)
cross_sets_of (map_of x y) (map_of u w) l e = absurd (none-some l e)

pub cross_maps_of : (s t : SpaceForm) (l : LayoutView) → layout_of CrossMaps s t ≡ Some l
    → (x : Form) × (y : Form) × (u : Form) × (w : Form) × (s ≡ map_of x y) × (t ≡ map_of u w) × (cross_maps_view x y u w ≡ l)
cross_maps_of (set_of x) (set_of y) l e = absurd (none-some l e)
cross_maps_of (set_of x) (map_of u w) l e = absurd (none-some l e)
cross_maps_of (map_of x y) (set_of z) l e = absurd (none-some l e)
cross_maps_of (map_of x y) (map_of u w) l e = (x, y, u, w, refl, refl, same_Some _ l e)

pub restrict_of : (place : Place) (s t : SpaceForm) (l : LayoutView) → layout_of (Restrict place) s t ≡ Some l
    → (x : Form) × (y : Form) × (s ≡ map_of x y) × (t ≡ set_of (form_at place x y)) × (restrict_view place x y ≡ l)
restrict_of place (set_of x) (set_of y) l e = absurd (none-some l e)
restrict_of place (set_of x) (map_of u w) l e = absurd (none-some l e)
restrict_of place (map_of x y) (set_of z) l e =
    let both = cond_some (is_same_form (form_at place x y) z) (restrict_view place x y) l e in
    (x, y, refl, ap set_of (sym (same_form (form_at place x y) z both.0)), both.1)
restrict_of place (map_of x y) (map_of u w) l e = absurd (none-some l e)

pub restrict_only : (place : Place) (x y : Form) (t : SpaceForm) (l : LayoutView) → layout_of (Restrict place) (map_of x y) t ≡ Some l
    → (t ≡ set_of (form_at place x y)) × (restrict_view place x y ≡ l)
restrict_only place x y (set_of z) l e =
    let both = cond_some (is_same_form (form_at place x y) z) (restrict_view place x y) l e in
    (ap set_of (sym (same_form (form_at place x y) z both.0)), both.1)
restrict_only place x y (map_of u w) l e = absurd (none-some l e)

-- and a map and a set of the form at the place have one
pub restrict_at : (place : Place) (x y : Form) → layout_of (Restrict place) (map_of x y) (set_of (form_at place x y)) ≡ Some
    (restrict_view place x y)
restrict_at place x y = ap (λ b. cond b (Some (restrict_view place x y)) None) (form_itself (form_at place x y))

-- ---- what a layout picks
AreBoth : LayoutView → SpaceForm → SpaceForm → Type 0
AreBoth l s t = IsPickOf l.space l.own s × IsPickOf l.space l.other t

restrict_picks : (place : Place) (x y : Form) → AreBoth (restrict_view place x y) (map_of x y) (set_of (form_at place x y))
unfolding AreBoth
restrict_picks Domain x y = (
  record { inside = omega arith; count = omega arith },
  record { inside = omega arith; count = omega arith },
)
restrict_picks Range x y = (
  record { inside = omega arith; count = omega arith },
  record { inside = omega arith; count = omega arith },
)

both_from : (l m : LayoutView) (s t a b : SpaceForm) → s ≡ a → t ≡ b → m ≡ l → AreBoth m a b → AreBoth l s t
both_from l m s t a b p q r h = rw (p, q, sym r) h

-- as many coordinates as the two spaces have, among those of the formed one
pub layout_picks : (product : Product) (s t : SpaceForm) (l : LayoutView) → layout_of product s t ≡ Some l
    → IsPickOf l.space l.own s × IsPickOf l.space l.other t
unfolding AreBoth
layout_picks Universal s t l e =
    let k = universal_of s t l e in
    both_from l (universal_view k.0 k.1) s t (set_of k.0) (set_of k.1) k.2 k.3 k.4 (
      record { inside = omega arith; count = omega arith },
      record { inside = omega arith; count = omega arith },
    )
layout_picks CrossSets s t l e =
    let k = cross_sets_of s t l e in
    both_from l (cross_sets_view k.0 k.1) s t (set_of k.0) (set_of k.1) k.2 k.3 k.4 (
      record { inside = omega arith; count = omega arith },
      record { inside = omega arith; count = omega arith },
    )
layout_picks CrossMaps s t l e =
    let k = cross_maps_of s t l e in
    both_from l (cross_maps_view k.0 k.1 k.2 k.3) s t (map_of k.0 k.1) (map_of k.2 k.3) k.4 k.5 k.6 (
      record { inside = omega arith; count = omega arith },
      record { inside = omega arith; count = omega arith },
    )
layout_picks (Restrict place) s t l e =
    let k = restrict_of place s t l e in
    both_from l (restrict_view place k.0 k.1) s t (map_of k.0 k.1) (set_of (form_at place k.0 k.1)) k.2 k.3 k.4
    (restrict_picks place k.0 k.1)

-- ---- the formed space
-- its leaves have names that may stand in a literal
pub layout_named : (product : Product) (s t : SpaceForm) (l : LayoutView) → layout_of product s t ≡ Some l → IsNamedSpace s → IsNamedSpace t
    → IsNamedSpace l.space
layout_named Universal s t l e p q =
    let k = universal_of s t l e in
    subst (λ (m : LayoutView). IsNamedSpace m.space) k.4 (subst IsNamedSpace k.2 p, subst IsNamedSpace k.3 q)
layout_named CrossSets s t l e p q =
    let k = cross_sets_of s t l e in
    subst (λ (m : LayoutView). IsNamedSpace m.space) k.4 (subst IsNamedSpace k.2 p, subst IsNamedSpace k.3 q)
layout_named CrossMaps s t l e p q =
    let k = cross_maps_of s t l e in
    let f : IsNamedSpace (map_of k.0 k.1) = subst IsNamedSpace k.4 p in
    let h : IsNamedSpace (map_of k.2 k.3) = subst IsNamedSpace k.5 q in
    subst (λ (m : LayoutView). IsNamedSpace m.space) k.6 ((f.0, h.0), (f.1, h.1))
layout_named (Restrict place) s t l e p q =
    let k = restrict_of place s t l e in
    subst (λ (m : LayoutView). IsNamedSpace m.space) k.4 (subst IsNamedSpace k.2 p)

-- what restricts a map stays in its space
pub restrict_space : (place : Place) (s t : SpaceForm) (l : LayoutView) → layout_of (Restrict place) s t ≡ Some l → l.space ≡ s
restrict_space place s t l e = let k = restrict_of place s t l e in ap (λ (m : LayoutView). m.space) (sym k.4) ∙ sym k.2

pub narrow_not_wide : (s : SpaceForm) → IsNarrowSpace s → ¬ IsTooWideSpace s
narrow_not_wide s n w =
    let c = n.coordinates in
    let l = n.leaves in
    elim w [ inl a ↦ absurd (omega arith) | inr b ↦ absurd (omega arith) ]

pub restrict_narrow : (place : Place) (s t : SpaceForm) → IsWellFormedSpace s → ¬ IsWide (Restrict place) s t
restrict_narrow place s t formed w =
    narrow_not_wide s formed.narrow (subst IsTooWideSpace (restrict_space place s t w.layout w.forms) w.wide)

-- ---- what is found
pub found_at : (product : Product) (place : Place) (x y z : Form) → product ≡ Restrict place → form_at place x y ≡ z
    → Some (restrict_view place x y) ≡ of_map_and_set product x y z
found_at product place x y z is same = rw (is, sym same) (sym (restrict_at place x y))

pub none_at : (product : Product) (place : Place) (x y z : Form) → product ≡ Restrict place → ¬ (form_at place x y ≡ z)
    → None ≡ of_map_and_set product x y z
none_at product place x y z is differ =
    rw is (ap (λ b. cond b (Some (restrict_view place x y)) None)
    (sym (false_from_ne_true (is_same_form (form_at place x y) z) (λ e. differ (same_form (form_at place x y) z e)))))

-- the layout that is found
pub forms_from : (product : Product) (s t own other : SpaceForm) (found : Option Layout) (l : Layout)
    → option_map layout_view found ≡ layout_of product own other → found ≡ Some l → own ≡ s → other ≡ t
    → layout_of product s t ≡ Some (layout_view l)
forms_from product s t own other found l e is p q = sym (ap₂ (layout_of product) p q) ∙ sym e ∙ ap (option_map layout_view) is

pub forms_none : (product : Product) (s t own other : SpaceForm) (found : Option Layout)
    → option_map layout_view found ≡ layout_of product own other → found ≡ None → own ≡ s → other ≡ t
    → layout_of product s t ≡ None
forms_none product s t own other found e is p q = sym (ap₂ (layout_of product) p q) ∙ sym e ∙ ap (option_map layout_view) is

-- where there is none, the product does not put the spaces together
no_layout : (b : Bool) (l : LayoutView) → cond b (Some l) None ≡ None → b ≡ false
no_layout true l e = absurd (none-some l (sym e))
no_layout false l e = refl

pub not_together : (product : Product) (s t : SpaceForm) → layout_of product s t ≡ None → are_together product s t ≡ false
not_together Universal (set_of x) (set_of y) e = absurd (none-some (universal_view x y) (sym e))
not_together Universal (set_of x) (map_of u w) e = refl
not_together Universal (map_of x y) t e = refl
not_together CrossSets (set_of x) (set_of y) e = absurd (none-some (cross_sets_view x y) (sym e))
not_together CrossSets (set_of x) (map_of u w) e = refl
not_together CrossSets (map_of x y) t e = refl
not_together CrossMaps (set_of x) t e = refl
not_together CrossMaps (map_of x y) (set_of z) e = refl
not_together CrossMaps (map_of x y) (map_of u w) e = absurd (none-some (cross_maps_view x y u w) (sym e))
not_together (Restrict Domain) (set_of x) t e = refl
not_together (Restrict Domain) (map_of x y) (set_of z) e = no_layout (is_same_form x z) (restrict_view Domain x y) e
not_together (Restrict Domain) (map_of x y) (map_of u w) e = refl
not_together (Restrict Range) (set_of x) t e = refl
not_together (Restrict Range) (map_of x y) (set_of z) e = no_layout (is_same_form y z) (restrict_view Range x y) e
not_together (Restrict Range) (map_of x y) (map_of u w) e = refl

-- ---- a space that is not too wide is narrow
pub narrow_from : (s : SpaceForm) → ¬ IsTooWideSpace s → IsNarrowSpace s
narrow_from s none = record {
  coordinates = elim (cases_lt most_coordinates (coordinates_of s)) [ inl high ↦ absurd (none (inl high)) | inr low ↦ low ];
  leaves = elim (cases_lt most_leaves (space_leaves_of s)) [ inl high ↦ absurd (none (inr high)) | inr low ↦ low ];
}

pub layout_formed : (product : Product) (s t : SpaceForm) (l : LayoutView) → layout_of product s t ≡ Some l → IsWellFormedSpace s
    → IsWellFormedSpace t → ¬ IsWide product s t → IsWellFormedSpace l.space
layout_formed product s t l forms p q none = record {
  named = layout_named product s t l forms p.named q.named;
  narrow = narrow_from l.space (λ wide. none (record { layout = l; forms = forms; wide = wide }));
}
