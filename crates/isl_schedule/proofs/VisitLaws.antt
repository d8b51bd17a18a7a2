-- What pieces tell to be visited.
use Rattle.std.proofs.Common.{◌≡◌, ◌↔◌, inl, inr, sym, ap, ◌∙◌, subst, arith, ℕ, ◌+◌, ℤ, List, [], ◌++◌, append-nil, length}
use Rattle.std.proofs.Common.{length-append}
use Rattle.isl_meter.specs.Gauge.{Gauge}
use Rattle.isl_space.specs.Element.{Element}
use Rattle.isl_space.specs.Form.{Form, width_of}
use Rattle.isl_space.specs.Name.{Name}
use Rattle.isl_space.specs.Shape.{form_of}
use Rattle.isl_space.specs.SpaceForm.{SpaceForm, set_of, map_of}
use Rattle.isl_space.specs.Valuation.{Valuation, values_of}
use Rattle.isl_space.proofs.ValuationLaws.{length-values_of}
use Rattle.isl_piece.specs.Piece.{PieceView}
use Rattle.isl_piece.specs.declared.system.System.{System}
use Rattle.isl_piece.specs.System.{HoldsSystem, IsSystemWithin, free_columns}
use Rattle.isl_blocks.specs.Blocks.{numbers_of, widths_of}
use Rattle.isl_union.specs.KeptValue.{HasElement, columns_of}
use Rattle.isl_union.specs.Piece.{kept_piece, IsPieceOf}
use Rattle.isl_union.proofs.SystemLaws.{view_free}
use Rattle.isl_relation.specs.Point.{Point, HasPoint, IsPoint, Relates}
use Rattle.isl_schedule.specs.Schedule.{domain_form, time_form, IsVisitedAt}
use Rattle.isl_schedule.specs.Visits.{own_widths, visit_blocks, IsAtItself, IsOverBlocks, IsTimedBy, IsVisitOf, Visit}
use Rattle.isl_schedule.specs.declared.visits.Visits.{Visits}

pub points_same : (x t : Point) → t.form ≡ x.form → t.numbers ≡ x.numbers → t ≡ x
points_same x t form numbers = by t.form x.form t.numbers x.numbers form numbers
  where
    point : Form → List ℤ → Point
    point form numbers = record { form = form; numbers = numbers }

    by : (f g : Form) (xs ys : List ℤ) → f ≡ g → xs ≡ ys → point f xs ≡ point g ys
    by f g xs ys e h = cc

set_apart : (x y z : Form) → set_of x ≡ map_of y z → ⊥
set_apart x y z e = cc

same_sets : (x y : Form) → set_of x ≡ set_of y → x ≡ y
same_sets x y e = cc

same_maps : (x y u w : Form) → map_of x y ≡ map_of u w → (x ≡ u) × (y ≡ w)
same_maps x y u w e = (cc, cc)

-- ---- one piece
module _ (params : List Name) (p : PieceView) (v : Valuation) where
  abbrev pub HasIt : Element → Type 0
  HasIt element = HasElement params v element (kept_piece p)

  -- of a map
  relates_at : (x t : Point) → p.space ≡ map_of x.form t.form → IsPoint x → IsPoint t
      → HoldsSystem p.system (numbers_of (visit_blocks params v x t)) ↔ Relates HasIt x t
  relates_at x t lies first second =
      let same : t.numbers ++ [] ≡ t.numbers = append-nil t.numbers in (
        (λ h. record {
          from = first;
          to = second;
          has = record {
            numbers = let n = length-append x.numbers t.numbers in omega (arith, n, first, second);
            space = lies;
            holds = subst (λ ns. HoldsSystem p.system (values_of params v ++ (x.numbers ++ ns))) same h;
          };
        }),
        (λ r. subst (λ ns. HoldsSystem p.system (values_of params v ++ (x.numbers ++ ns))) (sym same) r.has.holds),
      )

  -- of a set
  point_at : (x : Point) → p.space ≡ set_of x.form → IsPoint x
      → HoldsSystem p.system (values_of params v ++ (x.numbers ++ [])) ↔ HasPoint HasIt x
  point_at x lies is =
      let same : x.numbers ++ [] ≡ x.numbers = append-nil x.numbers in (
        (λ h. record {
          point = is;
          has = record {
            numbers = is;
            space = lies;
            holds = subst (λ ns. HoldsSystem p.system (values_of params v ++ ns)) same h;
          };
        }),
        (λ r. subst (λ ns. HoldsSystem p.system (values_of params v ++ ns)) (sym same) r.has.holds),
      )

module _ (g : Gauge) (params : List Name) (p : PieceView) (sound : IsPieceOf params p) (visits : Visits)
    (domain : form_of visits.domain.value ≡ domain_form p.space) (time : form_of visits.time.value ≡ time_form p.space) where
  -- ---- a map
  module _ (a b : Form) (lies : p.space ≡ map_of a b) (same : visits.system ≡ p.system) where
    from_is : form_of visits.domain.value ≡ a
    from_is = domain ∙ ap domain_form lies

    to_is : form_of visits.time.value ≡ b
    to_is = time ∙ ap time_form lies

    map_visit : (v : Valuation) (x t : Point) → IsVisitedAt (HasIt params p v) x t ↔ Visit params v x t visits
    map_visit v x t = (
      (λ h. elim h [
        | inl set ↦ absurd (set_apart x.form a b (sym set.0.has.space ∙ lies))
        | inr map ↦
            let forms = same_maps x.form t.form a b (sym map.has.space ∙ lies) in
            record {
              domain = forms.0 ∙ sym from_is;
              time = forms.1 ∙ sym to_is;
              point = map.from;
              at = map.to;
              holds = subst (λ (s : System). HoldsSystem s (numbers_of (visit_blocks params v x t))) (sym same)
                  ((relates_at params p v x t map.has.space map.from map.to).1 map);
            }
      ]),
      (λ h.
          let own : p.space ≡ map_of x.form t.form = lies ∙ maps_same a b x.form t.form (h.domain ∙ from_is) (h.time ∙ to_is) in
          inr ((relates_at params p v x t own h.point h.at).0
          (subst (λ (s : System). HoldsSystem s (numbers_of (visit_blocks params v x t))) same h.holds))),
    )
      where
        maps_same : (a b x t : Form) → x ≡ a → t ≡ b → map_of a b ≡ map_of x t
        maps_same a b x t e h = cc

    pub map_visits : IsSystemWithin g p.system → IsVisitOf g params p visits
    map_visits within = record {
      domain = domain;
      time = time;
      visited = map_visit;
      within = subst (IsSystemWithin g) (sym same) within;
      free = ap free_columns same ∙ view_free params p sound ∙ ap (columns_of params) lies
          ∙ wide (length params) (width_of a) (width_of b) (width_of (form_of visits.domain.value)) (width_of (form_of visits.time.value))
          (ap width_of from_is) (ap width_of to_is);
    }
      where
        wide : (n a b x t : ℕ) → x ≡ a → t ≡ b → n + (a + b) ≡ n + (x + (t + 0))
        wide n a b x t e h = omega (arith, e, h)

  -- ---- a set
  module _ (a : Form) (lies : p.space ≡ set_of a)
      (made : IsOverBlocks g (own_widths (length params) (width_of a)) (IsAtItself p.system) visits.system) where
    own_is : form_of visits.domain.value ≡ a
    own_is = domain ∙ ap domain_form lies

    at_is : form_of visits.time.value ≡ a
    at_is = time ∙ ap time_form lies

    blocks_wide : (v : Valuation) (x t : Point) → x.form ≡ a → t.form ≡ a → IsPoint x → IsPoint t
        → widths_of (visit_blocks params v x t) ≡ own_widths (length params) (width_of a)
    blocks_wide v x t e h first second =
        let n = length-values_of params v in
        let i = first ∙ ap width_of e in
        let j = second ∙ ap width_of h in
        cc

    set_visit : (v : Valuation) (x t : Point) → IsVisitedAt (HasIt params p v) x t ↔ Visit params v x t visits
    set_visit v x t = (
      (λ h. elim h [
        | inl set ↦
            let form : x.form ≡ a = same_sets x.form a (sym set.0.has.space ∙ lies) in
            let same : t.form ≡ x.form = ap (λ (y : Point). y.form) set.1 in
            let numbers : t.numbers ≡ x.numbers = ap (λ (y : Point). y.numbers) set.1 in
            let at : IsPoint t = subst IsPoint (sym set.1) set.0.point in
            let wide = blocks_wide v x t form (same ∙ form) set.0.point at in
            record {
              domain = form ∙ sym own_is;
              time = same ∙ form ∙ sym at_is;
              point = set.0.point;
              at = at;
              holds = (made.points (visit_blocks params v x t) wide).1
                  ((point_at params p v x set.0.has.space set.0.point).1 set.0, sym numbers);
            }
        | inr map ↦ absurd (set_apart a x.form t.form (sym lies ∙ map.has.space))
      ]),
      (λ h.
          let form : x.form ≡ a = h.domain ∙ own_is in
          let wide = blocks_wide v x t form (h.time ∙ at_is) h.point h.at in
          let both = (made.points (visit_blocks params v x t) wide).0 h.holds in
          let own : p.space ≡ set_of x.form = lies ∙ sym (ap set_of form) in
          inl (
            (point_at params p v x own h.point).0 both.0,
            points_same x t (h.time ∙ at_is ∙ sym form) (sym both.1),
          )),
    )

    pub set_visits : IsVisitOf g params p visits
    set_visits = record {
      domain = domain;
      time = time;
      visited = set_visit;
      within = made.within;
      free = made.free ∙ wide (length params) (width_of a) (width_of (form_of visits.domain.value))
          (width_of (form_of visits.time.value)) (ap width_of own_is) (ap width_of at_is);
    }
      where
        wide : (n a x t : ℕ) → x ≡ a → t ≡ a → n + (a + (a + 0)) ≡ n + (x + (t + 0))
        wide n a x t e h = omega (arith, e, h)

  pub visits_made : (s : SpaceForm) → p.space ≡ s → IsTimedBy g (length params) s p.system visits.system → IsSystemWithin g p.system
      → IsVisitOf g params p visits
  visits_made (set_of a) lies made within = set_visits a lies made
  visits_made (map_of a b) lies made within = map_visits a b lies made within
