-- First points, and the first lists of numbers that systems of pieces leave.
use Rattle.std.proofs.Common.{◌≡◌, ◌↔◌, inl, inr, refl, sym, ap, ap₂, ◌∙◌, subst, arith, ℤ, Bool, true, false, List, ◌++◌}
use Rattle.std.proofs.Common.{append_assoc, length, length-append, take, drop, take-append-drop, zip}
use Rattle.std.proofs.lemmas.Bool.{false≢true}
use Rattle.std.proofs.lemmas.List.{drop_at, length-drop, length-take-le, take_at}
use Rattle.isl_meter.specs.Gauge.{Gauge}
use Rattle.isl_space.specs.Element.{Element}
use Rattle.isl_space.specs.Form.{Form, width_of}
use Rattle.isl_space.specs.Name.{Name}
use Rattle.isl_space.specs.Names.{IsParameterList}
use Rattle.isl_space.specs.SpaceForm.{SpaceForm, coordinates_of, map_of, set_of}
use Rattle.isl_space.specs.Valuation.{Valuation, values_of}
use Rattle.isl_space.proofs.ValuationLaws.{length-values_of, values_of-zip}
use Rattle.isl_piece.specs.declared.system.System.{System}
use Rattle.isl_piece.specs.Piece.{PieceView}
use Rattle.isl_elim.specs.Elimination.{HoldsAtAny}
use Rattle.isl_union.specs.Minus.{systems_in}
use Rattle.isl_union.proofs.MinusLaws.{in_space}
use Rattle.isl_relation.specs.Extremes.{FirstHas, IsFirstImage, IsFirstOf}
use Rattle.isl_relation.specs.Point.{Point, IsPoint, map_element, set_element}
use Rattle.isl_blocks.specs.declared.cases.Direction.{Direction}
use Rattle.isl_blocks.specs.declared.cases.Direction.TheVariants.{Before, After}
use Rattle.isl_extremes.specs.declared.systems.Order.{Order}
use Rattle.isl_extremes.specs.Pieces.{elements_of_all, front_of, order_of, ordered_width, ThereIsFirst}
use Rattle.isl_extremes.specs.Systems.{AreBehind, AreFirst, HaveFirst, IsAhead, IsFirst}

-- ---- points
-- which columns of the systems of a space are put in order
abbrev pub order_at : List Name → SpaceForm → Direction → Order
order_at params space direction = record { front = front_of params space; width = ordered_width space; direction = direction }

ordered_from : (d : Direction) (z x : Point) → z.form ≡ x.form → IsAhead d z.numbers x.numbers → order_of d z x
ordered_from Before z x e h = record { form = e; before = h }
ordered_from After z x e h = record { form = sym e; before = h }

ordered_to : (d : Direction) (z x : Point) → order_of d z x → (z.form ≡ x.form) × IsAhead d z.numbers x.numbers
ordered_to Before z x h = (h.form, h.before)
ordered_to After z x h = (sym h.form, h.before)

abbrev last_form : SpaceForm → Form
last_form (set_of form) = form
last_form (map_of from to) = to

abbrev first_form : SpaceForm → Form
first_form (set_of form) = form
first_form (map_of from to) = from

abbrev is_map : SpaceForm → Bool
is_map (set_of form) = false
is_map (map_of from to) = true

-- ---- at a valuation
module _ (params : List Name) (pieces : List PieceView) (d : Direction) (v : Valuation) where
  abbrev M : Element → Type 0
  M = elements_of_all params pieces v

  abbrev front : List ℤ
  front = values_of params v

  front_long : length (values_of params v) ≡ length params
  front_long = length-values_of params v

  abbrev element_in : SpaceForm → List ℤ → Element
  element_in space numbers = record { space = space; coordinates = numbers }

  -- ---- sets
  set_has : (form : Form) (zs : List ℤ) → length zs ≡ width_of form
      → HoldsAtAny (systems_in (set_of form) pieces) (front ++ zs) ↔ M (element_in (set_of form) zs)
  set_has form zs long = in_space params v (element_in (set_of form) zs) (set_of form) pieces long refl

  pub first_set : (x : Point) → IsFirst d (AreBehind (systems_in (set_of x.form) pieces) (width_of x.form) front) x.numbers
      ↔ IsFirstOf (order_of d) M x
  first_set x = (
    (λ first. (
      record { point = first.0.0; has = (set_has x.form x.numbers first.0.0).0 first.0.1 },
      λ z has before.
          let o = ordered_to d z x before in
          let long : length z.numbers ≡ width_of x.form = has.point ∙ ap width_of o.0 in
          let there : M (element_in (set_of x.form) z.numbers) = subst (λ f. M (element_in (set_of f) z.numbers)) o.0 has.has in
          first.1 z.numbers (long, (set_has x.form z.numbers long).1 there) o.1,
    )),
    (λ first. (
      (first.0.point, (set_has x.form x.numbers first.0.point).1 first.0.has),
      λ zs p ahead.
          let z : Point = record { form = x.form; numbers = zs } in
          first.1 z (record { point = p.0; has = (set_has x.form zs p.0).0 p.1 }) (ordered_from d z x refl ahead),
    )),
  )

  -- ---- maps
  map_has : (from to : Form) (xs zs : List ℤ) → length xs ≡ width_of from → length zs ≡ width_of to
      → HoldsAtAny (systems_in (map_of from to) pieces) ((front ++ xs) ++ zs) ↔ M (element_in (map_of from to) (xs ++ zs))
  map_has from to xs zs xl zl =
      let both = length-append xs zs in
      subst (λ q. HoldsAtAny (systems_in (map_of from to) pieces) q ↔ M (element_in (map_of from to) (xs ++ zs)))
      (sym (append_assoc front xs zs))
      (in_space params v (element_in (map_of from to) (xs ++ zs)) (map_of from to) pieces (omega (arith, both, xl, zl)) refl)

  pub first_map : (x y : Point) → IsPoint x
      → IsFirst d (AreBehind (systems_in (map_of x.form y.form) pieces) (width_of y.form) (front ++ x.numbers)) y.numbers
      ↔ IsFirstImage (order_of d) M x y
  first_map x y xl = (
    (λ first. (
      record { from = xl; to = first.0.0; has = (map_has x.form y.form x.numbers y.numbers xl first.0.0).0 first.0.1 },
      λ z has before.
          let o = ordered_to d z y before in
          let long : length z.numbers ≡ width_of y.form = has.to ∙ ap width_of o.0 in
          let there : M (element_in (map_of x.form y.form) (x.numbers ++ z.numbers)) =
          subst (λ f. M (element_in (map_of x.form f) (x.numbers ++ z.numbers))) o.0 has.has in
          first.1 z.numbers (long, (map_has x.form y.form x.numbers z.numbers xl long).1 there) o.1,
    )),
    (λ first. (
      (first.0.to, (map_has x.form y.form x.numbers y.numbers xl first.0.to).1 first.0.has),
      λ zs p ahead.
          let z : Point = record { form = y.form; numbers = zs } in
          first.1 z (record { from = xl; to = p.0; has = (map_has x.form y.form x.numbers zs xl p.0).0 p.1 })
          (ordered_from d z y refl ahead),
    )),
  )

  -- ---- elements
  set_point : (form : Form) (xs : List ℤ) (x : Point) → element_in (set_of form) xs ≡ set_element x
      → record { form = form; numbers = xs } ≡ x
  set_point form xs x e = ap (λ (f : Element). let p : Point = record { form = last_form f.space; numbers = f.coordinates } in p) e

  no_set : (from to : Form) (xs : List ℤ) (x : Point) → element_in (map_of from to) xs ≡ set_element x → ⊥
  no_set from to xs x e = false≢true (sym (ap (λ (f : Element). is_map f.space) e))

  no_map : (form : Form) (xs : List ℤ) (x y : Point) → element_in (set_of form) xs ≡ map_element x y → ⊥
  no_map form xs x y e = false≢true (ap (λ (f : Element). is_map f.space) e)

  pub first_elements : (g : Gauge) (space : SpaceForm) (xs : List ℤ) (left : List System) → length xs ≡ coordinates_of space
      → AreFirst g (order_at params space d) (systems_in space pieces) left
      → HoldsAtAny left (front ++ xs) ↔ FirstHas (order_of d) M (element_in space xs)
  first_elements g (set_of form) xs left long first =
      let x : Point = record { form = form; numbers = xs } in
      let both = first.points front xs front_long long in
      let points = first_set x in (
        (λ h. inl (x, points.0 (both.0 h), refl)),
        (λ k. elim k [
          | inl s ↦ both.1 (points.1 (subst (IsFirstOf (order_of d) M) (sym (set_point form xs s.0 s.2)) s.1))
          | inr m ↦ absurd (no_map form xs m.0 m.1 m.3)
        ]),
      )
  first_elements g (map_of from to) xs left long first =
      let a = take (width_of from) xs in
      let b = drop (width_of from) xs in
      let a_long : length a ≡ width_of from = length-take-le (width_of from) xs (omega (arith, long)) in
      let dropped = length-drop (width_of from) xs in
      let b_long : length b ≡ width_of to = omega (arith, dropped, long) in
      let cut : a ++ b ≡ xs = take-append-drop (width_of from) xs in
      let whole : (front ++ a) ++ b ≡ front ++ xs = append_assoc front a b ∙ ap (λ ys. front ++ ys) cut in
      let x : Point = record { form = from; numbers = a } in
      let y : Point = record { form = to; numbers = b } in
      let n = length-append front a in
      let f = front_long in
      let both = first.points (front ++ a) b (omega (arith, n, f, a_long)) b_long in
      let points = first_map x y a_long in (
        (λ h. inr (x, y, points.0 (both.0 (subst (HoldsAtAny left) (sym whole) h)), ap (element_in (map_of from to)) (sym cut))),
        (λ k. elim k [
          | inl s ↦ absurd (no_set from to xs s.0 s.2)
          | inr m ↦
              let e = m.3 in
              let from_is : from ≡ m.0.form = ap (λ (f : Element). first_form f.space) e in
              let to_is : to ≡ m.1.form = ap (λ (f : Element). last_form f.space) e in
              let numbers : xs ≡ m.0.numbers ++ m.1.numbers = ap (λ (f : Element). f.coordinates) e in
              let w : length m.0.numbers ≡ width_of from = m.2.0.from ∙ ap width_of (sym from_is) in
              let a_is : a ≡ m.0.numbers = ap (take (width_of from)) numbers ∙ take_at m.0.numbers m.1.numbers (width_of from) w in
              let b_is : b ≡ m.1.numbers = ap (drop (width_of from)) numbers ∙ drop_at m.0.numbers m.1.numbers (width_of from) w in
              let x_is : x ≡ m.0 = ap₂ (λ f ns. let p : Point = record { form = f; numbers = ns } in p) from_is a_is in
              let y_is : y ≡ m.1 = ap₂ (λ f ns. let p : Point = record { form = f; numbers = ns } in p) to_is b_is in
              subst (HoldsAtAny left) whole (both.1 (points.1
              (subst (λ p. IsFirstImage (order_of d) M p y) (sym x_is) (subst (λ q. IsFirstImage (order_of d) M m.0 q) (sym y_is) m.2))))
        ]),
      )

-- ---- there is a first one
module _ (params : List Name) (pieces : List PieceView) (d : Direction) where
  pub there_from : (space : SpaceForm) → HaveFirst (order_at params space d) (systems_in space pieces) → ThereIsFirst params d pieces space
  there_from space have v = record {
    sets = λ x lies has.
        let here : HaveFirst (order_at params (set_of x.form) d) (systems_in (set_of x.form) pieces) =
        subst (λ s. HaveFirst (order_at params s d) (systems_in s pieces)) (sym lies) have in
        let f = length-values_of params v in
        let found = here (values_of params v) x.numbers f
        (has.point, (in_space params v (set_element x) (set_of x.form) pieces has.point refl).1 has.has) in
        let z : Point = record { form = x.form; numbers = found.0 } in
        (z, refl, (first_set params pieces d v z).0 found.1);
    maps = λ x y lies has.
        let here : HaveFirst (order_at params (map_of x.form y.form) d) (systems_in (map_of x.form y.form) pieces) =
        subst (λ s. HaveFirst (order_at params s d) (systems_in s pieces)) (sym lies) have in
        let f = length-values_of params v in
        let n = length-append (values_of params v) x.numbers in
        let xl = has.from in
        let found = here (values_of params v ++ x.numbers) y.numbers (omega (arith, n, f, xl))
        (has.to, (map_has params pieces d v x.form y.form x.numbers y.numbers has.from has.to).1 has.has) in
        let z : Point = record { form = y.form; numbers = found.0 } in
        (z, refl, (first_map params pieces d v x z has.from).0 found.1);
  }

  pub have_from : (space : SpaceForm) → IsParameterList params → ThereIsFirst params d pieces space
      → HaveFirst (order_at params space d) (systems_in space pieces)
  have_from (set_of form) names there front ys f p =
      let v = zip params front in
      let is : values_of params v ≡ front = values_of-zip params front names.distinct (sym f) in
      let P : List ℤ → Type 0 = AreBehind (systems_in (set_of form) pieces) (width_of form) front in
      let x : Point = record { form = form; numbers = ys } in
      let own : HoldsAtAny (systems_in (set_of form) pieces) (values_of params v ++ ys) =
      subst (λ q. HoldsAtAny (systems_in (set_of form) pieces) (q ++ ys)) (sym is) p.1 in
      let found = (there v).sets x refl
      (record { point = p.0; has = (set_has params pieces d v form ys p.0).0 own }) in
      let z : Point = record { form = form; numbers = found.0.numbers } in
      let z_is : found.0 ≡ z = ap (λ f. let q : Point = record { form = f; numbers = found.0.numbers } in q) found.1 in
      let first = (first_set params pieces d v z).1 (subst (IsFirstOf (order_of d) (elements_of_all params pieces v)) z_is found.2) in
      (found.0.numbers, subst (λ q. IsFirst d (AreBehind (systems_in (set_of form) pieces) (width_of form) q) found.0.numbers) is first)
  have_from (map_of from to) names there whole ys f p =
      let front = take (length params) whole in
      let xs = drop (length params) whole in
      let fl : length front ≡ length params = length-take-le (length params) whole (omega (arith, f)) in
      let dropped = length-drop (length params) whole in
      let xl : length xs ≡ width_of from = omega (arith, dropped, f) in
      let v = zip params front in
      let is : values_of params v ++ xs ≡ whole =
      ap (λ q. q ++ xs) (values_of-zip params front names.distinct (sym fl)) ∙ take-append-drop (length params) whole in
      let x : Point = record { form = from; numbers = xs } in
      let y : Point = record { form = to; numbers = ys } in
      let own : HoldsAtAny (systems_in (map_of from to) pieces) ((values_of params v ++ xs) ++ ys) =
      subst (λ q. HoldsAtAny (systems_in (map_of from to) pieces) (q ++ ys)) (sym is) p.1 in
      let found = (there v).maps x y refl
      (record { from = xl; to = p.0; has = (map_has params pieces d v from to xs ys xl p.0).0 own }) in
      let z : Point = record { form = to; numbers = found.0.numbers } in
      let z_is : found.0 ≡ z = ap (λ f. let q : Point = record { form = f; numbers = found.0.numbers } in q) found.1 in
      let first = (first_map params pieces d v x z xl).1
      (subst (IsFirstImage (order_of d) (elements_of_all params pieces v) x) z_is found.2) in
      (found.0.numbers, subst (λ q. IsFirst d (AreBehind (systems_in (map_of from to) pieces) (width_of to) q) found.0.numbers) is first)

-- ---- which columns
pub order_is : (o : Order) (params : List Name) (space : SpaceForm) (d : Direction) → o.front ≡ front_of params space
    → o.width ≡ ordered_width space → o.direction ≡ d → o ≡ order_at params space d
order_is o params space d a b e =
    ap₂ (λ f w. let q : Order = record { front = f; width = w; direction = o.direction } in q) a b
    ∙ ap (λ x. let q : Order = record { front = front_of params space; width = ordered_width space; direction = x } in q) e
