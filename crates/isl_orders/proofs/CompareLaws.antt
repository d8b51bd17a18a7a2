-- Pieces of two values, compared.
use Rattle.std.proofs.Common.{◌≡◌, ◌↔◌, inl, inr, refl, sym, ap, ap₂, ◌∙◌, subst, arith, ℕ, ◌+◌, ◌<◌, ◌≤◌, ℤ, List, ◌++◌}
use Rattle.std.proofs.Common.{length, length-append}
use Rattle.std.proofs.Common.{map, take, drop, take-append-drop, unsigned_abs}
use Rattle.std.specs.List.{All}
use Rattle.std.proofs.lemmas.List.{length-drop, length-take-le}
use Rattle.isl_math.specs.Order.{IsBefore}
use Rattle.isl_meter.specs.Gauge.{Gauge, IsCharged, limit_of}
use Rattle.isl_space.specs.Element.{Element}
use Rattle.isl_space.specs.Form.{Form, leaves_of, width_of, IsNamed}
use Rattle.isl_space.specs.Limits.{most_coordinates, most_leaves}
use Rattle.isl_space.specs.Name.{Name}
use Rattle.isl_space.specs.SpaceForm.{SpaceForm, coordinates_of, map_of, set_of, IsTooWideSpace, IsWellFormedSpace}
use Rattle.isl_space.specs.Valuation.{Valuation, values_of}
use Rattle.isl_space.proofs.ValuationLaws.{length-values_of}
use Rattle.isl_piece.specs.declared.system.System.{System}
use Rattle.isl_piece.specs.Piece.{PieceView}
use Rattle.isl_piece.specs.System.{free_columns}
use Rattle.isl_elim.specs.Elimination.{HoldsAtAny}
use Rattle.isl_union.specs.KeptValue.{columns_of}
use Rattle.isl_union.specs.Numbers.{IsPieceUpTo}
use Rattle.isl_union.specs.Piece.{kept_piece, IsPieceOf}
use Rattle.isl_union.specs.Pieces.{IsOfAny}
use Rattle.isl_union.proofs.PiecesLaws.{through}
use Rattle.isl_union.proofs.SystemLaws.{view_free}
use Rattle.isl_union.proofs.ValueLaws.{pieces_within}
use Rattle.isl_relation.specs.Orders.{ComesBefore, OrderedMapsHas, OrderedSetsHas}
use Rattle.isl_relation.specs.Point.{Point}
use Rattle.isl_images.specs.Made.{elements_of, elements_of_all, ArePiecesOf}
use Rattle.isl_images.proofs.ImageLaws.{element_is, same_forms}
use Rattle.isl_images.proofs.MadeLaws.{within_before}
use Rattle.isl_orders.specs.declared.order.Operands.TheVariants.{Sets, Maps}
use Rattle.isl_orders.specs.declared.order.Order.{Order}
use Rattle.isl_orders.specs.declared.order.Order.TheVariants.{Less, UpTo, Greater, DownTo}
use Rattle.isl_orders.specs.declared.systems.Columns.{Columns}
use Rattle.isl_orders.specs.Comparison.{AreOrdered, IsOrdered, IsWide}
use Rattle.isl_orders.specs.Ordered.{AreOfMaps, AreOfSets}

-- ---- points that are so ordered
before_form : (x y : Point) → x.form ≡ y.form → IsBefore x.numbers y.numbers → ComesBefore x y
before_form x y e b = record { form = e; before = b }

point_same : (x y : Point) → x.form ≡ y.form → x.numbers ≡ y.numbers → x ≡ y
point_same x y e n = ap₂ (λ f ns. let p : Point = record { form = f; numbers = ns } in p) e n

ordered_form : (order : Order) (x y : Point) → IsOrdered order x y → x.form ≡ y.form
ordered_form Less x y h = h.form
ordered_form UpTo x y h = elim h [ inl b ↦ b.form | inr e ↦ ap (λ (p : Point). p.form) e ]
ordered_form Greater x y h = sym h.form
ordered_form DownTo x y h = elim h [ inl b ↦ sym b.form | inr e ↦ sym (ap (λ (p : Point). p.form) e) ]

pub ordered_numbers : (order : Order) (x y : Point) → IsOrdered order x y → AreOrdered order x.numbers y.numbers
ordered_numbers Less x y h = h.before
ordered_numbers UpTo x y h = elim h [ inl b ↦ inl b.before | inr e ↦ inr (ap (λ (p : Point). p.numbers) e) ]
ordered_numbers Greater x y h = h.before
ordered_numbers DownTo x y h = elim h [ inl b ↦ inl b.before | inr e ↦ inr (sym (ap (λ (p : Point). p.numbers) e)) ]

pub ordered_points : (order : Order) (x y : Point) → x.form ≡ y.form → AreOrdered order x.numbers y.numbers → IsOrdered order x y
ordered_points Less x y e h = before_form x y e h
ordered_points UpTo x y e h = elim h [ inl b ↦ inl (before_form x y e b) | inr n ↦ inr (point_same x y e n) ]
ordered_points Greater x y e h = before_form y x (sym e) h
ordered_points DownTo x y e h = elim h [ inl b ↦ inl (before_form y x (sym e) b) | inr n ↦ inr (point_same y x (sym e) (sym n)) ]

-- ---- spaces that are formed
not_more : (a b : ℕ) → ¬ (b < a) → a ≤ b
not_more a b h = omega (arith, h)

formed : (x y : Form) → IsNamed x → IsNamed y → ¬ IsTooWideSpace (map_of x y) → IsWellFormedSpace (map_of x y)
formed x y one two never = record {
  named = (one, two);
  narrow = record {
    coordinates = not_more (width_of x + width_of y) most_coordinates (λ h. never (inl h));
    leaves = not_more (leaves_of x + leaves_of y) most_leaves (λ h. never (inr h));
  };
}

pub same_set : (x y : Form) → set_of x ≡ set_of y → x ≡ y
same_set x y e = cc

-- ---- pieces that were made
pub left_made : (g h : Gauge) → IsCharged g h → (params : List Name) (Q : Valuation → Element → Type 0) (space : SpaceForm)
    (left : List System) (made : List PieceView)
    → ((v : Valuation) (e : Element) → elements_of_all params made v e ↔ IsOfAny params space left v e)
    → ((v : Valuation) (e : Element) → IsOfAny params space left v e ↔ Q v e) → All (IsPieceOf params) made
    → All (IsPieceUpTo (unsigned_abs (limit_of h))) (map kept_piece made) → ArePiecesOf g params ⊥ Q made
left_made g h charged params Q space left made have same sound small = record {
  elements = λ v e. through (have v e) (same v e);
  sound = sound;
  within = within_before g h made charged (pieces_within h params made (map kept_piece made) sound refl small);
  definitions = λ never. absurd never;
}

-- ---- two sets
pub sets_apart : (params : List Name) (order : Order) (a b : PieceView) (x y : Form) → a.space ≡ set_of x → b.space ≡ set_of y → ¬ (x ≡ y)
    → (v : Valuation) (e : Element) → ¬ OrderedSetsHas (IsOrdered order) (elements_of params a v) (elements_of params b v) e
sets_apart params order a b x y one two differ v e k =
    differ (same_set x k.0.form (sym one ∙ k.2.has.space) ∙ ordered_form order k.0 k.1 k.4
    ∙ sym (same_set y k.1.form (sym two ∙ k.3.has.space)))

pub maps_apart : (params : List Name) (order : Order) (a b : PieceView) (x y z w : Form) → a.space ≡ map_of x z → b.space ≡ map_of y w
    → ¬ (z ≡ w) → (v : Valuation) (e : Element)
    → ¬ OrderedMapsHas (IsOrdered order) (elements_of params a v) (elements_of params b v) e
maps_apart params order a b x y z w one two differ v e k =
    differ ((same_forms x z k.0.form k.2.form (sym one ∙ k.4.has.space)).1 ∙ ordered_form order k.2 k.3 k.6
    ∙ sym (same_forms y w k.1.form k.3.form (sym two ∙ k.5.has.space)).1)

module _ (params : List Name) (order : Order) (a b : PieceView) (x : Form) (a_lies : a.space ≡ set_of x) (b_lies : b.space ≡ set_of x)
    (a_sound : IsPieceOf params a) (b_sound : IsPieceOf params b) where
  pub set_columns : free_columns a.system ≡ length params + width_of x
  set_columns = view_free params a a_sound ∙ ap (columns_of params) a_lies

  pub other_columns : free_columns b.system ≡ length params + width_of x
  other_columns = view_free params b b_sound ∙ ap (columns_of params) b_lies

  pub sets_formed : ¬ IsWide Sets a.space b.space → IsWellFormedSpace (map_of x x)
  sets_formed narrow =
      let one = subst IsWellFormedSpace a_lies a_sound.kept.space in
      formed x x one.named one.named (λ wide. narrow (map_of x x, (x, a_lies, b_lies, refl), wide))

  module _ (g : Gauge) (left : List System) (of : AreOfSets g (length params) (width_of x) order a.system b.system left) (v : Valuation)
      (e : Element) where
    abbrev vs : List ℤ
    vs = values_of params v

    pub sets_same : IsOfAny params (map_of x x) left v e
        ↔ OrderedSetsHas (IsOrdered order) (elements_of params a v) (elements_of params b v) e
    sets_same = (
      (λ h.
          let w = width_of x in
          let xs = take w e.coordinates in
          let ys = drop w e.coordinates in
          let long : length e.coordinates ≡ w + w = h.numbers ∙ ap coordinates_of h.lies in
          let lx : length xs ≡ w = length-take-le w e.coordinates (omega (arith, long)) in
          let rest = length-drop w e.coordinates in
          let ly : length ys ≡ w = omega (arith, rest, long) in
          let parts = take-append-drop w e.coordinates in
          let k = (of.points vs xs ys (length-values_of params v) lx ly).0
          (subst (λ t. HoldsAtAny left (vs ++ t)) (sym parts) h.holds) in
          let px : Point = record { form = x; numbers = xs } in
          let py : Point = record { form = x; numbers = ys } in (
            px,
            py,
            record { point = lx; has = record { numbers = lx; space = a_lies; holds = k.0 } },
            record { point = ly; has = record { numbers = ly; space = b_lies; holds = k.1 } },
            ordered_points order px py refl k.2,
            element_is e (map_of x x) h.lies
                ∙ ap (λ ns. let f : Element = record { space = map_of x x; coordinates = ns } in f) (sym parts),
          )),
      (λ k.
          let px = k.0 in
          let py = k.1 in
          let one = same_set x px.form (sym a_lies ∙ k.2.has.space) in
          let two = same_set x py.form (sym b_lies ∙ k.3.has.space) in
          let lx = k.2.point ∙ ap width_of (sym one) in
          let ly = k.3.point ∙ ap width_of (sym two) in
          let same : e.coordinates ≡ px.numbers ++ py.numbers = ap (λ (f : Element). f.coordinates) k.5 in
          let both = length-append px.numbers py.numbers in
          let lies : e.space ≡ map_of x x = ap (λ (f : Element). f.space) k.5 ∙ ap₂ map_of (sym one) (sym two) in
          record {
            numbers = ap (length {A = ℤ}) same ∙ omega (arith, both, lx, ly) ∙ ap coordinates_of (sym lies);
            lies = lies;
            holds = subst (λ t. HoldsAtAny left (vs ++ t)) (sym same)
                ((of.points vs px.numbers py.numbers (length-values_of params v) lx ly).1
                (k.2.has.holds, k.3.has.holds, ordered_numbers order px py k.4));
          }),
    )

-- ---- two maps
module _ (params : List Name) (order : Order) (a b : PieceView) (x y z : Form) (a_lies : a.space ≡ map_of x z)
    (b_lies : b.space ≡ map_of y z) (a_sound : IsPieceOf params a) (b_sound : IsPieceOf params b) where
  pub map_columns : free_columns a.system ≡ length params + (width_of x + width_of z)
  map_columns = view_free params a a_sound ∙ ap (columns_of params) a_lies

  pub second_columns : free_columns b.system ≡ length params + (width_of y + width_of z)
  second_columns = view_free params b b_sound ∙ ap (columns_of params) b_lies

  pub maps_formed : ¬ IsWide Maps a.space b.space → IsWellFormedSpace (map_of x y)
  maps_formed narrow =
      let one = subst IsWellFormedSpace a_lies a_sound.kept.space in
      let two = subst IsWellFormedSpace b_lies b_sound.kept.space in
      formed x y one.named.0 two.named.0 (λ wide. narrow (map_of x y, (x, y, z, a_lies, b_lies, refl), wide))

  abbrev columns : Columns
  columns = record { parameters = length params; first = width_of x; second = width_of y; compared = width_of z }

  module _ (g : Gauge) (left : List System) (of : AreOfMaps g columns order a.system b.system left) (v : Valuation) (e : Element) where
    abbrev vals : List ℤ
    vals = values_of params v

    pub maps_same : IsOfAny params (map_of x y) left v e
        ↔ OrderedMapsHas (IsOrdered order) (elements_of params a v) (elements_of params b v) e
    maps_same = (
      (λ h.
          let m = width_of x in
          let xs = take m e.coordinates in
          let ys = drop m e.coordinates in
          let long : length e.coordinates ≡ m + width_of y = h.numbers ∙ ap coordinates_of h.lies in
          let lx : length xs ≡ m = length-take-le m e.coordinates (omega (arith, long)) in
          let rest = length-drop m e.coordinates in
          let ly : length ys ≡ width_of y = omega (arith, rest, long) in
          let parts = take-append-drop m e.coordinates in
          let k = (of.points vals xs ys (length-values_of params v) lx ly).0
          (subst (λ t. HoldsAtAny left (vals ++ t)) (sym parts) h.holds) in
          let lp = k.2 in
          let lq = k.3 in
          let one = length-append xs k.0 in
          let two = length-append ys k.1 in
          let px : Point = record { form = x; numbers = xs } in
          let py : Point = record { form = y; numbers = ys } in
          let pp : Point = record { form = z; numbers = k.0 } in
          let pq : Point = record { form = z; numbers = k.1 } in (
            px,
            py,
            pp,
            pq,
            record { from = lx; to = lp; has = record { numbers = omega (arith, one, lx, lp); space = a_lies; holds = k.4 } },
            record { from = ly; to = lq; has = record { numbers = omega (arith, two, ly, lq); space = b_lies; holds = k.5 } },
            ordered_points order pp pq refl k.6,
            element_is e (map_of x y) h.lies
                ∙ ap (λ ns. let f : Element = record { space = map_of x y; coordinates = ns } in f) (sym parts),
          )),
      (λ k.
          let px = k.0 in
          let py = k.1 in
          let pp = k.2 in
          let pq = k.3 in
          let one = same_forms x z px.form pp.form (sym a_lies ∙ k.4.has.space) in
          let two = same_forms y z py.form pq.form (sym b_lies ∙ k.5.has.space) in
          let lx = k.4.from ∙ ap width_of (sym one.0) in
          let ly = k.5.from ∙ ap width_of (sym two.0) in
          let lp = k.4.to ∙ ap width_of (sym one.1) in
          let lq = k.5.to ∙ ap width_of (sym two.1) in
          let same : e.coordinates ≡ px.numbers ++ py.numbers = ap (λ (f : Element). f.coordinates) k.7 in
          let both = length-append px.numbers py.numbers in
          let lies : e.space ≡ map_of x y = ap (λ (f : Element). f.space) k.7 ∙ ap₂ map_of (sym one.0) (sym two.0) in
          record {
            numbers = ap (length {A = ℤ}) same ∙ omega (arith, both, lx, ly) ∙ ap coordinates_of (sym lies);
            lies = lies;
            holds = subst (λ t. HoldsAtAny left (vals ++ t)) (sym same)
                ((of.points vals px.numbers py.numbers (length-values_of params v) lx ly).1
                (pp.numbers, pq.numbers, lp, lq, k.4.has.holds, k.5.has.holds, ordered_numbers order pp pq k.6));
          }),
    )
