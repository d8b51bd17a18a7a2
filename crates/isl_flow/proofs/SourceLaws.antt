-- The last sources of sinks, and the sinks without one.
use Rattle.std.proofs.Common.{◌≡◌, ◌↔◌, refl, sym, ap, ap₂, ◌∙◌, subst, arith, ◌+◌, List, ◌++◌, Any, length, take, drop}
use Rattle.std.proofs.Common.{take-append-drop, map}
use Rattle.std.proofs.lemmas.List.{append_cancel_left, length-drop, length-take-le, take_at}
use Rattle.isl_math.proofs.ListLaws.{Any-contains, Any-element, Any-weaker}
use Rattle.isl_meter.specs.Gauge.{Gauge}
use Rattle.isl_space.specs.Element.{Element, IsElement}
use Rattle.isl_space.specs.Form.{width_of}
use Rattle.isl_space.specs.Name.{Name}
use Rattle.isl_space.specs.SpaceForm.{map_of, coordinates_of}
use Rattle.isl_space.specs.Valuation.{Valuation}
use Rattle.isl_piece.specs.Piece.{PieceView}
use Rattle.isl_union.specs.KeptValue.{KeptValue, Has, HasElement}
use Rattle.isl_union.specs.Minus.{ArePiecesOver}
use Rattle.isl_images.proofs.ImageLaws.{element_is, same_forms}
use Rattle.isl_relation.specs.Flow.{IsOverwritten, LastHas, Precedes, UnsourcedHas}
use Rattle.isl_relation.specs.Point.{Point, IsPoint, map_element}
use Rattle.isl_precedence.specs.declared.precedence.Precedence.{Precedence}
use Rattle.isl_flow.specs.Last.{IsMapElement, ShowsLast, ShowsSink}
use Rattle.isl_precedence.specs.Later.{with_source, ComesLater}
use Rattle.isl_remainder.specs.Made.{AreMade}
use Rattle.isl_precedence.specs.Precedence.{Occurrence, HasOccurrence, IsAccessed, IsPlainPrecedence, SourcesIn}
use Rattle.isl_precedence.proofs.FlowLaws.{precedes_same}

-- an element of a space of maps is x → y
pub element_parts : (e : Element) → IsElement e → IsMapElement e
    → (x : Point) × (y : Point) × IsPoint x × IsPoint y × (e ≡ map_element x y)
element_parts e is map =
    let x = map.0 in
    let y = map.1 in
    let same = map.2 in
    let long : length e.coordinates ≡ width_of x + width_of y = is ∙ ap coordinates_of same in
    let d = length-drop (width_of x) e.coordinates in (
      record { form = x; numbers = take (width_of x) e.coordinates },
      record { form = y; numbers = drop (width_of x) e.coordinates },
      length-take-le (width_of x) e.coordinates (omega (arith, long)),
      omega (arith, long, d),
      element_is e (map_of x y) same
          ∙ ap (λ ns. let f : Element = record { space = map_of x y; coordinates = ns } in f)
          (sym (take-append-drop (width_of x) e.coordinates)),
    )

-- both points are told by the element
pub same_points : (x y u w : Point) → IsPoint x → IsPoint u → map_element x y ≡ map_element u w → (x ≡ u) × (y ≡ w)
same_points x y u w one two same =
    let spaces : map_of x.form y.form ≡ map_of u.form w.form = ap (λ (e : Element). e.space) same in
    let forms = same_forms x.form y.form u.form w.form spaces in
    let all : x.numbers ++ y.numbers ≡ u.numbers ++ w.numbers = ap (λ (e : Element). e.coordinates) same in
    let numbers : x.numbers ≡ u.numbers =
    sym (take_at x.numbers y.numbers (width_of x.form) one)
    ∙ (ap₂ take (ap width_of forms.0) all ∙ take_at u.numbers w.numbers (width_of u.form) two) in
    let rest : y.numbers ≡ w.numbers =
    append_cancel_left x.numbers y.numbers w.numbers (all ∙ ap (λ l. l ++ w.numbers) (sym numbers)) in (
      ap₂ (λ f l. let p : Point = record { form = f; numbers = l } in p) forms.0 numbers,
      ap₂ (λ f l. let p : Point = record { form = f; numbers = l } in p) forms.1 rest,
    )

module _ (g : Gauge) (params : List Name) (m n t : KeptValue) (sources sinks times : List PieceView) (first : ArePiecesOver g params m
    sources)
    (second : ArePiecesOver g params n sinks) (third : ArePiecesOver g params t times) (h : Gauge) (S : Type 0) (found : List Precedence)
    (are : AreMade (HasOccurrence params) (IsAccessed h params) IsPlainPrecedence S (SourcesIn params sources sinks times) found)
    (v : Valuation) where
  abbrev At : Occurrence → Type 0
  At o = Precedes (Has m v) (Has n v) (Has t v) o.source o.sink o.access o.time o.sink_time

  -- what the precedences have is what comes before
  found_same : (o : Occurrence) → o.valuation ≡ v → Any (HasOccurrence params o) found ↔ At o
  found_same o is =
      let a = are.has o in
      let b = precedes_same g params m n t sources sinks times first second third v o is in
      ((λ x. b.0 (a.0 x)), (λ x. a.1 (b.1 x)))

  pub last_same : (e : Element) → ShowsLast params v e found ↔ LastHas (Has m v) (Has n v) (Has t v) e
  last_same e = (
    (λ s.
        let o = s.occurrence in
        let k = (found_same o s.at).0 s.has in
        let never : ¬ IsOverwritten (Has m v) (Has t v) o.access o.time o.sink_time = λ w.
        let other = with_source o w.0 w.1 in
        let there = (found_same other s.at).1 (record { source = w.2; sink = k.sink; at = w.3; sink_at = k.sink_at; earlier = w.5 }) in
        s.last (Any-weaker (HasOccurrence params other) (ComesLater params o)
        (λ r x. record { source = w.0; time = w.1; has = x; after = w.4; point = k.at.to }) found there) in
        (o.source, o.sink, o.access, o.time, o.sink_time, k, never, s.is)),
    (λ k.
        let o : Occurrence = record { valuation = v; source = k.0; sink = k.1; access = k.2; time = k.3; sink_time = k.4 } in
        record {
          occurrence = o;
          at = refl;
          has = (found_same o refl).1 k.5;
          last = λ a.
              let one = Any-element (ComesLater params o) found a in
              let c = one.2 in
              let other = with_source o c.source c.time in
              let there = (found_same other refl).0 (Any-contains (HasOccurrence params other) found one.0 one.1 c.has) in
              k.6 (c.source, c.time, there.source, there.at, c.after, there.earlier);
          is = k.7;
        }),
  )

  -- a sink with a source is one of those that the precedences show
  pub unsourced_same : (e : Element)
      → (Has n v e × IsMapElement e × (¬ ShowsSink params v e found)) ↔ UnsourcedHas (Has m v) (Has n v) (Has t v) e
  unsourced_same e = (
    (λ h.
        let parts = element_parts e (Any-element (HasElement n.params v e) n.pieces h.0).2.numbers h.1 in
        let y = parts.0 in
        let a = parts.1 in
        let is : e ≡ map_element y a = parts.4 in
        let never : (x p q : Point) → ¬ Precedes (Has m v) (Has n v) (Has t v) x y a p q = λ x p q k.
        let o : Occurrence = record { valuation = v; source = x; sink = y; access = a; time = p; sink_time = q } in
        h.2 (record { occurrence = o; at = refl; has = (found_same o refl).1 k; is = is }) in
        (y, a, record { from = parts.2; to = parts.3; has = subst (Has n v) is h.0 }, never, is)),
    (λ u.
        let y = u.0 in
        let a = u.1 in
        let rel = u.2 in
        let is : e ≡ map_element y a = u.4 in (
          subst (Has n v) (sym is) rel.has,
          (y.form, a.form, ap (λ (f : Element). f.space) is),
          λ s.
              let o = s.occurrence in
              let k = (found_same o s.at).0 s.has in
              let same = same_points y a o.sink o.access rel.from k.sink.from (sym is ∙ s.is) in
              u.3 o.source o.time o.sink_time
              (subst (λ z. Precedes (Has m v) (Has n v) (Has t v) o.source y z o.time o.sink_time) (sym same.1)
              (subst (λ z. Precedes (Has m v) (Has n v) (Has t v) o.source z o.access o.time o.sink_time) (sym same.0) k)),
        )),
  )
