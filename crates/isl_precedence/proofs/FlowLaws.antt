-- What the pieces of precedences have.
use Rattle.std.proofs.Common.{◌≡◌, ◌↔◌, refl, sym, subst, List, All, Any}
use Rattle.isl_math.proofs.ListLaws.{Any-contains, Any-element, Any-unmapped}
use Rattle.isl_meter.specs.Gauge.{Gauge, IsCharged}
use Rattle.isl_space.specs.Element.{Element}
use Rattle.isl_space.specs.Name.{Name}
use Rattle.isl_space.specs.Valuation.{Valuation}
use Rattle.isl_piece.specs.Piece.{PieceView}
use Rattle.isl_elim.proofs.ProjectionLaws.{any_mapped}
use Rattle.isl_union.specs.KeptValue.{KeptPiece, KeptValue, Has, HasElement, HasNoDefinitions}
use Rattle.isl_union.specs.Minus.{ArePiecesOver}
use Rattle.isl_union.specs.Piece.{kept_piece}
use Rattle.isl_relation.specs.Flow.{AnyHas, Precedes}
use Rattle.isl_relation.specs.Point.{map_element}
use Rattle.isl_images.specs.Made.{ArePiecesOf, IsPlain}
use Rattle.isl_images.proofs.MadeLaws.{of_before, of_same}
use Rattle.isl_precedence.specs.declared.precedence.Precedence.{Precedence}
use Rattle.isl_remainder.specs.Made.{AreMade}
use Rattle.isl_precedence.specs.Precedence.{Occurrence, AreOrdered, HasAt, HasOccurrence, IsPlainPrecedence, IsAccessed, IsSound, Shows}
use Rattle.isl_precedence.specs.Precedence.{SinksIn, SourcesIn, StartsAt, StopsAt}

-- the pieces, as those of a value
pub pieces_are : (g : Gauge) (params : List Name) (S : Type 0) (P : Valuation × Element → Type 0) (made : List PieceView)
    → AreMade (HasAt params) (IsSound g params) IsPlain S P made → ArePiecesOf g params S (λ v e. P (v, e)) made
pieces_are g params S P made are = record {
  elements = λ v e.
      let H : KeptPiece → Type 0 = HasElement params v e in
      let a = are.has (v, e) in (
        (λ h. a.0 (Any-unmapped H kept_piece made h)),
        (λ k. any_mapped H kept_piece made (a.1 k)),
      );
  sound = λ k d l. (are.sound k d l).sound;
  within = λ k d l. (are.sound k d l).within;
  definitions = are.plain;
}

module _ (g : Gauge) (params : List Name) (m n t : KeptValue) (sources sinks times : List PieceView) (first : ArePiecesOver g params m
    sources)
    (second : ArePiecesOver g params n sinks) (third : ArePiecesOver g params t times) where
  module _ (v : Valuation) where
    abbrev PrecedesAt : Occurrence → Type 0
    PrecedesAt o = Precedes (Has m v) (Has n v) (Has t v) o.source o.sink o.access o.time o.sink_time

    -- some of the pieces has the element where the value has it
    given : (value : KeptValue) (pieces : List PieceView) → ArePiecesOver g params value pieces → (p : PieceView) (e : Element)
        → Any (λ q. HasElement params v e (kept_piece q)) pieces → Has value v e
    given value pieces over p e a = (over.elements v e).0 (any_mapped (HasElement params v e) kept_piece pieces a)

    pub precedes_same : (o : Occurrence) → o.valuation ≡ v → SourcesIn params sources sinks times o ↔ PrecedesAt o
    precedes_same o is = (
      (λ h.
          let a = Any-element (λ p. SinksIn params p sinks times o) sources h in
          let b = Any-element (λ p. StartsAt params a.0 p times o) sinks a.2 in
          let c = Any-element (λ p. StopsAt params a.0 b.0 p times o) times b.2 in
          let d = Any-element (λ p. AreOrdered params a.0 b.0 c.0 p o) times c.2 in
          let k = d.2.timed in
          let at : (p : PieceView) (e : Element) → HasElement params o.valuation e (kept_piece p) → HasElement params v e (kept_piece p) =
          λ p e x. subst (λ (w : Valuation). HasElement params w e (kept_piece p)) is x in
          let E = λ (e : Element) (p : PieceView). HasElement params v e (kept_piece p) in
          record {
            source = record {
              from = k.source.from;
              to = k.source.to;
              has = let e = map_element o.source o.access in
                  given m sources first a.0 e (Any-contains (E e) sources a.0 a.1 (at a.0 e k.source.has));
            };
            sink = record {
              from = k.sink.from;
              to = k.sink.to;
              has = let e = map_element o.sink o.access in
                  given n sinks second b.0 e (Any-contains (E e) sinks b.0 b.1 (at b.0 e k.sink.has));
            };
            at = record {
              from = k.at.from;
              to = k.at.to;
              has = let e = map_element o.source o.time in
                  given t times third c.0 e (Any-contains (E e) times c.0 c.1 (at c.0 e k.at.has));
            };
            sink_at = record {
              from = k.sink_at.from;
              to = k.sink_at.to;
              has = let e = map_element o.sink o.sink_time in
                  given t times third d.0 e (Any-contains (E e) times d.0 d.1 (at d.0 e k.sink_at.has));
            };
            earlier = record { form = k.form; before = d.2.before };
          }),
      (λ k.
          let E = λ (e : Element) (p : KeptPiece). HasElement params v e p in
          let F = λ (e : Element) (p : PieceView). HasElement params v e (kept_piece p) in
          let at : (p : PieceView) (e : Element) → HasElement params v e (kept_piece p) → HasElement params o.valuation e (kept_piece p) =
          λ p e x. subst (λ (w : Valuation). HasElement params w e (kept_piece p)) (sym is) x in
          let ea = map_element o.source o.access in
          let eb = map_element o.sink o.access in
          let ec = map_element o.source o.time in
          let ed = map_element o.sink o.sink_time in
          let a = Any-element (F ea) sources (Any-unmapped (E ea) kept_piece sources ((first.elements v ea).1 k.source.has)) in
          let b = Any-element (F eb) sinks (Any-unmapped (E eb) kept_piece sinks ((second.elements v eb).1 k.sink.has)) in
          let c = Any-element (F ec) times (Any-unmapped (E ec) kept_piece times ((third.elements v ec).1 k.at.has)) in
          let d = Any-element (F ed) times (Any-unmapped (E ed) kept_piece times ((third.elements v ed).1 k.sink_at.has)) in
          let all : AreOrdered params a.0 b.0 c.0 d.0 o = record {
            timed = record {
              source = record { from = k.source.from; to = k.source.to; has = at a.0 ea a.2 };
              sink = record { from = k.sink.from; to = k.sink.to; has = at b.0 eb b.2 };
              at = record { from = k.at.from; to = k.at.to; has = at c.0 ec c.2 };
              sink_at = record { from = k.sink_at.from; to = k.sink_at.to; has = at d.0 ed d.2 };
              form = k.earlier.form;
            };
            before = k.earlier.before;
          } in
          Any-contains (λ p. SinksIn params p sinks times o) sources a.0 a.1
          (Any-contains (λ p. StartsAt params a.0 p times o) sinks b.0 b.1
          (Any-contains (λ p. StopsAt params a.0 b.0 p times o) times c.0 c.1
          (Any-contains (λ p. AreOrdered params a.0 b.0 c.0 p o) times d.0 d.1 all)))),
    )

    -- what the precedences show is what comes before
    pub any_same : (h : Gauge) (S : Type 0) (found : List Precedence)
        → AreMade (HasOccurrence params) (IsAccessed h params) IsPlainPrecedence S (SourcesIn params sources sinks times) found
        → (e : Element) → Any (Shows params v e) found ↔ AnyHas (Has m v) (Has n v) (Has t v) e
    any_same h S found are e = (
      (λ a.
          let one = Any-element (Shows params v e) found a in
          let s = one.2 in
          let o = s.occurrence in
          let all = (are.has o).0 (Any-contains (HasOccurrence params o) found one.0 one.1 s.has) in
          (o.source, o.sink, o.access, o.time, o.sink_time, (precedes_same o s.at).0 all, s.is)),
      (λ k.
          let o : Occurrence = record { valuation = v; source = k.0; sink = k.1; access = k.2; time = k.3; sink_time = k.4 } in
          let some = (are.has o).1 ((precedes_same o refl).1 k.5) in
          let one = Any-element (HasOccurrence params o) found some in
          Any-contains (Shows params v e) found one.0 one.1 (record { occurrence = o; at = refl; has = one.2; is = k.6 })),
    )

  -- the pieces that were made of them
  pub any_made : (h : Gauge) → IsCharged g h → (found : List Precedence) (made : List PieceView)
      → AreMade (HasOccurrence params) (IsAccessed g params) IsPlainPrecedence ((All IsPlain sources × All IsPlain sinks) × All
      IsPlain times)
      (SourcesIn params sources sinks times) found
      → AreMade (HasAt params) (IsSound h params) IsPlain (All IsPlainPrecedence found) (λ at. Any (Shows params at.0 at.1) found) made
      → ArePiecesOf g params (HasNoDefinitions m × HasNoDefinitions n × HasNoDefinitions t)
      (λ v e. AnyHas (Has m v) (Has n v) (Has t v) e) made
  any_made h charged found made are pieces =
      let Simple = HasNoDefinitions m × HasNoDefinitions n × HasNoDefinitions t in
      let Plain = (All IsPlain sources × All IsPlain sinks) × All IsPlain times in
      of_before g h params Simple (λ v e. AnyHas (Has m v) (Has n v) (Has t v) e) made charged
      (of_same h params (All IsPlainPrecedence found) Simple (λ v e. Any (Shows params v e) found)
      (λ v e. AnyHas (Has m v) (Has n v) (Has t v) e) made
      (λ none. are.plain ((first.definitions none.0, second.definitions none.1), third.definitions none.2))
      (λ v e. any_same v g Plain found are e)
      (pieces_are h params (All IsPlainPrecedence found) (λ at. Any (Shows params at.0 at.1) found) made pieces))
