-- Accesses and their times, as points of systems over blocks.
use Rattle.std.proofs.Common.{◌≡◌, ◌↔◌, inl, inr, refl, sym, ap, ap₂, ◌∙◌, subst, arith, ℕ, ◌+◌, ◌<◌, ◌≤◌, List, [], ◌++◌, append-nil}
use Rattle.std.proofs.Common.{length-append}
use Rattle.isl_math.specs.Order.{IsBefore}
use Rattle.isl_meter.specs.Gauge.{Gauge}
use Rattle.isl_space.specs.Form.{Form, leaves_of, width_of}
use Rattle.isl_space.specs.Limits.{most_coordinates, most_leaves}
use Rattle.isl_space.specs.Name.{Name}
use Rattle.isl_space.specs.Shape.{form_of}
use Rattle.isl_space.specs.SpaceForm.{SpaceForm, map_of, IsTooWideSpace, IsWellFormedSpace}
use Rattle.isl_space.specs.Valuation.{Valuation, values_of}
use Rattle.isl_space.proofs.ValuationLaws.{length-values_of}
use Rattle.isl_piece.specs.declared.system.System.{System}
use Rattle.isl_piece.specs.Piece.{PieceView}
use Rattle.isl_piece.specs.System.{HoldsSystem, free_columns}
use Rattle.isl_union.specs.KeptValue.{columns_of}
use Rattle.isl_union.specs.Piece.{IsPieceOf}
use Rattle.isl_union.proofs.SystemLaws.{view_free}
use Rattle.isl_relation.specs.Point.{Point, IsPoint, Relates}
use Rattle.isl_images.specs.Made.{elements_of}
use Rattle.isl_blocks.specs.Blocks.{picked_width, widths_of}
use Rattle.isl_precedence.specs.declared.forms.Forms.{Forms}
use Rattle.isl_precedence.specs.Forms.{AreApartForms, AreForms, AreFormsOf, AreNarrowForms, AreSameForms, widths_for}
use Rattle.isl_precedence.specs.Precedence.{Occurrence, AreOrdered, AreTimed, HoldsFor, LiesIn, blocks_of}
use Rattle.isl_precedence.specs.Spreads.{sink_blocks, source_blocks, start_blocks, stop_blocks, HoldFour, IsOverBlocks}
use Rattle.isl_precedence.specs.WideAccess.{IsWideAccess}

-- ---- one map
pub relates_as : (params : List Name) (p : PieceView) (v : Valuation) (x y : Point) → p.space ≡ map_of x.form y.form → IsPoint x → IsPoint y
    → HoldsSystem p.system (values_of params v ++ (x.numbers ++ (y.numbers ++ []))) ↔ Relates (elements_of params p v) x y
relates_as params p v x y lies first second =
    let same : y.numbers ++ [] ≡ y.numbers = append-nil y.numbers in (
      (λ h. record {
        from = first;
        to = second;
        has = record {
          numbers = let n = length-append x.numbers y.numbers in omega (arith, n, first, second);
          space = lies;
          holds = subst (λ ns. HoldsSystem p.system (values_of params v ++ (x.numbers ++ ns))) same h;
        };
      }),
      (λ r. subst (λ ns. HoldsSystem p.system (values_of params v ++ (x.numbers ++ ns))) (sym same) r.has.holds),
    )

-- ---- the forms
pub timed_forms : (params : List Name) (m n t u : PieceView) (o : Occurrence) → AreTimed params m n t u o
    → AreForms m.space n.space t.space u.space o.source.form o.sink.form o.access.form o.time.form
timed_forms params m n t u o h = record {
  source = h.source.has.space;
  sink = h.sink.has.space;
  start = h.at.has.space;
  stop = h.sink_at.has.space ∙ ap (map_of o.sink.form) (sym h.form);
}

pub blocks_wide : (params : List Name) (f : Forms) (o : Occurrence) → LiesIn f o → widths_of (blocks_of params o) ≡ widths_for params f
blocks_wide params f o lies =
    let v = length-values_of params o.valuation in
    let x = lies.source_point ∙ ap width_of lies.source in
    let y = lies.sink_point ∙ ap width_of lies.sink in
    let a = lies.access_point ∙ ap width_of lies.access in
    let p = lies.time_point ∙ ap width_of lies.time in
    let q = lies.sink_time_point ∙ ap width_of lies.sink_time in
    cc

pub lies_same : (f h : Forms) (o : Occurrence) → AreSameForms f h → LiesIn f o → LiesIn h o
lies_same f h o same lies = record {
  source = lies.source ∙ same.source;
  sink = lies.sink ∙ same.sink;
  access = lies.access ∙ same.access;
  time = lies.time ∙ same.time;
  sink_time = lies.sink_time ∙ same.time;
  source_point = lies.source_point;
  sink_point = lies.sink_point;
  access_point = lies.access_point;
  time_point = lies.time_point;
  sink_time_point = lies.sink_time_point;
}

-- the forms of equal maps are equal
same_maps : (x y u w : Form) → map_of x y ≡ map_of u w → (x ≡ u) × (y ≡ w)
same_maps x y u w e = (cc, cc)

pub lies_timed : (params : List Name) (m n t u : PieceView) (f : Forms) (o : Occurrence) → AreFormsOf m.space n.space t.space u.space f
    → AreTimed params m n t u o → LiesIn f o
lies_timed params m n t u f o forms h =
    let one = same_maps o.source.form o.access.form (form_of f.source.value) (form_of f.access.value) (sym h.source.has.space ∙
    forms.source) in
    let two = same_maps o.sink.form o.access.form (form_of f.sink.value) (form_of f.access.value) (sym h.sink.has.space ∙ forms.sink) in
    let three = same_maps o.source.form o.time.form (form_of f.source.value) (form_of f.time.value) (sym h.at.has.space ∙ forms.start) in
    let four = same_maps o.sink.form o.sink_time.form (form_of f.sink.value) (form_of f.time.value) (sym h.sink_at.has.space ∙
    forms.stop) in
    record {
      source = one.0;
      sink = two.0;
      access = one.1;
      time = three.1;
      sink_time = four.1;
      source_point = h.source.from;
      sink_point = h.sink.from;
      access_point = h.source.to;
      time_point = h.at.to;
      sink_time_point = h.sink_at.to;
    }

pub timed_apart : (params : List Name) (m n t u : PieceView) → AreApartForms m.space n.space t.space u.space → (o : Occurrence)
    → ¬ AreOrdered params m n t u o
timed_apart params m n t u apart o k =
    apart o.source.form o.sink.form o.access.form o.time.form (timed_forms params m n t u o k.timed)

-- ---- four pieces
module _ (g : Gauge) (params : List Name) (m n t u : PieceView) (f : Forms) (forms : AreFormsOf m.space n.space t.space u.space f)
    (first : IsPieceOf params m) (second : IsPieceOf params n) (third : IsPieceOf params t) (fourth : IsPieceOf params u) where
  narrow_map : (s : SpaceForm) (x y : Form) → s ≡ map_of x y → IsWellFormedSpace s → width_of x + width_of y ≤ most_coordinates
  narrow_map s x y is formed = (subst IsWellFormedSpace is formed).narrow.coordinates

  pub narrow_forms : AreNarrowForms f
  narrow_forms =
      let a = narrow_map m.space (form_of f.source.value) (form_of f.access.value) forms.source first.kept.space in
      let b = narrow_map n.space (form_of f.sink.value) (form_of f.access.value) forms.sink second.kept.space in
      let c = narrow_map t.space (form_of f.source.value) (form_of f.time.value) forms.start third.kept.space in
      record {
        source = omega (arith, a);
        sink = omega (arith, b);
        access = omega (arith, a);
        time = omega (arith, c);
      }

  pub source_columns : free_columns m.system ≡ picked_width (widths_for params f) source_blocks
  source_columns = let a = view_free params m first ∙ ap (columns_of params) forms.source in omega (arith, a)

  pub sink_columns : free_columns n.system ≡ picked_width (widths_for params f) sink_blocks
  sink_columns = let a = view_free params n second ∙ ap (columns_of params) forms.sink in omega (arith, a)

  pub start_columns : free_columns t.system ≡ picked_width (widths_for params f) start_blocks
  start_columns = let a = view_free params t third ∙ ap (columns_of params) forms.start in omega (arith, a)

  pub stop_columns : free_columns u.system ≡ picked_width (widths_for params f) stop_blocks
  stop_columns = let a = view_free params u fourth ∙ ap (columns_of params) forms.stop in omega (arith, a)

  pub access_formed : ¬ IsWideAccess m.space n.space → IsWellFormedSpace (map_of (form_of f.source.value) (form_of f.sink.value))
  access_formed narrow =
      let x = form_of f.source.value in
      let y = form_of f.sink.value in
      let one = subst IsWellFormedSpace forms.source first.kept.space in
      let two = subst IsWellFormedSpace forms.sink second.kept.space in
      let never = λ (wide : IsTooWideSpace (map_of x y)).
      narrow (map_of x y, (x, y, form_of f.access.value, forms.source, forms.sink, refl), wide) in
      record {
        named = (one.named.0, two.named.0);
        narrow = record {
          coordinates = not_more (width_of x + width_of y) most_coordinates (λ h. never (inl h));
          leaves = not_more (leaves_of x + leaves_of y) most_leaves (λ h. never (inr h));
        };
      }
    where
      not_more : (a b : ℕ) → ¬ (b < a) → a ≤ b
      not_more a b h = omega (arith, h)

  pub ordered_same : (system : System) (Plain : Type 0)
      → IsOverBlocks g (widths_for params f) Plain (HoldFour m.system n.system t.system u.system) system → (o : Occurrence)
      → (HoldsFor params f system o × IsBefore o.time.numbers o.sink_time.numbers) ↔ AreOrdered params m n t u o
  ordered_same system Plain over o = (
    (λ h.
        let lies = h.0.lies in
        let four = (over.points (blocks_of params o) (blocks_wide params f o lies)).0 h.0.holds in
        let v = o.valuation in
        let one = forms.source ∙ ap₂ map_of (sym lies.source) (sym lies.access) in
        let two = forms.sink ∙ ap₂ map_of (sym lies.sink) (sym lies.access) in
        let three = forms.start ∙ ap₂ map_of (sym lies.source) (sym lies.time) in
        let last = forms.stop ∙ ap₂ map_of (sym lies.sink) (sym lies.sink_time) in
        record {
          timed = record {
            source = (relates_as params m v o.source o.access one lies.source_point lies.access_point).0 four.0.0;
            sink = (relates_as params n v o.sink o.access two lies.sink_point lies.access_point).0 four.0.1;
            at = (relates_as params t v o.source o.time three lies.source_point lies.time_point).0 four.1.0;
            sink_at = (relates_as params u v o.sink o.sink_time last lies.sink_point lies.sink_time_point).0 four.1.1;
            form = lies.time ∙ sym lies.sink_time;
          };
          before = h.1;
        }),
    (λ k.
        let h = k.timed in
        let lies = lies_timed params m n t u f o forms h in
        let v = o.valuation in
        let four : HoldFour m.system n.system t.system u.system (blocks_of params o) = (
          (
            (relates_as params m v o.source o.access h.source.has.space h.source.from h.source.to).1 h.source,
            (relates_as params n v o.sink o.access h.sink.has.space h.sink.from h.sink.to).1 h.sink,
          ),
          (
            (relates_as params t v o.source o.time h.at.has.space h.at.from h.at.to).1 h.at,
            (relates_as params u v o.sink o.sink_time h.sink_at.has.space h.sink_at.from h.sink_at.to).1 h.sink_at,
          ),
        ) in (
          record { lies = lies; holds = (over.points (blocks_of params o) (blocks_wide params f o lies)).1 four },
          k.before,
        )),
  )
