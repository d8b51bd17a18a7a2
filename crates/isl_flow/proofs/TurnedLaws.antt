-- Precedences by their sinks.
use Rattle.std.proofs.Common.{◌≡◌, ◌≤◌, sym, ap, ◌∙◌, subst, List, [], ◌∷◌}
use Rattle.std.proofs.lemmas.List.Elements.{All-cons, All-nil}
use Rattle.isl_math.proofs.ListLaws.{Any-first, Any-one}
use Rattle.isl_meter.specs.Gauge.{Gauge}
use Rattle.isl_space.specs.Form.{width_of}
use Rattle.isl_space.specs.Name.{Name}
use Rattle.isl_blocks.specs.Blocks.{picked_width, total, IsSpread}
use Rattle.isl_precedence.specs.declared.forms.Forms.{Forms}
use Rattle.isl_precedence.specs.declared.precedence.Precedence.{Precedence}
use Rattle.isl_precedence.specs.Forms.{AreNarrowForms, widths_for}
use Rattle.isl_remainder.specs.Made.{AreMade}
use Rattle.isl_precedence.specs.Precedence.{Occurrence, HasOccurrence, IsAccessed, IsPlainPrecedence, IsPrecedence, LiesIn, blocks_of}
use Rattle.isl_flow.specs.Turned.{turned_back, turned_blocks, AreTurnedForms}
use Rattle.isl_precedence.proofs.TimedLaws.{blocks_wide}

pub turned_narrow : (f h : Forms) → AreTurnedForms f h → AreNarrowForms f → AreNarrowForms h
turned_narrow f h turned narrow = record {
  source = subst (λ n. n ≤ 64) (sym (ap width_of turned.source)) narrow.sink;
  sink = subst (λ n. n ≤ 64) (sym (ap width_of turned.sink)) narrow.access;
  access = subst (λ n. n ≤ 64) (sym (ap width_of turned.access)) narrow.source;
  time = subst (λ n. n ≤ 64) (sym (ap width_of turned.time)) narrow.time;
}

pub turned_width : (params : List Name) (f h : Forms) → AreTurnedForms f h
    → total (widths_for params f) ≡ picked_width (widths_for params h) turned_blocks
turned_width params f h turned =
    let y = ap width_of turned.source in
    let a = ap width_of turned.sink in
    let x = ap width_of turned.access in
    let p = ap width_of turned.time in
    cc

module _ (g : Gauge) (params : List Name) (r q : Precedence) (is : IsAccessed g params r) (turned : AreTurnedForms r.forms q.forms)
    (spread : IsSpread g (widths_for params q.forms) turned_blocks r.system q.system) where
  lies_back : (o : Occurrence) → LiesIn q.forms o → LiesIn r.forms (turned_back o)
  lies_back o lies = record {
    source = lies.access ∙ turned.access;
    sink = lies.source ∙ turned.source;
    access = lies.sink ∙ turned.sink;
    time = lies.time ∙ turned.time;
    sink_time = lies.sink_time ∙ turned.time;
    source_point = lies.access_point;
    sink_point = lies.source_point;
    access_point = lies.sink_point;
    time_point = lies.time_point;
    sink_time_point = lies.sink_time_point;
  }

  lies_forth : (o : Occurrence) → LiesIn r.forms (turned_back o) → LiesIn q.forms o
  lies_forth o lies = record {
    source = lies.sink ∙ sym turned.source;
    sink = lies.access ∙ sym turned.sink;
    access = lies.source ∙ sym turned.access;
    time = lies.time ∙ sym turned.time;
    sink_time = lies.sink_time ∙ sym turned.time;
    source_point = lies.sink_point;
    sink_point = lies.access_point;
    access_point = lies.source_point;
    time_point = lies.time_point;
    sink_time_point = lies.sink_time_point;
  }

  pub turned_made : AreMade (HasOccurrence params) (IsPrecedence g params) IsPlainPrecedence (IsPlainPrecedence r)
      (λ o. HasOccurrence params (turned_back o) r) (q ∷ [])
  turned_made = record {
    has = λ o. (
      (λ a.
          let h = Any-one (HasOccurrence params o) q a in
          record {
            lies = lies_back o h.lies;
            holds = (spread.points (blocks_of params o) (blocks_wide params q.forms o h.lies)).0 h.holds;
          }),
      (λ h.
          let lies = lies_forth o h.lies in
          Any-first (HasOccurrence params o) q [] (record {
            lies = lies;
            holds = (spread.points (blocks_of params o) (blocks_wide params q.forms o lies)).1 h.holds;
          })),
    );
    sound = All-cons (IsPrecedence g params) q [] (record {
      free = spread.free;
      within = spread.within;
      narrow = turned_narrow r.forms q.forms turned is.precedence.narrow;
      space = rw (turned.source, turned.sink) is.place;
    }) (All-nil (IsPrecedence g params));
    plain = λ none. All-cons IsPlainPrecedence q [] (spread.definitions none) (All-nil IsPlainPrecedence);
  }
