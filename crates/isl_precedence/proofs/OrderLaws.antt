-- Times that first differ at some place.
use Rattle.std.proofs.Common.{◌≡◌, ◌↔◌, sym, ap, ◌∙◌, subst, arith, ℕ, ◌<◌, ◌≤◌, List, [], ◌∷◌, Any, Contains}
use Rattle.std.specs.List.{range_with_len}
use Rattle.std.proofs.lemmas.List.Elements.{All-cons, All-nil}
use Rattle.std.proofs.lemmas.List.FromFn.{length-range_with_len, get_or-range_with_len}
use Rattle.isl_math.specs.Order.{IsBefore}
use Rattle.isl_math.proofs.ListLaws.{Any-contains, Any-element, Any-first, Any-one}
use Rattle.isl_meter.specs.Gauge.{Gauge, IsCharged}
use Rattle.isl_space.specs.Form.{width_of}
use Rattle.isl_space.specs.Name.{Name}
use Rattle.isl_space.specs.Shape.{form_of}
use Rattle.isl_space.specs.SpaceForm.{map_of, IsWellFormedSpace}
use Rattle.isl_piece.specs.declared.system.System.{System}
use Rattle.isl_piece.specs.Piece.{PieceView}
use Rattle.isl_piece.specs.System.{HoldsSystem, IsSystemWithin, free_columns}
use Rattle.isl_piece.proofs.FormedLaws.{system_within_kept}
use Rattle.isl_union.proofs.MeetSteps.{charged_bits}
use Rattle.isl_blocks.specs.Blocks.{block_at, numbers_of, total}
use Rattle.isl_blocks.specs.Cases.{IsBeforeAt, IsCaseOf}
use Rattle.isl_blocks.proofs.CaseLaws.{at_before, before_at}
use Rattle.isl_precedence.specs.declared.forms.Forms.{Forms}
use Rattle.isl_precedence.specs.declared.precedence.Precedence.{Precedence}
use Rattle.isl_precedence.specs.Forms.{AreNarrowForms, AreSameForms, widths_for}
use Rattle.isl_remainder.specs.Made.{AreMade}
use Rattle.isl_precedence.specs.Precedence.{Occurrence, HasOccurrence, HoldsFor, IsAccessed, IsPlainPrecedence, IsPrecedence, IsSound, blocks_of}
use Rattle.isl_precedence.specs.Spreads.{IsOverBlocks}
use Rattle.isl_precedence.proofs.TimedLaws.{blocks_wide, lies_same}

-- what is within the limit at one time is so at an earlier one
pub precedence_before : (g h : Gauge) (params : List Name) (r : Precedence) → IsCharged g h → IsPrecedence h params r
    → IsPrecedence g params r
precedence_before g h params r charged is = record {
  free = is.free;
  within = system_within_kept g h r.system (sym (charged_bits g h charged)) is.within;
  narrow = is.narrow;
  space = is.space;
}

pub precedence_later : (g h : Gauge) (params : List Name) (r : Precedence) → IsCharged g h → IsPrecedence g params r
    → IsPrecedence h params r
precedence_later g h params r charged is = record {
  free = is.free;
  within = system_within_kept h g r.system (charged_bits g h charged) is.within;
  narrow = is.narrow;
  space = is.space;
}

pub accessed_before : (g h : Gauge) (params : List Name) (r : Precedence) → IsCharged g h → IsAccessed h params r → IsAccessed g params r
accessed_before g h params r charged is =
    record { precedence = precedence_before g h params r charged is.precedence; place = is.place }

pub accessed_later : (g h : Gauge) (params : List Name) (r : Precedence) → IsCharged g h → IsAccessed g params r → IsAccessed h params r
accessed_later g h params r charged is =
    record { precedence = precedence_later g h params r charged is.precedence; place = is.place }

pub sound_before : (g h : Gauge) (params : List Name) (p : PieceView) → IsCharged g h → IsSound h params p → IsSound g params p
sound_before g h params p charged is = record {
  sound = is.sound;
  within = system_within_kept g h p.system (sym (charged_bits g h charged)) is.within;
}

pub sound_later : (g h : Gauge) (params : List Name) (p : PieceView) → IsCharged g h → IsSound g params p → IsSound h params p
sound_later g h params p charged is = record {
  sound = is.sound;
  within = system_within_kept h g p.system (charged_bits g h charged) is.within;
}

-- with the same forms, a system over the same blocks
pub same_widths : (params : List Name) (f h : Forms) → AreSameForms f h → widths_for params f ≡ widths_for params h
same_widths params f h same =
    let x = ap width_of same.source in
    let y = ap width_of same.sink in
    let a = ap width_of same.access in
    let p = ap width_of same.time in
    cc

pub same_precedence : (g : Gauge) (params : List Name) (f : Forms) (r : Precedence) → AreNarrowForms f
    → IsWellFormedSpace (map_of (form_of f.source.value) (form_of f.sink.value)) → AreSameForms r.forms f
    → free_columns r.system ≡ total (widths_for params f) → IsSystemWithin g r.system → IsPrecedence g params r
same_precedence g params f r narrow space same free within = record {
  free = free ∙ ap total (sym (same_widths params r.forms f same));
  within = within;
  narrow = record {
    source = subst (λ n. n ≤ 64) (sym (ap width_of same.source)) narrow.source;
    sink = subst (λ n. n ≤ 64) (sym (ap width_of same.sink)) narrow.sink;
    access = subst (λ n. n ≤ 64) (sym (ap width_of same.access)) narrow.access;
    time = subst (λ n. n ≤ 64) (sym (ap width_of same.time)) narrow.time;
  };
  space = rw (same.source, same.sink) space;
}

pub same_back : (f h : Forms) → AreSameForms f h → AreSameForms h f
same_back f h same = record { source = sym same.source; sink = sym same.sink; access = sym same.access; time = sym same.time }

-- the system holds, and the times differ first at the place
abbrev pub DiffersFirst : List Name → Forms → System → Occurrence → ℕ → Type 0
DiffersFirst params f system o i = HoldsFor params f system o × IsBeforeAt i o.time.numbers o.sink_time.numbers

abbrev pub places_in : Forms → List ℕ
places_in f = range_with_len 0 (width_of (form_of f.time.value))

pub case_over : (g : Gauge) (widths : List ℕ) (first second i : ℕ) (made : System) → 8 ≤ g.bits
    → IsCaseOf widths first second (IsBeforeAt i) made
    → IsOverBlocks g widths (Unit {0}) (λ blocks. IsBeforeAt i (block_at blocks first) (block_at blocks second)) made
case_over g widths first second i made bits is = record {
  points = is.points;
  within = is.within g bits;
  free = is.free;
  definitions = λ u. is.definitions;
}

pub itself_over : (g : Gauge) (widths : List ℕ) (s : System) → IsSystemWithin g s → free_columns s ≡ total widths
    → IsOverBlocks g widths (s.definitions ≡ []) (λ blocks. HoldsSystem s (numbers_of blocks)) s
itself_over g widths s within free = record {
  points = λ blocks e. ((λ h. h), (λ h. h));
  within = within;
  free = free;
  definitions = λ
      e. e;
}

module _ (g : Gauge) (params : List Name) (f : Forms) (system : System) where
  -- ---- one place
  pub case_made : (r : Precedence) (i : ℕ) → AreNarrowForms f
      → IsWellFormedSpace (map_of (form_of f.source.value) (form_of f.sink.value))
      → IsWellFormedSpace (map_of (form_of f.sink.value) (form_of f.access.value)) → AreSameForms r.forms f
      → IsOverBlocks g (widths_for params f) ((system.definitions ≡ []) × Unit {0})
      (λ blocks. HoldsSystem system (numbers_of blocks) × IsBeforeAt i (block_at blocks 4) (block_at blocks 5)) r.system
      → AreMade (HasOccurrence params) (IsAccessed g params) IsPlainPrecedence (system.definitions ≡ [])
      (λ o. DiffersFirst params f system o i) (r ∷ [])
  case_made r i narrow space place same over = record {
    has = λ o. (
      (λ a.
          let h = Any-one (HasOccurrence params o) r a in
          let lies = lies_same r.forms f o same h.lies in
          let both = (over.points (blocks_of params o) (blocks_wide params f o lies)).0 h.holds in
          (record { lies = lies; holds = both.0 }, both.1)),
      (λ h.
          let lies = lies_same f r.forms o (same_back r.forms f same) h.0.lies in
          Any-first (HasOccurrence params o) r []
          (record { lies = lies; holds = (over.points (blocks_of params o) (blocks_wide params f o h.0.lies)).1 (h.0.holds, h.1) })),
    );
    sound = All-cons (IsAccessed g params) r [] (record {
      precedence = same_precedence g params f r narrow space same over.free over.within;
      place = rw (same.sink, same.access) place;
    }) (All-nil (IsAccessed g params));
    plain = λ h. All-cons IsPlainPrecedence r [] (over.definitions (h, tt)) (All-nil IsPlainPrecedence);
  }

  -- ---- all of them
  pub some_place : (o : Occurrence)
      → Any (DiffersFirst params f system o) (places_in f) ↔ (HoldsFor params f system o × IsBefore o.time.numbers o.sink_time.numbers)
  some_place o = (
    (λ a.
        let one = Any-element (DiffersFirst params f system o) (places_in f) a in
        let lies = one.2.0.lies in
        let n = length-range_with_len 0 (width_of (form_of f.time.value)) in
        let low : one.1.0 < width_of (form_of f.time.value) = let l = one.1.1 in omega (arith, l, n) in
        let is : one.0 ≡ one.1.0 =
        sym one.1.2 ∙ get_or-range_with_len 0 (width_of (form_of f.time.value)) one.1.0 one.0 low ∙ omega arith in
        let p = lies.time_point ∙ ap width_of lies.time in
        let q = lies.sink_time_point ∙ ap width_of lies.sink_time in
        (one.2.0, at_before o.time.numbers o.sink_time.numbers one.0 (p ∙ sym q) (omega (arith, low, is, q)) one.2.1)),
    (λ h.
        let lies = h.0.lies in
        let p = lies.time_point ∙ ap width_of lies.time in
        let q = lies.sink_time_point ∙ ap width_of lies.sink_time in
        let at = before_at o.time.numbers o.sink_time.numbers (p ∙ sym q) h.1 in
        let l = at.1 in
        Any-contains (DiffersFirst params f system o) (places_in f) at.0 (place_there at.0 (omega (arith, l, q))) (h.0, at.2)),
  )
    where
      place_there : (i : ℕ) → i < width_of (form_of f.time.value) → Contains (places_in f) i
      place_there i l = let n = length-range_with_len 0 (width_of (form_of f.time.value)) in
          (i, omega (arith, l, n), get_or-range_with_len 0 (width_of (form_of f.time.value)) i i l ∙ omega arith)
