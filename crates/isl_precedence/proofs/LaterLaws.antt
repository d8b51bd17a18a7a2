-- Sources that come later than a time.
use Rattle.std.proofs.Common.{◌≡◌, ◌↔◌, refl, sym, ap, ◌∙◌, subst, arith, ℕ, ◌+◌, ◌<◌, ℤ, List, [], ◌∷◌, ◌++◌, Any, Contains, append-nil}
use Rattle.std.proofs.Common.{append_assoc, length, length-append, get_or, take, drop, take-append-drop}
use Rattle.std.proofs.lemmas.List.{length-drop, length-take-le}
use Rattle.std.proofs.lemmas.List.Elements.{All-cons, All-nil}
use Rattle.std.proofs.lemmas.List.FromFn.{length-range_with_len, get_or-range_with_len}
use Rattle.isl_math.proofs.ListLaws.{Any-contains, Any-element, Any-first, Any-one}
use Rattle.isl_meter.specs.Gauge.{Gauge, IsCharged}
use Rattle.isl_space.specs.Form.{width_of}
use Rattle.isl_space.specs.Name.{Name}
use Rattle.isl_space.specs.Shape.{form_of}
use Rattle.isl_space.specs.Valuation.{values_of}
use Rattle.isl_space.proofs.ValuationLaws.{length-values_of}
use Rattle.isl_piece.specs.declared.system.System.{System}
use Rattle.isl_piece.specs.System.{HoldsSystem}
use Rattle.isl_piece.proofs.FormedLaws.{system_within_kept}
use Rattle.isl_difference.proofs.SplitLaws.{live_kept}
use Rattle.isl_union.proofs.MeetSteps.{charged_bits}
use Rattle.isl_blocks.specs.Blocks.{block_at, numbers_of, total, widths_of, IsSpread}
use Rattle.isl_blocks.specs.Cases.{IsBeforeAt}
use Rattle.isl_blocks.specs.Left.{IsLeftWithout}
use Rattle.isl_blocks.proofs.CaseLaws.{at_before, before_at}
use Rattle.isl_blocks.proofs.WidthLaws.{numbers_long}
use Rattle.isl_precedence.specs.declared.forms.Forms.{Forms}
use Rattle.isl_precedence.specs.declared.later.Later.{Later}
use Rattle.isl_precedence.specs.declared.precedence.Precedence.{Precedence}
use Rattle.isl_precedence.specs.Forms.{AreSameForms}
use Rattle.isl_precedence.specs.Later.{behind_blocks, later_blocks, later_widths, wide_blocks, wide_widths, ComesLater, ComesLaterAt}
use Rattle.isl_precedence.specs.Later.{HasLater, IsLater, IsPlainLater, LiesBehind}
use Rattle.isl_remainder.specs.Made.{AreMade}
use Rattle.isl_precedence.specs.Precedence.{Occurrence}
use Rattle.isl_precedence.specs.Spreads.{IsOverBlocks}
use Rattle.isl_precedence.proofs.OrderLaws.{places_in, same_back}

-- ---- points
behind_all : (v y a p q t : List ℤ) → (v ++ (y ++ (a ++ (p ++ (q ++ []))))) ++ t ≡ v ++ (y ++ (a ++ (p ++ (q ++ t))))
behind_all v y a p q t =
    append_assoc v (y ++ (a ++ (p ++ (q ++ [])))) t
    ∙ ap (λ l. v ++ l) (append_assoc y (a ++ (p ++ (q ++ []))) t
    ∙ ap (λ l. y ++ l) (append_assoc a (p ++ (q ++ [])) t
    ∙ ap (λ l. a ++ l) (append_assoc p (q ++ []) t ∙ ap (λ l. p ++ l) (append_assoc q [] t))))

wide_join : (v y a p q xs rs : List ℤ)
    → v ++ (y ++ (a ++ (p ++ (q ++ (xs ++ (rs ++ [])))))) ≡ (v ++ (y ++ (a ++ (p ++ (q ++ []))))) ++ (xs ++ rs)
wide_join v y a p q xs rs =
    ap (λ l. v ++ (y ++ (a ++ (p ++ (q ++ (xs ++ l)))))) (append-nil rs) ∙ sym (behind_all v y a p q (xs ++ rs))

pub behind_same : (f h : Forms) (o : Occurrence) → AreSameForms f h → LiesBehind f o → LiesBehind h o
behind_same f h o same lies = record {
  sink = lies.sink ∙ same.sink;
  access = lies.access ∙ same.access;
  time = lies.time ∙ same.time;
  sink_time = lies.sink_time ∙ same.time;
  sink_point = lies.sink_point;
  access_point = lies.access_point;
  time_point = lies.time_point;
  sink_time_point = lies.sink_time_point;
}

module _ (params : List Name) (f : Forms) (o : Occurrence) (lies : LiesBehind f o) where
  behind_wide : widths_of (later_blocks params o) ≡ later_widths params f
  behind_wide =
      let v = length-values_of params o.valuation in
      let y = lies.sink_point ∙ ap width_of lies.sink in
      let a = lies.access_point ∙ ap width_of lies.access in
      let p = lies.time_point ∙ ap width_of lies.time in
      let q = lies.sink_time_point ∙ ap width_of lies.sink_time in
      cc

  pub later_long : length (numbers_of (later_blocks params o)) ≡ total (later_widths params f)
  later_long = numbers_long (later_blocks params o) ∙ ap total behind_wide

  pub wide_wide : (xs rs : List ℤ) → length xs ≡ width_of (form_of f.source.value) → length rs ≡ width_of (form_of f.time.value)
      → widths_of (wide_blocks params o xs rs) ≡ wide_widths params f
  wide_wide xs rs lx lr =
      let v = length-values_of params o.valuation in
      let y = lies.sink_point ∙ ap width_of lies.sink in
      let a = lies.access_point ∙ ap width_of lies.access in
      let p = lies.time_point ∙ ap width_of lies.time in
      let q = lies.sink_time_point ∙ ap width_of lies.sink_time in
      cc

-- what is within the limit at one time is so at another
pub later_before : (g h : Gauge) (params : List Name) (k : Later) → IsCharged g h → IsLater h params k → IsLater g params k
later_before g h params k charged is = record {
  free = is.free;
  within = λ j d l. system_within_kept g h (get_or k.systems.items j d) (sym (charged_bits g h charged)) (is.within j d l);
}

pub later_after : (g h : Gauge) (params : List Name) (k : Later) → IsCharged g h → IsLater g params k → IsLater h params k
later_after g h params k charged is = record {
  free = is.free;
  within = λ j d l. system_within_kept h g (get_or k.systems.items j d) (charged_bits g h charged) (is.within j d l);
}

pub left_before : (g h : Gauge) (system : System) (kept count : ℕ) (left : List System) → IsCharged g h
    → IsLeftWithout h system kept count left → IsLeftWithout g system kept count left
left_before g h system kept count left charged is = record {
  points = is.points;
  live = λ k d l. live_kept g h kept (get_or left k d) (sym (charged_bits g h charged)) (is.live k d l);
  definitions = is.definitions;
}

-- ---- at one place
module _ (g : Gauge) (params : List Name) (f : Forms) (system both : System) (i : ℕ) (k : Later) (same : AreSameForms k.forms f)
    (over : IsOverBlocks g (wide_widths params f) ((system.definitions ≡ []) × Unit {0})
    (λ blocks. HoldsSystem system (numbers_of blocks) × IsBeforeAt i (block_at blocks 3) (block_at blocks 6)) both) where
  abbrev x_width : ℕ
  x_width = width_of (form_of f.source.value)

  abbrev p_width : ℕ
  p_width = width_of (form_of f.time.value)

  widths : later_widths params k.forms ≡ later_widths params f
  widths =
      let y = ap width_of same.sink in
      let a = ap width_of same.access in
      let p = ap width_of same.time in
      cc

  joined_at : (o : Occurrence) (xs rs : List ℤ)
      → numbers_of (wide_blocks params o xs rs) ≡ numbers_of (later_blocks params o) ++ (xs ++ rs)
  joined_at o xs rs =
      wide_join (values_of params o.valuation) o.sink.numbers o.access.numbers o.time.numbers o.sink_time.numbers xs rs

  pub later_made : IsLeftWithout g both (total (later_widths params f)) (x_width + p_width) k.systems.items
      → AreMade (HasLater params) (IsLater g params) IsPlainLater (system.definitions ≡ []) (ComesLaterAt params f system i) (k ∷ [])
  later_made left = record {
    has = λ o. (
      (λ a.
          let h = Any-one (HasLater params o) k a in
          let lies = behind_same k.forms f o same h.lies in
          let some = (left.points (numbers_of (later_blocks params o)) (later_long params f o lies)).0 h.holds in
          let count : length some.0 ≡ x_width + p_width = some.1 in
          let xs = take x_width some.0 in
          let rs = drop x_width some.0 in
          let lx : length xs ≡ x_width = length-take-le x_width some.0 (omega (arith, count)) in
          let d = length-drop x_width some.0 in
          let lr : length rs ≡ p_width = omega (arith, count, d) in
          let whole : numbers_of (later_blocks params o) ++ some.0 ≡ numbers_of (wide_blocks params o xs rs) =
          ap (λ l. numbers_of (later_blocks params o) ++ l) (sym (take-append-drop x_width some.0)) ∙ sym (joined_at o xs rs) in
          let here = (over.points (wide_blocks params o xs rs) (wide_wide params f o lies xs rs lx lr)).0
          (subst (HoldsSystem both) whole some.2) in
          record {
            lies = lies;
            source = xs;
            time = rs;
            source_long = lx;
            time_long = lr;
            holds = here.0;
            differs = here.1;
          }),
      (λ h.
          let here = (over.points (wide_blocks params o h.source h.time)
          (wide_wide params f o h.lies h.source h.time h.source_long h.time_long)).1 (h.holds, h.differs) in
          let n = length-append h.source h.time in
          let x = h.source_long in
          let p = h.time_long in
          Any-first (HasLater params o) k [] (record {
            lies = behind_same f k.forms o (same_back k.forms f same) h.lies;
            holds = (left.points (numbers_of (later_blocks params o)) (later_long params f o h.lies)).1
                (h.source ++ h.time, omega (arith, n, x, p), subst (HoldsSystem both) (joined_at o h.source h.time) here);
          })),
    );
    sound = All-cons (IsLater g params) k [] (record {
      free = λ j d l. (left.live j d l).free ∙ ap total (sym widths);
      within = λ j d l. (left.live j d l).within;
    }) (All-nil (IsLater g params));
    plain = λ none. All-cons IsPlainLater k [] (left.definitions (over.definitions (none, tt))) (All-nil IsPlainLater);
  }

-- ---- at all places
module _ (g : Gauge) (params : List Name) (r : Precedence) (system : System)
    (spread : IsSpread g (wide_widths params r.forms) behind_blocks r.system system) where
  abbrev f : Forms
  f = r.forms

  place_there : (i : ℕ) → i < width_of (form_of f.time.value) → Contains (places_in f) i
  place_there i l = let n = length-range_with_len 0 (width_of (form_of f.time.value)) in
      (i, omega (arith, l, n), get_or-range_with_len 0 (width_of (form_of f.time.value)) i i l ∙ omega arith)

  pub later_somewhere : (o : Occurrence)
      → Any (λ i. ComesLaterAt params f system i o) (places_in f) ↔ ComesLater params o r
  later_somewhere o = (
    (λ a.
        let one = Any-element (λ i. ComesLaterAt params f system i o) (places_in f) a in
        let h = one.2 in
        let lies = h.lies in
        let n = length-range_with_len 0 (width_of (form_of f.time.value)) in
        let low : one.1.0 < width_of (form_of f.time.value) = let l = one.1.1 in omega (arith, l, n) in
        let is : one.0 ≡ one.1.0 =
        sym one.1.2 ∙ get_or-range_with_len 0 (width_of (form_of f.time.value)) one.1.0 one.0 low ∙ omega arith in
        let p : length o.time.numbers ≡ width_of (form_of f.time.value) = lies.time_point ∙ ap width_of lies.time in
        let q = h.time_long in
        record {
          source = record { form = form_of f.source.value; numbers = h.source };
          time = record { form = form_of f.time.value; numbers = h.time };
          has = record {
            lies = record {
              source = refl;
              sink = lies.sink;
              access = lies.access;
              time = refl;
              sink_time = lies.sink_time;
              source_point = h.source_long;
              sink_point = lies.sink_point;
              access_point = lies.access_point;
              time_point = h.time_long;
              sink_time_point = lies.sink_time_point;
            };
            holds = (spread.points (wide_blocks params o h.source h.time)
                (wide_wide params f o lies h.source h.time h.source_long h.time_long)).0 h.holds;
          };
          after = record {
            form = lies.time;
            before = at_before o.time.numbers h.time one.0 (p ∙ sym q) (omega (arith, low, is, q)) h.differs;
          };
          point = lies.time_point;
        }),
    (λ c.
        let there = c.has.lies in
        let form : o.time.form ≡ form_of f.time.value = c.after.form ∙ there.time in
        let p : length o.time.numbers ≡ width_of (form_of f.time.value) = c.point ∙ ap width_of form in
        let q : length c.time.numbers ≡ width_of (form_of f.time.value) = there.time_point ∙ ap width_of there.time in
        let x : length c.source.numbers ≡ width_of (form_of f.source.value) = there.source_point ∙ ap width_of there.source in
        let at = before_at o.time.numbers c.time.numbers (p ∙ sym q) c.after.before in
        let l = at.1 in
        let lies : LiesBehind f o = record {
          sink = there.sink;
          access = there.access;
          time = form;
          sink_time = there.sink_time;
          sink_point = there.sink_point;
          access_point = there.access_point;
          time_point = c.point;
          sink_time_point = there.sink_time_point;
        } in
        Any-contains (λ i. ComesLaterAt params f system i o) (places_in f) at.0 (place_there at.0 (omega (arith, l, q))) (record {
          lies = lies;
          source = c.source.numbers;
          time = c.time.numbers;
          source_long = x;
          time_long = q;
          holds = (spread.points (wide_blocks params o c.source.numbers c.time.numbers)
              (wide_wide params f o lies c.source.numbers c.time.numbers x q)).1 c.has.holds;
          differs = at.2;
        })),
  )
