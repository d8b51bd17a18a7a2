-- Precedences without later sources, and those by their sinks.
use Rattle.std.proofs.Common.{◌≡◌, ◌↔◌, sym, ap, ◌∙◌, subst, ℕ, ◌+◌, List, [], ◌∷◌, Any, All}
use Rattle.std.proofs.lemmas.List.Elements.{All-cons, All-nil}
use Rattle.isl_math.proofs.ListLaws.{Any-element, Any-first, Any-one, Any-weaker}
use Rattle.isl_meter.specs.Gauge.{Gauge}
use Rattle.isl_space.specs.Form.{width_of}
use Rattle.isl_space.specs.Element.{Element}
use Rattle.isl_space.specs.Name.{Name}
use Rattle.isl_space.specs.Valuation.{Valuation}
use Rattle.isl_piece.specs.declared.system.System.{System}
use Rattle.isl_piece.specs.System.{HoldsSystem, free_columns}
use Rattle.isl_elim.specs.Sample.{IsNowhere}
use Rattle.isl_difference.specs.Difference.{IsOutside}
use Rattle.isl_difference.specs.Split.{IsLiveFormOf}
use Rattle.isl_blocks.specs.Blocks.{numbers_of, total, IsSpread}
use Rattle.isl_blocks.proofs.WidthLaws.{numbers_long}
use Rattle.isl_precedence.specs.declared.forms.Forms.{Forms}
use Rattle.isl_precedence.specs.declared.later.Later.{Later}
use Rattle.isl_remainder.specs.declared.over.Remainder.{Remainder}
use Rattle.isl_precedence.specs.declared.precedence.Precedence.{Precedence}
use Rattle.isl_precedence.specs.Later.{ShowsLeft, ShowsWith}
use Rattle.isl_precedence.specs.Forms.{AreSameForms, widths_for}
use Rattle.isl_precedence.specs.Later.{all_but_source, later_blocks, later_widths, AreAlikeForms, HasLater, HoldsOver, HoldsPicked}
use Rattle.isl_precedence.specs.Later.{IsOver, IsPlainLater, LiesBehind}
use Rattle.isl_remainder.specs.Made.{AreMade}
use Rattle.isl_remainder.specs.Over.{IsAcross, IsRemainder}
use Rattle.isl_precedence.specs.Precedence.{Occurrence, HasOccurrence, HoldsFor, IsAccessed, IsPlainPrecedence, IsPrecedence, LiesIn, blocks_of}
use Rattle.isl_precedence.proofs.OrderLaws.{same_back, same_precedence}
use Rattle.isl_precedence.proofs.TimedLaws.{blocks_wide, lies_same}

abbrev pub IsPlainSystem : System → Type 0
IsPlainSystem s = s.definitions ≡ []

-- ---- one system over picked blocks
pub spread_one : (g : Gauge) (widths picks : List ℕ) (s made : System) → IsSpread g widths picks s made
    → AreMade (HoldsOver widths) (IsOver g widths) IsPlainSystem (IsPlainSystem s) (λ blocks. HoldsPicked widths picks blocks s) (made ∷ [])
spread_one g widths picks s made is = record {
  has = λ blocks. (
    (λ a.
        let h = Any-one (HoldsOver widths blocks) made a in
        record { wide = h.wide; holds = (is.points blocks h.wide).0 h.holds }),
    (λ h. Any-first (HoldsOver widths blocks) made [] (record { wide = h.wide; holds = (is.points blocks h.wide).1 h.holds })),
  );
  sound = All-cons (IsOver g widths) made [] (record { free = is.free; within = is.within }) (All-nil (IsOver g widths));
  plain = λ none. All-cons IsPlainSystem made [] (is.definitions none) (All-nil IsPlainSystem);
}

-- ---- later sources of a precedence
pub alike_widths : (params : List Name) (f h : Forms) → AreAlikeForms f h → later_widths params f ≡ later_widths params h
alike_widths params f h alike =
    let y = ap width_of alike.sink in
    let a = ap width_of alike.access in
    let p = ap width_of alike.time in
    cc

pub behind_of : (f h : Forms) (o : Occurrence) → AreAlikeForms h f → LiesIn f o → LiesBehind h o
behind_of f h o alike lies = record {
  sink = lies.sink ∙ sym alike.sink;
  access = lies.access ∙ sym alike.access;
  time = lies.time ∙ sym alike.time;
  sink_time = lies.sink_time ∙ sym alike.time;
  sink_point = lies.sink_point;
  access_point = lies.access_point;
  time_point = lies.time_point;
  sink_time_point = lies.sink_time_point;
}

module _ (params : List Name) (f : Forms) (k : Later) where
  pub never_later : ¬ AreAlikeForms k.forms f → (o : Occurrence) → ¬ (LiesIn f o × HasLater params o k)
  never_later apart o h = apart (record {
    sink = sym h.1.lies.sink ∙ h.0.sink;
    access = sym h.1.lies.access ∙ h.0.access;
    time = sym h.1.lies.time ∙ h.0.time;
  })

  pub later_spread : (o : Occurrence) (made : List System) → AreAlikeForms k.forms f
      → (Any (HoldsOver (widths_for params f) (blocks_of params o)) made
      ↔ Any (HoldsPicked (widths_for params f) all_but_source (blocks_of params o)) k.systems.items)
      → Any (λ s. HoldsFor params f s o) made ↔ (LiesIn f o × HasLater params o k)
  later_spread o made alike over = (
    (λ a.
        let lies = (Any-element (λ s. HoldsFor params f s o) made a).2.lies in
        let wide = blocks_wide params f o lies in
        let all = over.0 (Any-weaker (λ s. HoldsFor params f s o) (HoldsOver (widths_for params f) (blocks_of params o))
        (λ s h. record { wide = wide; holds = h.holds }) made a) in (
          lies,
          record {
            lies = behind_of f k.forms o alike lies;
            holds = Any-weaker (HoldsPicked (widths_for params f) all_but_source (blocks_of params o))
                (λ s. HoldsSystem s (numbers_of (later_blocks params o))) (λ s h. h.holds) k.systems.items all;
          },
        )),
    (λ h.
        let wide = blocks_wide params f o h.0 in
        Any-weaker (HoldsOver (widths_for params f) (blocks_of params o)) (λ s. HoldsFor params f s o)
        (λ s x. record { lies = h.0; holds = x.holds }) made
        (over.1 (Any-weaker (λ s. HoldsSystem s (numbers_of (later_blocks params o)))
        (HoldsPicked (widths_for params f) all_but_source (blocks_of params o))
        (λ s x. record { wide = wide; holds = x }) k.systems.items h.1.holds))),
  )

-- ---- without them
module _ (g : Gauge) (params : List Name) (r : Precedence) (is : IsPrecedence g params r) (laters : List Later)
    (others : List System)
    (later : AreMade (λ o s. HoldsFor params r.forms s o) (IsOver g (widths_for params r.forms)) IsPlainSystem (All IsPlainLater laters)
    (λ o. Any (λ k. LiesIn r.forms o × HasLater params o k) laters) others) where
  abbrev f : Forms
  f = r.forms

  abbrev At : Occurrence → System → Type 0
  At o s = HoldsSystem s (numbers_of (blocks_of params o))

  abbrev Later_at : Occurrence → Later → Type 0
  Later_at o k = LiesIn f o × HasLater params o k

  pub shown_left : (v : Valuation) (e : Element)
      → ShowsWith params f (IsOutside r.system others) v e ↔ ShowsLeft params laters v e r
  shown_left v e = (
    (λ s.
        let o = s.occurrence in
        record {
          occurrence = o;
          at = s.at;
          has = record {
            has = record { lies = s.lies; holds = s.holds.0 };
            last = λ k. s.holds.1 (Any-weaker (λ t. HoldsFor params f t o) (At o) (λ t h. h.holds) others
                ((later.has o).1 (Any-weaker (HasLater params o) (Later_at o) (λ k h. (s.lies, h)) laters k)));
          };
          is = s.is;
        }),
    (λ s.
        let o = s.occurrence in
        let lies = s.has.has.lies in
        record {
          occurrence = o;
          at = s.at;
          lies = lies;
          holds = (
            s.has.has.holds,
            λ a. s.has.last (Any-weaker (Later_at o) (HasLater params o) (λ k x. x.1) laters
                ((later.has o).0 (Any-weaker (At o) (λ t. HoldsFor params f t o) (λ t x. record { lies = lies; holds = x }) others a))),
          );
          is = s.is;
        }),
  )

  -- what is asked for, over these columns
  pub asked_is : (kept count : ℕ) (asked : Remainder) → asked.system ≡ r.system → asked.others.items ≡ others → asked.count ≡ count
      → kept + count ≡ total (widths_for params f) → IsRemainder g kept asked
  asked_is kept count asked one rest at wide = rw (one, at) (record {
    system = record { free = is.free ∙ sym wide; within = is.within };
    others = subst (All (IsAcross g (kept + count))) (sym rest)
        (λ k d l. record { free = (later.sound k d l).free ∙ sym wide; within = (later.sound k d l).within });
  })

-- ---- those that have a point
module _ (g : Gauge) (params : List Name) (r : Precedence) (is : IsAccessed g params r) where
  pub live_made : (q : Precedence) → AreSameForms q.forms r.forms → IsLiveFormOf g r.system q.system
      → AreMade (HasOccurrence params) (IsAccessed g params) IsPlainPrecedence (IsPlainPrecedence r)
      (λ o. HasOccurrence params o r) (q ∷ [])
  live_made q same live = record {
    has = λ o. (
      (λ a.
          let h = Any-one (HasOccurrence params o) q a in
          record {
            lies = lies_same q.forms r.forms o same h.lies;
            holds = (live.points (numbers_of (blocks_of params o))).0 h.holds;
          }),
      (λ h. Any-first (HasOccurrence params o) q [] (record {
        lies = lies_same r.forms q.forms o (same_back q.forms r.forms same) h.lies;
        holds = (live.points (numbers_of (blocks_of params o))).1 h.holds;
      })),
    );
    sound = All-cons (IsAccessed g params) q [] (record {
      precedence = same_precedence g params r.forms q is.precedence.narrow is.precedence.space same
          (live.live.free ∙ is.precedence.free) live.live.within;
      place = rw (same.sink, same.access) is.place;
    }) (All-nil (IsAccessed g params));
    plain = λ none. All-cons IsPlainPrecedence q [] (live.definitions ∙ none) (All-nil IsPlainPrecedence);
  }

  pub never_live : IsNowhere (free_columns r.system) (HoldsSystem r.system) → (o : Occurrence)
      → ¬ HasOccurrence params o r
  never_live nowhere o h = nowhere (numbers_of (blocks_of params o))
      (numbers_long (blocks_of params o) ∙ ap total (blocks_wide params r.forms o h.lies) ∙ sym is.precedence.free) h.holds
