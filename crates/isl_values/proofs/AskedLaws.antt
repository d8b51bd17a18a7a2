-- What words are asked of.
use Rattle.std.proofs.Common.{◌≡◌, ◌∙◌, ◌↔◌, ℕ, Bool, true, false, List, [], sym, ap, subst, inl}
use Rattle.std.specs.Prelude.{◌||◌, MatchResult, Result, unsigned_abs}
use Rattle.std.proofs.lemmas.Bool.{false≢true, or_parts}
use Rattle.isl_meter.specs.Gauge.{Gauge, limit_of, IsCharged}
use Rattle.isl_space.specs.Element.{Element}
use Rattle.isl_space.specs.Name.{Name}
use Rattle.isl_space.specs.SpaceForm.{SpaceForm}
use Rattle.isl_space.specs.Valuation.{Valuation}
use Rattle.isl_union.specs.KeptValue.{KeptValue, Has, HasNoDefinitions}
use Rattle.isl_assumed.specs.declared.assumed.Assumed.{Assumed}
use Rattle.isl_assumed.specs.declared.assumed.Assumed.TheVariants.{Nothing, Where}
use Rattle.isl_assumed.specs.Assumed.{Assumes}
use Rattle.isl_tree.specs.declared.statement.Prefix.{Prefix}
use Rattle.isl_tree.specs.declared.statement.Prefix.TheVariants as p
use Rattle.isl_operators.specs.Point.{Point, map_element, set_element}
use Rattle.isl_operators.specs.Extremes.{HasFirst}
use Rattle.isl_operators.specs.Orders.{ComesAfter, ComesBefore}
use Rattle.isl_operators.specs.Operations.{WordHas, WordMisses}
use Rattle.isl_operators.specs.Formed.{FormsWide, WordForms}
use Rattle.isl_operators.specs.Made.{word_works, IsWordOf}
use Rattle.isl_refusal.specs.declared.refusal.Refusal.{Refusal}
use Rattle.isl_values.specs.Live.{narrows, IsLiveOf, IsLivePart, IsLiveUnder, IsUnderOf}
use Rattle.isl_state.specs.State.{AtAssumed, StateView}
use Rattle.isl_values.specs.Worked.{looks, IsAskedOf, IsWordedOf}
use Rattle.isl_values.specs.Ends.{CutAlone, GoesOn, WordEnds}
use Rattle.isl_values.specs.Ends as ends
use Rattle.isl_values.specs.Made.{IsMadeOf, IsPaid, IsValueOf, IsWhyUnmade, IsWhyUnworked}
use Rattle.isl_values.specs.Three.{IsAsked}
use Rattle.isl_outcome.proofs.FirstLaws.{EndAlike, goes_alike, operation_alike}
use Rattle.isl_outcome.proofs.FirstLaws.{operation_cut}
use Rattle.isl_values.proofs.LiveEndsLaws.{forms_live, live_answer}
use Rattle.isl_values.proofs.SameLaws.{AreAlike, Same, has_first, itself, same_trans, same_word}
use Rattle.isl_values.proofs.ValueLaws.{made_before, match_map, paid_after, unworked_after}
use Rattle.isl_values.proofs.UnderLaws.{has_same, under_alike, under_here, under_params}

module _ (state : StateView) (operand asked : KeptValue) (live : IsLiveUnder state.assumed operand) where
  abbrev There : Valuation → Element → Type 0
  There = AtAssumed state (Has operand)

  -- at an assumed valuation a word is asked of what the operand has
  pub asked_here : (b : Bool) → IsAskedOf state b operand asked → (v : Valuation) → Assumes state.assumed v
      → Same (Has asked v) (Has operand v)
  asked_here true is v here = under_here state.assumed operand.params operand asked is v here
  asked_here false is v here = subst (λ (u : KeptValue). Same (Has u v) (Has operand v)) (sym is) (itself (Has operand v))

  pub asked_params : (b : Bool) → IsAskedOf state b operand asked → asked.params ≡ operand.params
  asked_params true is = under_params state.assumed operand asked is
  asked_params false is = ap (λ (u : KeptValue). u.params) is

  -- the same at an assumed valuation
  at_one : IsUnderOf state.assumed operand.params operand asked → (v : Valuation) → Assumes state.assumed v → Same (Has asked v) (There v)
  at_one is v here x = (
    (λ h. (here, (under_here state.assumed operand.params operand asked is v here x).0 h)),
    (λ h. (under_here state.assumed operand.params operand asked is v here x).1 h.1),
  )

  -- the same with assumed valuations alone, whatever the word is asked of
  there_here : (v : Valuation) → Assumes state.assumed v → Same (Has operand v) (There v)
  there_here v here x = ((λ h. (here, h)), (λ h. h.1))

  asked_alike_there : (b : Bool) → IsAskedOf state b operand asked → b ≡ true → AreAlike operand.params (Has asked) There
  asked_alike_there true is which = under_alike state.assumed operand asked is
  asked_alike_there false is which = absurd (false≢true which)

  -- where the operand is asked of has an element, it has what the other has at some assumed valuation
  at_some : IsUnderOf state.assumed operand.params operand asked → (v : Valuation) (x : Element) → Has asked v x
      → (w : Valuation) × Same (There w) (Has asked v)
  at_some is v x has = by state.assumed is
    where
      by : (assumed : Assumed) → IsUnderOf assumed operand.params operand asked
          → (w : Valuation) × Same (λ y. Assumes assumed w × Has operand w y) (Has asked v)
      by Nothing same = (
        v,
        λ y. (
          (λ h. subst (λ (u : KeptValue). Has u v y) (sym same) h.1),
          (λ h. (tt, subst (λ (u : KeptValue). Has u v y) same h)),
        ),
      )
      by (Where region) over =
          let some = ((over.elements v x).0 has).1 in
          let w = some.0 in (
            w,
            λ y. (
              (λ h. (over.elements v y).1 (has_same operand v w some.1 y h.1, some)),
              (λ h. (some.2, has_same operand w v (sym some.1) y ((over.elements v y).0 h).0)),
            ),
          )

  module _ (Ordered : Point → Point → Type 0) (is : IsUnderOf state.assumed operand.params operand asked) where
    first_there : ((v : Valuation) → HasFirst Ordered (Has asked v)) → (v : Valuation) → HasFirst Ordered (There v)
    first_there all v = record {
      sets = λ x has. (has_first (Has asked v) (There v) (at_one is v has.has.0) Ordered (all v)).sets x has;
      maps = λ x y has. (has_first (Has asked v) (There v) (at_one is v has.has.0) Ordered (all v)).maps x y has;
    }

    first_asked : ((v : Valuation) → HasFirst Ordered (There v)) → (v : Valuation) → HasFirst Ordered (Has asked v)
    first_asked all v = record {
      sets = λ x has. let w = at_some is v (set_element x) has.has in
          (has_first (There w.0) (Has asked v) w.1 Ordered (all w.0)).sets x has;
      maps = λ x y has. let w = at_some is v (map_element x y) has.has in
          (has_first (There w.0) (Has asked v) w.1 Ordered (all w.0)).maps x y has;
    }

  asked_misses : (word : Prefix) → IsAskedOf state (looks word) operand asked → WordMisses word (Has asked) ↔ WordMisses word There
  asked_misses p.LexMin is = ((λ no all. no (first_asked ComesBefore is all)), (λ no all. no (first_there ComesBefore is all)))
  asked_misses p.LexMax is = ((λ no all. no (first_asked ComesAfter is all)), (λ no all. no (first_there ComesAfter is all)))
  asked_misses _ is = ((λ h. absurd h), (λ h. absurd h))

  forms_asked : (Forms : SpaceForm → SpaceForm → Type 0) → asked ≡ operand → FormsWide Forms (Has asked) ↔ FormsWide Forms There
  forms_asked Forms is = subst (λ (u : KeptValue). FormsWide Forms (Has u) ↔ FormsWide Forms There) (sym is)
      (forms_live state Forms operand live)

  asked_forms : (word : Prefix) → IsAskedOf state (looks word) operand asked
      → FormsWide (WordForms word) (Has asked) ↔ FormsWide (WordForms word) There
  asked_forms p.LexMin is = ((λ h. absurd h.3), (λ h. absurd h.3))
  asked_forms p.LexMax is = ((λ h. absurd h.3), (λ h. absurd h.3))
  asked_forms p.AffineHull is = ((λ h. absurd h.3), (λ h. absurd h.3))
  asked_forms p.Domain is = forms_asked (WordForms p.Domain) is
  asked_forms p.Range is = forms_asked (WordForms p.Range) is
  asked_forms p.Deltas is = forms_asked (WordForms p.Deltas) is
  asked_forms p.Identity is = forms_asked (WordForms p.Identity) is
  asked_forms p.Wrap is = forms_asked (WordForms p.Wrap) is
  asked_forms p.Unwrap is = forms_asked (WordForms p.Unwrap) is
  asked_forms p.Zip is = forms_asked (WordForms p.Zip) is
  asked_forms p.DomainMap is = forms_asked (WordForms p.DomainMap) is
  asked_forms p.RangeMap is = forms_asked (WordForms p.RangeMap) is
  asked_forms p.Coalesce is = forms_asked (WordForms p.Coalesce) is
  asked_forms p.Sample is = forms_asked (WordForms p.Sample) is
  asked_forms p.Scan is = forms_asked (WordForms p.Scan) is
  asked_forms p.Codegen is = forms_asked (WordForms p.Codegen) is
  asked_forms p.Pip is = forms_asked (WordForms p.Pip) is

  -- the word ends for what it is asked of as it does for what the operand has at assumed valuations
  pub asked_alike : (word : Prefix) → IsAskedOf state (looks word) operand asked
      → EndAlike (WordEnds word (Has asked)) (WordEnds word There)
  asked_alike word is = operation_alike [] _ _ _ _ (asked_forms word is) (asked_misses word is)

  pub asked_goes : (word : Prefix) → IsAskedOf state (looks word) operand asked → GoesOn (WordEnds word (Has asked))
      → GoesOn (WordEnds word There)
  asked_goes word is goes = goes_alike (WordEnds word (Has asked)) (WordEnds word There) (asked_alike word is) goes

  -- what is live of what the word makes of it
  pub worded_value : (word : Prefix) (limit : ℕ) (part : KeptValue) → IsAsked state word limit operand asked
      → IsValueOf state.assumed (IsLiveOf state.assumed (IsWordOf word asked)) asked.params (WordHas word asked.params (Has asked)) limit
      (HasNoDefinitions asked × (word_works word ≡ false)) part
      → IsValueOf state.assumed (IsWordedOf state word operand) operand.params (WordHas word operand.params There) limit
      (HasNoDefinitions operand × (word_works word ≡ false)) part
  worded_value word limit part is made =
      let names = asked_params (looks word) is.of in record {
        written = (asked, is.of, made.written);
        kept = made.kept;
        live = made.live;
        params = made.params ∙ names;
        elements = λ v here. same_trans (Has part v) (WordHas word asked.params (Has asked) v) (WordHas word operand.params There v)
            (made.elements v here)
            (subst (λ (ns : List Name). Same (WordHas word ns (Has asked) v) (WordHas word operand.params There v)) (sym names)
            (same_word word operand.params (Has asked) There v
            (same_trans (Has asked v) (Has operand v) (There v) (asked_here (looks word) is.of v here) (there_here v here))
            (asked_alike_there (looks word) is.of)));
        numbers = made.numbers;
        definitions = λ plain. made.definitions (is.definitions plain.0, plain.1);
      }

  module _ (word : Prefix) (g m h : Gauge) (is : IsAsked state word (unsigned_abs (limit_of g)) operand asked)
      (first : IsPaid (narrows state.assumed) g m) where
    abbrev pub Works : Bool
    Works = word_works word || narrows state.assumed

    first_quiet : Works ≡ false → (narrows state.assumed ≡ false) × (word_works word ≡ false)
    first_quiet none = let both = or_parts (word_works word) (narrows state.assumed) none in (both.1, both.0)

    -- the word makes none of it
    pub changed_failed : (refusal : Refusal) → IsWhyUnworked (word_works word) (WordEnds word (Has asked)) m h refusal
        → IsWhyUnworked Works (WordEnds word There) g h refusal
    changed_failed refusal why =
        unworked_after Works (narrows state.assumed) (word_works word) (WordEnds word (Has asked))
        (WordEnds word There) g m h refusal first_quiet
        (λ end ends. (asked_alike word is.of end).0 ends) first why

    module _ (k : Gauge) (made : KeptValue) (goes : GoesOn (WordEnds word (Has asked)))
        (second : IsMadeOf (IsWordOf word asked) asked.params (WordHas word asked.params (Has asked)) (unsigned_abs (limit_of m))
        (HasNoDefinitions asked × (word_works word ≡ false)) made × IsPaid (word_works word) m h) where
      pub worded_answer : {A : Type 0} (of : A → KeptValue) (result : Result A Refusal)
          → MatchResult result (λ a. IsLivePart state.assumed made (of a) × IsCharged h k) (IsWhyUnmade true CutAlone h k)
          → (narrows state.assumed ≡ false → MatchResult result (λ _. k ≡ h) (λ _. ⊥))
          → MatchResult result
          (λ a. IsValueOf state.assumed (IsWordedOf state word operand) operand.params (WordHas word operand.params There)
          (unsigned_abs (limit_of g)) (HasNoDefinitions operand × (word_works word ≡ false)) (of a) × IsPaid Works g k)
          (IsWhyUnworked Works (WordEnds word There) g k)
      worded_answer of result part free =
          match_map result _ _ _ _ (λ a v. (worded_value word (unsigned_abs (limit_of g)) (of a) is v.0, v.1)) (λ refusal why. inl why)
          (live_answer state.assumed (IsWordOf word asked) asked.params (WordHas word asked.params (Has asked)) g h k made
          (made_before g m (IsWordOf word asked) asked.params (WordHas word asked.params (Has asked)) made first.charged second.0) Works
          (WordEnds word There) (paid_after Works (narrows state.assumed) (word_works word) g m h first_quiet first second.1)
          (λ some. operation_cut [] _ _ (asked_goes word is.of goes)) Works (λ none. (none, (first_quiet none).0)) of result part free)
