-- What is worked out of source, sink and schedule.
use Rattle.std.proofs.Common.{◌≡◌, ◌∙◌, inl, inr, ℕ, true, false, List, ◌∷◌, ◌++◌, sym, ap, ap₂, subst}
use Rattle.std.proofs.lemmas.Bool.{false≢true}
use Rattle.std.specs.Prelude.{unsigned_abs}
use Rattle.isl_meter.specs.Gauge.{Gauge, limit_of, IsCharged}
use Rattle.isl_meter.proofs.CutLemmas.{IsCharged_trans}
use Rattle.isl_space.specs.Name.{Name}
use Rattle.isl_space.specs.Valuation.{Valuation}
use Rattle.isl_union.specs.KeptValue.{KeptValue, Has}
use Rattle.isl_refusal.specs.declared.refusal.Refusal.{Refusal}
use Rattle.isl_tree.specs.declared.statement.Expr.{Expr, Any, Last}
use Rattle.isl_tree.specs.Expr.{literals_of}
use Rattle.isl_tree.proofs.Literals.{literals_of-Any, literals_of-Last}
use Rattle.isl_operators.specs.Flow.{AnyHas}
use Rattle.isl_operators.specs.Made.{IsDependenceOf, names_of_three}
use Rattle.isl_space.specs.Names.{AreDistinct, joined}
use Rattle.isl_kinds.proofs.JoinedNamesLaws.{joined_is}
use Rattle.isl_kinds.specs.Parts.{Part, parts_of}
use Rattle.isl_kinds.specs.Parts as part
use Rattle.isl_kinds.proofs.PartLaws.{parts_of-Any, parts_of-Last}
use Rattle.isl_kinds.specs.Typed.{declared_of, joined_names}
use Rattle.isl_kinds.proofs.DeclaredLaws.{declared_of-Any, declared_of-Last}
use Rattle.isl_values.specs.declared.dependence.Accesses.{Accesses}
use Rattle.isl_state.specs.declared.list.ListPart.{ListPart}
use Rattle.isl_state.specs.declared.list.ListPart.TheVariants.{First, Second}
use Rattle.isl_state.specs.declared.list.ListValue.{ListValue}
use Rattle.isl_values.specs.Live.{IsLiveOf}
use Rattle.isl_state.specs.State.{AtAssumed, StateView, scope_of}
use Rattle.isl_values.specs.Worked.{Dependence, IsWorked, IsWorkedAt, PartHas}
use Rattle.isl_values.specs.Selection.{Selects, SelectsAt}
use Rattle.isl_values.specs.Ends.{End, DependenceEnds, Ends, FirstEnds, GoesOn}
use Rattle.isl_values.specs.Made.{IsSoundExpr, IsPaid, IsWhyUnworked}
use Rattle.isl_values.specs.Three.{AreBothOf, AreKeptWithin, AreMade, AreAllLive, AreLiveOfThree, IsLiveOfThree, IsValueAt}
use Rattle.isl_values.specs.Three.{names_of_accesses, OperandsEnd, ThreeEndAt}
use Rattle.isl_values.proofs.SameLaws.{at_assumed, DependsOnElements, Same, same_part, same_three, same_trans, turned}
use Rattle.isl_values.proofs.RowLaws.{selects_of-Any, selects_of-Last}
use Rattle.isl_values.proofs.WorkedLaws.{worked_of-Any, worked_of-Last}
use Rattle.isl_outcome.proofs.FirstLaws.{EndAlike, goes_alike, goes_both, turned_alike}
use Rattle.isl_values.proofs.EndsLaws.{ends_of-Any, ends_of-Last, DependenceOf}
use Rattle.isl_values.proofs.AlikeLaws.{dependence_alike}
use Rattle.isl_values.proofs.PartLaws.{sound_source, sound_sink, sound_schedule}
use Rattle.isl_values.proofs.ValueLaws.{IsMade, IsMadeAt, work, value_before, numbers_later, paid_after, paid_works}
use Rattle.isl_values.proofs.ValueLaws.{unworked_after, unworked_in}

-- ---- the operands, one after another
nothing_free : {A : Type 0} → true ≡ false → A
nothing_free same = absurd (false≢true (sym same))

module _ (state : StateView) (source sink schedule : Expr) where
  abbrev AllEnd : End → Type 0
  AllEnd = OperandsEnd state source sink schedule

  pub source_failed : (g h : Gauge) (refusal : Refusal)
      → IsWhyUnworked (work state.assumed (parts_of source)) (Ends state source) g h refusal
      → IsWhyUnworked true AllEnd g h refusal
  source_failed g h refusal why =
      unworked_in true (work state.assumed (parts_of source)) (Ends state source) AllEnd g h refusal nothing_free (λ end ends. inl ends) why

  module _ (g h : Gauge) (a : KeptValue) (first : IsMade state source g h a) (first_goes : GoesOn (Ends state source)) where
    first_paid : IsPaid true g h
    first_paid = paid_works g h first.1.charged

    pub sink_failed : (k : Gauge) (refusal : Refusal) → IsWhyUnworked (work state.assumed (parts_of sink)) (Ends state sink) h k refusal
        → IsWhyUnworked true AllEnd g k refusal
    sink_failed k refusal why =
        unworked_after true true (work state.assumed (parts_of sink)) (Ends state sink) AllEnd g h k refusal nothing_free
        (λ end ends. inr (first_goes, inl ends)) first_paid why

    module _ (k : Gauge) (b : KeptValue) (second : IsMade state sink h k b) (second_goes : GoesOn (Ends state sink)) where
      pub both_charged : IsCharged g k
      both_charged = IsCharged_trans g h k first.1.charged second.1.charged

      pub schedule_failed : (m : Gauge) (refusal : Refusal)
          → IsWhyUnworked (work state.assumed (parts_of schedule)) (Ends state schedule) k m refusal
          → IsWhyUnworked true AllEnd g m refusal
      schedule_failed m refusal why =
          unworked_after true true (work state.assumed (parts_of schedule)) (Ends state schedule) AllEnd g k m refusal nothing_free
          (λ end ends. inr (first_goes, inr (second_goes, ends))) (paid_works g k both_charged) why

      module _ (m : Gauge) (three : Accesses) (third : IsMade state schedule k m three.schedule.value) where
        pub three_made : three.source.value ≡ a → three.sink.value ≡ b
            → AreMade state source sink schedule (unsigned_abs (limit_of g)) three × IsCharged g m
        three_made same alike = (
          record {
            first = subst (IsValueAt state First source (unsigned_abs (limit_of g))) (sym same) first.0;
            second = value_before g h (IsWorked state sink) (declared_of (scope_of state) sink) (Selects state sink) three.sink.value
                first.1.charged (subst (IsValueAt state First sink (unsigned_abs (limit_of h))) (sym alike) second.0);
            third = value_before g k (IsWorked state schedule) (declared_of (scope_of state) schedule) (Selects state schedule)
                three.schedule.value both_charged third.0;
          },
          IsCharged_trans g k m both_charged third.1.charged,
        )

        pub three_goes : GoesOn (Ends state schedule) → GoesOn AllEnd
        three_goes third_goes =
            goes_both (Ends state source) (FirstEnds (Ends state sink) (Ends state schedule)) first_goes
            (goes_both (Ends state sink) (Ends state schedule) second_goes third_goes)

-- what is made of them asks no more
pub three_within : (state : StateView) (source sink schedule : Expr) (g h : Gauge) (three : Accesses)
    → AreMade state source sink schedule (unsigned_abs (limit_of g)) three → IsCharged g h → AreKeptWithin (unsigned_abs (limit_of h)) three
three_within state source sink schedule g h three made charged = record {
  source = (made.first.kept, numbers_later g h three.source.value charged made.first.numbers);
  sink = (made.second.kept, numbers_later g h three.sink.value charged made.second.numbers);
  schedule = (made.third.kept, numbers_later g h three.schedule.value charged made.third.numbers);
}

pub three_live : (state : StateView) (source sink schedule : Expr) (limit : ℕ) (three : Accesses)
    → AreMade state source sink schedule limit three → AreAllLive state.assumed three
three_live state source sink schedule limit three made =
    record { source = made.first.live; sink = made.second.live; schedule = made.third.live }

-- the same three values
pub in_three : (P : KeptValue → KeptValue → KeptValue → Type 0) (a b c x y z : KeptValue) → a ≡ x → b ≡ y → c ≡ z → P a b c → P x y z
in_three P a b c x y z first second third h =
    subst (λ v. P v y z) first (subst (λ v. P a v z) second (subst (λ v. P a b v) third h))

-- their parameters
pub three_names : (a b c : KeptValue) → AreDistinct b.params → AreDistinct c.params
    → names_of_three a b c ≡ joined_names (joined_names a.params b.params) c.params
three_names a b c second third =
    joined_is (joined a.params b.params) c.params third ∙ ap (λ ns. joined_names ns c.params) (joined_is a.params b.params second)

-- ---- an expression of the three
-- all that is asked of `any` and `last`: what stands in them, what they select, and what ends them
pub record IsOfOperands (state : StateView) (at : ListPart) (expr source sink schedule : Expr) (Depends : Dependence) : Type 0 where
  pub one : Part
  pub parts : parts_of expr ≡ one ∷ (parts_of source ++ (parts_of sink ++ parts_of schedule))
  pub works : work state.assumed (parts_of expr) ≡ true
  pub literals : literals_of expr ≡ literals_of source ++ (literals_of sink ++ literals_of schedule)
  pub names : declared_of (scope_of state) expr
      ≡ joined_names (joined_names (declared_of (scope_of state) source) (declared_of (scope_of state) sink))
      (declared_of (scope_of state) schedule)
  pub selects : (v : Valuation)
      → Same (SelectsAt state at expr v) (Depends (Selects state source v) (Selects state sink v) (Selects state schedule v))
  pub worked : (a b c value : KeptValue) → IsWorked state source a → IsWorked state sink b → IsWorked state schedule c
      → IsLiveOf state.assumed (IsDependenceOf Depends a b c) value → IsWorkedAt state at expr value
  pub ends : EndAlike (FirstEnds (OperandsEnd state source sink schedule) (DependenceOf state source sink schedule)) (Ends state expr)

any_itself : (state : StateView) (at : ListPart) (source sink schedule : Expr)
    → IsOfOperands state at (Any source sink schedule) source sink schedule AnyHas
any_itself state at source sink schedule = record {
  one = part.any;
  parts = parts_of-Any source sink schedule;
  works = ap (work state.assumed) (parts_of-Any source sink schedule);
  literals = literals_of-Any source sink schedule;
  names = declared_of-Any (scope_of state) source sink schedule;
  selects = λ v. selects_of-Any state v at source sink schedule;
  worked = λ a b c value first second third made. worked_of-Any state at source sink schedule a b c value first second third made;
  ends = turned_alike _ _ (ends_of-Any state source sink schedule);
}

last_itself : (state : StateView) (at : ListPart) (source sink schedule : Expr)
    → IsOfOperands state at (Last source sink schedule) source sink schedule (PartHas at)
last_itself state at source sink schedule = record {
  one = part.last;
  parts = parts_of-Last source sink schedule;
  works = ap (work state.assumed) (parts_of-Last source sink schedule);
  literals = literals_of-Last source sink schedule;
  names = declared_of-Last (scope_of state) source sink schedule;
  selects = λ v. selects_of-Last state v at source sink schedule;
  worked = λ a b c value first second third made. worked_of-Last state at source sink schedule a b c value first second third made;
  ends = turned_alike _ _ (ends_of-Last state source sink schedule);
}

pub is_any : (state : StateView) (at : ListPart) (expr source sink schedule : Expr) → expr ≡ Any source sink schedule
    → IsOfOperands state at expr source sink schedule AnyHas
is_any state at expr source sink schedule is =
    subst (λ (x : Expr). IsOfOperands state at x source sink schedule AnyHas) (sym is) (any_itself state at source sink schedule)

pub is_last : (state : StateView) (at : ListPart) (expr source sink schedule : Expr) → expr ≡ Last source sink schedule
    → IsOfOperands state at expr source sink schedule (PartHas at)
is_last state at expr source sink schedule is =
    subst (λ (x : Expr). IsOfOperands state at x source sink schedule (PartHas at)) (sym is) (last_itself state at source sink schedule)

-- the operands that the code holds are those of the expression
pub same_Any : (expr a b c x y z : Expr) → expr ≡ Any a b c → x ≡ a → y ≡ b → z ≡ c → expr ≡ Any x y z
same_Any expr a b c x y z is first second third = cc

pub same_Last : (expr a b c x y z : Expr) → expr ≡ Last a b c → x ≡ a → y ≡ b → z ≡ c → expr ≡ Last x y z
same_Last expr a b c x y z is first second third = cc

module _ (state : StateView) (at : ListPart) (expr source sink schedule : Expr) (Depends : Dependence)
    (on : DependsOnElements Depends) (of : IsOfOperands state at expr source sink schedule Depends) where
  pub three_sound : IsSoundExpr (scope_of state) expr
      → IsSoundExpr (scope_of state) source × IsSoundExpr (scope_of state) sink × IsSoundExpr (scope_of state) schedule
  three_sound sound = (
    sound_source (scope_of state) expr source sink schedule of.one of.parts of.literals sound,
    sound_sink (scope_of state) expr source sink schedule of.one of.parts of.literals sound,
    sound_schedule (scope_of state) expr source sink schedule of.one of.parts of.literals sound,
  )

  working : {A : Type 0} → work state.assumed (parts_of expr) ≡ false → A
  working none = absurd (false≢true (sym none ∙ of.works))

  -- an operand has no value
  pub operands_failed : (g h : Gauge) (refusal : Refusal) → IsWhyUnworked true (OperandsEnd state source sink schedule) g h refusal
      → IsWhyUnworked (work state.assumed (parts_of expr)) (Ends state expr) g h refusal
  operands_failed g h refusal why =
      unworked_in (work state.assumed (parts_of expr)) true (OperandsEnd state source sink schedule) (Ends state expr) g h refusal working
      (λ end here. (of.ends end).0 (inl here)) why

  module _ (g h k : Gauge) (three : Accesses) (made_of : AreMade state source sink schedule (unsigned_abs (limit_of g)) three)
      (charged : IsCharged g h) where
    same_names : names_of_accesses three ≡ declared_of (scope_of state) expr
    same_names =
        ap₂ joined_names (ap₂ joined_names made_of.first.params made_of.second.params) made_of.third.params ∙ sym of.names

    pub dependence_made : (value : KeptValue) → IsLiveOfThree state.assumed Depends three (unsigned_abs (limit_of h)) value
        × IsPaid true h k
        → IsMadeAt state at expr g k value
    dependence_made value made = (
      value_before g h (IsWorkedAt state at expr) (declared_of (scope_of state) expr) (SelectsAt state at expr) value charged (record {
        written = of.worked three.source.value three.sink.value three.schedule.value value made_of.first.written made_of.second.written
            made_of.third.written made.0.written;
        kept = made.0.kept;
        live = made.0.live;
        params = made.0.params ∙ same_names;
        elements = λ v here. same_trans (Has value v)
            (Depends (Has three.source.value v) (Has three.sink.value v) (Has three.schedule.value v))
            (SelectsAt state at expr v) (made.0.elements v here)
            (same_trans (Depends (Has three.source.value v) (Has three.sink.value v) (Has three.schedule.value v))
            (Depends (Selects state source v) (Selects state sink v) (Selects state schedule v)) (SelectsAt state at expr v)
            (same_three Depends on (Has three.source.value v) (Has three.sink.value v) (Has three.schedule.value v)
            (Selects state source v) (Selects state sink v) (Selects state schedule v) (made_of.first.elements v here)
            (made_of.second.elements v here) (made_of.third.elements v here))
            (turned (SelectsAt state at expr v) (Depends (Selects state source v) (Selects state sink v) (Selects state schedule v))
            (of.selects v)));
        numbers = made.0.numbers;
        definitions = λ none. working none;
      }),
      paid_after (work state.assumed (parts_of expr)) true true g h k working (paid_works g h charged) made.1,
    )

    -- it ends for the three values as it does for what is selected
    three_alike : EndAlike (ThreeEndAt state three) (DependenceOf state source sink schedule)
    three_alike =
        let Source = λ (v : Valuation). Selects state source v in
        let Sink = λ (v : Valuation). Selects state sink v in
        subst (λ (names : List Name). EndAlike (ThreeEndAt state three)
        (DependenceEnds names (AtAssumed state Source) (AtAssumed state Sink))) (same_names ∙ of.names)
        (dependence_alike (names_of_accesses three) (AtAssumed state (Has three.source.value)) (AtAssumed state Source)
        (AtAssumed state (Has three.sink.value)) (AtAssumed state Sink)
        (at_assumed state (Has three.source.value) Source made_of.first.elements)
        (at_assumed state (Has three.sink.value) Sink made_of.second.elements))

    pub dependence_failed : (refusal : Refusal) → GoesOn (OperandsEnd state source sink schedule)
        → IsWhyUnworked true (ThreeEndAt state three) h k refusal
        → IsWhyUnworked (work state.assumed (parts_of expr)) (Ends state expr) g k refusal
    dependence_failed refusal operands_go why =
        unworked_after (work state.assumed (parts_of expr)) true true (ThreeEndAt state three) (Ends state expr) g h k refusal working
        (λ end here. (of.ends end).0 (inr (operands_go, (three_alike end).0 here))) (paid_works g h charged) why

    pub dependence_goes : GoesOn (OperandsEnd state source sink schedule) → GoesOn (ThreeEndAt state three) → GoesOn (Ends state expr)
    dependence_goes operands_go here =
        goes_alike (FirstEnds (OperandsEnd state source sink schedule) (DependenceOf state source sink schedule)) (Ends state expr) of.ends
        (goes_both (OperandsEnd state source sink schedule) (DependenceOf state source sink schedule) operands_go
        (goes_alike (ThreeEndAt state three) (DependenceOf state source sink schedule) three_alike here))

-- ---- both parts of a list
pub list_made : (state : StateView) (expr source sink schedule : Expr) (is : expr ≡ Last source sink schedule) (g h k : Gauge)
    (three : Accesses) → AreMade state source sink schedule (unsigned_abs (limit_of g)) three → IsCharged g h → (list : ListValue)
    → AreLiveOfThree state.assumed three (unsigned_abs (limit_of h)) list × IsPaid true h k
    → AreBothOf state expr (unsigned_abs (limit_of g)) list × IsPaid (work state.assumed (parts_of expr)) g k
list_made state expr source sink schedule is g h k three made_of charged list made =
    let first = dependence_made state First expr source sink schedule (PartHas First) (same_part First)
    (is_last state First expr source sink schedule is)
    g h k three made_of charged list.first.value (made.0.0, made.1) in
    let second = dependence_made state Second expr source sink schedule (PartHas Second) (same_part Second)
    (is_last state Second expr source sink schedule is) g h k three made_of charged list.second.value (made.0.1, made.1) in
    ((first.0, second.0), first.1)
