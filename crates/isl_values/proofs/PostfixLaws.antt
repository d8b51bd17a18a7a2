-- What follows an operand, one after another.
use Rattle.std.proofs.Common.{◌≡◌, ◌∙◌, inl, inr, ◌<◌, ◌+◌, ℕ, ℤ, Bool, true, false, List, All, length, get_or, take, refl, sym, ap, subst}
use Rattle.std.specs.Prelude.{unsigned_abs}
use Rattle.std.proofs.lemmas.Bool.{or_parts}
use Rattle.isl_meter.specs.Gauge.{Gauge, limit_of}
use Rattle.isl_space.specs.Name.{Name}
use Rattle.isl_union.specs.KeptValue.{KeptValue, Has, HasNoDefinitions, IsKeptValue}
use Rattle.isl_refusal.specs.declared.refusal.Refusal.{Refusal}
use Rattle.isl_maps.specs.Inverse.{inverse_element, inverse_of}
use Rattle.isl_tree.specs.declared.statement.Expr.{Expr}
use Rattle.isl_tree.specs.declared.statement.Postfix.{Postfix, Inverse, Apply, Item}
use Rattle.isl_operators.specs.Operations.{ApplicationHas}
use Rattle.isl_operators.specs.Formed.{ApplicationForms}
use Rattle.isl_operators.specs.Made.{IsApplicationOf}
use Rattle.isl_kinds.specs.Parts.{parts_of, parts_of_postfix, parts_of_postfixes}
use Rattle.isl_kinds.specs.Typed.{declared_of, declared_past, declared_of_post, joined_names}
use Rattle.isl_values.specs.Live.{narrows, IsLiveOf, IsLiveUnder}
use Rattle.isl_state.specs.State.{AtAssumed, StateView, scope_of, HasNumbersUpTo}
use Rattle.isl_values.specs.Selection.{Selects, PostfixHas, PostSelects}
use Rattle.isl_values.specs.Worked.{IsPostfixOf, IsWorkedPost}
use Rattle.isl_values.specs.Ends.{CutUnder, End, Ends, EndsPostfix, EndsPost, GoesOn, PairEnds}
use Rattle.isl_values.specs.Made.{uses_units, IsSoundExpr, IsSoundPostfix, IsValueOf, IsPaid, IsWhyUnmade, IsWhyUnworked}
use Rattle.isl_values.proofs.PartLaws.{quiet_in}
use Rattle.isl_values.proofs.NamesLaws.{past_more}
use Rattle.isl_values.proofs.SameLaws.{at_assumed, itself, same_application, same_trans}
use Rattle.isl_values.proofs.RowLaws.{post_more}
use Rattle.isl_outcome.proofs.FirstLaws.{EndAlike, goes_alike, goes_both}
use Rattle.isl_values.proofs.EndsLaws.{Before}
use Rattle.isl_values.proofs.AlikeLaws.{pair_alike}
use Rattle.isl_values.proofs.EndsLaws.{postfix_alike, post_ends_at, post_goes_more}
use Rattle.isl_values.proofs.WorkedLaws.{post_worked_more}
use Rattle.isl_values.proofs.ValueLaws.{IsMade, work, value_before, paid_same, paid_after, paid_in, unmade_in, unworked_after}
use Rattle.isl_values.proofs.ValueLaws.{unworked_in}

-- what one postfix makes of a value
abbrev pub IsFollowed : StateView → Postfix → KeptValue → Gauge → Gauge → KeptValue → Type 0
IsFollowed state postfix left g h value =
    IsValueOf state.assumed (IsPostfixOf state postfix left) (declared_past (scope_of state) left.params postfix)
    (λ v x. PostfixHas state v (Has left v) postfix x) (unsigned_abs (limit_of g))
    (HasNoDefinitions left × (work state.assumed (parts_of_postfix postfix) ≡ false)) value
    × IsPaid (work state.assumed (parts_of_postfix postfix)) g h

-- why it makes none
abbrev pub IsWhyNotFollowed : StateView → Postfix → KeptValue → Gauge → Gauge → Refusal → Type 0
IsWhyNotFollowed state postfix left g h refusal =
    IsWhyUnworked (work state.assumed (parts_of_postfix postfix)) (EndsPostfix state left.params (Has left) postfix) g h refusal

-- ---- the inverse
module _ (state : StateView) (postfix : Postfix) (left : KeptValue) (g h : Gauge) (is : postfix ≡ Inverse) where
  turns_none : work state.assumed (parts_of_postfix Inverse) ≡ false → narrows state.assumed ≡ false
  turns_none none = (or_parts (narrows state.assumed) false none).0

  pub inverse_followed : (value : KeptValue)
      → IsValueOf state.assumed (IsLiveOf state.assumed (λ made. made ≡ inverse_of left)) left.params
      (λ v x. Has left v (inverse_element x)) (unsigned_abs (limit_of g)) (HasNoDefinitions left) value
      × IsPaid (narrows state.assumed) g h
      → IsFollowed state postfix left g h value
  inverse_followed value made =
      subst (λ (p : Postfix). IsFollowed state p left g h value) (sym is) (
        record {
          written = made.0.written;
          kept = made.0.kept;
          live = made.0.live;
          params = made.0.params;
          elements = made.0.elements;
          numbers = made.0.numbers;
          definitions = λ plain. made.0.definitions plain.0;
        },
        paid_in (work state.assumed (parts_of_postfix Inverse)) (narrows state.assumed) g h turns_none made.1,
      )

  pub inverse_failed : (refusal : Refusal) → IsWhyUnmade (narrows state.assumed) (CutUnder state) g h refusal
      → IsWhyNotFollowed state postfix left g h refusal
  inverse_failed refusal why =
      subst (λ (p : Postfix). IsWhyNotFollowed state p left g h refusal) (sym is)
      (inl (unmade_in (work state.assumed (parts_of_postfix Inverse)) (narrows state.assumed) (CutUnder state)
      (EndsPostfix state left.params (Has left) Inverse) g h refusal turns_none (λ end ends. ends) why))

  pub inverse_goes_on : GoesOn (EndsPostfix state left.params (Has left) postfix)
  inverse_goes_on = subst (λ (p : Postfix). GoesOn (EndsPostfix state left.params (Has left) p)) (sym is) (λ reason ends. ends)

-- ---- an element of a list, which the operand was taken at
module _ (state : StateView) (postfix : Postfix) (number : ℤ) (left : KeptValue) (g : Gauge) (is : postfix ≡ Item number) where
  pub item_followed : (value : KeptValue) → value ≡ left → IsKeptValue left → IsLiveUnder state.assumed left
      → HasNumbersUpTo (unsigned_abs (limit_of g)) left → IsFollowed state postfix left g g value
  item_followed value same kept live small =
      subst (λ (p : Postfix). IsFollowed state p left g g value) (sym is)
      (subst (λ (v : KeptValue). IsFollowed state (Item number) left g g v) (sym same) (
        record {
          written = refl;
          kept = kept;
          live = live;
          params = refl;
          elements = λ v here. itself (Has left v);
          numbers = small;
          definitions = λ plain. plain.0;
        },
        paid_same false g g refl,
      ))

-- ---- an application
module _ (state : StateView) (postfix : Postfix) (expr : Expr) (is : postfix ≡ Apply expr) where
  pub applied_sound : IsSoundPostfix (scope_of state) postfix → IsSoundExpr (scope_of state) expr
  applied_sound sound = subst (IsSoundPostfix (scope_of state)) is sound

  -- the argument has no value
  pub argument_failed : (left : KeptValue) (g h : Gauge) (refusal : Refusal)
      → IsWhyUnworked (work state.assumed (parts_of expr)) (Ends state expr) g h refusal
      → IsWhyNotFollowed state postfix left g h refusal
  argument_failed left g h refusal why =
      subst (λ (p : Postfix). IsWhyNotFollowed state p left g h refusal) (sym is)
      (unworked_in true (work state.assumed (parts_of expr)) (Ends state expr)
      (EndsPostfix state left.params (Has left) (Apply expr)) g h refusal
      (λ none. absurd (let no : ⊥ = cc in no)) (λ end ends. inl ends) why)

  module _ (left argument one : KeptValue) (g h k : Gauge) (made_of : IsMade state expr g h argument) (same : one ≡ argument) where
    abbrev pub ApplyEnds : End → Type 0
    ApplyEnds = PairEnds ApplicationForms left.params one.params (AtAssumed state (Has left)) (AtAssumed state (Has one))

    own : IsMade state expr g h one
    own = subst (IsMade state expr g h) (sym same) made_of

    pub application_followed : (value : KeptValue)
        → IsValueOf state.assumed (IsLiveOf state.assumed (IsApplicationOf left one)) (joined_names left.params one.params)
        (λ v x. ApplicationHas (Has left v) (Has one v) x) (unsigned_abs (limit_of h)) ⊥ value
        × IsPaid true h k
        → IsFollowed state postfix left g k value
    application_followed value made =
        subst (λ (p : Postfix). IsFollowed state p left g k value) (sym is) (
          value_before g h (IsPostfixOf state (Apply expr) left) (declared_past (scope_of state) left.params (Apply expr))
              (λ v x. PostfixHas state v (Has left v) (Apply expr) x) value own.1.charged
              (record {
                written = (one, own.0.written, made.0.written);
                kept = made.0.kept;
                live = made.0.live;
                params = made.0.params ∙ ap (joined_names left.params) own.0.params;
                elements = λ v here. same_trans (Has value v) (ApplicationHas (Has left v) (Has one v))
                    (λ x. PostfixHas state v (Has left v) (Apply expr) x) (made.0.elements v here)
                    (same_application (Has left v) (Has left v) (Has one v) (λ x. Selects state expr v x) (itself (Has left v))
                    (own.0.elements v here));
                numbers = made.0.numbers;
                definitions = λ plain. let none : true ≡ false = plain.1 in absurd (let no : ⊥ = cc in no);
              }),
          paid_after true (work state.assumed (parts_of expr)) true g h k (λ none. absurd (let no : ⊥ = cc in no)) own.1 made.1,
        )

    abbrev SelectedEnds : End → Type 0
    SelectedEnds =
        PairEnds ApplicationForms left.params (declared_of (scope_of state) expr) (AtAssumed state (Has left))
        (AtAssumed state (λ v x. Selects state expr v x))

    -- it ends for two values as it does for what is selected
    apply_alike : EndAlike ApplyEnds SelectedEnds
    apply_alike =
        subst (λ (names : List Name). EndAlike ApplyEnds
        (PairEnds ApplicationForms left.params names (AtAssumed state (Has left)) (AtAssumed state (λ v x. Selects state expr v x))))
        own.0.params
        (pair_alike ApplicationForms left.params one.params (AtAssumed state (Has left)) (AtAssumed state (Has left))
        (AtAssumed state (Has one)) (AtAssumed state (λ v x. Selects state expr v x)) (λ v. itself (AtAssumed state (Has left) v))
        (at_assumed state (Has one) (λ v x. Selects state expr v x) own.0.elements))

    -- the map is not applied to it
    pub application_failed : (refusal : Refusal) → GoesOn (Ends state expr) → IsWhyUnworked true ApplyEnds h k refusal
        → IsWhyNotFollowed state postfix left g k refusal
    application_failed refusal argument_goes why =
        subst (λ (p : Postfix). IsWhyNotFollowed state p left g k refusal) (sym is)
        (unworked_after true (work state.assumed (parts_of expr)) true ApplyEnds
        (EndsPostfix state left.params (Has left) (Apply expr)) g h k refusal
        (λ none. absurd (let no : ⊥ = cc in no))
        (λ end ends. inr (argument_goes, (apply_alike end).0 ends)) own.1 why)

    pub application_goes_on : GoesOn (Ends state expr) → GoesOn ApplyEnds → GoesOn (EndsPostfix state left.params (Has left) postfix)
    application_goes_on argument_goes apply_goes =
        subst (λ (p : Postfix). GoesOn (EndsPostfix state left.params (Has left) p)) (sym is)
        (goes_both (Ends state expr) SelectedEnds argument_goes (goes_alike ApplyEnds SelectedEnds apply_alike apply_goes))

-- ---- one of what follows an operand
-- the value of an operand and of so many that follow it, over units of them all
pub record IsPostTo (state : StateView) (postfixes : List Postfix) (first : KeptValue) (n : ℕ) (g h : Gauge) (value : KeptValue)
    : Type 0 where
  pub made :
      IsValueOf state.assumed (IsWorkedPost state first (take n postfixes))
      (declared_of_post (scope_of state) first.params (take n postfixes))
      (λ v x. PostSelects state v (Has first v) (take n postfixes) x) (unsigned_abs (limit_of g))
      (HasNoDefinitions first × (work state.assumed (parts_of_postfixes postfixes) ≡ false)) value
  pub paid : IsPaid (work state.assumed (parts_of_postfixes postfixes)) g h
  pub goes_on : GoesOn (EndsPost state first.params (Has first) (take n postfixes))

module _ (state : StateView) (postfixes : List Postfix) (i : ℕ) (postfix : Postfix) (low : i < length postfixes)
    (is : postfix ≡ get_or postfixes i postfix) where
  pub postfix_sound : All (IsSoundPostfix (scope_of state)) postfixes → IsSoundPostfix (scope_of state) postfix
  postfix_sound sound = subst (IsSoundPostfix (scope_of state)) (sym is) (sound i postfix low)

  abbrev Works : Bool
  Works = work state.assumed (parts_of_postfixes postfixes)

  with_postfix : Works ≡ false → (Works ≡ false) × (work state.assumed (parts_of_postfix postfix) ≡ false)
  with_postfix none = (none, quiet_in (uses_units state.assumed) postfixes i postfix low is none)

  module _ (first : KeptValue) (g h : Gauge) (left : KeptValue) (before : IsPostTo state postfixes first i g h left) where
    -- what is next ends for the value as it does for what is selected
    next_alike : EndAlike (EndsPostfix state left.params (Has left) postfix)
        (EndsPostfix state (declared_of_post (scope_of state) first.params (take i postfixes))
        (Before state (Has first) (take i postfixes)) postfix)
    next_alike =
        subst (λ (names : List Name). EndAlike (EndsPostfix state left.params (Has left) postfix)
        (EndsPostfix state names (Before state (Has first) (take i postfixes)) postfix)) before.made.params
        (postfix_alike state left.params (Has left) (Before state (Has first) (take i postfixes)) postfix before.made.elements)

    pub postfix_failed : (k : Gauge) (refusal : Refusal) → IsWhyNotFollowed state postfix left h k refusal
        → IsWhyUnworked Works (EndsPost state first.params (Has first) postfixes) g k refusal
    postfix_failed k refusal why =
        unworked_after Works Works (work state.assumed (parts_of_postfix postfix)) (EndsPostfix state left.params (Has left) postfix)
        (EndsPost state first.params (Has first) postfixes) g h k refusal with_postfix
        (λ end ends. post_ends_at state first.params (Has first) postfixes i postfix end low is before.goes_on ((next_alike end).0 ends))
        before.paid why

    pub post_step : (k : Gauge) (made : KeptValue) → IsFollowed state postfix left h k made
        → GoesOn (EndsPostfix state left.params (Has left) postfix) → IsPostTo state postfixes first (i + 1) g k made
    post_step k made one goes = record {
      made = value_before g h (IsWorkedPost state first (take (i + 1) postfixes))
          (declared_of_post (scope_of state) first.params (take (i + 1) postfixes))
          (λ v x. PostSelects state v (Has first v) (take (i + 1) postfixes) x) made before.paid.charged
          (record {
            written = post_worked_more state first left made postfixes i postfix low is before.made.written one.0.written;
            kept = one.0.kept;
            live = one.0.live;
            params = one.0.params ∙ ap (λ (ps : List Name). declared_past (scope_of state) ps postfix) before.made.params
                ∙ sym (past_more (scope_of state) first.params postfixes i postfix low is);
            elements = λ v here. post_more state v (Has first v) (Has left v) (Has made v) postfixes i postfix low is
                (before.made.elements v here)
                (one.0.elements v here);
            numbers = one.0.numbers;
            definitions = λ plain. one.0.definitions (before.made.definitions plain, (with_postfix plain.1).1);
          });
      paid = paid_after Works Works (work state.assumed (parts_of_postfix postfix)) g h k with_postfix before.paid one.1;
      goes_on = post_goes_more state first.params (Has first) postfixes i postfix low is before.goes_on
          (goes_alike (EndsPostfix state left.params (Has left) postfix)
          (EndsPostfix state (declared_of_post (scope_of state) first.params (take i postfixes))
          (Before state (Has first) (take i postfixes)) postfix) next_alike goes);
    }
