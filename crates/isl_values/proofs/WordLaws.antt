-- What is worked out of a word and its operand.
use Rattle.std.proofs.Common.{◌≡◌, ◌∙◌, inl, inr, Bool, false, List, sym, ap, subst}
use Rattle.std.specs.Prelude.{unsigned_abs}
use Rattle.isl_meter.specs.Gauge.{Gauge, limit_of}
use Rattle.isl_space.specs.Name.{Name}
use Rattle.isl_union.specs.KeptValue.{KeptValue, Has, HasNoDefinitions}
use Rattle.isl_refusal.specs.declared.refusal.Refusal.{Refusal}
use Rattle.isl_tree.specs.declared.statement.Prefix.{Prefix as Word}
use Rattle.isl_tree.specs.declared.statement.Expr.{Expr, Prefix}
use Rattle.isl_operators.specs.Made.{word_works}
use Rattle.isl_operators.specs.Operations.{WordHas, is_operation_word}
use Rattle.isl_kinds.specs.Parts.{prefix, parts_of}
use Rattle.isl_kinds.specs.Typed.{declared_of}
use Rattle.isl_kinds.proofs.DeclaredLaws.{declared_of-Prefix}
use Rattle.std.proofs.lemmas.Bool.{not-false, or_parts}
use Rattle.isl_state.specs.declared.list.ListPart.{ListPart}
use Rattle.isl_state.specs.State.{AtAssumed, StateView, scope_of}
use Rattle.isl_values.specs.Live.{narrows}
use Rattle.isl_values.specs.Selection.{Selects, SelectsAt}
use Rattle.isl_values.specs.Worked.{IsWordedOf, IsWorkedAt}
use Rattle.isl_values.specs.Ends.{End, Ends, FirstEnds, GoesOn, WordEnds}
use Rattle.isl_values.specs.Three.{IsValueAt}
use Rattle.isl_values.specs.Made.{is_foreign, uses_units, IsSoundExpr, IsValueOf, IsPaid, IsWhyUnworked}
use Rattle.isl_values.proofs.PartLaws.{sound_argument}
use Rattle.isl_values.proofs.PartLaws.{word_quiet}
use Rattle.isl_values.proofs.SameLaws.{at_assumed, AreSame, Same, Selection, turned, same_alike, same_trans, same_word}
use Rattle.isl_values.proofs.RowLaws.{selects_of-Prefix}
use Rattle.isl_outcome.proofs.FirstLaws.{EndAlike, goes_alike, goes_both, turned_alike}
use Rattle.isl_values.proofs.EndsLaws.{ends_of-Prefix}
use Rattle.isl_values.proofs.AlikeLaws.{word_alike}
use Rattle.isl_values.proofs.WorkedLaws.{worked_of-Prefix}
use Rattle.isl_values.proofs.ValueLaws.{IsMade, IsMadeAt, work, value_before, paid_after, unworked_after, unworked_in}
use Rattle.isl_values.proofs.OperandLaws.{IsWhyNotMade}

pub same_Prefix : (expr : Expr) (word : Word) (operand x : Expr) → expr ≡ Prefix word operand → x ≡ operand → expr ≡ Prefix word x
same_Prefix expr word operand x is same = is ∙ sym (ap (Prefix word) same)

module _ (state : StateView) (expr : Expr) (word : Word) (operand : Expr) (is : expr ≡ Prefix word operand) where
  pub argument_sound : IsSoundExpr (scope_of state) expr → IsSoundExpr (scope_of state) operand
  argument_sound sound = sound_argument (scope_of state) word operand (subst (IsSoundExpr (scope_of state)) is sound)

  pub word_supported : IsSoundExpr (scope_of state) expr → is_foreign (prefix word) ≡ false
  word_supported sound =
      let of_word = subst (IsSoundExpr (scope_of state)) is sound in
      (word_quiet (scope_of state) is_foreign word operand of_word.supported).0

  abbrev WordWorks : Bool
  WordWorks = work state.assumed (parts_of expr)

  word_none : WordWorks ≡ false → (work state.assumed (parts_of operand) ≡ false) × (uses_units state.assumed (prefix word) ≡ false)
  word_none none =
      let both = word_quiet (scope_of state) (uses_units state.assumed) word operand
      (sym (ap (λ (x : Expr). work state.assumed (parts_of x)) is) ∙ none) in
      (both.1, both.0)

  abbrev pub FormedEnds : KeptValue → End → Type 0
  FormedEnds value = WordEnds word (AtAssumed state (Has value))

  abbrev Selected : Selection
  Selected = AtAssumed state (λ v x. Selects state operand v x)

  abbrev SelectedEnds : End → Type 0
  SelectedEnds = WordEnds word Selected

  word_ends : EndAlike (FirstEnds (Ends state operand) SelectedEnds) (Ends state expr)
  word_ends =
      subst (λ (x : Expr). EndAlike (FirstEnds (Ends state operand) SelectedEnds) (Ends state x)) (sym is)
      (turned_alike (Ends state (Prefix word operand)) (FirstEnds (Ends state operand) SelectedEnds) (ends_of-Prefix state word operand))

  pub prefixed_failed : (g h : Gauge) (refusal : Refusal) → IsWhyNotMade state operand g h refusal → IsWhyNotMade state expr g h refusal
  prefixed_failed g h refusal why =
      unworked_in WordWorks (work state.assumed (parts_of operand)) (Ends state operand) (Ends state expr) g h refusal
      (λ none. (word_none none).0)
      (λ end ends. (word_ends end).0 (inl ends)) why

  module _ (g h k : Gauge) (one : KeptValue) (own : IsMade state operand g h one) where
    abbrev Own : Selection
    Own = AtAssumed state (Has one)

    own_same : AreSame Own Selected
    own_same = at_assumed state (Has one) (λ v x. Selects state operand v x) own.0.elements

    pub word_made : (part : ListPart) → is_foreign (prefix word) ≡ false → (made : KeptValue)
        → IsValueOf state.assumed (IsWordedOf state word one) one.params (WordHas word one.params (AtAssumed state (Has one)))
        (unsigned_abs (limit_of h))
        (HasNoDefinitions one × (word_works word ≡ false)) made
        × IsPaid (uses_units state.assumed (prefix word)) h k
        → IsMadeAt state part expr g k made
    word_made part supported made all =
        let names = declared_of (scope_of state) operand in (
          value_before g h (IsWorkedAt state part expr) (declared_of (scope_of state) expr) (SelectsAt state part expr) made own.1.charged
              (subst (λ (x : Expr). IsValueAt state part x (unsigned_abs (limit_of h)) made) (sym is) (record {
                written = worked_of-Prefix state part word operand one made own.0.written
                    (not-false (is_operation_word word) supported)
                    all.0.written;
                kept = all.0.kept;
                live = all.0.live;
                params = all.0.params ∙ own.0.params ∙ sym (declared_of-Prefix (scope_of state) word operand);
                elements = λ v here. same_trans (Has made v) (WordHas word one.params Own v) (SelectsAt state part (Prefix word operand) v)
                    (all.0.elements v here)
                    (same_trans (WordHas word one.params Own v) (WordHas word names Selected v)
                    (SelectsAt state part (Prefix word operand) v)
                    (subst (λ (ns : List Name). Same (WordHas word one.params Own v) (WordHas word ns Selected v)) own.0.params
                    (same_word word one.params Own Selected v (own_same v) (λ _. same_alike one.params Own Selected own_same)))
                    (turned (SelectsAt state part (Prefix word operand) v) (WordHas word names Selected v)
                    (selects_of-Prefix state v part word operand)));
                numbers = all.0.numbers;
                definitions = λ none.
                    let quiet = word_quiet (scope_of state) (uses_units state.assumed) word operand none in
                    all.0.definitions (own.0.definitions quiet.1, (or_parts (word_works word) (narrows state.assumed) quiet.0).0);
              })),
          paid_after WordWorks (work state.assumed (parts_of operand)) (uses_units state.assumed (prefix word)) g h k word_none own.1 all.1,
        )

    -- the word ends for the value as it does for what is selected
    formed_alike : EndAlike (FormedEnds one) SelectedEnds
    formed_alike = word_alike word Own Selected own_same

    pub word_failed : (refusal : Refusal) → GoesOn (Ends state operand)
        → IsWhyUnworked (uses_units state.assumed (prefix word)) (FormedEnds one) h k refusal
        → IsWhyNotMade state expr g k refusal
    word_failed refusal operand_goes why =
        unworked_after WordWorks (work state.assumed (parts_of operand)) (uses_units state.assumed (prefix word)) (FormedEnds one)
        (Ends state expr) g h k refusal word_none
        (λ end ends. (word_ends end).0 (inr (operand_goes, (formed_alike end).0 ends))) own.1 why

    pub word_goes_on : GoesOn (Ends state operand) → GoesOn (FormedEnds one) → GoesOn (Ends state expr)
    word_goes_on operand_goes formed_goes =
        goes_alike (FirstEnds (Ends state operand) SelectedEnds) (Ends state expr) word_ends
        (goes_both (Ends state operand) SelectedEnds operand_goes (goes_alike (FormedEnds one) SelectedEnds formed_alike formed_goes))
