-- The operands behind the first, one after another.
use Rattle.std.proofs.Common.{◌≡◌, ◌∙◌, inl, inr, ◌<◌, ◌+◌, ℕ, Bool, false, List, All, length, get_or, take, sym, ap₂, subst}
use Rattle.std.specs.Prelude.{unsigned_abs}
use Rattle.std.proofs.lemmas.Bool.{or_parts}
use Rattle.isl_meter.specs.Gauge.{Gauge, limit_of}
use Rattle.isl_space.specs.Name.{Name}
use Rattle.isl_union.specs.KeptValue.{KeptValue, Has, HasNoDefinitions}
use Rattle.isl_refusal.specs.declared.refusal.Refusal.{Refusal}
use Rattle.isl_tree.specs.declared.statement.Link.{Link}
use Rattle.isl_operators.specs.Operations.{OperatorHas}
use Rattle.isl_operators.specs.Formed.{OperatorForms}
use Rattle.isl_operators.specs.Made.{IsOperatorOf, operator_works}
use Rattle.isl_kinds.specs.Parts.{operator, parts_of, parts_of_links}
use Rattle.isl_kinds.specs.Typed.{declared_of, declared_of_row, joined_names}
use Rattle.isl_values.specs.Live.{IsLiveOf, narrows}
use Rattle.isl_state.specs.State.{AtAssumed, StateView, scope_of}
use Rattle.isl_values.specs.Selection.{Selects, RowSelects}
use Rattle.isl_values.specs.Worked.{IsWorkedRow}
use Rattle.isl_values.specs.Ends.{End, Ends, EndsRow, GoesOn, PairEnds}
use Rattle.isl_values.specs.Made.{uses_units, IsSoundExpr, IsSoundLink, IsValueOf, IsPaid, IsWhyUnworked}
use Rattle.isl_values.proofs.PartLaws.{quiet_at}
use Rattle.isl_values.proofs.NamesLaws.{declared_more}
use Rattle.isl_values.proofs.RowLaws.{row_more}
use Rattle.isl_outcome.proofs.FirstLaws.{EndAlike, goes_alike, goes_both}
use Rattle.isl_values.proofs.SameLaws.{at_assumed, Selection}
use Rattle.isl_values.proofs.EndsLaws.{Behind, OperatorEnds}
use Rattle.isl_values.proofs.AlikeLaws.{pair_alike}
use Rattle.isl_values.proofs.EndsLaws.{row_ends_at, row_goes_more}
use Rattle.isl_values.proofs.WorkedLaws.{row_worked_more}
use Rattle.isl_values.proofs.ValueLaws.{IsMade, work, value_before, paid_after, unworked_after}

-- the value of the first operand and of so many behind it, over units of the row
pub record IsRowTo (state : StateView) (links : List Link) (first : KeptValue) (n : ℕ) (g h : Gauge) (value : KeptValue) : Type 0 where
  pub made :
      IsValueOf state.assumed (IsWorkedRow state first (take n links)) (declared_of_row (scope_of state) first.params (take n links))
      (λ v x. RowSelects state v (Has first v) (take n links) x) (unsigned_abs (limit_of g))
      (HasNoDefinitions first × (work state.assumed (parts_of_links links) ≡ false)) value
  pub paid : IsPaid (work state.assumed (parts_of_links links)) g h
  pub goes_on : GoesOn (EndsRow state first.params (Has first) (take n links))

module _ (state : StateView) (links : List Link) (i : ℕ) (link : Link) (low : i < length links) (is : link ≡ get_or links i link) where
  -- ---- what is asked of the operand
  pub link_sound : All (IsSoundLink (scope_of state)) links → IsSoundExpr (scope_of state) link.operand
  link_sound sound = (subst (IsSoundLink (scope_of state)) (sym is) (sound i link low)).operand

  -- ---- what uses units
  abbrev Works : Bool
  Works = work state.assumed (parts_of_links links)

  with_operand : Works ≡ false → (Works ≡ false) × (work state.assumed (parts_of link.operand) ≡ false)
  with_operand none = (none, (quiet_at (uses_units state.assumed) links i link low is none).1)

  with_operator : Works ≡ false → (Works ≡ false) × (uses_units state.assumed (operator link.operator) ≡ false)
  with_operator none = (none, (quiet_at (uses_units state.assumed) links i link low is none).0)

  -- ---- one more
  -- what the operator makes of two
  abbrev pub IsJoined : KeptValue → KeptValue → Gauge → Gauge → KeptValue → Type 0
  IsJoined left right g h value =
      IsValueOf state.assumed (IsLiveOf state.assumed (IsOperatorOf link.operator left right)) (joined_names left.params right.params)
      (λ v x. OperatorHas link.operator (Has left v) (Has right v) x) (unsigned_abs (limit_of g))
      (HasNoDefinitions left × HasNoDefinitions right × (operator_works link.operator ≡ false)) value
      × IsPaid (uses_units state.assumed (operator link.operator)) g h

  abbrev pub JoinEnds : KeptValue → KeptValue → End → Type 0
  JoinEnds left right =
      PairEnds (OperatorForms link.operator) left.params right.params (AtAssumed state (Has left)) (AtAssumed state (Has right))

  module _ (first : KeptValue) (g h : Gauge) (left : KeptValue) (before : IsRowTo state links first i g h left) where
    -- the operand has no value
    pub link_failed : (k : Gauge) (refusal : Refusal)
        → IsWhyUnworked (work state.assumed (parts_of link.operand)) (Ends state link.operand) h k refusal
        → IsWhyUnworked Works (EndsRow state first.params (Has first) links) g k refusal
    link_failed k refusal why =
        unworked_after Works Works (work state.assumed (parts_of link.operand)) (Ends state link.operand)
        (EndsRow state first.params (Has first) links)
        g h k refusal with_operand
        (λ end ends. row_ends_at state first.params (Has first) links i link end low is before.goes_on (inl ends)) before.paid why

    module _ (k : Gauge) (right : KeptValue) (behind : IsMade state link.operand h k right) where
      later : IsPaid Works g k
      later = paid_after Works Works (work state.assumed (parts_of link.operand)) g h k with_operand before.paid behind.1

      -- the operator ends for two values as it does for what is selected
      abbrev There : List Name
      There = declared_of_row (scope_of state) first.params (take i links)

      joined_alike : EndAlike (JoinEnds left right) (OperatorEnds state There (Behind state (Has first) (take i links)) link)
      joined_alike =
          let Left = Behind state (Has first) (take i links) in
          let Right : Selection = λ v y. Selects state link.operand v y in
          subst (λ (names : List Name). EndAlike (JoinEnds left right) (PairEnds (OperatorForms link.operator) names
          (declared_of (scope_of state) link.operand) (AtAssumed state Left) (AtAssumed state Right))) before.made.params
          (subst (λ (others : List Name). EndAlike (JoinEnds left right) (PairEnds (OperatorForms link.operator) left.params others
          (AtAssumed state Left) (AtAssumed state Right))) behind.0.params
          (pair_alike (OperatorForms link.operator) left.params right.params (AtAssumed state (Has left)) (AtAssumed state Left)
          (AtAssumed state (Has right)) (AtAssumed state Right) (at_assumed state (Has left) Left before.made.elements)
          (at_assumed state (Has right) Right behind.0.elements)))

      -- the operator makes none of the two
      pub join_failed : (m : Gauge) (refusal : Refusal) → GoesOn (Ends state link.operand)
          → IsWhyUnworked (uses_units state.assumed (operator link.operator)) (JoinEnds left right) k m refusal
          → IsWhyUnworked Works (EndsRow state first.params (Has first) links) g m refusal
      join_failed m refusal operand_goes why =
          unworked_after Works Works (uses_units state.assumed (operator link.operator)) (JoinEnds left right)
          (EndsRow state first.params (Has first) links)
          g k m refusal with_operator
          (λ end ends. row_ends_at state first.params (Has first) links i link end low is before.goes_on
          (inr (operand_goes, (joined_alike end).0 ends)))
          later why

      pub row_step : (m : Gauge) (made : KeptValue) → GoesOn (Ends state link.operand) → IsJoined left right k m made
          → GoesOn (JoinEnds left right) → IsRowTo state links first (i + 1) g m made
      row_step m made operand_goes joins pair_goes = record {
        made = value_before g k (IsWorkedRow state first (take (i + 1) links))
            (declared_of_row (scope_of state) first.params (take (i + 1) links))
            (λ v x. RowSelects state v (Has first v) (take (i + 1) links) x) made later.charged
            (record {
              written = row_worked_more state first left right made links i link low is before.made.written behind.0.written
                  joins.0.written;
              kept = joins.0.kept;
              live = joins.0.live;
              params = joins.0.params ∙ ap₂ (λ (a b : List Name). joined_names a b) before.made.params behind.0.params
                  ∙ sym (declared_more (scope_of state) first.params links i link low is);
              elements = λ v here. row_more state v (Has first v) (Has left v) (Has right v) (Has made v) links i link low is
                  (before.made.elements v here) (behind.0.elements v here) (joins.0.elements v here);
              numbers = joins.0.numbers;
              definitions = λ plain. joins.0.definitions (
                before.made.definitions plain,
                behind.0.definitions (with_operand plain.1).1,
                (or_parts (operator_works link.operator) (narrows state.assumed) (with_operator plain.1).1).0,
              );
            });
        paid = paid_after Works Works (uses_units state.assumed (operator link.operator)) g k m with_operator later joins.1;
        goes_on = row_goes_more state first.params (Has first) links i link low is before.goes_on
            (goes_both (Ends state link.operand) (OperatorEnds state There (Behind state (Has first) (take i links)) link) operand_goes
            (goes_alike (JoinEnds left right) (OperatorEnds state There (Behind state (Has first) (take i links)) link) joined_alike
            pair_goes));
      }
