use Rattle.std.proofs.Common.{false, sym, subst}
use Rattle.std.specs.Prelude.{IfOk}
use Rattle.std.proofs.lemmas.Bool.{not-false}
use Rattle.isl_space.specs.Names.{IsParameterList}
use Rattle.isl_operators.specs.Operations.{is_operation}
use Rattle.isl_space.specs.Names.{joined as both}
use Rattle.isl_union.specs.KeptValue.{KeptValue, Has}
use Rattle.isl_union.specs.Numbers.{IsWithinLimit}
use Rattle.isl_tree.specs.declared.statement.Binary.TheVariants as b
use Rattle.isl_operators.specs.Formed.{OperatorForms, PairsWide}
use Rattle.isl_operators.proofs.FaultLaws.{plain_units}
use Rattle.isl_operators.proofs.MadeLaws.{always, operator_says}
use Rattle.isl_kinds.specs.Typed.{joined_names}
use Rattle.isl_values.specs.Ends.{GoesOn, PairEnds}
use Rattle.isl_values.specs.Made.{refusal_of_fault}
use Rattle.isl_values.proofs.OutcomeLaws.{answered_made, answered_ok, both_names, fault_ends, outcome_goes, outcome_value}
use Rattle.isl_values.proofs.operators.operated.Goals as goal

pub returns-in-Union : goal.returns-in-Union
returns-in-Union c =
    let left = c.args.left.value in
    let right = c.args.right.now in
    let names = subst IsParameterList c.params-names.ensures.content c.params-names.ensures.well_formed in
    let same = both_names left right names.distinct in
    let Wide = PairsWide (OperatorForms b.Union) (Has left) (Has right) in
    let e = c.extended.ensures in
    let r = c.extended.result in
    let says = operator_says left right c.args.meter.now c.extended.new.meter r c.args.operator b.Union c.in-Union.is (
      e.written,
      e.elements,
      always r (¬ Wide) (λ wide. wide.5),
      plain_units (both left.params right.params) Wide c.args.meter.now c.extended.new.meter false _ r e.meter e.faults,
    ) in
    record {
      made = answered_made refusal_of_fault _ _ (PairEnds (OperatorForms c.args.operator) left.params right.params (Has left) (Has right))
          _ _ (fault_ends _ (PairsWide (OperatorForms c.args.operator) (Has left) (Has right)) _ _ (both left.params right.params)
          (joined_names left.params right.params) same) _ r c.answered.result _ c.answered.ensures
          (outcome_value r _ _ _ _ _ _ same says.0 e.kept e.params says.1 (λ plain. e.definitions plain.0 plain.1)
          (e.numbers _ c.requires.left c.requires.right)) says.3;
      goes_on = answered_ok refusal_of_fault _ r c.answered.result _ c.answered.ensures
          (outcome_goes r (both left.params right.params) (joined_names left.params right.params)
          (PairsWide (OperatorForms c.args.operator) (Has left) (Has right)) same e.kept e.params says.2);
    }

pub combined-requires-clause-operation : goal.combined-requires-clause-operation
combined-requires-clause-operation c = not-false (is_operation c.args.operator) c.requires.supported

pub combined-requires-clause-left : goal.combined-requires-clause-left
combined-requires-clause-left c = subst (IsWithinLimit c.args.meter.now) (sym c.deref.ensures) c.requires.left

pub returns-in_default : goal.returns-in_default
returns-in_default c =
    let left = c.deref.result.now in
    let right = c.args.right.now in
    let names = subst IsParameterList c.params-names.ensures.content c.params-names.ensures.well_formed in
    let same = both_names left right names.distinct in
    let Wide = PairsWide (OperatorForms c.args.operator) (Has left) (Has right) in
    let e = c.combined.ensures in
    let r = c.combined.result in
    record {
      made = rw (sym c.deref.ensures) (answered_made refusal_of_fault _ _
          (PairEnds (OperatorForms c.args.operator) left.params right.params (Has left) (Has right)) _ _
          (fault_ends _ Wide _ _ (both left.params right.params) (joined_names left.params right.params) same) _ r
          c.answered-in_default.result _ c.answered-in_default.ensures
          (outcome_value r _ _ _ _ _ _ same e.written e.kept e.params e.elements (λ plain. e.definitions plain.2 plain.0 plain.1) e.numbers)
          e.units);
      goes_on = subst (λ (v : KeptValue). IfOk c.answered-in_default.result
          (λ _. GoesOn (PairEnds (OperatorForms c.args.operator) v.params right.params (Has v) (Has right)))) c.deref.ensures
          (answered_ok refusal_of_fault _ r c.answered-in_default.result _ c.answered-in_default.ensures
          (outcome_goes r (both left.params right.params) (joined_names left.params right.params) Wide same e.kept e.params e.narrow));
    }
