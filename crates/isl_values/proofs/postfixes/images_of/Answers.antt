use Rattle.std.proofs.Common.{subst}
use Rattle.isl_space.specs.Names.{IsParameterList, joined}
use Rattle.isl_union.specs.KeptValue.{Has}
use Rattle.isl_operators.specs.Formed.{ApplicationForms, PairsWide}
use Rattle.isl_kinds.specs.Typed.{joined_names}
use Rattle.isl_values.specs.Ends.{PairEnds}
use Rattle.isl_values.specs.Made.{refusal_of_fault}
use Rattle.isl_values.proofs.OutcomeLaws.{answered_made, answered_ok, both_names, fault_ends, outcome_goes, outcome_value}
use Rattle.isl_values.proofs.postfixes.images_of.Goals as goal

pub returns-clause-made : goal.returns-clause-made
returns-clause-made c =
    let map = c.args.map.now in
    let argument = c.args.argument.now in
    let names = subst IsParameterList c.params-names.ensures.content c.params-names.ensures.well_formed in
    let e = c.applied.ensures in
    let same = both_names map argument names.distinct in
    let Wide = PairsWide ApplicationForms (Has map) (Has argument) in
    answered_made refusal_of_fault _ _ (PairEnds ApplicationForms map.params argument.params (Has map) (Has argument)) _ _
    (fault_ends _ Wide _ _ (joined map.params argument.params) (joined_names map.params argument.params) same) _ c.applied.result
    c.answered.result _ c.answered.ensures
    (outcome_value c.applied.result _ _ _ _ _ _ same e.written e.kept e.params e.elements
    (λ never. absurd never) e.numbers)
    e.units

pub returns-clause-goes_on : goal.returns-clause-goes_on
returns-clause-goes_on c =
    let map = c.args.map.now in
    let argument = c.args.argument.now in
    let names = subst IsParameterList c.params-names.ensures.content c.params-names.ensures.well_formed in
    let e = c.applied.ensures in
    answered_ok refusal_of_fault _ c.applied.result c.answered.result _ c.answered.ensures
    (outcome_goes c.applied.result (joined map.params argument.params) (joined_names map.params argument.params)
    (PairsWide ApplicationForms (Has map) (Has argument)) (both_names map argument names.distinct) e.kept e.params e.narrow)
