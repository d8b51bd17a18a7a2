use Rattle.isl_union.specs.KeptValue.{Has}
use Rattle.isl_relation.specs.Flow.{AnyHas}
use Rattle.isl_relation.specs.Formed.{FormsAccess}
use Rattle.isl_relation.specs.Wide.{PairsTooWide}
use Rattle.isl_operators.specs.Formed.{PairsWide}
use Rattle.isl_operators.specs.Made.{names_of_three}
use Rattle.isl_operators.proofs.FaultLaws.{formed_units}
use Rattle.isl_operators.proofs.MadeLaws.{formed_narrow, over}
use Rattle.isl_operators.proofs.WideLaws.{pairs_narrow, pairs_wide}
use Rattle.isl_operators.proofs.dependence.depended.Goals as goal

pub returns-clause-written : goal.returns-clause-written
returns-clause-written c =
    let source = c.args.source.now in
    let sink = c.args.sink.now in
    let schedule = c.args.schedule.now in
    over (names_of_three source sink schedule) (λ v e. AnyHas (Has source v) (Has sink v) (Has schedule v) e) c.any.result
    c.any.ensures.params c.any.ensures.elements

pub returns-clause-narrow : goal.returns-clause-narrow
returns-clause-narrow c =
    let source = c.args.source.now in
    let sink = c.args.sink.now in
    formed_narrow c.any.result _ (PairsTooWide FormsAccess source sink) _ (PairsWide FormsAccess (Has source) (Has sink)) _
    (pairs_narrow FormsAccess source sink) c.any.ensures.units

pub returns-clause-units : goal.returns-clause-units
returns-clause-units c =
    let source = c.args.source.now in
    let sink = c.args.sink.now in
    formed_units (names_of_three source sink c.args.schedule.now) (PairsWide FormsAccess (Has source) (Has sink)) c.args.meter.now
    c.any.new.meter (PairsTooWide FormsAccess source sink) _ _ (λ charged. charged)
    (pairs_wide FormsAccess source sink c.pieces-source.ensures.kept c.pieces-sink.ensures.kept) (pairs_narrow FormsAccess source sink)
    c.any.result c.any.ensures.units
