use Rattle.std.proofs.Common.{refl, Any, unsigned_abs}
use Rattle.std.proofs.lemmas.Result.{IfOk-weaker, MatchResult-weaker}
use Rattle.isl_meter.specs.Gauge.{limit_of}
use Rattle.isl_relation.specs.Formed.{FormsRangeMap}
use Rattle.isl_relation.specs.Wide.{FormsTooWide}
use Rattle.isl_maps.specs.Change.{FormsWide}
use Rattle.isl_maps.specs.declared.change.Change.TheVariants.{RangeMap}
use Rattle.isl_maps.proofs.ChangeLaws.{added_room}
use Rattle.isl_maps.proofs.WideLaws.{formed_fault, range_map_narrow, range_map_wide}
use Rattle.isl_maps.proofs.copied.range_map.Goals as goal

pub returns-clause-numbers : goal.returns-clause-numbers
returns-clause-numbers c =
    let g = c.args.meter.now in
    c.apply.ensures.numbers (unsigned_abs (limit_of g)) (added_room RangeMap g c.apply.ensures.bits) c.requires

pub returns-clause-ok : goal.returns-clause-ok
returns-clause-ok c =
    let a = c.args.a.now in
    IfOk-weaker c.apply.result _ (λ _. ¬ FormsTooWide FormsRangeMap a) (λ _ all. range_map_narrow a all) c.apply.ensures.ok

pub returns-clause-faults : goal.returns-clause-faults
returns-clause-faults c =
    let g = c.args.meter.now in
    let a = c.args.a.now in
    let Wide = Any (λ piece. FormsWide RangeMap piece.space) a.pieces in
    MatchResult-weaker c.apply.result c.apply.ensures.faults (λ _ h. h)
    (λ fault h. formed_fault Wide (FormsTooWide FormsRangeMap a) (range_map_wide a) g g fault refl h)
