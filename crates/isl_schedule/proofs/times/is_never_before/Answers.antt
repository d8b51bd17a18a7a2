use Rattle.std.proofs.Common.{◌≡◌, ◌<◌, ◌≤◌, true, false, arith}
use Rattle.std.proofs.lemmas.Grind.{common_steps}
use Rattle.isl_meter.specs.Gauge.{IsCharged}
use Rattle.isl_meter.proofs.CutLemmas.{charges}
use Rattle.isl_space.specs.Form.{width_of}
use Rattle.isl_space.specs.Shape.{form_of}
use Rattle.isl_difference.proofs.SplitLaws.{charged_within}
use Rattle.isl_schedule.proofs.TimeLaws.{empty_not, more_places, none_before, over_pair, some_before, IsNotAt}
use Rattle.isl_schedule.proofs.times.is_never_before.Goals as goal

pub is_empty-requires : goal.is_empty-requires
is_empty-requires c =
    let g = c.args.meter.now in
    let over = c.in_ok-system.ensures g c.limit-limit.ensures.bits_low c.requires.one.within c.requires.other.within in
    let charged : IsCharged g c.unit.new.self = grind (arith, common_steps, charges) in
    record { well_formed = charged_within g c.unit.new.self c.in_ok-system.system charged over.within }

pub returns-then-not-branch-clause-exact : goal.returns-then-not-branch-clause-exact
returns-then-not-branch-clause-exact c =
    let g = c.args.meter.now in
    let params = c.args.params.now in
    let one = c.args.one.now in
    let over = c.in_ok-system.ensures g c.limit-limit.ensures.bits_low c.requires.one.within c.requires.other.within in
    let is = over_pair g params one _ _ _ _ c.in_ok-system.system over c.len.ensures.len (grind (arith, common_steps))
    (grind (arith, common_steps)) in
    let low : c.loop-at.at < width_of (form_of one.time.value) = grind (arith, common_steps) in
    let some : c.in_ok-is_empty.field-0 ≡ false = grind (arith, common_steps) in
    some_before params one c.args.other.now g c.requires.names.distinct c.requires.domain c.requires.time c.loop-at.at
    c.in_ok-system.system is low c.in_ok-is_empty.field-0 some c.in_ok-is_empty.ensures.exact

pub loop-at-preserved : goal.loop-at-preserved
loop-at-preserved c =
    let g = c.args.meter.now in
    let params = c.args.params.now in
    let one = c.args.one.now in
    let over = c.in_ok-system.ensures g c.limit-limit.ensures.bits_low c.requires.one.within c.requires.other.within in
    let is = over_pair g params one _ _ _ _ c.in_ok-system.system over c.len.ensures.len (grind (arith, common_steps))
    (grind (arith, common_steps)) in
    let none : c.in_ok-is_empty.field-0 ≡ true = grind (arith, common_steps) in
    let here = empty_not params one c.args.other.now g c.requires.names.distinct c.requires.domain c.requires.time c.loop-at.at
    c.in_ok-system.system is c.in_ok-is_empty.field-0 none c.in_ok-is_empty.ensures.exact in
    let charged : IsCharged g c.is_empty.new.meter = grind (arith, common_steps, charges) in
    (more_places (IsNotAt params one c.args.other.now) c.loop-at.at c.loop-at.invariant.0 here, charged)

pub returns-clause-exact : goal.returns-clause-exact
returns-clause-exact c =
    let one = c.args.one.now in
    let end : width_of (form_of one.time.value) ≤ c.loop-at.at = grind (arith, common_steps) in
    none_before c.args.params.now one c.args.other.now c.args.meter.now c.requires.names.distinct c.requires.domain c.requires.time
    (λ i low. c.loop-at.invariant.0 i (omega (arith, low, end)))
