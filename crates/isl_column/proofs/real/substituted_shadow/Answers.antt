use Rattle.std.proofs.Common.{◌≡◌, arith}
use Rattle.isl_omega.specs.Step.{IsStepOf}
use Rattle.isl_shadows.specs.RealShadow.{bounds_and_free}
use Rattle.isl_shadows.proofs.RealShadowLemmas.{substituted_from, substituted_ready}
use Rattle.isl_column.proofs.real.substituted_shadow.Goals as goal

pub real_left-requires : goal.real_left-requires
real_left-requires c =
    let g = c.args.meter.now in
    let columns = c.args.column.columns in
    let col = c.args.column.at in
    let new = c.in_ok-new.new in
    let step : IsStepOf g columns col c.args.sides.now new = grind arith in
    let same : c.congruence_step.new.meter ≡ g = grind arith in
    let rows : c.as_slice.result.now ≡ bounds_and_free new = grind arith in
    let ready = substituted_ready g columns col c.args.sides.now new step in
    rw (same, rows) (record { rows = ready.0; none = ready.1 })

pub returns : goal.returns
returns c =
    let g = c.args.meter.now in
    let columns = c.args.column.columns in
    let col = c.args.column.at in
    let new = c.in_ok-new.new in
    let step : IsStepOf g columns col c.args.sides.now new = grind arith in
    let same : c.congruence_step.new.meter ≡ g = grind arith in
    let rows : c.as_slice.result.now ≡ bounds_and_free new = grind arith in
    substituted_from g c.congruence_step.new.meter c.real_left.new.meter columns col c.args.sides.now new c.as_slice.result.now c.real_left.result step c.args.column.in_range same rows c.real_left.ensures.exact
