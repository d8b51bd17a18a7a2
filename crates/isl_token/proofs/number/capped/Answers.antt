use Rattle.std.proofs.Common.{◌∙◌}
use Rattle.isl_token.proofs.Numbers.{capped_none, capped_more}
use Rattle.isl_token.proofs.number.capped.Goals as goal

pub loop-digit-init : goal.loop-digit-init
loop-digit-init c = capped_none

pub loop-digit-preserved : goal.loop-digit-preserved
loop-digit-preserved c =
    capped_more c.args.digits.now c.loop-digit.digit-index c.loop-digit.value c.from-unit.result c.saturating_mul.result
    c.saturating_add.result c.min-value.result
    c.loop-digit-test.true c.loop-digit.invariant
    (c.from-unit.ensures ∙ c.saturating_sub.ensures) c.saturating_mul.ensures c.saturating_add.ensures c.min-value.ensures
