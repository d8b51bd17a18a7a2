use Rattle.std.proofs.Common.{◌≡◌, ◌∙◌, ◌<◌, ◌<ℤ◌, pos, length, arith, rules, ap, sym, subst}
use Rattle.std.proofs.lemmas.Grind.{common_steps}
use Rattle.isl_quast.specs.Size.{quast_size}
use Rattle.isl_quast.proofs.TreeLaws.{same_down, same_up, past_down, past_up, up_smaller, down_smaller, over_up, over_down}
use Rattle.isl_quast.proofs.value.+value_at.Goals as goal

pub value_at-requires : goal.value_at-requires
value_at-requires t c =
    let small = down_smaller c.args.tree.now c.in-If.test c.in-If.yes c.in-If.no c.in-If.is in
    let over = over_down c.args.meter.now (length c.args.at.now) c.args.tree.now c.in-If.test c.in-If.yes c.in-If.no c.get.result.now c.in-If.is c.get.ensures
    c.requires in
    grind (arith, common_steps, small, over)

pub value_at-requires-else-is_negative : goal.value_at-requires-else-is_negative
value_at-requires-else-is_negative t c =
    let small = up_smaller c.args.tree.now c.in-If.test c.in-If.yes c.in-If.no c.in-If.is in
    let over = over_up c.args.meter.now (length c.args.at.now) c.args.tree.now c.in-If.test c.in-If.yes c.in-If.no c.get-else-is_negative.result.now c.in-If.is
    c.get-else-is_negative.ensures c.requires in
    grind (arith, common_steps, small, over)

pub returns-then-is_negative : goal.returns-then-is_negative
returns-then-is_negative t c =
    let less = c.is_negative.ensures.0 (search (rules, c.if-is_negative.true)) in
    let value = c.in_ok-number-in-If.ensures.value.0 in
    let same = same_down c.args.at.now c.args.tree.now c.in-If.test c.as_expr.result.now c.in-If.yes c.in-If.no c.get.result.now c.in_ok-number-in-If.number
    c.in-If.is value c.as_expr.ensures c.get.ensures less in
    let past = past_down c.args.at.now c.args.tree.now c.in-If.test c.as_expr.result.now c.in-If.yes c.in-If.no c.get.result.now c.in_ok-number-in-If.number
    c.in-If.is value c.as_expr.ensures c.args.meter.now c.get.ensures less in
    grind (arith, common_steps, same, past)

pub returns-else-is_negative : goal.returns-else-is_negative
returns-else-is_negative t c =
    let less : ¬ (c.in_ok-number-in-If.number <ℤ pos 0) = grind (arith, common_steps) in
    let value = c.in_ok-number-in-If.ensures.value.0 in
    let same = same_up c.args.at.now c.args.tree.now c.in-If.test c.as_expr.result.now c.in-If.yes c.in-If.no c.get-else-is_negative.result.now
    c.in_ok-number-in-If.number c.in-If.is value c.as_expr.ensures c.get-else-is_negative.ensures less in
    let past = past_up c.args.at.now c.args.tree.now c.in-If.test c.as_expr.result.now c.in-If.yes c.in-If.no c.get-else-is_negative.result.now
    c.in_ok-number-in-If.number c.in-If.is value c.as_expr.ensures c.args.meter.now c.get-else-is_negative.ensures less in
    grind (arith, common_steps, same, past)
