use Rattle.std.proofs.Common.{◌+◌, arith}
use Rattle.isl_blocks.proofs.WidthLaws.{total_more, total_take}
use Rattle.isl_blocks.proofs.picks.total_of.Goals as goal

pub overflow_add-sum : goal.overflow_add-sum
overflow_add-sum c =
    let widths = c.args.widths.now in
    let i = c.loop-width.width-index in
    let is = c.loop-width.invariant in
    let more = total_more widths i 0 c.loop-width-test.true in
    let less = total_take (i + 1) widths in
    let fits = c.requires in
    omega (arith, is, more, less, fits)

pub loop-width-preserved : goal.loop-width-preserved
loop-width-preserved c =
    let widths = c.args.widths.now in
    let i = c.loop-width.width-index in
    let is = c.loop-width.invariant in
    let more = total_more widths i 0 c.loop-width-test.true in
    omega (arith, is, more)
