use Rattle.std.proofs.Common.{◌<◌, length, arith, rules}
use Rattle.std.proofs.lemmas.Grind.{common_steps}
use Rattle.std.proofs.lemmas.List.Elements.{All-push}
use Rattle.isl_piece.proofs.CombineLaws.{weighted_steps}
use Rattle.isl_refute.proofs.WithinLaws.{sums_cut}
use Rattle.isl_refute.proofs.steps.sums.Goals as goal

pub loop-i-preserved : goal.loop-i-preserved
loop-i-preserved c = (grind (arith, common_steps, weighted_steps), grind (arith, common_steps, All-push), grind (arith, common_steps))

pub returns-in_err-next : goal.returns-in_err-next
returns-in_err-next c =
    let low : c.loop-i.i < length c.args.left.now = omega arith in
    let found = sums_cut c.args.meter.now c.loop-i.meter c.sum.new.meter c.args.a c.args.b c.args.left.now c.args.right.now c.loop-i.i
    c.index-left-i.result c.index-right-i.result low c.requires c.index-left-i.is c.index-right-i.is c.loop-i.invariant.2
    c.in_err-next.ensures.0
    c.in_err-next.ensures.1 in
    search (rules, found)
