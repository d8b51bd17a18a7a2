use Rattle.std.proofs.Common.{◌≤◌, ◌*◌, arith}
use Rattle.std.proofs.lemmas.Grind.{common_steps}
use Rattle.isl_difference.specs.Tame.{part_limit}
use Rattle.isl_ledger.specs.Work.{row_limit}
use Rattle.isl_cert.proofs.BoundLaws.{each_up_to, nodes_up_to, outs_counted, parts_next, rows_up_to}
use Rattle.isl_cert.proofs.comparing.most_nodes.Goals as goal

pub loop-out-init : goal.loop-out-init
loop-out-init c = record { some = omega arith; few = let one = outs_counted c.args.columns 0 in omega (arith, one) }

pub loop-out-preserved : goal.loop-out-preserved
loop-out-preserved c =
    let n = c.args.columns in
    let more = c.next-more.ensures.sum in
    let forms = c.times-forms.ensures.product in
    let both = c.times-both.ensures.product in
    let rows = rows_up_to n c.next-more.result c.times-forms.result c.times-both.result c.next-rows.result more forms both
    c.next-rows.ensures.sum in
    let step = c.times-step.ensures.product in
    let wide : c.times-step.result ≤ 2 * row_limit n = omega (arith, rows, step) in
    record {
      some = c.times-parts.ensures.some c.loop-out.invariant.some (c.times-step.ensures.some (omega arith) c.next-rows.ensures.some);
      few = parts_next n c.loop-out._out c.loop-out.parts c.times-step.result c.times-parts.result c.loop-out.invariant.few wide
          c.times-parts.ensures.product;
    }

pub returns-clause-some : goal.returns-clause-some
returns-clause-some c = c.times.ensures.some c.loop-out.invariant.some c.next-each.ensures.some

pub returns-clause-limit : goal.returns-clause-limit
returns-clause-limit c =
    let n = c.args.columns in
    let q = c.args.outs in
    let rows = rows_up_to n c.next-more.result c.times-forms.result c.times-both.result c.next-rows.result c.next-more.ensures.sum
    c.times-forms.ensures.product c.times-both.ensures.product c.next-rows.ensures.sum in
    let each = each_up_to n c.next-rows.result c.times-pairs.result c.times-all.result c.next-each.result rows c.times-pairs.ensures.product
    c.times-all.ensures.product c.next-each.ensures.sum in
    let all : c.loop-out.parts ≤ part_limit n q = grind (arith, common_steps) in
    nodes_up_to n q c.loop-out.parts c.next-each.result c.times.result all each c.times.ensures.product
