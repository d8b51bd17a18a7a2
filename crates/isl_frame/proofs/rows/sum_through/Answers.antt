use Rattle.std.proofs.Common.{◌≡◌, ◌<◌, ◌≤◌, ◌∙◌, refl, sym, subst, arith, length}
use Rattle.isl_meter.specs.Gauge.{Gauge}
use Rattle.isl_frame.specs.Sum.{IsSum, IsSumOf}
use Rattle.isl_frame.proofs.SumLaws.{sum_step}
use Rattle.isl_frame.proofs.rows.sum_through.Goals as goal

pub loop-i-init : goal.loop-i-init
loop-i-init c = (c.in_ok-sum.ensures.sum, c.in_ok-sum.ensures.exact c.args.frame.now, refl)

pub loop-i-preserved : goal.loop-i-preserved
loop-i-preserved c =
    let so_far = c.loop-i.invariant in
    let more = c.in_ok-sum-2.ensures in
    let low : c.loop-i.i < length c.args.frame.now = omega arith in (
      subst (λ (g : Gauge). IsSum g c.in_ok-sum-2.sum) (sym more.1) more.0.0,
      sum_step c.args.variables c.args.row.now c.args.frame.now c.loop-i.i c.loop-i.sum c.in_ok-sum-2.sum c.get.result
          c.index-frame-i.result so_far.1 more.0.1 c.requires.row.width low c.get.ensures c.index-frame-i.is,
      more.1 ∙ so_far.2,
    )

pub returns : goal.returns
returns c =
    let so_far = c.loop-i.invariant in
    let frame = c.args.frame.now in
    let low : c.loop-i.i ≤ length frame = omega arith in
    let end : length frame ≤ c.loop-i.i = omega arith in
    let all : c.loop-i.i ≡ length frame = omega (arith, low, end) in (
      (
        subst (λ (g : Gauge). IsSum g c.loop-i.sum) so_far.2 so_far.0,
        subst (λ n. IsSumOf c.args.variables c.args.row.now frame n c.loop-i.sum) all so_far.1,
      ),
      so_far.2,
    )
