use Rattle.std.proofs.Common.{◌≡◌, refl, arith, of_z, to_z, to_z-of_z}
use Rattle.std.specs.Int.{w128}
use Rattle.std.proofs.lemmas.Grind.{common_steps}
use Rattle.isl_bounds.proofs.HeadLaws.{step_above, stepping_head}
use Rattle.isl_bounds.proofs.head.Head.stepping.Goals as goal

pub returns : goal.returns
returns c =
    let g = c.args.meter.now in
    let step = c.args.step.now in
    let k = to_z w128 (of_z w128 step.k) in
    let same : k ≡ step.k = grind (arith, common_steps, to_z-of_z) in (
      stepping_head g c.args.variables c.args.lows.now c.args.highs.now step c.in_ok-low.low c.in_ok-high.high c.requires.step
          (step_above g c.args.variables step c.requires.step) c.in_ok-low.ensures.0 c.in_ok-high.ensures k same _ refl,
      c.in_ok-low.ensures.1,
    )
