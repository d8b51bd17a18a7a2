use Rattle.std.proofs.Common.{◌≡◌, ◌+◌, ◌<◌, ◌≤◌, ◌++◌, ◌∷◌, ◌∙◌, [], sym, subst, arith, length}
use Rattle.std.proofs.lemmas.Grind.{common_steps}
use Rattle.isl_meter.specs.Gauge.{Gauge}
use Rattle.isl_frame.specs.Needed.{AreRowsOver}
use Rattle.isl_bounds.specs.Ends.{AreEnded}
use Rattle.isl_nest.specs.Places.{AreEndsThrough}
use Rattle.isl_nest.proofs.SidesLaws.{sides_all, sides_step}
use Rattle.isl_nest.proofs.sides.Sides.of.Goals as goal

pub ends_through-requires-clause-rows : goal.ends_through-requires-clause-rows
ends_through-requires-clause-rows c =
    let place = c.args.place.now in
    let i = c.loop-system.system-index in
    let system = c.system-item.result in
    let low : i < length c.args.systems.now = omega arith in
    subst (λ (g : Gauge). AreRowsOver g (length place.frame + 1) system) (sym c.loop-system.invariant.1)
    (subst (AreRowsOver c.args.meter.now (length place.frame + 1)) (sym c.system-item.is) (c.requires.systems i system low))

pub loop-system-preserved : goal.loop-system-preserved
loop-system-preserved c =
    let place = c.args.place.now in
    let systems = c.args.systems.now in
    let i = c.loop-system.system-index in
    let system = c.system-item.result in
    let so_far = c.loop-system.invariant in
    let low : i < length systems = omega arith in
    let told = subst (λ (g : Gauge). AreEndsThrough g place system c.in_ok-ends.ends) so_far.1 c.in_ok-ends.ensures.0 in
    let ended : AreEnded (length place.frame) system =
    subst (AreEnded (length place.frame)) (sym c.system-item.is) (c.requires.ended i system low) in
    let lows : c.push.new.self.items ≡ c.loop-system.lows.items ++ c.in_ok-joined.field-0 ∷ [] = grind (arith, common_steps) in
    let highs : c.push-in-loop-system.new.self.items ≡ c.loop-system.highs.items ++ c.in_ok-joined-2.field-0 ∷ [] = grind (arith, common_steps) in (
      sides_step c.args.meter.now place c.args.own.now c.requires.low c.requires.high systems i system c.loop-system.lows.items
          c.loop-system.highs.items c.in_ok-ends.ends c.in_ok-joined.field-0 c.in_ok-joined-2.field-0 c.push.new.self.items
          c.push-in-loop-system.new.self.items low c.system-item.is so_far.0 told ended c.in_ok-joined.ensures c.in_ok-joined-2.ensures lows highs,
      c.in_ok-ends.ensures.1 ∙ so_far.1,
    )

pub returns : goal.returns
returns c =
    let systems = c.args.systems.now in
    let so_far = c.loop-system.invariant in
    let end : length systems ≤ c.loop-system.system-index = omega arith in
    (sides_all c.args.meter.now c.args.place.now c.args.own.now systems c.loop-system.system-index _ end so_far.0, so_far.1)
