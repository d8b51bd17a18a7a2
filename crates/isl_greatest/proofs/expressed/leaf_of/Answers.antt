use Rattle.std.proofs.Common.{◌≡◌, ◌∙◌, ◌+◌, ◌-◌, ◌<◌, ◌≤◌, ◌<ℤ◌, ◌+ℤ◌, ◌*ℤ◌, ◌-ℤ◌, refl, sym, ap, subst, arith, ℕ, ℤ, pos, negsuc, neg_ℤ}
use Rattle.std.proofs.Common.{List, length, get_or, take, map, to_z, of_z, to_z-of_z}
use Rattle.std.specs.Int.{w128}
use Rattle.std.specs.List.{All}
use Rattle.std.proofs.lemmas.Grind.{common_steps}
use Rattle.isl_meter.specs.Gauge.{Gauge, IsWithin}
use Rattle.isl_greatest.proofs.ExpressedLaws.{first_all, first_more, first_none}
use Rattle.isl_greatest.specs.Expressed.{IsNegatedColumn}
use Rattle.isl_greatest.specs.State.{IsFrame}
use Rattle.isl_greatest.proofs.expressed.leaf_of.Goals as goal

pub loop-column-init : goal.loop-column-init
loop-column-init c = (first_none c.args.meter.now c.args.front c.args.numbers.now c.new-leaf.result c.new-leaf.ensures, refl)

pub loop-column-preserved : goal.loop-column-preserved
loop-column-preserved c =
    let g = c.args.meter.now in
    let low : c.loop-column.column < c.args.numbers.now.columns = omega arith in
    let own = subst (λ (m : Gauge). IsNegatedColumn m c.args.front c.args.numbers.now c.loop-column.column c.in_ok-number.number) c.loop-column.invariant.1
    c.in_ok-number.ensures.0 in (
      first_more g c.args.front c.args.numbers.now c.loop-column.column c.loop-column.leaf c.push.new.self c.in_ok-number.number c.requires low
          c.loop-column.invariant.0 own c.in_ok-push.ensures.ok,
      c.in_ok-number.ensures.1 ∙ c.loop-column.invariant.1,
    )

pub returns : goal.returns
returns c =
    let end : c.args.numbers.now.columns ≡ c.loop-column.column = omega arith in (
      first_all c.args.meter.now c.args.front c.args.numbers.now c.loop-column.column c.loop-column.leaf c.requires end c.loop-column.invariant.0,
      c.loop-column.invariant.1,
    )
