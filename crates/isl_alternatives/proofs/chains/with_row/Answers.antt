use Rattle.std.proofs.Common.{◌≡◌, ◌∷◌, refl, arith}
use Rattle.isl_alternatives.specs.Chain.{HoldsCompared}
use Rattle.isl_alternatives.proofs.ChainLaws.{Where}
use Rattle.isl_alternatives.proofs.RestrictedLaws.{done_more, done_over, row_one}
use Rattle.isl_alternatives.proofs.chains.with_row.Goals as goal

pub with_comparison-requires-clause-within : goal.with_comparison-requires-clause-within
with_comparison-requires-clause-within c =
    let before = c.loop-system.system-iterator.rest.items in
    let rest = c.next.new.self.rest.items in
    let next : before ≡ c.in-Some.system ∷ rest = grind arith in
    let k = c.args.comparison.now in
    (done_over c.args.meter.now c.loop-system.meter c.args.scope.now c.args.systems.items before rest c.in-Some.system
    (Where (k.left.now, k.compare, k.right.now)) c.loop-system.new.items next c.loop-system.invariant c.requires.over).within

pub loop-system-preserved : goal.loop-system-preserved
loop-system-preserved c =
    let g = c.args.meter.now in
    let h = c.loop-system.meter in
    let scope = c.args.scope.now in
    let all = c.args.systems.items in
    let before = c.loop-system.system-iterator.rest.items in
    let rest = c.next.new.self.rest.items in
    let s = c.in-Some.system in
    let next : before ≡ s ∷ rest = grind arith in
    let k = c.args.comparison.now in
    let new = c.loop-system.new.items in
    let over = done_over g h scope all before rest s (Where (k.left.now, k.compare, k.right.now)) new next c.loop-system.invariant c.requires.over in
    done_more g h c.with_comparison.new.meter scope all before rest s (Where (k.left.now, k.compare, k.right.now)) new
    (c.in_ok-with.with ∷ _) c.push.new.self.items next c.in_ok-push.ensures.items c.loop-system.invariant
    (row_one h c.with_comparison.new.meter scope (HoldsCompared (k.left.now, k.compare, k.right.now)) s c.in_ok-with.with over c.in_ok-with.ensures.meter
    c.in_ok-with.ensures.within c.in_ok-with.ensures.points)
