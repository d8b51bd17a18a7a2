use Rattle.std.proofs.Common.{◌≡◌, ◌<◌, ◌≤◌, ◌∷◌, arith, length}
use Rattle.std.proofs.lemmas.Grind.{common_steps}
use Rattle.isl_alternatives.proofs.RestrictedLaws.{WhereOne, beside_more, met_one, over_at, whole_taken}
use Rattle.isl_alternatives.proofs.lists.met_with.Goals as goal

pub loop-system-preserved : goal.loop-system-preserved
loop-system-preserved c g scope over other_over =
    let systems = c.args.systems.now in
    let other = c.args.other.now in
    let i = c.loop-system.system-index in
    let s = c.system-item.result in
    let both = c.in_ok-both.both in
    let inside : i < length systems = grind (arith, common_steps) in
    let here = over_at g scope systems i s over inside c.system-item.is in
    beside_more g g g scope systems i s (WhereOne other) c.loop-system.met.items (both ∷ _) c.push.new.self.items inside c.system-item.is
    c.in_ok-push.ensures.items (c.loop-system.invariant g scope over other_over)
    (met_one g scope s other both here other_over (λ point l. c.in_ok-both.ensures.points g point here.within other_over.within l)
    (c.in_ok-both.ensures.within g here.within other_over.within) (c.in_ok-both.ensures.free g here.within other_over.within))

pub returns : goal.returns
returns c g scope over other_over =
    let l = c.loop-system in
    let long : length c.args.systems.now ≤ l.system-index = grind (arith, common_steps) in
    whole_taken g g scope c.args.systems.now (WhereOne c.args.other.now) l.met.items l.system-index long (l.invariant g scope over other_over)
