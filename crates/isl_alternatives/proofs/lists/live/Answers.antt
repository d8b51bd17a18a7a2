use Rattle.std.proofs.Common.{◌≡◌, ◌∷◌, ◌++◌, [], arith, sym}
use Rattle.std.proofs.lemmas.Grind.{common_steps}
use Rattle.std.proofs.lemmas.List.{append-nil}
use Rattle.isl_alternatives.proofs.RestrictedLaws.{done_more, done_over, live_formed, live_left_out}
use Rattle.isl_alternatives.proofs.lists.live.Goals as goal

pub live_form-requires : goal.live_form-requires
live_form-requires c =
    let before = c.loop-system.system-iterator.rest.items in
    let rest = c.next.new.self.rest.items in
    let next : before ≡ c.in-Some.system ∷ rest = grind arith in
    (done_over c.args.meter.now c.loop-system.meter c.args.scope.now c.args.systems.items before rest c.in-Some.system (λ point env. Unit {0})
    c.loop-system.live.items next c.loop-system.invariant c.requires.over).within

pub loop-system-preserved-in-Continue-branch-2 : goal.loop-system-preserved-in-Continue-branch-2
loop-system-preserved-in-Continue-branch-2 c =
    let g = c.args.meter.now in
    let h = c.loop-system.meter in
    let k = c.live_form.new.meter in
    let scope = c.args.scope.now in
    let all = c.args.systems.items in
    let before = c.loop-system.system-iterator.rest.items in
    let rest = c.next.new.self.rest.items in
    let s = c.in-Some.system in
    let part = c.in-Some-found.part in
    let next : before ≡ s ∷ rest = grind arith in
    let live = c.loop-system.live.items in
    let over = done_over g h scope all before rest s (λ point env. Unit {0}) live next c.loop-system.invariant c.requires.over in
    let pushed : c.push.new.self.items ≡ live ++ part ∷ [] = grind (arith, common_steps) in
    let form = rw c.in-Some-found.is at c.in_ok-found.ensures.exact.0 in
    done_more g h k scope all before rest s (λ point env. Unit {0}) live (part ∷ []) c.push.new.self.items next pushed c.loop-system.invariant
    (live_formed h k scope s part over c.in_ok-found.ensures.exact.1 form)

pub loop-system-preserved : goal.loop-system-preserved
loop-system-preserved c =
    let g = c.args.meter.now in
    let h = c.loop-system.meter in
    let k = c.live_form.new.meter in
    let scope = c.args.scope.now in
    let all = c.args.systems.items in
    let before = c.loop-system.system-iterator.rest.items in
    let rest = c.next.new.self.rest.items in
    let s = c.in-Some.system in
    let next : before ≡ s ∷ rest = grind arith in
    let live = c.loop-system.live.items in
    let over = done_over g h scope all before rest s (λ point env. Unit {0}) live next c.loop-system.invariant c.requires.over in
    let nowhere = rw c.in_default.is at c.in_ok-found.ensures.exact.0 in
    done_more g h k scope all before rest s (λ point env. Unit {0}) live [] live next (sym (append-nil live))
    c.loop-system.invariant (live_left_out h k scope s over c.in_ok-found.ensures.exact.1 nowhere)
