use Rattle.std.proofs.Common.{◌≡◌, ◌+◌, ◌-◌, List, ℤ, subst, arith, get_or}
use Rattle.std.specs.List.{All, Any}
use Rattle.isl_remainder.specs.Over.{HoldsGiven, HoldsLong, IsAcross}
use Rattle.isl_remainder.specs.declared.over.Remainder.{Remainder}
use Rattle.isl_remainder.proofs.MadeLaws.{made_same}
use Rattle.isl_remainder.proofs.OverLaws.{across_before, across_later, one_less, IsPlainSystem}
use Rattle.isl_remainder.proofs.over.reduced.Goals as goal

pub all_given-requires-clause-others : goal.all_given-requires-clause-others
all_given-requires-clause-others c =
    let g = c.args.meter.now in
    let h = c.shortened.new.meter in
    let asked = c.args.asked.now in
    let few = c.if-asked-eq0.false in
    let free = c.requires.system.free in
    let at = c.free-columns.ensures in
    let wide : c.args.kept + asked.count ≡ c.free-columns.result - 1 + 1 = omega (arith, few, free, at) in
    rw c.as_slice.ensures.value (λ k d l. subst (λ m. IsAcross h m (get_or asked.others.items k d)) wide
    (across_later g h (c.args.kept + asked.count) (get_or asked.others.items k d) c.in_ok-system.ensures.meter (c.requires.others k d l)))

pub returns-clause-made : goal.returns-clause-made
returns-clause-made c =
    let g = c.args.meter.now in
    let h = c.shortened.new.meter in
    let asked = c.args.asked.now in
    let one = c.in-Some.one in
    let n = c.free-columns.result - 1 in
    let few = c.if-asked-eq0.false in
    let free = c.requires.system.free in
    let at = c.free-columns.ensures in
    let new : Remainder = record { system = c.in-Some-2.system; others = c.in_ok-all_given.field-0; count = asked.count - 1 } in
    let gives = rw c.in-Some.is at (c.in_ok-one.ensures g c.requires.system.within) in
    let short = rw c.in-Some-2.is at c.in_ok-system.ensures.made in
    let S : Type 0 = IsPlainSystem one × All IsPlainSystem asked.others.items in
    let P : List ℤ → Type 0 = λ point. Any (HoldsGiven one n point) asked.others.items in
    let others = made_same (HoldsLong n) (IsAcross h n) IsPlainSystem S (IsAcross g n) S P P
    (λ s is. across_before g h n s c.in_ok-system.ensures.meter is) (λ s. s) (λ point. ((λ x. x), (λ x. x)))
    c.in_ok-all_given.field-0.items (rw c.as_slice.ensures.value at c.in_ok-all_given.ensures.made) in
    one_less g c.args.kept n asked new one (omega (arith, few)) (omega (arith, few, free, at)) c.requires gives short S others
    (λ p. (gives.definitions, p.others))
