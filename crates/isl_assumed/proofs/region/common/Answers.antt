use Rattle.std.proofs.Common.{◌+◌, ◌*◌, ◌≤◌, length}
use Rattle.isl_meter.specs.Gauge.{IsCharged}
use Rattle.isl_meter.proofs.CutLemmas.{IsCharged_trans}
use Rattle.isl_union.proofs.MeetSteps.{charged_bits}
use Rattle.isl_blocks.proofs.ResultLaws.{ok_case, ok_has}
use Rattle.isl_assumed.specs.Left.{AreLeftOf, IsCommon}
use Rattle.isl_assumed.proofs.PairLaws.{pairs_least}
use Rattle.isl_assumed.proofs.RegionLaws.{common_made, lives_later, region_later, withins_later}
use Rattle.isl_assumed.proofs.region.common.Goals as goal

pub systems_onto-requires-2 : goal.systems_onto-requires-2
systems_onto-requires-2 c =
    region_later c.args.meter.now c.systems_onto.new.meter c.args.other.now.params c.args.other.now.systems.items c.in_ok-own.ensures.meter
    c.requires.other

pub all_pairs-requires-clause-systems : goal.all_pairs-requires-clause-systems
all_pairs-requires-clause-systems c =
    let g = c.args.meter.now in
    let k = c.systems_onto-2.new.meter in
    lives_later g k (length c.args.all.now) c.len-names.result c.in_ok-own.own.items c.as_slice.result.now c.as_slice.ensures.value
    c.len-names.ensures.len (IsCharged_trans g c.systems_onto.new.meter k c.in_ok-own.ensures.meter c.in_ok-others.ensures.meter)
    c.in_ok-own.ensures.onto.live

pub all_pairs-requires-clause-others : goal.all_pairs-requires-clause-others
all_pairs-requires-clause-others c =
    lives_later c.systems_onto.new.meter c.systems_onto-2.new.meter (length c.args.all.now) c.len-names.result c.in_ok-others.others.items
    c.as_slice-2.result.now c.as_slice-2.ensures.value c.len-names.ensures.len c.in_ok-others.ensures.meter
    c.in_ok-others.ensures.onto.live

pub left_of-requires-clause-within : goal.left_of-requires-clause-within
left_of-requires-clause-within c =
    withins_later c.systems_onto-2.new.meter c.all_pairs.new.meter c.in_ok-met.met.items c.as_slice-3.result.now c.as_slice-3.ensures.value
    c.in_ok-met.ensures.meter c.in_ok-met.ensures.met.within

pub returns-clause-common : goal.returns-clause-common
returns-clause-common c =
    let g = c.args.meter.now in
    let h = c.systems_onto.new.meter in
    let k = c.systems_onto-2.new.meter in
    let j = c.all_pairs.new.meter in
    let all = c.args.all.now in
    let names = c.args.region.now.params in
    let others = c.args.other.now.params in
    let first = c.args.region.now.systems.items in
    let second = c.args.other.now.systems.items in
    let own = c.in_ok-own.own.items in
    let other = c.in_ok-others.others.items in
    let met = c.in_ok-met.met.items in
    let r = c.left_of.result in
    let gh = c.in_ok-own.ensures.meter in
    let gk = IsCharged_trans g h k gh c.in_ok-others.ensures.meter in
    let gj = IsCharged_trans g k j gk c.in_ok-met.ensures.meter in
    let pairs = rw (c.as_slice.ensures.value, c.as_slice-2.ensures.value, c.len-names.ensures.len) at c.in_ok-met.ensures.met in
    let left = rw (c.as_slice-3.ensures.value, c.len-names.ensures.len) at c.left_of.ensures.left in
    ok_case r (λ made. IsCommon g all names first others second made.items) (λ made at.
    common_made g h k j all names others first second own other met made.items c.requires.own.named c.requires.other.named c.requires.all
    (charged_bits g h gh) (charged_bits g k gk) (charged_bits g j gj) c.in_ok-own.ensures.onto c.in_ok-others.ensures.onto pairs
    (ok_has r made (λ m. AreLeftOf j (length all) 0 met m.items) at left))

pub returns-clause-work : goal.returns-clause-work
returns-clause-work c =
    let g = c.args.meter.now in
    let k = c.systems_onto-2.new.meter in
    let j = c.all_pairs.new.meter in
    let m = c.left_of.new.meter in
    let own = c.in_ok-own.own.items in
    let others = c.in_ok-others.others.items in
    let first = c.args.region.now.systems.items in
    let second = c.args.other.now.systems.items in
    let r = c.left_of.result in
    let before = IsCharged_trans g c.systems_onto.new.meter k c.in_ok-own.ensures.meter c.in_ok-others.ensures.meter in
    let used = rw (c.as_slice.ensures.value, c.as_slice-2.ensures.value) at c.in_ok-met.ensures.units in
    ok_case r (λ _. g.units + length first * length second ≤ m.units) (λ made at.
    let after : IsCharged j m = rw at at c.left_of.ensures.meter in
    pairs_least g.units k.units j.units m.units (length first) (length second) (length own) (length others) before.units used after.units
    c.in_ok-own.ensures.onto.many c.in_ok-others.ensures.onto.many)
