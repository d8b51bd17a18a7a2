use Rattle.std.proofs.Common.{◌≡◌, ◌<◌, ◌+◌, ◌^◌, ◌∷◌, ◌∙◌, [], sym, ap, subst, arith, length, ℕ, List}
use Rattle.std.specs.Global.{Vec}
use Rattle.std.proofs.lemmas.Grind.{common_steps}
use Rattle.std.proofs.lemmas.List.Elements.{All-nil, All-weaker}
use Rattle.std.proofs.lemmas.Result.{err_from_is_err_and}
use Rattle.isl_meter.proofs.CutLemmas.{IsCharged_trans, IsCutBy-after, IsCutBy-charged}
use Rattle.isl_frame.proofs.NeededLaws.{over_later}
use Rattle.isl_loop.specs.Formed.{IsLoopOver}
use Rattle.isl_loop.specs.Printable.{IsPrintable}
use Rattle.isl_loop.proofs.LimitLaws.{IsLoopOver-same}
use Rattle.isl_loop.proofs.PrintLaws.{printable_of-Block}
use Rattle.isl_nest.specs.Changing.{AsksWhatChanges}
use Rattle.isl_nest.specs.Nest.{with_loop}
use Rattle.isl_nest.specs.declared.item.Item.{Item}
use Rattle.isl_nest.specs.declared.place.Place.{Place}
use Rattle.isl_nest.proofs.AroundLaws.{charged_bits}
use Rattle.isl_nest.proofs.ChangingLaws.{changing_of-Block}
use Rattle.isl_nest.proofs.PlaceLaws.{place_later}
use Rattle.isl_loops.specs.Groups.{AreGroupsOf}
use Rattle.isl_loops.specs.Shared.{IsOnlyForm, IsSharedLoop, IsSharedNothing}
use Rattle.isl_loops.specs.Together.{IsOver, ListsAll}
use Rattle.isl_loops.proofs.CallLaws.{over_charged}
use Rattle.isl_loops.proofs.GroupedLaws.{group_apart, group_has, made_all, made_more, made_none, made_same}
use Rattle.isl_loops.proofs.OnlyLaws.{entry_lists, entry_long, entry_place}
use Rattle.isl_loops.proofs.PartsLaws.{block_over, parts_all}
use Rattle.isl_loops.proofs.SharedLaws.{inner_long, inner_place, shared_lists}
use Rattle.isl_loops.proofs.together.+together.Goals as goal

pub loop-group-init : goal.loop-group-init
loop-group-init t c =
    let g = c.args.meter.now in
    let place = c.args.place.now in
    let items = c.args.items.items in
    let made = c.in_ok-group-items in
    let groups = c.into_iter-group-iterator.result.rest.items in
    let same : groups ≡ made.group-items.items = grind (arith, common_steps) in (
      made_none g place items groups c.new-parts.result
          (subst (λ (gs : List (Vec Item)). AreGroupsOf place items [] gs) (sym same) made.ensures.groups) c.new-parts.ensures,
      made.ensures.meter,
      rw c.new-parts.ensures (All-nil (AsksWhatChanges place.variables)),
      rw c.new-parts.ensures (All-nil (IsPrintable place.variables)),
    )

pub one_by_one-requires-then-len-eq1-clause-place : goal.one_by_one-requires-then-len-eq1-clause-place
one_by_one-requires-then-len-eq1-clause-place t c =
    place_later c.args.meter.now c.loop-group.meter c.args.place.now c.loop-group.invariant.1 c.requires.place

pub one_by_one-requires-then-len-eq1-clause-items : goal.one_by_one-requires-then-len-eq1-clause-items
one_by_one-requires-then-len-eq1-clause-items t c =
    let g = c.args.meter.now in
    let h = c.loop-group.meter in
    let p = c.args.extent.params in
    let n = c.args.extent.times in
    let before = c.loop-group.group-iterator.rest.items in
    let rest = c.next.new.self.rest.items in
    let group = c.in-Some.group in
    let next : before ≡ group ∷ rest = grind arith in
    rw c.as_slice-then-len-eq1.ensures.value
    (All-weaker (IsOver g p n) (IsOver h p n) (λ item is. over_charged g h p n item c.loop-group.invariant.1 is) group.items
    (group_has g c.args.place.now c.args.items.items before c.loop-group.parts c.loop-group.invariant.0 group rest next
    (IsOver g p n) c.requires.items))

pub one_by_one-requires-then-len-eq1-clause-apart : goal.one_by_one-requires-then-len-eq1-clause-apart
one_by_one-requires-then-len-eq1-clause-apart t c =
    let before = c.loop-group.group-iterator.rest.items in
    let rest = c.next.new.self.rest.items in
    let group = c.in-Some.group in
    let next : before ≡ group ∷ rest = grind arith in
    rw c.as_slice-then-len-eq1.ensures.value (group_apart c.args.meter.now c.args.place.now c.args.items.items before c.loop-group.parts
    c.loop-group.invariant.0 group rest next c.args.extent.params c.requires.apart)

pub loop-group-preserved-then-len-eq1 : goal.loop-group-preserved-then-len-eq1
loop-group-preserved-then-len-eq1 t c =
    let g = c.args.meter.now in
    let h = c.loop-group.meter in
    let place = c.args.place.now in
    let p = c.args.extent.params in
    let n = c.args.extent.times in
    let before = c.loop-group.group-iterator.rest.items in
    let rest = c.next.new.self.rest.items in
    let group = c.in-Some.group in
    let next : before ≡ group ∷ rest = grind arith in
    let tree = c.in_ok-one_by_one.field-0 in
    let inner : length place.frame < p + n = grind (arith, common_steps) in
    let lists : ListsAll group.items place tree = rw c.as_slice-then-len-eq1.ensures.value at c.in_ok-one_by_one.ensures.lists in (
      made_more g place c.args.items.items before c.loop-group.parts c.loop-group.invariant.0 group rest next p n c.requires.items
          c.requires.low inner c.push.new.self tree c.in_ok-push.ensures.ok lists
          (IsLoopOver-same h g place.variables tree (sym (charged_bits g h c.loop-group.invariant.1)) c.in_ok-one_by_one.ensures.over),
      IsCharged_trans g h c.one_by_one-then-len-eq1.new.meter c.loop-group.invariant.1 c.in_ok-one_by_one.ensures.meter,
      parts_all (AsksWhatChanges place.variables) c.loop-group.parts tree c.push.new.self c.in_ok-push.ensures.ok c.loop-group.invariant.2
          c.in_ok-one_by_one.ensures.changing,
      parts_all (IsPrintable place.variables) c.loop-group.parts tree c.push.new.self c.in_ok-push.ensures.ok c.loop-group.invariant.3
          c.in_ok-one_by_one.ensures.printable,
    )

pub shared-requires-clause-place : goal.shared-requires-clause-place
shared-requires-clause-place t c =
    place_later c.args.meter.now c.loop-group.meter c.args.place.now c.loop-group.invariant.1 c.requires.place

pub shared-requires-clause-items : goal.shared-requires-clause-items
shared-requires-clause-items t c =
    let g = c.args.meter.now in
    let h = c.loop-group.meter in
    let p = c.args.extent.params in
    let n = c.args.extent.times in
    let before = c.loop-group.group-iterator.rest.items in
    let rest = c.next.new.self.rest.items in
    let group = c.in-Some.group in
    let next : before ≡ group ∷ rest = grind arith in
    rw c.as_slice-in-loop-group.ensures.value
    (All-weaker (IsOver g p n) (IsOver h p n) (λ item is. over_charged g h p n item c.loop-group.invariant.1 is) group.items
    (group_has g c.args.place.now c.args.items.items before c.loop-group.parts c.loop-group.invariant.0 group rest next
    (IsOver g p n) c.requires.items))

pub loop-group-preserved-in_default : goal.loop-group-preserved-in_default
loop-group-preserved-in_default t c =
    let g = c.args.meter.now in
    let h = c.loop-group.meter in
    let place = c.args.place.now in
    let p = c.args.extent.params in
    let n = c.args.extent.times in
    let before = c.loop-group.group-iterator.rest.items in
    let rest = c.next.new.self.rest.items in
    let group = c.in-Some.group in
    let next : before ≡ group ∷ rest = grind arith in
    let inner : length place.frame < p + n = grind (arith, common_steps) in
    let none : IsSharedNothing place c.as_slice-in-loop-group.result.now = rw c.in_default.is at c.in_ok-around.ensures.around in (
      made_same g place c.args.items.items before c.loop-group.parts c.loop-group.invariant.0 group rest next p n c.requires.items
          c.requires.low inner (rw c.as_slice-in-loop-group.ensures.value at none),
      IsCharged_trans g h c.shared.new.meter c.loop-group.invariant.1 c.in_ok-around.ensures.meter,
      c.loop-group.invariant.2,
      c.loop-group.invariant.3,
    )

pub only_form-requires : goal.only_form-requires
only_form-requires t c =
    let is : IsSharedLoop c.loop-group.meter c.args.place.now c.as_slice-in-loop-group.result.now c.in-Some-2.around =
    rw c.in-Some-2.is at c.in_ok-around.ensures.around in
    over_later c.loop-group.meter c.shared.new.meter (c.args.place.now.variables + 1) c.in-Some-2.around.inside
    c.in_ok-around.ensures.meter is.over.inside

pub together-requires : goal.together-requires
together-requires t c =
    let g = c.args.meter.now in
    let h = c.loop-group.meter in
    let k = c.shared.new.meter in
    let place = c.args.place.now in
    let p = c.args.extent.params in
    let n = c.args.extent.times in
    let before = c.loop-group.group-iterator.rest.items in
    let rest = c.next.new.self.rest.items in
    let group = c.in-Some.group in
    let next : before ≡ group ∷ rest = grind arith in
    let inner : length place.frame < p + n = grind (arith, common_steps) in
    let around = c.in-Some-2.around in
    let charged = IsCharged_trans g h k c.loop-group.invariant.1 c.in_ok-around.ensures.meter in
    let first = c.requires.low in
    let entry = c.in-Some-3.entry in
    let only : IsOnlyForm k place.variables around.inside entry = rw c.in-Some-3.is at c.in_ok-entry.ensures in
    let made = c.in_ok-behind.behind in
    let none = c.new-none.result in
    let long = entry_long place entry none c.new-none.ensures made c.in_ok-behind.ensures in (
      omega (arith, long, inner),
      (
        entry_place place entry none c.new-none.ensures made c.in_ok-behind.ensures g k around.inside c.requires.place charged only,
        (
          All-weaker (IsOver g p n) (IsOver k p n) (λ item o. over_charged g k p n item charged o) group.items
              (group_has g place c.args.items.items before c.loop-group.parts c.loop-group.invariant.0 group rest next (IsOver g p n)
              c.requires.items),
          (
            group_apart g place c.args.items.items before c.loop-group.parts c.loop-group.invariant.0 group rest next p c.requires.apart,
            (omega (arith, long, first), (omega (arith, long, inner), c.requires.room)),
          ),
        ),
      ),
    )

pub loop-group-preserved-in-Some-3 : goal.loop-group-preserved-in-Some-3
loop-group-preserved-in-Some-3 t c =
    let g = c.args.meter.now in
    let h = c.loop-group.meter in
    let k = c.shared.new.meter in
    let place = c.args.place.now in
    let p = c.args.extent.params in
    let n = c.args.extent.times in
    let before = c.loop-group.group-iterator.rest.items in
    let rest = c.next.new.self.rest.items in
    let group = c.in-Some.group in
    let next : before ≡ group ∷ rest = grind arith in
    let inner : length place.frame < p + n = grind (arith, common_steps) in
    let around = c.in-Some-2.around in
    let is : IsSharedLoop h place c.as_slice-in-loop-group.result.now around = rw c.in-Some-2.is at c.in_ok-around.ensures.around in
    let loop : IsSharedLoop h place group.items around = rw c.as_slice-in-loop-group.ensures.value at is in
    let over = group_has g place c.args.items.items before c.loop-group.parts c.loop-group.invariant.0 group rest next (IsOver g p n)
    c.requires.items in
    let entry = c.in-Some-3.entry in
    let only : IsOnlyForm k place.variables around.inside entry = rw c.in-Some-3.is at c.in_ok-entry.ensures in
    let made = c.in_ok-behind.behind in
    let tree = c.in_ok-tree.tree in
    let lists = entry_lists place entry c.new-none.result c.new-none.ensures made c.in_ok-behind.ensures g h k p n group.items around tree
    over c.requires.low inner loop only c.in_ok-tree.ensures.lists in
    let same = charged_bits g k (IsCharged_trans g h k c.loop-group.invariant.1 c.in_ok-around.ensures.meter) in
    let tree_over : IsLoopOver g place.variables tree =
    subst (λ (v : ℕ). IsLoopOver g v tree) (ap (λ (q : Place). q.variables) c.in_ok-behind.ensures)
    (IsLoopOver-same k g made.variables tree (sym same) c.in_ok-tree.ensures.over) in (
      made_more g place c.args.items.items before c.loop-group.parts c.loop-group.invariant.0 group rest next p n c.requires.items
          c.requires.low inner c.push-in-Some-3.new.self tree c.in_ok-push-2.ensures.ok lists tree_over,
      IsCharged_trans g h c.together.new.meter c.loop-group.invariant.1
          (IsCharged_trans h k c.together.new.meter c.in_ok-around.ensures.meter c.in_ok-tree.ensures.meter),
      parts_all (AsksWhatChanges place.variables) c.loop-group.parts tree c.push-in-Some-3.new.self c.in_ok-push-2.ensures.ok
          c.loop-group.invariant.2 (subst (λ (v : ℕ). AsksWhatChanges v tree) (ap (λ (q : Place). q.variables) c.in_ok-behind.ensures)
          c.in_ok-tree.ensures.changing),
      parts_all (IsPrintable place.variables) c.loop-group.parts tree c.push-in-Some-3.new.self c.in_ok-push-2.ensures.ok
          c.loop-group.invariant.3 (subst (λ (v : ℕ). IsPrintable v tree) (ap (λ (q : Place). q.variables) c.in_ok-behind.ensures)
          c.in_ok-tree.ensures.printable),
    )

pub with_loop-requires : goal.with_loop-requires
with_loop-requires t c =
    let few = c.requires.place.few in
    let high = c.requires.high in
    let room = c.requires.room in
    omega (arith, few, high, room)

pub together-requires-in-loop-group : goal.together-requires-in-loop-group
together-requires-in-loop-group t c =
    let g = c.args.meter.now in
    let h = c.loop-group.meter in
    let k = c.shared.new.meter in
    let place = c.args.place.now in
    let p = c.args.extent.params in
    let n = c.args.extent.times in
    let before = c.loop-group.group-iterator.rest.items in
    let rest = c.next.new.self.rest.items in
    let group = c.in-Some.group in
    let next : before ≡ group ∷ rest = grind arith in
    let around = c.in-Some-2.around in
    let is : IsSharedLoop h place c.as_slice-in-loop-group.result.now around = rw c.in-Some-2.is at c.in_ok-around.ensures.around in
    let charged = IsCharged_trans g h k c.loop-group.invariant.1 c.in_ok-around.ensures.meter in
    let inner : length place.frame < p + n = grind (arith, common_steps) in
    let first = c.requires.low in
    let made = c.in_ok-inner.inner in
    let long = inner_long place around.inside made c.in_ok-inner.ensures in (
      omega (arith, long, inner),
      (
        inner_place g h k place around made c.requires.place c.loop-group.invariant.1 c.in_ok-around.ensures.meter
            c.limit-limit.ensures.bits_low is.over c.in_ok-inner.ensures,
        (
          All-weaker (IsOver g p n) (IsOver k p n) (λ item o. over_charged g k p n item charged o) group.items
              (group_has g place c.args.items.items before c.loop-group.parts c.loop-group.invariant.0 group rest next (IsOver g p n)
              c.requires.items),
          (
            group_apart g place c.args.items.items before c.loop-group.parts c.loop-group.invariant.0 group rest next p c.requires.apart,
            (omega (arith, long, first), (omega (arith, long, inner), c.requires.room)),
          ),
        ),
      ),
    )

pub loop-group-preserved : goal.loop-group-preserved
loop-group-preserved t c =
    let g = c.args.meter.now in
    let h = c.loop-group.meter in
    let k = c.shared.new.meter in
    let place = c.args.place.now in
    let p = c.args.extent.params in
    let n = c.args.extent.times in
    let before = c.loop-group.group-iterator.rest.items in
    let rest = c.next.new.self.rest.items in
    let group = c.in-Some.group in
    let next : before ≡ group ∷ rest = grind arith in
    let inner : length place.frame < p + n = grind (arith, common_steps) in
    let around = c.in-Some-2.around in
    let is : IsSharedLoop h place c.as_slice-in-loop-group.result.now around = rw c.in-Some-2.is at c.in_ok-around.ensures.around in
    let loop : IsSharedLoop h place group.items around = rw c.as_slice-in-loop-group.ensures.value at is in
    let body = c.in_ok-body.body in
    let tree = c.in_ok-for_loop.field-0 in
    let over = group_has g place c.args.items.items before c.loop-group.parts c.loop-group.invariant.0 group rest next (IsOver g p n)
    c.requires.items in
    let below : ListsAll group.items (with_loop place around.inside) body =
    subst (λ (q : Place). ListsAll group.items q body) c.in_ok-inner.ensures c.in_ok-body.ensures.lists in
    let lists = shared_lists g h p n group.items place around tree body over c.requires.low inner c.requires.place loop
    (λ point long. c.in_ok-for_loop.ensures.trace point long) below in
    let to_h = charged_bits h k c.in_ok-around.ensures.meter in
    let to_g = charged_bits g h c.loop-group.invariant.1 in
    let body_over : IsLoopOver h (place.variables + 1) body =
    subst (λ (v : ℕ). IsLoopOver h v body) (ap (λ (q : Place). q.variables) c.in_ok-inner.ensures)
    (IsLoopOver-same k h c.in_ok-inner.inner.variables body (sym to_h) c.in_ok-body.ensures.over) in
    let tree_over = c.in_ok-for_loop.ensures.over h loop.over.low loop.over.high loop.over.positive loop.over.within
    body_over in
    let variables = c.requires.place.few in
    let room = c.requires.room in
    let few : place.variables + 1 < 2 ^ 64 = omega (arith, variables, inner, room) in (
      made_more g place c.args.items.items before c.loop-group.parts c.loop-group.invariant.0 group rest next p n c.requires.items
          c.requires.low inner c.push-in-loop-group.new.self tree c.in_ok-push-3.ensures.ok lists
          (IsLoopOver-same h g place.variables tree (sym to_g) tree_over),
      IsCharged_trans g h c.together-in-loop-group.new.meter c.loop-group.invariant.1
          (IsCharged_trans h k c.together-in-loop-group.new.meter c.in_ok-around.ensures.meter c.in_ok-body.ensures.meter),
      parts_all (AsksWhatChanges place.variables) c.loop-group.parts tree c.push-in-loop-group.new.self c.in_ok-push-3.ensures.ok
          c.loop-group.invariant.2 (c.in_ok-for_loop.ensures.changing
          (subst (λ (v : ℕ). AsksWhatChanges v body) (ap (λ (q : Place). q.variables) c.in_ok-inner.ensures) c.in_ok-body.ensures.changing)),
      parts_all (IsPrintable place.variables) c.loop-group.parts tree c.push-in-loop-group.new.self c.in_ok-push-3.ensures.ok
          c.loop-group.invariant.3 (c.in_ok-for_loop.ensures.printable few
          (subst (λ (v : ℕ). IsPrintable v body) (ap (λ (q : Place). q.variables) c.in_ok-inner.ensures) c.in_ok-body.ensures.printable)),
    )

pub returns-clause-lists : goal.returns-clause-lists
returns-clause-lists t c =
    let rest = c.loop-group.group-iterator.rest.items in
    let none = sym c.loop-group.group-iterator.rest.ok.0 ∙ c.in-None.ensures.steps.0 in
    made_all c.args.meter.now c.args.place.now c.args.items.items rest c.loop-group.parts c.loop-group.invariant.0 none

pub returns-clause-changing : goal.returns-clause-changing
returns-clause-changing t c = changing_of-Block c.args.place.now.variables c.loop-group.parts c.loop-group.invariant.2

pub returns-clause-over : goal.returns-clause-over
returns-clause-over t c =
    block_over c.args.meter.now c.args.place.now.variables c.loop-group.parts c.loop-group.invariant.0.over

pub returns-in_err-body-clause-meter : goal.returns-in_err-body-clause-meter
returns-in_err-body-clause-meter t c =
    let g = c.args.meter.now in
    let h = c.loop-group.meter in
    let k = c.shared.new.meter in
    let m = c.together-in-loop-group.new.meter in
    let charged = IsCharged_trans g h k c.loop-group.invariant.1 c.in_ok-around.ensures.meter in
    let error = err_from_is_err_and c.from_residual-in_err-body.result c.from_residual-in_err-body.ensures.1 in
    rw (error.1, error.2) (IsCutBy-after g k m c.in_err-body.field-0.0 charged c.in_err-body.ensures.meter)

pub returns-in_err-for_loop-clause-meter : goal.returns-in_err-for_loop-clause-meter
returns-in_err-for_loop-clause-meter t c =
    let g = c.args.meter.now in
    let h = c.loop-group.meter in
    let k = c.shared.new.meter in
    let m = c.together-in-loop-group.new.meter in
    let charged = IsCharged_trans g k m (IsCharged_trans g h k c.loop-group.invariant.1 c.in_ok-around.ensures.meter)
    c.in_ok-body.ensures.meter in
    let error = err_from_is_err_and c.from_residual-in_err-for_loop.result c.from_residual-in_err-for_loop.ensures.1 in
    rw (error.1, error.2) (IsCutBy-charged g m charged)

pub returns-in_err-tree-clause-meter : goal.returns-in_err-tree-clause-meter
returns-in_err-tree-clause-meter t c =
    let g = c.args.meter.now in
    let h = c.loop-group.meter in
    let k = c.shared.new.meter in
    let m = c.together.new.meter in
    let charged = IsCharged_trans g h k c.loop-group.invariant.1 c.in_ok-around.ensures.meter in
    let error = err_from_is_err_and c.from_residual-in_err-tree.result c.from_residual-in_err-tree.ensures.1 in
    rw (error.1, error.2) (IsCutBy-after g k m c.in_err-tree.field-0.0 charged c.in_err-tree.ensures.meter)

pub returns-in_err-push-2-clause-meter : goal.returns-in_err-push-2-clause-meter
returns-in_err-push-2-clause-meter t c =
    let g = c.args.meter.now in
    let h = c.loop-group.meter in
    let k = c.shared.new.meter in
    let m = c.together.new.meter in
    let charged = IsCharged_trans g k m (IsCharged_trans g h k c.loop-group.invariant.1 c.in_ok-around.ensures.meter)
    c.in_ok-tree.ensures.meter in
    let error = err_from_is_err_and c.from_residual-in_err-push-2.result c.from_residual-in_err-push-2.ensures.1 in
    rw (error.1, error.2) (IsCutBy-charged g m charged)

pub returns-in_err-push-3-clause-meter : goal.returns-in_err-push-3-clause-meter
returns-in_err-push-3-clause-meter t c =
    let g = c.args.meter.now in
    let h = c.loop-group.meter in
    let k = c.shared.new.meter in
    let m = c.together-in-loop-group.new.meter in
    let charged = IsCharged_trans g k m (IsCharged_trans g h k c.loop-group.invariant.1 c.in_ok-around.ensures.meter)
    c.in_ok-body.ensures.meter in
    let error = err_from_is_err_and c.from_residual-in_err-push-3.result c.from_residual-in_err-push-3.ensures.1 in
    rw (error.1, error.2) (IsCutBy-charged g m charged)

pub one_by_one-requires-clause-apart : goal.one_by_one-requires-clause-apart
one_by_one-requires-clause-apart t c = rw c.as_slice.ensures.value c.requires.apart

pub returns-clause-alone : goal.returns-clause-alone
returns-clause-alone t c item only =
    let several : 1 < length c.args.items.items = grind (arith, common_steps) in
    let one = ap length only in
    absurd (omega (arith, several, one))

pub returns-clause-printable : goal.returns-clause-printable
returns-clause-printable t c = printable_of-Block c.args.place.now.variables c.loop-group.parts c.loop-group.invariant.3
