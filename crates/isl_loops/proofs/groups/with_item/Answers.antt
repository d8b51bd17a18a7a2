use Rattle.std.proofs.Common.{◌++◌, sym, ap, ◌∙◌, subst, List}
use Rattle.std.specs.Global.{Vec}
use Rattle.isl_nest.specs.declared.item.Item.{Item}
use Rattle.isl_loops.specs.Groups.{AreGroupsOver}
use Rattle.isl_loops.proofs.CallLaws.{over_charged}
use Rattle.isl_loops.proofs.GroupLaws.{groups_charged, item_ordered, item_same}
use Rattle.isl_loops.proofs.groups.with_item.Goals as goal

pub trailing-requires-clause-groups : goal.trailing-requires-clause-groups
trailing-requires-clause-groups c =
    subst (λ (groups : List (Vec Item)). AreGroupsOver c.leading.new.meter c.args.extent groups) (sym c.as_slice-2.ensures.value)
    (groups_charged c.args.meter.now c.leading.new.meter c.args.extent c.args.groups.items c.in_ok-first.ensures.meter c.requires.groups)

pub trailing-requires-clause-item : goal.trailing-requires-clause-item
trailing-requires-clause-item c =
    over_charged c.args.meter.now c.leading.new.meter c.args.extent.params c.args.extent.times c.args.item c.in_ok-first.ensures.meter
    c.requires.item

pub returns-clause-same : goal.returns-clause-same
returns-clause-same c =
    item_same c.args.place.now c.args.groups.items c.split_off.new.self.items c.split_off-2.new.self.items c.in_ok-between.between.items
    c.in_ok-after.after.items c.append.new.self.items c.in_ok-first.first c.in_ok-last.last c.in_ok-joined.field-0 c.args.item
    c.in_ok-after.ensures.items c.in_ok-after.ensures.tail c.in_ok-between.ensures.items c.in_ok-between.ensures.tail
    c.in_ok-joined.ensures (c.in_ok-append.ensures.items ∙ ap (λ gs. gs ++ c.in_ok-after.after.items) c.in_ok-push.ensures.items)

pub returns-clause-ordered : goal.returns-clause-ordered
returns-clause-ordered c =
    item_ordered c.args.place.now c.args.groups.items c.split_off.new.self.items c.split_off-2.new.self.items
    c.in_ok-between.between.items c.in_ok-after.after.items c.append.new.self.items c.in_ok-first.first c.in_ok-last.last
    c.in_ok-joined.field-0 c.args.item c.in_ok-after.ensures.items c.in_ok-after.ensures.tail c.in_ok-between.ensures.items
    c.in_ok-between.ensures.tail c.in_ok-joined.ensures
    (c.in_ok-append.ensures.items ∙ ap (λ gs. gs ++ c.in_ok-after.after.items) c.in_ok-push.ensures.items)
    c.in_ok-last.ensures.least (rw c.as_slice.ensures.value at c.in_ok-first.ensures.before)
    (rw c.as_slice-2.ensures.value at c.in_ok-last.ensures.before)
