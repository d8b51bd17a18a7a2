use Rattle.std.proofs.Common.{◌≡◌, ◌++◌}
use Rattle.std.specs.Prelude.{map}
use Rattle.std.specs.List.Sorted.{IsPermutation}
use Rattle.isl_meter.specs.Gauge.{IsCharged}
use Rattle.isl_loops.specs.Groups.{items_of, members_of}
use Rattle.isl_loops.specs.Together.{AreOrdered}
use Rattle.isl_loops.proofs.groups.groups_of.Given as goal

abbrev pub invariant-loop-item : goal.invariant-loop-item
invariant-loop-item l = record {
  split : l.yielded ++ l.item-iterator.rest.items ≡ l.fn.items.items;
  same : IsPermutation l.yielded (members_of l.groups.items);
  ordered : AreOrdered l.place (map items_of l.groups.items);
  charged : IsCharged l.fn.meter l.meter;
}
