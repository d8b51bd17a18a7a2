use Rattle.std.proofs.Common.{◌≡◌, ◌++◌}
use Rattle.isl_difference.proofs.DifferenceLaws.{AreBeside}
use Rattle.isl_difference.proofs.difference.all_without.Given as goal

abbrev pub invariant-loop-system : goal.invariant-loop-system
invariant-loop-system l = record {
  split : l.yielded ++ l.system-iterator.rest.items ≡ l.fn.systems.items;
  beside : AreBeside l.fn.meter l.meter l.fn.systems.items l.yielded l.other l.left.items;
}
