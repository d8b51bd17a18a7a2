use Rattle.std.proofs.Common.{take}
use Rattle.isl_pip.specs.Behind.{ArePutBehind}
use Rattle.isl_pip.proofs.behind.put_behind.Given as goal

abbrev pub invariant-loop-system : goal.invariant-loop-system
invariant-loop-system l = ArePutBehind l.fn.meter l.front l.width (take l.system-index l.systems) l.made.items
