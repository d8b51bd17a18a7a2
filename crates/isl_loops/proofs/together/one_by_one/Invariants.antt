use Rattle.std.proofs.Common.{take}
use Rattle.std.specs.List.{All}
use Rattle.isl_meter.specs.Gauge.{IsCharged}
use Rattle.isl_loop.specs.declared.tree.Loop.{Block}
use Rattle.isl_loop.specs.Formed.{IsLoopOver}
use Rattle.isl_loop.specs.Printable.{IsPrintable}
use Rattle.isl_nest.specs.Changing.{AsksWhatChanges}
use Rattle.isl_loops.specs.Together.{ListsAll}
use Rattle.isl_loops.proofs.AloneLaws.{IsAloneOf}
use Rattle.isl_loops.proofs.together.one_by_one.Given as goal

abbrev pub invariant-loop-item : goal.invariant-loop-item
invariant-loop-item l =
    ListsAll (take l.item-index l.items) l.place (Block l.parts) × All (IsLoopOver l.fn.meter l.place.variables) l.parts
    × IsCharged l.fn.meter l.meter × IsAloneOf l.place (take l.item-index l.items) l.parts
    × All (AsksWhatChanges l.place.variables) l.parts × All (IsPrintable l.place.variables) l.parts
