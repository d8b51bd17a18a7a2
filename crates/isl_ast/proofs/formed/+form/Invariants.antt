use Rattle.std.proofs.Common.{take}
use Rattle.std.specs.List.{All}
use Rattle.isl_loop.specs.Formed.{IsExprOver}
use Rattle.isl_loop.specs.Lists.{IsItemOver}
use Rattle.isl_ast.proofs.formed.+form.Given as goal

abbrev pub invariant-are_items_over-loop-item : goal.invariant-are_items_over-loop-item
invariant-are_items_over-loop-item l = All (IsItemOver l.meter l.columns) (take l.item-index l.items)

abbrev pub invariant-are_some_over-loop-part : goal.invariant-are_some_over-loop-part
invariant-are_some_over-loop-part l = All (IsExprOver l.meter l.columns) (take l.part-index l.parts)
