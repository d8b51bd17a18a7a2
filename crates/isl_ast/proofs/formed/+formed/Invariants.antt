use Rattle.std.proofs.Common.{take}
use Rattle.std.specs.List.{All}
use Rattle.isl_loop.specs.Formed.{IsLoopOver}
use Rattle.isl_ast.proofs.formed.+formed.Given as goal

abbrev pub invariant-are_loops_over-loop-part : goal.invariant-are_loops_over-loop-part
invariant-are_loops_over-loop-part l = All (IsLoopOver l.meter l.columns) (take l.part-index l.parts)
