use Rattle.isl_nest.proofs.CalledLaws.{AreArguments}
use Rattle.isl_nest.proofs.loops.call.Given as goal

abbrev pub invariant-loop-i : goal.invariant-loop-i
invariant-loop-i l = AreArguments l.meter l.place l.item.arguments.items l.i l.arguments
