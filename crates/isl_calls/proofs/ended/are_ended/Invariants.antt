use Rattle.std.proofs.Common.{take}
use Rattle.std.specs.List.{All}
use Rattle.isl_calls.specs.Covers.{IsEnded}
use Rattle.isl_calls.proofs.ended.are_ended.Given as goal

abbrev pub invariant-loop-system : goal.invariant-loop-system
invariant-loop-system l = All IsEnded (take l.system-index l.systems)
