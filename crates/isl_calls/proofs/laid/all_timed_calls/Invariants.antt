use Rattle.std.proofs.Common.{take}
use Rattle.std.specs.List.{AllZip}
use Rattle.isl_calls.specs.Laid.{IsTimedLaid}
use Rattle.isl_calls.proofs.laid.all_timed_calls.Given as goal

abbrev pub invariant-loop-one : goal.invariant-loop-one
invariant-loop-one l = AllZip (IsTimedLaid l.params) (take l.one-index l.visits) l.calls.items
