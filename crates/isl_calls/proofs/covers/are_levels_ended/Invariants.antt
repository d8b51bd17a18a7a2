use Rattle.std.proofs.Common.{ℕ, ◌<◌, [], get_or}
use Rattle.std.specs.List.{All}
use Rattle.isl_calls.specs.Covers.{IsEnded}
use Rattle.isl_calls.proofs.covers.are_levels_ended.Given as goal

abbrev pub invariant-loop-height : goal.invariant-loop-height
invariant-loop-height l = (height : ℕ) → 0 < height → height < l.height → All IsEnded (get_or l.levels height [])
