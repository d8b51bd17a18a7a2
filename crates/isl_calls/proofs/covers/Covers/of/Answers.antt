use Rattle.std.proofs.Common.{arith}
use Rattle.std.specs.Prelude.{IsTrue}
use Rattle.isl_calls.proofs.covers.Covers.of.Goals as goal

pub returns-then-are_levels_ended-clause-ended : goal.returns-then-are_levels_ended-clause-ended
returns-then-are_levels_ended-clause-ended c =
    let passes : IsTrue c.are_levels_ended.result = grind arith in
    rw c.as_slice.ensures.value at (c.are_levels_ended.ensures passes)
