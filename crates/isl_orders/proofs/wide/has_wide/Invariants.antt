use Rattle.std.proofs.Common.{take}
use Rattle.std.specs.List.{Any}
use Rattle.isl_orders.specs.Comparison.{IsWide}
use Rattle.isl_orders.proofs.wide.has_wide.Given as goal

abbrev pub invariant-loop-other : goal.invariant-loop-other
invariant-loop-other l = ¬ Any (λ other. IsWide l.operands l.piece.space other.space) (take l.other-index l.others)
