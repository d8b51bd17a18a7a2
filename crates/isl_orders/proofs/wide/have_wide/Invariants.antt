use Rattle.std.proofs.Common.{take}
use Rattle.std.specs.List.{Any}
use Rattle.isl_orders.specs.Comparison.{IsWide}
use Rattle.isl_orders.proofs.wide.have_wide.Given as goal

abbrev pub invariant-loop-piece : goal.invariant-loop-piece
invariant-loop-piece l = ¬ Any (λ piece. Any (λ other. IsWide l.operands piece.space other.space) l.others) (take l.piece-index l.pieces)
