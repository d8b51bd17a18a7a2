use Rattle.std.proofs.Common.{take}
use Rattle.std.specs.List.{Any}
use Rattle.isl_images.specs.Pairing.{IsWideJoin}
use Rattle.isl_images.proofs.joined.have_wide_join.Given as goal

abbrev pub invariant-loop-piece : goal.invariant-loop-piece
invariant-loop-piece l =
    ¬ Any (λ piece. Any (λ other. IsWideJoin piece.space other.space) l.others) (take l.piece-index l.pieces)
