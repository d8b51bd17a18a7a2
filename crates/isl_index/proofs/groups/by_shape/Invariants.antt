use Rattle.std.proofs.Common.{◌≡◌, List, ℕ, filter, take}
use Rattle.isl_index.specs.Groups.{begins_with_title, under}
use Rattle.isl_index.proofs.groups.by_shape.Given as goal

abbrev pub invariant-loop-piece : goal.invariant-loop-piece
invariant-loop-piece l = (title : List ℕ) → under title l.groups.entries ≡ filter (begins_with_title title) (take l.piece-index l.pieces)
