use Rattle.std.proofs.Common.{◌≡◌, false, take}
use Rattle.std.specs.List.{All}
use Rattle.isl_piece.specs.Normal.{same_bound}
use Rattle.isl_piece.proofs.index.place_among.Given as goal

abbrev pub invariant-loop-place : goal.invariant-loop-place
invariant-loop-place l = All (λ a. same_bound a l.row ≡ false) (take l.place l.rows)
