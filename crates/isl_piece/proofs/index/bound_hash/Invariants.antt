use Rattle.std.proofs.Common.{◌≡◌, take, fold}
use Rattle.isl_piece.specs.Index.{mixed}
use Rattle.isl_piece.proofs.index.bound_hash.Given as goal

abbrev pub invariant-loop-number : goal.invariant-loop-number
invariant-loop-number l = l.hash ≡ fold mixed l.row.k (take l.number-index l.row.coefs)
