use Rattle.std.proofs.Common.{◌≡◌, drop}
use Rattle.std.specs.List.{list_all}
use Rattle.isl_text.specs.Formed.{piece_is_formed}
use Rattle.isl_text.proofs.formed.each_is_new.Given as goal

abbrev pub invariant-loop-piece : goal.invariant-loop-piece
invariant-loop-piece l =
    list_all (piece_is_formed l.fn.params) l.pieces ≡ list_all (piece_is_formed l.fn.params) (drop l.piece-index l.pieces)
