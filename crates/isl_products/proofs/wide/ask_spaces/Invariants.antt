use Rattle.std.proofs.Common.{map, take}
use Rattle.isl_union.specs.Piece.{kept_piece}
use Rattle.isl_products.specs.Made.{AreWide}
use Rattle.isl_products.proofs.wide.ask_spaces.Given as goal

abbrev pub invariant-loop-piece : goal.invariant-loop-piece
invariant-loop-piece l = ¬ AreWide l.product (map kept_piece (take l.piece-index l.pieces)) (map kept_piece l.others)
