use Rattle.std.proofs.Common.{◌<◌, ℕ, get_or}
use Rattle.isl_piece.specs.Piece.{PieceView}
use Rattle.isl_maps.specs.Change.{FormsWide}
use Rattle.isl_maps.proofs.change.Change.ask_spaces.Given as goal

abbrev pub invariant-loop-piece : goal.invariant-loop-piece
invariant-loop-piece l = (k : ℕ) (d : PieceView) → k < l.piece-index → ¬ FormsWide l.self (get_or l.pieces k d).space
