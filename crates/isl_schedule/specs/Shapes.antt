-- inner: the shapes of times, of pieces.
use Rattle.std.specs.Prelude.{◌≡◌, List, All}
use Rattle.isl_piece.specs.Piece.{PieceView}
use Rattle.isl_schedule.specs.Schedule.{time_form}

-- the times of each two of the pieces have one form
abbrev pub HaveOneShape : List PieceView → Type 0
HaveOneShape pieces = All (λ piece. All (λ other. time_form piece.space ≡ time_form other.space) pieces) pieces
