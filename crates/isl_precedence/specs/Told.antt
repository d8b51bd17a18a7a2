-- inner: pieces without the defined columns that equations tell.
use Rattle.std.specs.Prelude.{◌≡◌, ◌⊎◌, []}
use Rattle.isl_meter.specs.Gauge.{Gauge}
use Rattle.isl_piece.specs.Piece.{PieceView}
use Rattle.isl_quotient.specs.Told.{IsPlainOf}

-- of a piece that defines columns one in its space that defines none, and says the same
pub record IsToldPlain (g : Gauge) (old new : PieceView) : Type 0 where
  pub named : ¬ (old.system.definitions ≡ [])
  pub space : new.space ≡ old.space
  pub system : IsPlainOf g old.system new.system

-- such a one, or the piece itself
abbrev pub IsTold : Gauge → PieceView → PieceView → Type 0
IsTold g old new = (new ≡ old) ⊎ IsToldPlain g old new
