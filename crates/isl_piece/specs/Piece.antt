-- public: what contracts see of a piece: its space and its system, by content. How it shares them with other pieces is in no contract.
use Rattle.std.specs.Prelude.{List}
use Rattle.isl_space.specs.SpaceForm.{SpaceForm}
use Rattle.isl_piece.specs.declared.row.Row.{Row}
use Rattle.isl_piece.specs.declared.system.System.{System}

-- the elements of a space at which a system holds
pub record PieceView : Type 0 where
  pub space : SpaceForm
  pub system : System

-- the piece with other rows
abbrev pub with_rows : PieceView → List Row → PieceView
with_rows p rows = record { space = p.space; system = record { columns = p.system.columns; definitions = p.system.definitions; rows = rows } }
