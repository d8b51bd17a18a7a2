-- inner: how a piece is stored, which a model asks for: as the tuple of its parts.
use Rattle.std.specs.Prelude.{refl}
use Rattle.std.specs.Coded.{Coded, code_by, coded×}
use Rattle.isl_space.specs.SpaceForm.{SpaceForm}
use Rattle.isl_space.specs.FormCode.{space_form_code}
use Rattle.isl_piece.specs.declared.system.System.{System}
use Rattle.isl_piece.specs.contracts.system.System as system
use Rattle.isl_piece.specs.Piece.{PieceView}

abbrev pub piece_code : Coded PieceView
piece_code =
    code_by (SpaceForm × System) (coded× space_form_code system.the_row.coded) (λ piece. (piece.space, piece.system))
    (λ parts. record { space = parts.0; system = parts.1 }) (λ _. refl)
