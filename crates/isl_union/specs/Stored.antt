-- inner: how values are stored, which a model asks for: as the tuples of their parts.
use Rattle.std.specs.Prelude.{List, refl}
use Rattle.std.specs.Coded.{Coded, code_by, coded×, coded_list, coded_ℕ}
use Rattle.isl_space.specs.Name.{Name}
use Rattle.isl_space.specs.SpaceForm.{SpaceForm}
use Rattle.isl_space.specs.FormCode.{space_form_code}
use Rattle.isl_piece.specs.declared.definition.Definition.{Definition}
use Rattle.isl_piece.specs.declared.row.Row.{Row}
use Rattle.isl_piece.specs.contracts.definition.Definition as definition
use Rattle.isl_piece.specs.contracts.row.Row as row
use Rattle.isl_union.specs.KeptValue.{KeptPiece, KeptValue}

abbrev pub kept_piece_code : Coded KeptPiece
kept_piece_code =
    code_by (SpaceForm × (List Definition × List Row))
    (coded× space_form_code (coded× (coded_list definition.the_row.coded) (coded_list row.the_row.coded)))
    (λ piece. (piece.space, (piece.definitions, piece.rows)))
    (λ parts. record { space = parts.0; definitions = parts.1.0; rows = parts.1.1 }) (λ _. refl)

abbrev pub kept_value_code : Coded KeptValue
kept_value_code =
    code_by (List Name × List KeptPiece) (coded× (coded_list (coded_list coded_ℕ)) (coded_list kept_piece_code))
    (λ value. (value.params, value.pieces)) (λ parts. record { params = parts.0; pieces = parts.1 }) (λ _. refl)
