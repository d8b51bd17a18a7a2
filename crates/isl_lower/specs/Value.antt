-- public: the value that a literal writes. (isl manual, on sets, relations and their notation)
use Rattle.std.specs.Prelude.{◌≡◌, ◌↔◌, List, [], All, Any, Option, true}
use Rattle.std.specs.List.{filter_map}
use Rattle.isl_meter.specs.Gauge.{Gauge}
use Rattle.isl_space.specs.Name.{Name}
use Rattle.isl_space.specs.Names.{IsParameterList}
use Rattle.isl_space.specs.SpaceForm.{IsWellFormedSpace}
use Rattle.isl_space.specs.Valuation.{Valuation}
use Rattle.isl_space.specs.Element.{Element}
use Rattle.isl_union.specs.KeptValue.{KeptPiece, KeptValue, Has}
use Rattle.isl_union.specs.Live.{normal_of, AreLiveOf}
use Rattle.isl_tree.specs.declared.tree.PieceTree.{PieceTree}
use Rattle.isl_tree.specs.declared.tree.Literal.{Literal}
use Rattle.isl_tree.specs.Divisors.{ArePositive, piece_divisors}
use Rattle.isl_tree.specs.Literal.{space_of_piece, LiteralHas}
use Rattle.isl_tree.specs.Plain.{is_plain}
use Rattle.isl_plain.specs.Rows.{rows_written}
use Rattle.isl_plain.specs.Passes.{PiecePasses}

-- what a literal declares and names is what a value may have, and what it divides by is at least 1
pub record IsWellFormedLiteral (literal : Literal) : Type 0 where
  pub params : IsParameterList literal.params
  pub spaces : All (λ piece. IsWellFormedSpace (space_of_piece piece)) literal.pieces
  pub divisors : All (λ piece. ArePositive (piece_divisors piece)) literal.pieces

-- the space of a plain piece with the normal rows of those that it writes; nothing where one of them never holds
abbrev pub piece_lowered : List Name → PieceTree → Option KeptPiece
piece_lowered params piece = normal_of (record { space = space_of_piece piece; definitions = []; rows = rows_written params piece })

-- the declared parameters, and the normal pieces that a plain literal writes. It is no value that may be kept where one of them has no
-- element
abbrev pub value_lowered : Literal → KeptValue
value_lowered literal = record { params = literal.params; pieces = filter_map (piece_lowered literal.params) literal.pieces }

-- at every valuation the value has the literal's elements, and no others
abbrev pub HasSameElements : Literal → KeptValue → Type 0
HasSameElements literal value =
    (valuation : Valuation) (element : Element) → Has value valuation element ↔ LiteralHas literal valuation element

-- the value has the declared parameters and the literal's elements. That of a plain literal has, of the normal pieces that are written,
-- those that have an element at some valuation
pub record IsLowered (literal : Literal) (value : KeptValue) : Type 0 where
  pub params : value.params ≡ literal.params
  pub elements : HasSameElements literal value
  pub plain : is_plain literal ≡ true → AreLiveOf literal.params (value_lowered literal).pieces value.pieces
