-- public: the value that a plain literal writes, and what values one literal can write.
use Rattle.std.specs.Prelude.{◌+◌, ◌-◌, ◌≤◌, ◌⊎◌, ℕ, List, [], ◌∷◌, All, map}
use Rattle.isl_space.specs.Name.{Name}
use Rattle.isl_space.specs.SpaceForm.{SpaceForm, set_of, map_of}
use Rattle.isl_piece.specs.declared.row.RowKind.{RowKind}
use Rattle.isl_piece.specs.declared.row.RowKind.TheVariants.{Zero, AtLeast, Divides, NotDivides}
use Rattle.isl_piece.specs.declared.row.Row.{Row}
use Rattle.isl_token.specs.Number.{too_great}
use Rattle.isl_union.specs.KeptValue.{KeptPiece, KeptValue}
use Rattle.isl_union.specs.Numbers.{HasNumbersUpTo}
use Rattle.isl_tree.specs.declared.tree.PieceTree.{PieceTree}
use Rattle.isl_tree.specs.declared.tree.Literal.{Literal}
use Rattle.isl_tree.specs.Literal.{space_of_piece}
use Rattle.isl_plain.specs.Rows.{rows_written}
use Rattle.isl_tree.specs.declared.statement.ValueKind.{ValueKind}
use Rattle.isl_tree.specs.declared.statement.ValueKind.TheVariants.{Set, Map, List as Pair, Empty, Truth, Listing, Code, Tree}

-- the piece's space, and the rows that its entries and comparisons write; it defines no columns
abbrev pub piece_written : List Name → PieceTree → KeptPiece
piece_written params piece = record { space = space_of_piece piece; definitions = []; rows = rows_written params piece }

abbrev pub value_written : Literal → KeptValue
value_written literal = record { params = literal.params; pieces = map (piece_written literal.params) literal.pieces }

-- each number of the value has a magnitude that a literal may write
abbrev pub HasWritableNumbers : KeptValue → Type 0
HasWritableNumbers value = HasNumbersUpTo (too_great - 1) value

-- one tuple is a set's, two are a map's
abbrev pub IsSet : SpaceForm → Type 0
IsSet (set_of form) = Unit {0}
IsSet (map_of from to) = ⊥

abbrev pub IsMap : SpaceForm → Type 0
IsMap (set_of form) = ⊥
IsMap (map_of from to) = Unit {0}

-- all pieces have one tuple, or all have two
abbrev pub IsUniform : KeptValue → Type 0
IsUniform value = All (λ piece. IsSet piece.space) value.pieces ⊎ All (λ piece. IsMap piece.space) value.pieces

-- the spaces of a kind: a list is two maps, and what is none of these has none
abbrev pub IsSpaceOf : ValueKind → SpaceForm → Type 0
IsSpaceOf Set space = IsSet space
IsSpaceOf Map space = IsMap space
IsSpaceOf Empty space = ⊥
IsSpaceOf Pair space = IsMap space
IsSpaceOf Truth space = ⊥
IsSpaceOf Listing space = ⊥
IsSpaceOf Code space = ⊥
IsSpaceOf Tree space = ⊥

-- a value of this kind, or one of a list: sets alone, maps alone, or no piece
abbrev pub IsOfKind : ValueKind → KeptValue → Type 0
IsOfKind kind value = All (λ piece. IsSpaceOf kind piece.space) value.pieces

-- a row that is printed as a remainder counts as one
abbrev pub remainders_in : RowKind → ℕ
remainders_in Zero = 0
remainders_in AtLeast = 0
remainders_in Divides = 1
remainders_in NotDivides = 1

abbrev pub remainders : List Row → ℕ
remainders [] = 0
remainders (row ∷ rows) = remainders_in row.kind + remainders rows

-- no piece has more of them than a literal's may have
abbrev pub HasFewRemainders : KeptValue → Type 0
HasFewRemainders value = All (λ piece. remainders piece.rows ≤ 64) value.pieces
