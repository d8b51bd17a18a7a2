-- public: the limits of literals.
use Rattle.std.specs.Prelude.{ℕ, ℤ, pos, ◌+◌, Bool, false, ◌&&◌, nat_le, int_lt, List, [], ◌∷◌, length, Option, Some, None}
use Rattle.std.specs.List.{list_all}
use Rattle.isl_space.specs.Limits.{most_parameters, most_coordinates, most_leaves, most_bound}
use Rattle.isl_token.specs.TokenView.{Token}
use Rattle.isl_token.specs.TokenView as token
use Rattle.isl_token.specs.Number.{value_of}
use Rattle.isl_tree.specs.declared.tree.Tuple.{Tuple, Leaf, Pair', Row_of-Tuple, end_of-Tuple, more_of-Tuple}
use Rattle.isl_tree.specs.declared.tree.PieceTree.{PieceTree}
use Rattle.isl_tree.specs.declared.tree.Literal.{Literal}
use Rattle.isl_tree.specs.Literal.{piece_entries}
use Rattle.isl_text.specs.Bound.{bound_in}

-- how many coordinates a piece has in all
abbrev pub coordinates : PieceTree → ℕ
coordinates piece = length (piece_entries piece)

-- how many leaves a tuple has
abbrev mutual
  pub leaves_in : Tuple → ℕ
  leaves_in (Leaf name entries) = 1
  leaves_in (Pair' s left t right) = leaves_in_row left + leaves_in_row right

  pub leaves_in_row : {m : _} → Row_of-Tuple m → ℕ
  leaves_in_row end_of-Tuple = 0
  leaves_in_row (more_of-Tuple tuple rest) = leaves_in tuple + leaves_in_row rest

abbrev pub leaves_in_image : Option Tuple → ℕ
leaves_in_image None = 0
leaves_in_image (Some tuple) = leaves_in tuple

abbrev pub leaves_of : PieceTree → ℕ
leaves_of piece = leaves_in piece.first + leaves_in_image piece.second

-- at most 64 coordinates, 64 leaves and 64 bound variables
abbrev pub piece_is_within : PieceTree → Bool
piece_is_within piece = nat_le (coordinates piece) most_coordinates && nat_le (leaves_of piece) most_leaves && nat_le (bound_in piece) most_bound

abbrev pub pieces_are_within : List PieceTree → Bool
pieces_are_within pieces = list_all piece_is_within pieces

-- at most 16 parameters, and each piece within its limits
abbrev pub is_within : Literal → Bool
is_within literal = nat_le (length literal.params) most_parameters && pieces_are_within literal.pieces

-- a number above the limit
abbrev pub is_wide : ℤ → Token → Bool
is_wide limit (token.Word word) = false
is_wide limit (token.Number digits) = int_lt limit (pos (value_of digits))
is_wide limit (token.Sign sign) = false

-- the next token is one
abbrev pub next_is_wide : ℤ → List Token → Bool
next_is_wide limit [] = false
next_is_wide limit (t ∷ ts) = is_wide limit t
