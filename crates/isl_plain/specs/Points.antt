-- public: the points of a piece of a literal.
use Rattle.std.specs.Prelude.{◌≡◌, ◌↔◌, ℕ, ℤ, List, ◌++◌, length}
use Rattle.isl_space.specs.Valuation.{Valuation, values_of}
use Rattle.isl_piece.specs.declared.row.Row.{Row}
use Rattle.isl_piece.specs.System.{HoldRows}
use Rattle.isl_tree.specs.declared.tree.PieceTree.{PieceTree}
use Rattle.isl_tree.specs.Literal.{piece_entries, piece_environment, EntriesEqual, BodyHolds}

-- at every valuation the rows hold at the parameters' numbers and the coordinates exactly where each entry of the piece equals its
-- coordinate and its formula holds
abbrev pub HasPoints : List (List ℕ) → PieceTree → List Row → Type 0
HasPoints params piece rows =
    (valuation : Valuation) (xs : List ℤ) → length (piece_entries piece) ≡ length xs
    → (EntriesEqual (piece_entries piece) xs (piece_environment params piece xs valuation)
    × BodyHolds piece.body (piece_environment params piece xs valuation))
    ↔ HoldRows rows (values_of params valuation ++ xs)
