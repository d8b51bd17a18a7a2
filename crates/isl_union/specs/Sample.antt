-- public: values of one element. (isl manual, on samples)
use Rattle.std.specs.Prelude.{◌≡◌, ◌⊎◌, ℕ, suc, ℤ, pos, neg_ℤ, List, [], ◌∷◌, length, replicate, slice_set}
use Rattle.isl_space.specs.Name.{Name}
use Rattle.isl_space.specs.Element.{Element}
use Rattle.isl_space.specs.Valuation.{Valuation}
use Rattle.isl_piece.specs.declared.row.RowKind.TheVariants.{Zero}
use Rattle.isl_piece.specs.declared.row.Row.{Row}
use Rattle.isl_piece.specs.declared.system.System.{System}
use Rattle.isl_union.specs.Compare.{IsEmpty}
use Rattle.isl_union.specs.KeptValue.{KeptPiece, KeptValue, Has, point_of}
use Rattle.isl_union.specs.Piece.{piece_of}

-- the row over so many columns that says that one of them is this number
abbrev pub number_row : ℕ → ℕ → ℤ → Row
number_row columns column number =
    record { kind = Zero; coefs = slice_set (replicate columns (pos 0)) column (pos 1); constant = neg_ℤ number; k = pos 1 }

-- one for each number, of which the first is that of the column `first`
abbrev pub number_rows : ℕ → ℕ → List ℤ → List Row
number_rows columns first [] = []
number_rows columns first (number ∷ numbers) = number_row columns first number ∷ number_rows columns (suc first) numbers

-- the system of this point alone: a row for each of its numbers
abbrev pub point_system : List ℤ → System
point_system point = record { columns = length point; definitions = []; rows = number_rows (length point) 0 point }

-- the piece of this element alone, at this valuation alone
abbrev pub only_piece : List Name → Valuation → Element → KeptPiece
only_piece params valuation element = piece_of element.space (point_system (point_of params valuation element))

-- no piece where the value is empty; else one element that the value has at some valuation, with a row for each number
pub record IsSampleOf (value sample : KeptValue) : Type 0 where
  pub params : sample.params ≡ value.params
  pub pieces : (IsEmpty value × (sample.pieces ≡ []))
      ⊎ ((valuation : Valuation) × (element : Element) × Has value valuation element
      × (sample.pieces ≡ only_piece value.params valuation element ∷ []))
