-- public: the system that the entries of a piece write.
use Rattle.std.specs.Prelude.{◌≡◌, ◌↔◌, ℕ, ◌+◌, ◌≤◌, ℤ, true, List, ◌++◌, All, length}
use Rattle.isl_meter.specs.Gauge.{Gauge}
use Rattle.isl_space.specs.Limits.{most_coordinates, most_parameters}
use Rattle.isl_space.specs.Valuation.{Valuation, values_of}
use Rattle.isl_piece.specs.declared.system.System.{System}
use Rattle.isl_piece.specs.System.{HoldsSystem, IsSystemWithin, free_columns}
use Rattle.isl_tree.specs.declared.tree.Entry.{Entry}
use Rattle.isl_tree.specs.declared.tree.PieceTree.{PieceTree}
use Rattle.isl_tree.specs.Known.{entries_are_known}
use Rattle.isl_tree.specs.Literal.{entry_term, piece_entries, piece_environment, EntriesEqual}
use Rattle.isl_tree.specs.Divisors.{HasDivisors}

-- there are no more parameters and coordinates than a value may have; the entries know their names, and divide by positive numbers
pub record AreFormed (params : List (List ℕ)) (piece : PieceTree) : Type 0 where
  pub few : length params ≤ most_parameters
  pub narrow : length (piece_entries piece) ≤ most_coordinates
  pub known : entries_are_known params (piece_entries piece) ≡ true
  pub divisors : All (λ entry. HasDivisors (entry_term entry)) (piece_entries piece)

-- over the parameters and the coordinates, and within the limit, the system holds exactly where each entry equals its coordinate
pub record IsTuplesSystem (g : Gauge) (params : List (List ℕ)) (piece : PieceTree) (s : System) : Type 0 where
  pub within : IsSystemWithin g s
  pub columns : free_columns s ≡ length params + length (piece_entries piece)
  pub points : (valuation : Valuation) (xs : List ℤ) → length (piece_entries piece) ≡ length xs
      → HoldsSystem s (values_of params valuation ++ xs)
      ↔ EntriesEqual (piece_entries piece) xs (piece_environment params piece xs valuation)
