-- public: the points of a system that begin with given numbers. (isl manual, on the points of a set, one after another)
use Rattle.std.specs.Prelude.{◌≡◌, ◌↔◌, ◌+◌, ℤ, List, ◌++◌, length, AllPairs, Contains}
use Rattle.isl_math.specs.Order.{IsBefore}
use Rattle.isl_piece.specs.declared.system.System.{System}
use Rattle.isl_piece.specs.System.{HoldsSystem, free_columns}

-- what is left of the points that begin with the numbers: exactly those lists that make a point behind them, in lexicographic order,
-- each once
pub record ArePointsAt (s : System) (numbers : List ℤ) (points : List (List ℤ)) : Type 0 where
  pub exact : (rest : List ℤ) → Contains points rest
      ↔ ((length numbers + length rest ≡ free_columns s) × HoldsSystem s (numbers ++ rest))
  pub ordered : AllPairs IsBefore points
