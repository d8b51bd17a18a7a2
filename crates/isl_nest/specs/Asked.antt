-- public: rows that are asked in front of a loop. (isl manual, on simplification in a context)
use Rattle.std.specs.Prelude.{◌≡◌, ℕ, ℤ, List, [], ◌∷◌, ◌++◌, All, Contains, length}
use Rattle.isl_piece.specs.declared.row.Row.{Row}
use Rattle.isl_piece.specs.System.{HoldRows}

-- Some of the rows over so many variables. Where the context and the rows that are asked hold, and behind them the rows inside hold at a
-- number of one variable more, all of the rows hold.
pub record AreAsked (variables : ℕ) (context inside rows asked : List Row) : Type 0 where
  pub each : All (Contains rows) asked
  pub points : (point : List ℤ) (x : ℤ) → length point ≡ variables → HoldRows context point → HoldRows inside (point ++ x ∷ [])
      → HoldRows asked point → HoldRows rows point
