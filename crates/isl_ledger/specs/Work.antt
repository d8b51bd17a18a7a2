-- public: how many units systems of difference constraints may cost. A size is a number of systems, of columns, and of bits that hold each
-- constant.
use Rattle.std.specs.Prelude.{◌≤◌, ℕ, ◌+◌, ◌*◌, ◌-◌, List, All, length}
use Rattle.isl_piece.specs.declared.system.System.{System}
use Rattle.isl_ledger.specs.Difference.{HasDifferenceRows, IsDifferenceSystem}

pub record Size : Type 0 where
  pub pieces : ℕ
  pub columns : ℕ
  pub bits : ℕ

-- at most so many systems of difference constraints, over at most so many columns, with constants of so many bits
pub record AreOfSize (size : Size) (systems : List System) : Type 0 where
  pub few : length systems ≤ size.pieces
  pub each : All (IsDifferenceSystem size.columns size.bits) systems

-- a system that the size has room for, with rows that are normal or not
pub record HasSize (size : Size) (s : System) : Type 0 where
  pub some : 1 ≤ size.pieces
  pub rows : HasDifferenceRows size.columns size.bits s

-- how many forms a column less another one has, or a column, or its negative
abbrev pub form_limit : ℕ → ℕ
form_limit c = c * (c + 1)

-- more than the rows of both kinds that hold together
abbrev pub row_limit : ℕ → ℕ
row_limit c = 2 * form_limit c + 1

-- the square of that: more than all pairs of rows
abbrev pub pair_limit : ℕ → ℕ
pair_limit c = row_limit c * row_limit c

-- what so many systems may cost to be kept: one unit each, and all pairs at each column
abbrev pub allowance : ℕ → ℕ → ℕ
allowance p c = p * (1 + c * pair_limit c)

-- ---- a drop of columns
-- the size where so many columns are taken out: each may double the constants
abbrev pub drop_size : ℕ → Size → Size
drop_size t size = record { pieces = size.pieces; columns = size.columns - t; bits = size.bits + t }

abbrev pub drop_work : ℕ → Size → ℕ
drop_work t size = size.pieces * (t * pair_limit size.columns) + allowance size.pieces size.columns
