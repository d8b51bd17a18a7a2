-- public: what may be left of systems of difference constraints without others, and within how many units. (Miné, difference-bound matrices;
-- isl manual, on subtracting sets)
use Rattle.std.specs.Prelude.{◌≡◌, ◌⊎◌, ◌<◌, ◌≤◌, ℕ, ◌+◌, ◌*◌, ◌^◌, [], All, IfSome, length}
use Rattle.isl_piece.specs.declared.system.System.{System}
use Rattle.isl_piece.specs.Normal.{IsNormal, normal_rows}
use Rattle.isl_ledger.specs.Difference.{IsDifferenceRow}
use Rattle.isl_ledger.specs.Work.{Size, row_limit}

-- a system over at most so many columns, of which none is defined, whose normal rows are difference constraints, where none of its rows
-- holds nowhere
pub record HasNormalDifferences (columns bits : ℕ) (s : System) : Type 0 where
  pub narrow : s.columns ≤ columns
  pub undefined : s.definitions ≡ []
  pub rows : IfSome (normal_rows s.rows) (All (IsDifferenceRow bits))

-- rows that are difference constraints, and are normal, or no more than normal ones are that hold together
pub record HasFewDifferences (columns bits : ℕ) (s : System) : Type 0 where
  pub narrow : s.columns ≤ columns
  pub undefined : s.definitions ≡ []
  pub rows : All (IsDifferenceRow bits) s.rows
  pub few : IsNormal s.rows ⊎ (length s.rows < row_limit columns)

-- a unit, and a test of one system
abbrev pub test_work : ℕ → ℕ
test_work columns = 1 + columns * (columns * columns)

-- how many systems may be left of one without so many others: for each row of another one two, one on either side
abbrev pub part_limit : ℕ → ℕ → ℕ
part_limit columns others = (2 * row_limit columns) ^ others

-- what may be left of a system without so many others with constants of so many bits: a negated bound has one bit more
abbrev pub left_size : ℕ → ℕ → ℕ → Size
left_size columns bits others = record { pieces = part_limit columns others; columns = columns; bits = bits + 1 }

-- each system that is left at any time, with the unit and the test that keep it
abbrev pub left_work : ℕ → ℕ → ℕ
left_work columns others = 2 * (part_limit columns others * test_work columns)
