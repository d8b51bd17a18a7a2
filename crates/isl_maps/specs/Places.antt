-- inner: where columns stand when they are moved, and systems whose columns stand there.
use Rattle.std.specs.Prelude.{ℕ, ◌+◌, ◌-◌, List, ◌++◌}
use Rattle.std.specs.List.{range_with_len}
use Rattle.isl_piece.specs.declared.system.System.{System}
use Rattle.isl_piece.specs.Placed.{placed_system}
use Rattle.isl_piece.specs.System.{free_columns}

-- so many columns at their own places, and behind them two runs of columns, exchanged
abbrev pub exchanged_places : ℕ → ℕ → ℕ → List ℕ
exchanged_places before first second = range_with_len 0 before ++ (range_with_len (before + second) first ++ range_with_len before second)

-- the system with two runs of its free columns exchanged, which stand behind the first ones and before the last
unfoldable pub exchanged_system : ℕ → ℕ → ℕ → System → System
exchanged_system before first second s =
    let exchanged = before + (first + second) in
    placed_system (free_columns s) (exchanged_places before first second ++ range_with_len exchanged (free_columns s - exchanged)) s
