-- public: what towers weigh, as the memory tells that they take.
use Rattle.std.specs.Prelude.{ℕ, ◌+◌, List, length, sum_by}
use Rattle.isl_piece.specs.declared.system.System.{System}

-- how many rows the systems of a level have, and one more for each
abbrev pub level_weight : List System → ℕ
level_weight systems = sum_by (λ s. length s.rows + 1) systems

-- the same of all levels
abbrev pub tower_weight : List (List System) → ℕ
tower_weight levels = sum_by level_weight levels
