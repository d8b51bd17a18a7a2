-- public: what a turn of a loop counts, where its body runs under rows.
use Rattle.std.specs.Prelude.{ℕ, ◌+◌, ℤ, if◌then◌else◌, List, []}
use Rattle.isl_piece.specs.declared.row.Row.{Row}
use Rattle.isl_loop.specs.declared.tree.Loop.{Loop}
use Rattle.isl_loop.specs.Run.{idle_of, idle_turn, rows_hold, trace, turns_of}

-- itself, and the turns of the body
abbrev pub turns_at_turn : List Row → Loop → List ℤ → ℕ
turns_at_turn rows body point = 1 + (if rows_hold rows point then turns_of body point else 0)

-- itself, where nothing is called, and those of the body
abbrev pub idle_at_turn : List Row → Loop → List ℤ → ℕ
idle_at_turn rows body point =
    idle_turn (if rows_hold rows point then trace body point else []) + (if rows_hold rows point then idle_of body point else 0)
