use Rattle.std.proofs.Common.{◌≡◌, length, map}
use Rattle.clap.specs.Words.{app_of}
use Rattle.isl_words.specs.Taken.{with_rows}
use Rattle.isl_words.proofs.command.with_options.Given as goal

abbrev pub invariant-loop-rows : goal.invariant-loop-rows
invariant-loop-rows l =
    with_rows (app_of l.command) (map (λ row. (row.0.now, row.1)) l.rows)
    ≡ with_rows (app_of l.initial.command) (map (λ row. (row.0.now, row.1)) l.initial.rows)

abbrev pub decreases-loop-rows : goal.decreases-loop-rows
decreases-loop-rows l = length l.rows
