use Rattle.std.proofs.Common.{◌≡◌, ◌++◌, ◌∷◌, [], true, arith}
use Rattle.isl_omega.specs.Column.{dropped}
use Rattle.isl_omega.specs.Sides.{is_same, side_of}
use Rattle.isl_omega.specs.declared.sides.Side.TheVariants.{Free}
use Rattle.isl_omega.proofs.ColumnLemmas.{row_within_dropped}
use Rattle.isl_shadows.proofs.ExactLemmas.{added_one}
use Rattle.isl_column.proofs.exact.push_row.Goals as goal

pub returns-in_ok-push : goal.returns-in_ok-push
returns-in_ok-push c =
    let row = c.args.row.now in
    let free : is_same Free (side_of c.args.column.at row) ≡ true = grind arith in
    let pushed : c.push.new.self ≡ c.args.short.now ++ dropped row c.args.column.at ∷ [] = grind arith in
    rw free (added_one c.args.meter.now c.args.column.at row c.args.short.now c.push.new.self pushed (row_within_dropped c.args.meter.now c.args.column.at row c.requires.row.within))
