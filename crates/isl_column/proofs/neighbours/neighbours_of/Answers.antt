use Rattle.std.proofs.Common.{◌≡◌, [], length, arith}
use Rattle.std.proofs.lemmas.Grind.{common_steps}
use Rattle.isl_shadows.proofs.SearchLemmas.{met_empty, met_alone}
use Rattle.isl_column.proofs.neighbours.neighbours_of.Goals as goal

pub returns-then-is_empty-clause-met : goal.returns-then-is_empty-clause-met
returns-then-is_empty-clause-met c =
    let none : c.args.rows.now ≡ [] = grind (arith, common_steps) in
    (met_empty c.args.column.columns c.args.column.at c.args.rows.now none).0

pub returns-then-rows-eq1-clause-met : goal.returns-then-rows-eq1-clause-met
returns-then-rows-eq1-clause-met c =
    let one : length c.args.rows.now ≡ 1 = grind (arith, common_steps) in
    (met_alone c.args.meter.now c.args.column.columns c.args.column.at c.args.rows.now c.args.column.in_range one c.requires.not_divides).0

pub returns-then-rows-eq1-clause-few : goal.returns-then-rows-eq1-clause-few
returns-then-rows-eq1-clause-few c =
    let one : length c.args.rows.now ≡ 1 = grind (arith, common_steps) in
    (met_alone c.args.meter.now c.args.column.columns c.args.column.at c.args.rows.now c.args.column.in_range one c.requires.not_divides).1
