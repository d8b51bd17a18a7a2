use Rattle.std.proofs.Common.{◌≡◌, [], refl, arith}
use Rattle.isl_shadows.proofs.EliminateLemmas.{step_none}
use Rattle.isl_column.proofs.parts.without_congruences.Goals as goal

pub returns-then-is_empty-clause-exact : goal.returns-then-is_empty-clause-exact
returns-then-is_empty-clause-exact c =
    let none : c.args.sides.divides ≡ [] = grind arith in
    (step_none c.args.meter.now c.args.column.columns c.args.column.at c.args.sides c.requires.sided none, refl)
