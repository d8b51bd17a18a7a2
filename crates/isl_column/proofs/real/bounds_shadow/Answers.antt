use Rattle.std.proofs.Common.{arith}
use Rattle.isl_omega.specs.Sides.{AreSidesOf}
use Rattle.isl_omega.proofs.SideLemmas.{sides_are}
use Rattle.isl_shadows.proofs.RealShadowLemmas.{shadow_from_rows, shadow_from_sides}
use Rattle.isl_column.proofs.real.bounds_shadow.Goals as goal

pub returns-then-is_empty-clause-exact : goal.returns-then-is_empty-clause-exact
returns-then-is_empty-clause-exact c =
    shadow_from_rows c.args.meter.now c.real_left.new.meter c.args.column.columns c.args.column.at c.args.rows.now c.real_left.result c.requires.rows c.requires.none c.args.column.in_range c.real_left.ensures.exact

pub substituted_shadow-requires-clause-sided : goal.substituted_shadow-requires-clause-sided
substituted_shadow-requires-clause-sided c =
    let rows = c.args.rows.now in
    let sides = c.in_ok-sides.sides in
    let are : AreSidesOf rows c.args.column.at sides = grind arith in
    sides_are c.args.meter.now c.args.column.columns c.args.column.at rows sides are c.requires.rows c.requires.none

pub returns-clause-exact : goal.returns-clause-exact
returns-clause-exact c =
    let rows = c.args.rows.now in
    let sides = c.in_ok-sides.sides in
    let are : AreSidesOf rows c.args.column.at sides = grind arith in
    shadow_from_sides c.args.meter.now c.substituted_shadow.new.meter c.args.column.columns c.args.column.at rows sides c.substituted_shadow.result are c.substituted_shadow.ensures
