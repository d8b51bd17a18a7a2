use Rattle.std.proofs.Common.{◌≡◌, [], arith}
use Rattle.std.proofs.lemmas.Grind.{common_steps}
use Rattle.isl_omega.specs.Magnitude.{substituted_magnitude}
use Rattle.isl_shadows.specs.Mirror.{AskForFewer, mirrored}
use Rattle.isl_shadows.proofs.SearchLemmas.{met_none}
use Rattle.isl_column.proofs.DarkShadowLemmas.{mirrored_done}
use Rattle.isl_shadows.proofs.MirrorLaws.{sided_mirrored, up_to_mirrored_sides}
use Rattle.isl_column.proofs.dark_shadow.DarkShadow.cheaper.Goals as goal

pub closed-requires-clause-sided : goal.closed-requires-clause-sided
closed-requires-clause-sided c =
    let sides = c.args.sides.now in
    let at = c.args.column.at in
    let same : c.ask_for_fewer.new.meter ≡ c.args.meter.now = grind (arith, common_steps) in
    let is : c.in_ok-mirrored.mirrored ≡ mirrored at sides = grind (arith, common_steps) in
    rw (same, is) (sided_mirrored c.args.meter.now c.args.column.columns at sides c.args.column.in_range c.requires.sided)

pub closed-requires-clause-not_divides : goal.closed-requires-clause-not_divides
closed-requires-clause-not_divides c =
    let sides = c.args.sides.now in
    let at = c.args.column.at in
    let is : c.in_ok-mirrored.mirrored ≡ mirrored at sides = grind (arith, common_steps) in
    let none : sides.not_divides ≡ [] = grind (arith, common_steps) in
    rw (is, none) (met_none c.args.column.columns at)

pub returns-then-branch-clause-exact : goal.returns-then-branch-clause-exact
returns-then-branch-clause-exact c =
    let sides = c.args.sides.now in
    let at = c.args.column.at in
    let same : c.ask_for_fewer.new.meter ≡ c.args.meter.now = grind (arith, common_steps) in
    let is : c.in_ok-mirrored.mirrored ≡ mirrored at sides = grind (arith, common_steps) in
    let none : sides.not_divides ≡ [] = grind (arith, common_steps) in
    let fewer : AskForFewer at sides.lowers sides.uppers = grind (arith, common_steps) in
    mirrored_done c.args.meter.now c.closed.new.meter c.args.column.columns at c.args.neighbours sides c.in_ok-mirrored.mirrored c.closed.result c.requires.not_divides.not_negative is c.args.column.in_range
    c.requires.sided c.requires.divides none c.requires.uppers fewer (rw same at c.closed.ensures.exact)

pub returns-then-branch-clause-no_overflow : goal.returns-then-branch-clause-no_overflow
returns-then-branch-clause-no_overflow c = λ bits small one.
    let sides = c.args.sides.now in
    let at = c.args.column.at in
    let same : c.ask_for_fewer.new.meter ≡ c.args.meter.now = grind (arith, common_steps) in
    let is : c.in_ok-mirrored.mirrored ≡ mirrored at sides = grind (arith, common_steps) in
    c.closed.ensures.no_overflow (rw same bits) (rw is (up_to_mirrored_sides substituted_magnitude at sides small)) (omega arith)
