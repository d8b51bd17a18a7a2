use Rattle.std.proofs.Common.{◌*◌, length, IsTrue, arith, pos}
use Rattle.std.specs.List.{AllZip}
use Rattle.isl_meter.proofs.UnitLemmas.{charged_bits}
use Rattle.isl_omega.specs.Shadow.{IsShadow, AreSplintersOf}
use Rattle.isl_omega.proofs.ExactUnits.{charged_up_to}
use Rattle.isl_omega.proofs.CapLemmas.{shadow_empty, least_kept}
use Rattle.isl_omega.proofs.shadow.shadow.Goals as goal

pub returns-then-never-clause-exact : goal.returns-then-never-clause-exact
returns-then-never-clause-exact c =
    let g = c.args.meter.now in
    let h = c.pairs_of.new.meter in
    let lowers = c.args.lowers.now in
    let uppers = c.args.uppers.now.rows.now in
    let n = length lowers * length uppers in
    let made = c.in_ok-rows.ensures.exact in
    let bits = charged_bits (pos n) g h (charged_up_to n g h made.1) in
    let zip : AllZip (AreSplintersOf h c.args.uppers.now.column.at c.args.uppers.now.neighbours uppers) lowers c.in_ok-least.least.items = c.in_ok-least.ensures.exact.0 uppers in
    let is : IsShadow g c.args.uppers.now.column.columns c.args.uppers.now.column.at c.args.uppers.now.neighbours lowers uppers c.in_ok-rows.field-0.rows c.in_ok-rows.field-0.tails.items = grind arith in
    let yes : IsTrue c.in_ok-rows.field-0.never = grind arith in (
      shadow_empty g c.args.uppers.now.column.columns c.args.uppers.now.column.at c.args.uppers.now.neighbours lowers uppers c.in_ok-rows.field-0.rows c.in_ok-rows.field-0.tails.items c.in_ok-least.least.items is (made.0.1 yes) (least_kept g h c.args.uppers.now.column.at c.args.uppers.now.neighbours uppers lowers c.in_ok-least.least.items bits zip),
      grind arith,
    )
