use Rattle.std.proofs.Common.{◌≡◌, ◌*◌, None, Some, pos, ◌<ℤ◌, refl, length, arith}
use Rattle.isl_meter.specs.Gauge.{IsChargedUpTo, IsCutUpTo}
use Rattle.isl_meter.proofs.UnitLemmas.{cut_weaker, memory_after}
use Rattle.isl_omega.proofs.ExactUnits.{charged_up_to}
use Rattle.isl_column.specs.DarkShadow.{IsDarkShadowOf}
use Rattle.isl_shadows.specs.Splinters.{HasFewSplinters}
use Rattle.isl_shadows.specs.Neighbours.{IsMetWithin}
use Rattle.isl_omega.specs.Congruence.{product_of_periods}
use Rattle.isl_math.proofs.Ring.{linear}
use Rattle.isl_column.specs.Parts.{PartsView, AreResidues}
use Rattle.isl_shadows.specs.Residue.{HasNumber, shadow_units, sides_units}
use Rattle.isl_column.proofs.PartsLemmas.{IsResidual, shadow_begun, residues_begun, residues_paid, least_of_residues}
use Rattle.isl_shadows.proofs.UnitLemmas.{shadow_cut, shadow_in_sides, sides_units_not_negative}
use Rattle.isl_column.proofs.DarkShadowLemmas.{shadow_within}
use Rattle.isl_column.proofs.parts.Parts.of_sides.Goals as goal

-- no unit was used where memory ended
pub returns-in_err-neighbours-clause-exact : goal.returns-in_err-neighbours-clause-exact
returns-in_err-neighbours-clause-exact c =
    let g = c.args.meter.now in
    let s = c.args.sides in
    let cut = memory_after (sides_units c.args.column.at s) g g (sides_units_not_negative g c.args.column.columns c.args.column.at s c.requires.sided) refl in
    grind arith

pub returns-in_err-dark_shadow-clause-exact : goal.returns-in_err-dark_shadow-clause-exact
returns-in_err-dark_shadow-clause-exact c =
    let g = c.args.meter.now in
    let k = c.of.new.meter in
    let s = c.args.sides in
    let at = c.args.column.at in
    let e = c.in_err-dark_shadow.field-0.0 in
    let n = c.in-Some.neighbours in
    let met : IsMetWithin c.args.column.columns at s.not_divides n = grind arith in
    let few : n <ℤ product_of_periods at s.not_divides = grind arith in
    let own : IsCutUpTo (pos (length s.lowers * length s.uppers)) g k e = grind arith in
    let least = shadow_in_sides g c.args.column.columns at n s c.requires.sided few in
    let cut = cut_weaker (shadow_units n at s) (sides_units at s) g k e least (shadow_cut g k c.args.column.columns at n s e met.not_negative c.requires.sided own) in
    grind arith

pub returns-in-Some-clause-exact : goal.returns-in-Some-clause-exact
returns-in-Some-clause-exact c =
    let g = c.args.meter.now in
    let h = c.of.new.meter in
    let s = c.args.sides in
    let col = c.args.column.at in
    let n = c.in-Some.neighbours in
    let dark_shadow = c.in_ok-dark_shadow.dark_shadow in
    let parts : PartsView = record { column = c.args.column; dark_shadow = dark_shadow; residues = None } in
    let few : n <ℤ product_of_periods col s.not_divides = grind arith in
    let is : IsDarkShadowOf g c.args.column.columns col s dark_shadow = grind arith in
    let splinters : HasFewSplinters n col s dark_shadow.tails.items = grind arith in
    let own : IsChargedUpTo (pos (length s.lowers * length s.uppers)) g h = charged_up_to (length s.lowers * length s.uppers) g h (grind arith) in
    let least = shadow_in_sides g c.args.column.columns col n s c.requires.sided few in
    let units = shadow_within g h c.args.column.columns col n s dark_shadow c.requires.sided is splinters own in
    shadow_begun (sides_units col s) g h c.args.column.columns col (HasNumber s col) parts refl refl refl is.is_dark_shadow (λ point n. let p = is.points point n in (p.1, p.0)) own.charged (omega (arith, linear))

pub returns-in_err-residues-clause-exact : goal.returns-in_err-residues-clause-exact
returns-in_err-residues-clause-exact c =
    let g = c.args.meter.now in
    let k = c.of-2.new.meter in
    let s = c.args.sides in
    let e = c.in_err-residues.field-0.0 in
    let own : IsCutUpTo (pos 0) g k e = grind arith in
    let cut : IsCutUpTo (sides_units c.args.column.at s) g k e = cut_weaker (pos 0) (sides_units c.args.column.at s) g k e (sides_units_not_negative g c.args.column.columns c.args.column.at s c.requires.sided) own in
    grind arith

pub returns-clause-exact : goal.returns-clause-exact
returns-clause-exact c =
    let g = c.args.meter.now in
    let s = c.args.sides in
    let col = c.args.column.at in
    let r = c.in_ok-residues.residues in
    let head = c.head-parts.result in
    let parts : PartsView = record { column = head.column; dark_shadow = head.dark_shadow; residues = Some r } in
    let same : c.of-2.new.meter ≡ g = grind arith in
    let are : AreResidues g c.args.column.columns col r = grind arith in
    let sides : r.sides ≡ s = grind arith in
    let left : r.left ≡ r.period = grind arith in
    let is : IsResidual c.args.column.columns col r parts = record {
      columns = c.head-parts.ensures.column.0;
      col = c.head-parts.ensures.column.1;
      rows = c.head-parts.ensures.rows;
      head = c.head-parts.ensures.alone.head;
      tails = c.head-parts.ensures.alone.tails;
      residues = refl;
    } in
    rw same (residues_begun g c.args.column.columns col s r parts is c.requires.sided are sides left)

pub returns-clause-pairs : goal.returns-clause-pairs
returns-clause-pairs c =
    let g = c.args.meter.now in
    let s = c.args.sides in
    let r = c.in_ok-residues.residues in
    let same : c.of-2.new.meter ≡ g = grind arith in
    let are : AreResidues g c.args.column.columns c.args.column.at r = grind arith in
    let sides : r.sides ≡ s = grind arith in
    let left : r.left ≡ r.period = grind arith in
    let head = c.head-parts.result in
    let parts : PartsView = record { column = head.column; dark_shadow = head.dark_shadow; residues = Some r } in
    let owed = least_of_residues parts c.head-parts.ensures.alone.head c.head-parts.ensures.alone.tails in
    let least = residues_paid g c.args.column.columns c.args.column.at s r are sides left in
    rw same (omega arith)
