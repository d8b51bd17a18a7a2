use Rattle.std.proofs.Common.{◌≡◌, ◌<◌, ◌+◌, ◌*◌, length, Some, pos, ◌<ℤ◌, ◌+ℤ◌, ◌≤ℤ◌, arith}
use Rattle.isl_meter.specs.Gauge.{IsChargedUpTo, IsCutUpTo}
use Rattle.isl_meter.proofs.UnitLemmas.{cut_weaker}
use Rattle.isl_shadows.specs.Splinters.{splinter_count}
use Rattle.isl_column.specs.Parts.{AreResidues, IsOpened, residues_most}
use Rattle.isl_shadows.specs.Residue.{residue_units}
use Rattle.isl_column.proofs.PartsLemmas.{opened_from, one_in_most}
use Rattle.isl_column.proofs.residue.Residues.next.Goals as goal

pub returns-in_err-dark_shadow-in-Some-clause-exact : goal.returns-in_err-dark_shadow-in-Some-clause-exact
returns-in_err-dark_shadow-in-Some-clause-exact c =
    let g = c.args.meter.now in
    let k = c.shadow.new.meter in
    let r = c.in-Some.residues in
    let e = c.in_err-dark_shadow-in-Some.field-0.0 in
    let old : c.args.residues.now ≡ Some r = grind arith in
    let are : AreResidues g c.args.column.columns c.args.column.at r = rw old at c.requires.residues in
    let some : pos 0 <ℤ r.left = grind arith in
    let own : IsCutUpTo (residue_units c.args.column.at r.period r.sides) g k e = grind arith in
    let cut = cut_weaker (residue_units c.args.column.at r.period r.sides) (residues_most c.args.column.at (Some r)) g k e (one_in_most g c.args.column.columns c.args.column.at r are some) own in
    grind arith

pub returns-in_ok-dark_shadow-in-Some-clause-exact : goal.returns-in_ok-dark_shadow-in-Some-clause-exact
returns-in_ok-dark_shadow-in-Some-clause-exact c =
    let g = c.args.meter.now in
    let k = c.shadow.new.meter in
    let r = c.in-Some.residues in
    let new = c.shadow.new.self in
    let dark_shadow = c.in_ok-dark_shadow-in-Some.dark_shadow in
    let old : c.args.residues.now ≡ Some r = grind arith in
    let are : AreResidues g c.args.column.columns c.args.column.at r = rw old at c.requires.residues in
    let some : pos 0 <ℤ r.left = grind arith in
    let opened : IsOpened g c.args.column.columns c.args.column.at r dark_shadow new = grind arith in
    let own : IsChargedUpTo (residue_units c.args.column.at r.period r.sides) g k = grind arith in
    let used : g.units + length r.sides.lowers * length r.sides.uppers < k.units = grind arith in
    let units : (pos k.units +ℤ splinter_count dark_shadow.tails.items) ≤ℤ (pos g.units +ℤ residue_units c.args.column.at r.period r.sides) = grind arith in
    rw old (opened_from g k c.args.column.columns c.args.column.at r new dark_shadow are some opened own.charged used units)
