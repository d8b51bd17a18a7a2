use Rattle.std.proofs.Common.{map, rules}
use Rattle.isl_refute.proofs.CertifiedLaws.{answer_shown, budget_told, exact_told, meter_told, overflow_told, own_facts, own_outs}
use Rattle.isl_refute.proofs.CertifiedLaws.{sound_told, units_told, whole_told}
use Rattle.isl_refute.proofs.CheckLaws.{plus_few}
use Rattle.isl_refute.proofs.VisitedLaws.{visited_most}
use Rattle.isl_refute.specs.Refutes.{rows_of}
use Rattle.isl_refute.specs.Visited.{visited}
use Rattle.isl_refute.proofs.checker.check.Goals as goal

pub refute-requires : goal.refute-requires
refute-requires c =
    let g = c.args.meter.now in
    let facts = own_facts g c.args.system.now c.requires.within in
    let outs = own_outs g c.args.system.now.columns c.args.outs.now c.requires.outs_within c.requires.columns in
    search (rules, facts, outs, c.in_ok-rows.ensures)

pub returns-clause-exact : goal.returns-clause-exact
returns-clause-exact c =
    let g = c.args.meter.now in
    let h = c.refute.new.meter in
    exact_told g h c.args.system.now c.args.outs.now c.args.cert.now c.refute.result
    (answer_shown g h c.args.system.now c.args.outs.now c.args.cert.now c.in_ok-rows.rows c.refute.result c.in_ok-rows.ensures
    c.refute.ensures.checked)

pub returns-clause-sound : goal.returns-clause-sound
returns-clause-sound c =
    let g = c.args.meter.now in
    let h = c.refute.new.meter in
    sound_told g h c.args.system.now c.args.outs.now c.args.cert.now c.refute.result c.requires.within c.requires.outs_within
    c.requires.columns c.requires.plain c.requires.plain_outs
    (answer_shown g h c.args.system.now c.args.outs.now c.args.cert.now c.in_ok-rows.rows c.refute.result c.in_ok-rows.ensures
    c.refute.ensures.checked)

pub returns-clause-units : goal.returns-clause-units
returns-clause-units c =
    let g = c.args.meter.now in
    let h = c.refute.new.meter in
    units_told g h c.args.system.now c.args.outs.now c.args.cert.now c.refute.result
    (answer_shown g h c.args.system.now c.args.outs.now c.args.cert.now c.in_ok-rows.rows c.refute.result c.in_ok-rows.ensures
    c.refute.ensures.checked)

pub returns-in_err-rows-clause-units : goal.returns-in_err-rows-clause-units
returns-in_err-rows-clause-units c =
    let few = plus_few c.args.meter.now.units
    (visited (map rows_of c.args.outs.now) c.args.system.now.columns c.args.system.now.rows c.args.cert.now) in
    search (rules, few)

pub returns-in_err-rows-clause-most : goal.returns-in_err-rows-clause-most
returns-in_err-rows-clause-most c =
    visited_most (map rows_of c.args.outs.now) c.args.cert.now c.args.system.now.columns c.args.system.now.rows

pub returns-clause-most : goal.returns-clause-most
returns-clause-most c =
    visited_most (map rows_of c.args.outs.now) c.args.cert.now c.args.system.now.columns c.args.system.now.rows

pub returns-clause-whole : goal.returns-clause-whole
returns-clause-whole c =
    let g = c.args.meter.now in
    let h = c.refute.new.meter in
    whole_told g h c.args.system.now c.args.outs.now c.args.cert.now c.refute.result
    (answer_shown g h c.args.system.now c.args.outs.now c.args.cert.now c.in_ok-rows.rows c.refute.result c.in_ok-rows.ensures
    c.refute.ensures.checked)

pub returns-clause-meter : goal.returns-clause-meter
returns-clause-meter c =
    let g = c.args.meter.now in
    let h = c.refute.new.meter in
    meter_told g h c.args.system.now c.args.outs.now c.args.cert.now c.refute.result
    (answer_shown g h c.args.system.now c.args.outs.now c.args.cert.now c.in_ok-rows.rows c.refute.result c.in_ok-rows.ensures
    c.refute.ensures.checked)

pub returns-clause-budget : goal.returns-clause-budget
returns-clause-budget c =
    let g = c.args.meter.now in
    let h = c.refute.new.meter in
    budget_told g h c.args.system.now c.args.outs.now c.args.cert.now c.refute.result
    (answer_shown g h c.args.system.now c.args.outs.now c.args.cert.now c.in_ok-rows.rows c.refute.result c.in_ok-rows.ensures
    c.refute.ensures.checked)

pub returns-clause-overflow : goal.returns-clause-overflow
returns-clause-overflow c =
    let g = c.args.meter.now in
    let h = c.refute.new.meter in
    overflow_told g h c.args.system.now c.args.outs.now c.args.cert.now c.refute.result
    (answer_shown g h c.args.system.now c.args.outs.now c.args.cert.now c.in_ok-rows.rows c.refute.result c.in_ok-rows.ensures
    c.refute.ensures.checked)
