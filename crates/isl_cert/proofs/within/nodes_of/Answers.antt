use Rattle.std.proofs.Common.{◌≡◌, ◌≤◌, ◌∙◌, ap, arith, rules, sym, true}
use Rattle.std.proofs.lemmas.Grind.{common_steps}
use Rattle.isl_meter.specs.Gauge.{Gauge}
use Rattle.isl_cert.proofs.WithinLaws.{all_within_own, within_own}
use Rattle.isl_cert.proofs.within.nodes_of.Goals as goal

pub check-requires : goal.check-requires
check-requires c =
    let g = c.args.meter.now in
    let few : g.bits ≤ 127 = c.limit-limit.ensures.bits_high in
    let is : c.new-own.result.bits ≡ 127 = ap (λ (m : Gauge). m.bits) c.new-own.ensures in
    let own = within_own g c.new-own.result c.args.system.now few is c.requires.plain c.requires.within in
    let outs = all_within_own g c.new-own.result c.args.outs.now few is c.requires.plain_outs c.requires.outs in
    search (rules, own, outs, c.requires.columns, c.requires.plain, c.requires.plain_outs)

pub returns-clause-count : goal.returns-clause-count
returns-clause-count c =
    let yes' : c.in-Ok.yes ≡ true = grind arith in
    let whole = c.in-Ok.ensures.whole yes' in
    let units = c.in-Ok.ensures.units in
    let none = ap (λ (m : Gauge). m.units) c.new-own.ensures in
    let most = ap (λ (m : Gauge). m.budget) c.new-own.ensures in
    grind (arith, common_steps, whole, units, none, most)

pub returns-clause-refutes : goal.returns-clause-refutes
returns-clause-refutes c =
    let yes' : c.in-Ok.yes ≡ true = grind arith in
    sym c.in-Ok.ensures.exact ∙ yes'
