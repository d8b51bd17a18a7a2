use Rattle.std.proofs.Common.{◌≡◌, ◌∙◌, sym, arith, rules, true, length}
use Rattle.std.proofs.lemmas.Grind.{common_steps}
use Rattle.isl_difference.proofs.SplitLaws.{charged_within}
use Rattle.isl_cert.proofs.BoundLaws.{not_comparing, within_limit}
use Rattle.isl_cert.proofs.CertifyLaws.{later}
use Rattle.isl_cert.proofs.question.found.Goals as goal

pub is_proof-requires : goal.is_proof-requires
is_proof-requires c =
    let g = c.args.meter.now in
    let h = c.searched.new.meter in
    let charged = c.in_ok-cert.ensures in
    let own = charged_within g h c.args.system.now charged c.requires.within in
    let outs = later g h c.args.outs.now charged c.requires.outs in
    search (rules, own, outs, c.requires.columns, c.requires.plain, c.requires.plain_outs)

pub returns-then-are_comparing-clause-tame : goal.returns-then-are_comparing-clause-tame
returns-then-are_comparing-clause-tame c = λ bits all.
    let n = c.args.system.now.columns in
    let q = length c.args.outs.now in
    let most = c.most_nodes-most.ensures.limit in
    within_limit n q c.most_nodes-most.result c.args.meter.now c.found_within.new.meter _ c.found_within.result
    (grind (arith, common_steps, most)) c.found_within.ensures.tame

pub returns-clause-refutes : goal.returns-clause-refutes
returns-clause-refutes c =
    let yes' : c.in_ok-says.says ≡ true = grind arith in
    sym c.in_ok-says.ensures.exact ∙ yes'

pub returns-clause-units : goal.returns-clause-units
returns-clause-units c =
    let yes' : c.in_ok-says.says ≡ true = grind arith in
    let found = c.in_ok-cert.ensures.units in
    let paid = c.in_ok-says.ensures.units yes' in
    omega (arith, found, paid)

pub returns-clause-tame : goal.returns-clause-tame
returns-clause-tame c = λ bits all.
    not_comparing _ bits c.args.system.now c.args.outs.now c.are_comparing.result c.are_comparing.ensures (grind arith) all

pub returns-then-not-says-clause-tame : goal.returns-then-not-says-clause-tame
returns-then-not-says-clause-tame c = λ bits all.
    not_comparing _ bits c.args.system.now c.args.outs.now c.are_comparing.result c.are_comparing.ensures (grind arith) all

pub returns-in_err-cert-clause-tame : goal.returns-in_err-cert-clause-tame
returns-in_err-cert-clause-tame c = λ bits all.
    not_comparing _ bits c.args.system.now c.args.outs.now c.are_comparing.result c.are_comparing.ensures (grind arith) all

pub returns-in_err-says-clause-tame : goal.returns-in_err-says-clause-tame
returns-in_err-says-clause-tame c = λ bits all.
    not_comparing _ bits c.args.system.now c.args.outs.now c.are_comparing.result c.are_comparing.ensures (grind arith) all
