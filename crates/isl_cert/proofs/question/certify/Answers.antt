use Rattle.std.proofs.Common.{◌≡◌, ◌+◌, refl, arith, rules, true, false, length}
use Rattle.std.proofs.lemmas.List.Elements.{All-head, All-tail}
use Rattle.std.proofs.lemmas.Result.{err_from_is_err_and}
use Rattle.isl_difference.specs.Difference.{IsCovered}
use Rattle.isl_difference.proofs.SplitLaws.{charged_within}
use Rattle.isl_difference.proofs.TameLaws.{tame_cut, tame_ok}
use Rattle.isl_ledger.specs.Difference.{IsDifferenceSystem}
use Rattle.isl_meter.proofs.CutLemmas.{IsCharged_refl}
use Rattle.isl_cert.specs.Bound.{node_limit, proof_work, question_work}
use Rattle.isl_cert.proofs.BoundLaws.{question_within, work_allowed}
use Rattle.isl_cert.proofs.CertifyLaws.{later, some_told}
use Rattle.isl_cert.proofs.question.certify.Goals as goal

pub found-requires : goal.found-requires
found-requires c =
    let g = c.args.meter.now in
    let h = c.is_left.new.meter in
    let own = charged_within g h c.args.system.now c.in_ok-left.ensures.meter c.requires.within in
    let outs = later g h c.args.outs.now c.in_ok-left.ensures.meter c.requires.outs in
    search (rules, own, outs, c.requires.columns, c.requires.plain, c.requires.plain_outs)

pub returns-then-left-clause-none : goal.returns-then-left-clause-none
returns-then-left-clause-none c =
    let yes' : c.in_ok-left.left ≡ true = grind arith in
    ((λ i. c.in_ok-left.ensures.exact.0 yes'), (λ n. refl))

pub returns-then-left-clause-tame : goal.returns-then-left-clause-tame
returns-then-left-clause-tame c = λ bits limit room all.
    let system = c.args.system.now in
    let outs = c.args.outs.now in
    let n = system.columns in
    let q = length outs in
    let own = All-head (IsDifferenceSystem n bits) system outs all in
    let others = All-tail (IsDifferenceSystem n bits) system outs all in
    let few = (c.in_ok-left.ensures.tame bits limit room own others).within.units in
    let whole = work_allowed n q in
    tame_ok (proof_work n q) c.args.meter.now c.is_left.new.meter _ _ (omega (arith, few, whole)) tt

pub returns-clause-none : goal.returns-clause-none
returns-clause-none c =
    let no : c.in_ok-left.left ≡ false = grind arith in
    some_told (IsCovered c.args.system.now c.args.outs.now) c.in_ok-cert.cert (c.in_ok-left.ensures.covered no)

pub returns-clause-refutes : goal.returns-clause-refutes
returns-clause-refutes c = c.in_ok-cert.ensures.refutes

pub returns-clause-units : goal.returns-clause-units
returns-clause-units c =
    let left = c.in_ok-left.ensures.meter.units in
    let found = c.in_ok-cert.ensures.units in
    omega (arith, left, found)

pub returns-clause-tame : goal.returns-clause-tame
returns-clause-tame c = λ bits limit room all.
    let system = c.args.system.now in
    let outs = c.args.outs.now in
    let n = system.columns in
    let q = length outs in
    let own = All-head (IsDifferenceSystem n bits) system outs all in
    let others = All-tail (IsDifferenceSystem n bits) system outs all in
    let few = (c.in_ok-left.ensures.tame bits limit room own others).within.units in
    let more = (c.in_ok-cert.ensures.tame bits all).within.units in
    let whole = work_allowed n q in
    tame_ok (proof_work n q) c.args.meter.now c.found.new.meter _ _ (omega (arith, few, more, whole)) tt

pub returns-in_err-left-clause-tame : goal.returns-in_err-left-clause-tame
returns-in_err-left-clause-tame c = λ bits limit room all.
    let g = c.args.meter.now in
    let system = c.args.system.now in
    let outs = c.args.outs.now in
    let n = system.columns in
    let q = length outs in
    let own = All-head (IsDifferenceSystem n bits) system outs all in
    let others = All-tail (IsDifferenceSystem n bits) system outs all in
    let cut = c.in_err-left.ensures.tame bits limit room own others in
    let error = err_from_is_err_and c.from_residual.result c.from_residual.ensures.1 in
    rw (error.1, error.2) (tame_cut 0 (question_work n q) (proof_work n q) g g c.is_left.new.meter _ _ c.in_err-left.field-0.0
    (IsCharged_refl g g refl) (omega arith) (question_within n q) cut)

pub returns-in_err-cert-clause-tame : goal.returns-in_err-cert-clause-tame
returns-in_err-cert-clause-tame c = λ bits limit room all.
    let g = c.args.meter.now in
    let h = c.is_left.new.meter in
    let system = c.args.system.now in
    let outs = c.args.outs.now in
    let n = system.columns in
    let q = length outs in
    let own = All-head (IsDifferenceSystem n bits) system outs all in
    let others = All-tail (IsDifferenceSystem n bits) system outs all in
    let few = (c.in_ok-left.ensures.tame bits limit room own others).within.units in
    let cut = c.in_err-cert.ensures.tame bits all in
    let error = err_from_is_err_and c.from_residual-in_err-cert.result c.from_residual-in_err-cert.ensures.1 in
    rw (error.1, error.2) (tame_cut (question_work n q) (node_limit n q + node_limit n q) (proof_work n q) g h c.found.new.meter _ _
    c.in_err-cert.field-0.0 c.in_ok-left.ensures.meter few (work_allowed n q) cut)
