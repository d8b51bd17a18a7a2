use Rattle.std.proofs.Common.{◌≡◌, ◌^◌, ◌∙◌, ap, arith}
use Rattle.std.proofs.lemmas.Result.{err_from_is_err_and}
use Rattle.isl_meter.specs.Gauge.{Gauge}
use Rattle.isl_omega.specs.Congruence.{AreMergedTo}
use Rattle.isl_omega.proofs.SmallSteps.{one_up_to}
use Rattle.isl_omega.proofs.step.Progression.of.Goals as goal

pub returns-in_err-substitution-clause-no_overflow : goal.returns-in_err-substitution-clause-no_overflow
returns-in_err-substitution-clause-no_overflow c = λ bits small few.
    let g = c.args.meter.now in
    let meter : c.merged.new.meter ≡ g = grind arith in
    let merged : AreMergedTo g c.args.column.columns c.args.column.at c.args.divides.now c.in_ok-one.one c.in_ok-one.others = grind arith in
    let one = one_up_to g c.args.column.columns c.args.column.at (2 ^ 30) c.args.divides.now c.in_ok-one.one c.in_ok-one.others c.requires.some few small merged in
    let p = err_from_is_err_and c.from_residual-in_err-substitution.result c.from_residual-in_err-substitution.ensures.1 in
    rw (p.1, p.2) (c.in_err-substitution.ensures.no_overflow (ap (λ (x : Gauge). x.bits) meter ∙ bits) one)

pub returns-clause-no_overflow : goal.returns-clause-no_overflow
returns-clause-no_overflow c = λ bits small few.
    let g = c.args.meter.now in
    let meter : c.merged.new.meter ≡ g = grind arith in
    let merged : AreMergedTo g c.args.column.columns c.args.column.at c.args.divides.now c.in_ok-one.one c.in_ok-one.others = grind arith in
    let one = one_up_to g c.args.column.columns c.args.column.at (2 ^ 30) c.args.divides.now c.in_ok-one.one c.in_ok-one.others c.requires.some few small merged in
    let sizes = c.in_ok-substitution.ensures.no_overflow (ap (λ (x : Gauge). x.bits) meter ∙ bits) one in
    (one, c.in_ok-one.ensures.no_overflow few, sizes.0, sizes.1)
