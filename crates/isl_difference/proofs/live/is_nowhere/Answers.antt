use Rattle.std.proofs.Common.{◌≡◌, ◌*◌, not, arith}
use Rattle.std.specs.Prelude.{is_some, ⊤}
use Rattle.std.proofs.lemmas.Result.{err_from_is_err_and}
use Rattle.isl_difference.proofs.LiveLaws.{asked_form}
use Rattle.isl_difference.proofs.TameLaws.{normal_rows_of, tame_cut_first, tame_ok}
use Rattle.isl_difference.proofs.live.is_nowhere.Goals as goal

pub returns-clause-exact : goal.returns-clause-exact
returns-clause-exact c =
    let found = c.in_ok-live_form.ensures.exact in
    let none : is_some c.in_ok-live_form.field-0 ≡ not c.is_none.result = grind arith in
    (asked_form c.args.meter.now c.args.system c.in_ok-live_form.field-0 c.is_none.result none found.0, found.1)

pub returns-in_err-live_form-clause-tame : goal.returns-in_err-live_form-clause-tame
returns-in_err-live_form-clause-tame c = λ columns bits limit room d.
    let error = err_from_is_err_and c.from_residual.result c.from_residual.ensures.1 in
    rw (error.1, error.2) (tame_cut_first (columns * (columns * columns)) c.args.meter.now c.live_form.new.meter _ (λ _. ⊤)
    c.in_err-live_form.field-0.0 (c.in_err-live_form.ensures.tame columns bits limit room (normal_rows_of columns bits c.args.system d)))

pub returns-clause-tame : goal.returns-clause-tame
returns-clause-tame c = λ columns bits limit room d.
    let asked = c.in_ok-live_form.ensures.tame columns bits limit room (normal_rows_of columns bits c.args.system d) in
    tame_ok (columns * (columns * columns)) c.args.meter.now c.live_form.new.meter (λ _. ⊤) c.is_none.result asked.within.units tt
