use Rattle.std.proofs.Common.{◌≡◌, ◌*◌, ◌++◌, [], ◌∷◌, refl, arith}
use Rattle.std.proofs.lemmas.Grind.{common_steps}
use Rattle.std.proofs.lemmas.Result.{err_from_is_err_and}
use Rattle.isl_meter.proofs.CutLemmas.{charges}
use Rattle.isl_piece.specs.System.{HoldsSystem, free_columns}
use Rattle.isl_elim.specs.Sample.{IsNowhere}
use Rattle.isl_difference.proofs.LiveLaws.{pushed_differences, pushed_none}
use Rattle.isl_difference.proofs.TameLaws.{normal_rows_of, tame_cut_first, tame_memory, tame_ok}
use Rattle.isl_difference.proofs.live.push_live.Goals as goal

pub returns-in-None-clause-exact : goal.returns-in-None-clause-exact
returns-in-None-clause-exact c =
    let s = c.args.system in
    let old = c.args.systems.now.items in
    let nowhere : IsNowhere (free_columns s) (HoldsSystem s) = grind arith in
    (pushed_none c.args.meter.now s old old refl nowhere, grind (arith, charges))

pub returns-in_err-live_form-clause-tame : goal.returns-in_err-live_form-clause-tame
returns-in_err-live_form-clause-tame c = λ columns bits limit room d.
    let error = err_from_is_err_and c.from_residual.result c.from_residual.ensures.1 in
    rw (error.1, error.2) (tame_cut_first (columns * (columns * columns)) c.args.meter.now c.live_form.new.meter _ _
    c.in_err-live_form.field-0.0 (c.in_err-live_form.ensures.tame columns bits limit room (normal_rows_of columns bits c.args.system d)))

pub returns-in-None-clause-tame : goal.returns-in-None-clause-tame
returns-in-None-clause-tame c = λ columns bits limit room d.
    let asked = c.in_ok-live_form.ensures.tame columns bits limit room (normal_rows_of columns bits c.args.system d) in
    tame_ok (columns * (columns * columns)) c.args.meter.now c.live_form.new.meter _ _ asked.within.units (λ all. all)

pub returns-in_err-push-in-Some-clause-tame : goal.returns-in_err-push-in-Some-clause-tame
returns-in_err-push-in-Some-clause-tame c = λ columns bits limit room d.
    let work = columns * (columns * columns) in
    let asked = c.in_ok-live_form.ensures.tame columns bits limit room (normal_rows_of columns bits c.args.system d) in
    let error = err_from_is_err_and c.from_residual-in_err-push-in-Some.result c.from_residual-in_err-push-in-Some.ensures.1 in
    rw (error.1, error.2) (tame_memory work work c.args.meter.now c.live_form.new.meter _ asked.within.units (omega arith))

pub returns-in_ok-push-in-Some-clause-tame : goal.returns-in_ok-push-in-Some-clause-tame
returns-in_ok-push-in-Some-clause-tame c = λ columns bits limit room d.
    let old = c.args.systems.now.items in
    let part = c.in-Some.part in
    let asked = c.in_ok-live_form.ensures.tame columns bits limit room (normal_rows_of columns bits c.args.system d) in
    let system = rw c.in-Some.is at asked.answer in
    let more : c.push.new.self.items ≡ old ++ part ∷ [] = grind (arith, common_steps) in
    tame_ok (columns * (columns * columns)) c.args.meter.now c.live_form.new.meter _ _ asked.within.units
    (pushed_differences columns bits old c.push.new.self.items part more system)
