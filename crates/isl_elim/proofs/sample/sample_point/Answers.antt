use Rattle.std.proofs.Common.{◌≡◌, ◌*◌, arith}
use Rattle.std.proofs.lemmas.Result.{err_from_is_err_and}
use Rattle.isl_elim.proofs.TameLaws.{tame_ok, tame_cut, cube_more}
use Rattle.isl_elim.proofs.TameSystems.{plain_of_one, room_left}
use Rattle.isl_elim.proofs.sample.sample_point.Goals as goal

pub returns-in_err-rows-clause-tame : goal.returns-in_err-rows-clause-tame
returns-in_err-rows-clause-tame c = λ size full room of.
    let s = c.args.system.now in
    let own = c.in_err-rows.ensures.tame.tame size.bits full (room_left size s of (omega arith)) (plain_of_one size s of) in
    let p = err_from_is_err_and c.from_residual.result c.from_residual.ensures.1 in
    rw (p.1, p.2) (tame_cut 0 (size.columns * (size.columns * size.columns)) c.args.meter.now c.opened.new.meter _ (λ _. Unit {0})
    c.in_err-rows.field-0.0 (omega arith) own)

pub returns-in_err-sample_rows-clause-tame : goal.returns-in_err-sample_rows-clause-tame
returns-in_err-sample_rows-clause-tame c = λ size full room of.
    let s = c.args.system.now in
    let same : c.opened.new.meter ≡ c.args.meter.now = c.in_ok-rows.ensures.exact.1 in
    let rest = room_left size s of (omega arith) in
    let own = (c.in_ok-rows.ensures.tame.tame size.bits full rest (plain_of_one size s of)).answer in
    let tested = (rw same at c.in_err-sample_rows.ensures.tame).tame size.bits full rest (rw c.in-Some.is at own) in
    let p = err_from_is_err_and c.from_residual-in_err-sample_rows.result c.from_residual-in_err-sample_rows.ensures.1 in
    rw (p.1, p.2) (tame_cut (s.columns * (s.columns * s.columns)) (size.columns * (size.columns * size.columns)) c.args.meter.now
    c.sample_rows.new.meter _ (λ _. Unit {0}) c.in_err-sample_rows.field-0.0 (cube_more s.columns size.columns of.rows.narrow) tested)

pub returns-in-None-clause-tame : goal.returns-in-None-clause-tame
returns-in-None-clause-tame c = λ size full room of.
    let s = c.args.system.now in
    let same : c.opened.new.meter ≡ c.args.meter.now = c.in_ok-rows.ensures.exact.1 in
    let rest = room_left size s of (omega arith) in
    let own = (c.in_ok-rows.ensures.tame.tame size.bits full rest (plain_of_one size s of)).answer in
    let tested = (rw same at c.in_ok-sample_rows.ensures.tame).tame size.bits full rest (rw c.in-Some.is at own) in
    tame_ok (size.columns * (size.columns * size.columns)) c.args.meter.now c.sample_rows.new.meter (λ _. Unit {0}) _
    (let u = tested.within.units in let m = cube_more s.columns size.columns of.rows.narrow in omega arith) tt

pub returns-in-Some-2-clause-tame : goal.returns-in-Some-2-clause-tame
returns-in-Some-2-clause-tame c = λ size full room of.
    let s = c.args.system.now in
    let same : c.opened.new.meter ≡ c.args.meter.now = c.in_ok-rows.ensures.exact.1 in
    let rest = room_left size s of (omega arith) in
    let own = (c.in_ok-rows.ensures.tame.tame size.bits full rest (plain_of_one size s of)).answer in
    let tested = (rw same at c.in_ok-sample_rows.ensures.tame).tame size.bits full rest (rw c.in-Some.is at own) in
    tame_ok (size.columns * (size.columns * size.columns)) c.args.meter.now c.sample_rows.new.meter (λ _. Unit {0}) _
    (let u = tested.within.units in let m = cube_more s.columns size.columns of.rows.narrow in omega arith) tt
