use Rattle.std.proofs.Common.{◌∙◌, sym, subst, ap, arith, ◌*◌, Some, None}
use Rattle.std.proofs.lemmas.Result.{err_from_is_err_and}
use Rattle.isl_space.specs.Space.{space_form_of}
use Rattle.isl_space.specs.SpaceForm.{SpaceForm}
use Rattle.isl_piece.specs.Piece.{PieceView}
use Rattle.isl_ledger.specs.Difference.{IsDifferenceSystem}
use Rattle.isl_difference.proofs.TameLaws.{tame_cut_first, tame_memory, tame_ok}
use Rattle.isl_union.proofs.MadeLaws.{found_none, found_some, found_sound}
use Rattle.isl_elim.proofs.SpentLaws.{spent_cut, spent_memory, spent_ok}
use Rattle.isl_union.proofs.live.live_piece.Goals as goal

pub returns-in-None-clause-found : goal.returns-in-None-clause-found
returns-in-None-clause-found c params formed free =
    let nowhere = rw c.in-None.is at c.in_ok-live_system.ensures.exact.0 in
    (found_none c.args.meter.now params (space_form_of c.args.space.now) c.args.system c.requires free nowhere, tt)

pub returns-in_ok-new-in-Some-clause-found : goal.returns-in_ok-new-in-Some-clause-found
returns-in_ok-new-in-Some-clause-found c params formed free =
    let g = c.args.meter.now in
    let space = space_form_of c.args.space.now in
    let s = c.args.system in
    let t = c.in-Some.live in
    let m = c.in_ok-new-in-Some.field-0 in
    let form = rw c.in-Some.is at c.in_ok-live_system.ensures.exact.0 in
    let made = c.in_ok-new-in-Some.ensures
    ∙ ap (λ (u : SpaceForm). let p : PieceView = record { space = u; system = t } in p) c.in_ok-copy-in-Some.ensures in (
      found_some g params space s c.requires free t form.0 form.1 m made,
      found_sound g params space s c.requires free t form.0 form.1 m made formed,
    )

-- ---- of difference constraints
pub returns-in_err-live_system-clause-tame : goal.returns-in_err-live_system-clause-tame
returns-in_err-live_system-clause-tame c = λ columns bits limit room d.
    let w = columns * (columns * columns) in
    let p = err_from_is_err_and c.from_residual.result c.from_residual.ensures.1 in
    rw (p.1, p.2) (tame_cut_first w c.args.meter.now c.live_system.new.meter _ _ c.in_err-live_system.field-0.0
    (c.in_err-live_system.ensures.tame columns bits limit room d))

pub returns-in-None-clause-tame : goal.returns-in-None-clause-tame
returns-in-None-clause-tame c = λ columns bits limit room d.
    let w = columns * (columns * columns) in
    let asked = c.in_ok-live_system.ensures.tame columns bits limit room d in
    tame_ok w c.args.meter.now c.live_system.new.meter _ _ asked.within.units tt

pub returns-in_err-copy-in-Some-clause-tame : goal.returns-in_err-copy-in-Some-clause-tame
returns-in_err-copy-in-Some-clause-tame c = λ columns bits limit room d.
    let w = columns * (columns * columns) in
    let asked = c.in_ok-live_system.ensures.tame columns bits limit room d in
    let p = err_from_is_err_and c.from_residual-in_err-copy-in-Some.result c.from_residual-in_err-copy-in-Some.ensures.1 in
    rw (p.1, p.2) (tame_memory w w c.args.meter.now c.live_system.new.meter _ asked.within.units (omega arith))

pub returns-in_err-new-in-Some-clause-tame : goal.returns-in_err-new-in-Some-clause-tame
returns-in_err-new-in-Some-clause-tame c = λ columns bits limit room d.
    let w = columns * (columns * columns) in
    let asked = c.in_ok-live_system.ensures.tame columns bits limit room d in
    let p = err_from_is_err_and c.from_residual-in_err-new-in-Some.result c.from_residual-in_err-new-in-Some.ensures.1 in
    rw (p.1, p.2) (tame_memory w w c.args.meter.now c.live_system.new.meter _ asked.within.units (omega arith))

pub returns-in_ok-new-in-Some-clause-tame : goal.returns-in_ok-new-in-Some-clause-tame
returns-in_ok-new-in-Some-clause-tame c = λ columns bits limit room d.
    let w = columns * (columns * columns) in
    let asked = c.in_ok-live_system.ensures.tame columns bits limit room d in
    let found = rw c.in-Some.is at asked.answer in
    tame_ok w c.args.meter.now c.live_system.new.meter _ _ asked.within.units
    (subst (λ (p : PieceView). IsDifferenceSystem columns bits p.system) (sym c.in_ok-new-in-Some.ensures) found)

-- ---- of one column
pub returns-in_err-live_system-clause-one : goal.returns-in_err-live_system-clause-one
returns-in_err-live_system-clause-one c = λ normal is plain one.
    let p = err_from_is_err_and c.from_residual.result c.from_residual.ensures.1 in
    rw (p.1, p.2) (spent_cut normal.rows 0 c.args.meter.now c.live_system.new.meter c.in_err-live_system.field-0.0
    (c.in_err-live_system.ensures.one normal is plain one))

pub returns-in_err-copy-in-Some-clause-one : goal.returns-in_err-copy-in-Some-clause-one
returns-in_err-copy-in-Some-clause-one c = λ normal is plain one.
    let p = err_from_is_err_and c.from_residual-in_err-copy-in-Some.result c.from_residual-in_err-copy-in-Some.ensures.1 in
    rw (p.1, p.2) (spent_memory normal.rows 0 c.args.meter.now c.live_system.new.meter (Some c.in-Some.live)
    (rw c.in-Some.is at (c.in_ok-live_system.ensures.one normal is plain one)))

pub returns-in_err-new-in-Some-clause-one : goal.returns-in_err-new-in-Some-clause-one
returns-in_err-new-in-Some-clause-one c = λ normal is plain one.
    let p = err_from_is_err_and c.from_residual-in_err-new-in-Some.result c.from_residual-in_err-new-in-Some.ensures.1 in
    rw (p.1, p.2) (spent_memory normal.rows 0 c.args.meter.now c.live_system.new.meter (Some c.in-Some.live)
    (rw c.in-Some.is at (c.in_ok-live_system.ensures.one normal is plain one)))

pub returns-in-None-clause-one : goal.returns-in-None-clause-one
returns-in-None-clause-one c = λ normal is plain one.
    spent_ok normal.rows 0 c.args.meter.now c.live_system.new.meter c.in_ok-live_system.field-0 None
    (c.in_ok-live_system.ensures.one normal is plain one)

pub returns-in_ok-new-in-Some-clause-one : goal.returns-in_ok-new-in-Some-clause-one
returns-in_ok-new-in-Some-clause-one c = λ normal is plain one.
    spent_ok normal.rows 0 c.args.meter.now c.live_system.new.meter c.in_ok-live_system.field-0 (Some c.in_ok-new-in-Some.field-0)
    (c.in_ok-live_system.ensures.one normal is plain one)
