use Rattle.std.proofs.Common.{◌≡◌, ◌*◌, [], arith}
use Rattle.std.proofs.lemmas.Result.{err_from_is_err_and}
use Rattle.isl_ledger.proofs.AnsweredLaws.{tame_more}
use Rattle.isl_elim.proofs.TameLaws.{tame_cut, cube_more, some_cubes}
use Rattle.isl_elim.proofs.TameSystems.{plain_of_one, room_left}
use Rattle.isl_meter.specs.Gauge.{IsCharged, IsCutBy}
use Rattle.isl_piece.specs.System.{HoldsSystem, free_columns}
use Rattle.isl_presolve.specs.Emptiness.{HoldNowhere}
use Rattle.isl_elim.specs.Sample.{IsNowhere}
use Rattle.isl_elim.proofs.OpenedLaws.{decided, plain_nowhere, rows_opened_nowhere}
use Rattle.isl_elim.proofs.emptiness.is_empty.Goals as goal

pub returns-then-is_empty-clause-exact : goal.returns-then-is_empty-clause-exact
returns-then-is_empty-clause-exact c =
    let g = c.args.meter.now in
    let h = c.column_nowhere.new.meter in
    let system = c.args.system.now in
    let one : system.columns ≡ 1 = grind arith in
    let plain : system.definitions ≡ [] = grind arith in
    decided (HoldNowhere 1 system.rows) (IsNowhere (free_columns system) (HoldsSystem system)) (IsCharged g h) (IsCutBy g h) c.column_nowhere.result (plain_nowhere system 1 plain one) c.column_nowhere.ensures.exact

pub rows_nowhere-requires : goal.rows_nowhere-requires
rows_nowhere-requires c =
    let same : c.all_opened.new.meter ≡ c.args.meter.now = c.in_ok-rows.ensures.exact.1 in
    record { rows = rw same c.in_ok-rows.ensures.exact.0.1 }

pub returns-clause-exact : goal.returns-clause-exact
returns-clause-exact c =
    let g = c.args.meter.now in
    let h = c.all_opened.new.meter in
    let k = c.rows_nowhere.new.meter in
    let system = c.args.system.now in
    let rows = c.in_ok-rows.rows in
    decided (HoldNowhere system.columns rows) (IsNowhere (free_columns system) (HoldsSystem system)) (IsCharged h k) (IsCutBy h k) c.rows_nowhere.result
    (rows_opened_nowhere g system rows c.requires.well_formed c.in_ok-rows.ensures.exact.0.0) c.rows_nowhere.ensures.exact

pub returns-then-is_empty-clause-tame : goal.returns-then-is_empty-clause-tame
returns-then-is_empty-clause-tame c = λ size full room of normal.
    let s = c.args.system.now in
    let one : s.columns ≡ 1 = grind arith in
    let plain = plain_of_one size s of in
    let narrow = of.rows.narrow in
    let own = (c.column_nowhere.ensures.tame (normal one)).tame size.bits full (omega arith) plain.rows in
    tame_more 1 (size.columns * (size.columns * size.columns)) c.args.meter.now c.column_nowhere.new.meter (λ _. Unit {0}) (λ _. Unit {0})
    c.column_nowhere.result (some_cubes size.columns (omega arith)) (λ value q. q) own

pub returns-in_err-rows-clause-tame : goal.returns-in_err-rows-clause-tame
returns-in_err-rows-clause-tame c = λ size full room of normal.
    let s = c.args.system.now in
    let own = c.in_err-rows.ensures.tame.tame size.bits full (room_left size s of room) (plain_of_one size s of) in
    let p = err_from_is_err_and c.from_residual.result c.from_residual.ensures.1 in
    rw (p.1, p.2) (tame_cut 0 (size.columns * (size.columns * size.columns)) c.args.meter.now c.all_opened.new.meter _ (λ _. Unit {0})
    c.in_err-rows.field-0.0 (omega arith) own)

pub returns-clause-tame : goal.returns-clause-tame
returns-clause-tame c = λ size full room of normal.
    let s = c.args.system.now in
    let same : c.all_opened.new.meter ≡ c.args.meter.now = c.in_ok-rows.ensures.exact.1 in
    let rest = room_left size s of room in
    let own = (c.in_ok-rows.ensures.tame.tame size.bits full rest (plain_of_one size s of)).answer in
    let tested = (rw same at c.rows_nowhere.ensures.tame).tame size.bits full rest own in
    tame_more (s.columns * (s.columns * s.columns)) (size.columns * (size.columns * size.columns)) c.args.meter.now c.rows_nowhere.new.meter
    (λ _. Unit {0}) (λ _. Unit {0}) c.rows_nowhere.result (cube_more s.columns size.columns of.rows.narrow) (λ value q. q) tested
