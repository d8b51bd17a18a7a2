use Rattle.std.proofs.Common.{◌≡◌, ◌*◌, [], arith, refl}
use Rattle.std.proofs.lemmas.Result.{err_from_is_err_and}
use Rattle.isl_ledger.proofs.AnsweredLaws.{tame_more}
use Rattle.isl_elim.proofs.TameLaws.{tame_memory, cube_more}
use Rattle.isl_elim.proofs.TameSystems.{plain_of_one, room_left}
use Rattle.isl_meter.specs.Gauge.{IsCharged, IsCutBy}
use Rattle.isl_piece.specs.System.{HoldsSystem, free_columns}
use Rattle.isl_presolve.specs.Emptiness.{HoldNowhere}
use Rattle.isl_elim.specs.Sample.{IsNowhere}
use Rattle.isl_elim.proofs.OpenedLaws.{decided, plain_nowhere}
use Rattle.isl_elim.proofs.emptiness.is_normal_empty.Goals as goal

pub rows_nowhere-requires : goal.rows_nowhere-requires
rows_nowhere-requires c =
    let s = c.args.system.now in
    let same : c.in_ok-rows.rows ≡ s.rows = grind arith in
    record { rows = rw same (λ k d l. record { formed = c.requires.well_formed.rows k d l; within = c.requires.well_formed.within k d l }) }

pub returns-clause-exact : goal.returns-clause-exact
returns-clause-exact c =
    let g = c.args.meter.now in
    let h = c.rows_nowhere.new.meter in
    let s = c.args.system.now in
    let plain : s.definitions ≡ [] = grind arith in
    let same : c.in_ok-rows.rows ≡ s.rows = grind arith in
    decided (HoldNowhere s.columns s.rows) (IsNowhere (free_columns s) (HoldsSystem s)) (IsCharged g h) (IsCutBy g h) c.rows_nowhere.result
    (plain_nowhere s s.columns plain refl) (rw same at c.rows_nowhere.ensures.exact)

pub returns-in_err-rows-clause-tame : goal.returns-in_err-rows-clause-tame
returns-in_err-rows-clause-tame c = λ size full room of.
    let p = err_from_is_err_and c.from_residual.result c.from_residual.ensures.1 in
    rw (p.1, p.2) (tame_memory (size.columns * (size.columns * size.columns)) c.args.meter.now c.args.meter.now (λ _. Unit {0}) (omega arith))

pub returns-clause-tame : goal.returns-clause-tame
returns-clause-tame c = λ size full room of.
    let s = c.args.system.now in
    let same : c.in_ok-rows.rows ≡ s.rows = grind arith in
    let own = (c.rows_nowhere.ensures.tame).tame size.bits full (room_left size s of room) (rw same (plain_of_one size s of).rows) in
    tame_more (s.columns * (s.columns * s.columns)) (size.columns * (size.columns * size.columns)) c.args.meter.now c.rows_nowhere.new.meter
    (λ _. Unit {0}) (λ _. Unit {0}) c.rows_nowhere.result (cube_more s.columns size.columns of.rows.narrow) (λ value q. q) own

pub returns-then-system-eq1-clause-tame : goal.returns-then-system-eq1-clause-tame
returns-then-system-eq1-clause-tame c = λ size full room of. c.is_empty-then-system-eq1.ensures.tame size full room of (λ one. c.requires.normal)

pub returns-then-system-eq1-clause-one : goal.returns-then-system-eq1-clause-one
returns-then-system-eq1-clause-one c = λ plain one. record {
  units = c.is_empty-then-system-eq1.ensures.units plain one;
  equality = c.is_empty-then-system-eq1.ensures.equality plain one;
  magnitude = c.is_empty-then-system-eq1.ensures.magnitude plain one;
}
