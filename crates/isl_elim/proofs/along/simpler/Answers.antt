use Rattle.std.proofs.Common.{ap, arith, Some, IfSome}
use Rattle.std.specs.List.{All}
use Rattle.std.proofs.lemmas.Result.{err_from_is_err_and}
use Rattle.isl_meter.specs.Gauge.{Gauge}
use Rattle.isl_ledger.specs.Difference.{IsDifferenceRow}
use Rattle.isl_elim.proofs.TameLaws.{tame_ok, tame_memory, no_congruences, same_rows, not_cut, not_none}
use Rattle.isl_elim.proofs.TameSystems.{some_differences}
use Rattle.isl_elim.proofs.along.simpler.Goals as goal

pub returns-in_err-fixed-clause-tame : goal.returns-in_err-fixed-clause-tame
returns-in_err-fixed-clause-tame c = record {
  tame = λ bits full room given. absurd (not_cut (c.in_err-fixed.ensures.itself (no_congruences bits c.args.rows given)).0);
}

pub returns-in_default-clause-tame : goal.returns-in_default-clause-tame
returns-in_default-clause-tame c = record {
  tame = λ bits full room given.
      absurd (not_none c.in_ok-fixed.field-0 c.args.rows (c.in_ok-fixed.ensures.itself (no_congruences bits c.args.rows given)).0 c.in_default.is);
}

pub returns-then-not-add_many_rows-clause-tame : goal.returns-then-not-add_many_rows-clause-tame
returns-then-not-add_many_rows-clause-tame c = record {
  tame = λ bits full room given.
      let rows = c.args.rows in
      let itself = c.in_ok-fixed.ensures.itself (no_congruences bits rows given) in
      let whole = same_rows c.in_ok-fixed.field-0 rows c.in-Some.fixed itself.0 c.in-Some.is in
      tame_ok 0 c.args.meter.now c.with_fixed.new.meter (λ found. IfSome found (All (IsDifferenceRow bits))) (Some c.in-Some.fixed)
      (let u = ap (λ (x : Gauge). x.units) itself.1 in omega arith) (rw whole given);
}

pub returns-in_err-few-clause-tame : goal.returns-in_err-few-clause-tame
returns-in_err-few-clause-tame c = record {
  tame = λ bits full room given.
      let itself = c.in_ok-fixed.ensures.itself (no_congruences bits c.args.rows given) in
      let p = err_from_is_err_and c.from_residual-in_err-few.result c.from_residual-in_err-few.ensures.1 in
      rw (p.1, p.2) (tame_memory 0 c.args.meter.now c.with_fixed.new.meter (λ found. IfSome found (All (IsDifferenceRow bits)))
      (let u = ap (λ (x : Gauge). x.units) itself.1 in omega arith));
}

pub returns-clause-tame : goal.returns-clause-tame
returns-clause-tame c = record {
  tame = λ bits full room given.
      let rows = c.args.rows in
      let itself = c.in_ok-fixed.ensures.itself (no_congruences bits rows given) in
      let whole = same_rows c.in_ok-fixed.field-0 rows c.in-Some.fixed itself.0 c.in-Some.is in
      tame_ok 0 c.args.meter.now c.with_fixed.new.meter (λ found. IfSome found (All (IsDifferenceRow bits))) c.in_ok-few.few
      (let u = ap (λ (x : Gauge). x.units) itself.1 in omega arith)
      (some_differences _ c.args.columns bits c.in-Some.fixed c.in_ok-few.few (rw whole given) c.in_ok-few.ensures);
}
