use Rattle.std.proofs.Common.{ap, arith, IfSome}
use Rattle.std.specs.List.{All}
use Rattle.std.proofs.lemmas.Result.{err_from_is_err_and}
use Rattle.isl_meter.specs.Gauge.{Gauge}
use Rattle.isl_ledger.specs.Difference.{IsDifferenceRow}
use Rattle.isl_presolve.specs.Shear.{IsReduction}
use Rattle.isl_presolve.proofs.OneSidedLaws.{reduction_past}
use Rattle.isl_presolve.proofs.ShearLaws.{reduction_some}
use Rattle.isl_elim.proofs.FewerLaws.{reduction_fewer}
use Rattle.isl_elim.proofs.TameLaws.{tame_ok, tame_memory, unit_rows, same_rows, not_cut, not_none}
use Rattle.isl_elim.proofs.TameSystems.{some_all, some_differences}
use Rattle.isl_elim.proofs.emptiness.shorter.Goals as goal

pub returns-in_err-short-clause-tame : goal.returns-in_err-short-clause-tame
returns-in_err-short-clause-tame c = record {
  tame = λ bits full room given.
      let rows = c.without_one_sided-two_sided.result in
      let left = some_all (IsDifferenceRow bits) rows c.args.rows c.without_one_sided-two_sided.ensures.some given in
      absurd (not_cut (c.in_err-short.ensures.itself c.requires.some (unit_rows bits rows left)).0);
}

pub returns-in_default-clause-tame : goal.returns-in_default-clause-tame
returns-in_default-clause-tame c = record {
  tame = λ bits full room given.
      let rows = c.without_one_sided-two_sided.result in
      let left = some_all (IsDifferenceRow bits) rows c.args.rows c.without_one_sided-two_sided.ensures.some given in
      let itself = c.in_ok-short.ensures.itself c.requires.some (unit_rows bits rows left) in
      absurd (not_none c.in_ok-short.field-0 rows itself.0 c.in_default.is);
}

pub returns-in_err-few-clause-tame : goal.returns-in_err-few-clause-tame
returns-in_err-few-clause-tame c = record {
  tame = λ bits full room given.
      let rows = c.without_one_sided-two_sided.result in
      let left = some_all (IsDifferenceRow bits) rows c.args.rows c.without_one_sided-two_sided.ensures.some given in
      let itself = c.in_ok-short.ensures.itself c.requires.some (unit_rows bits rows left) in
      let p = err_from_is_err_and c.from_residual-in_err-few.result c.from_residual-in_err-few.ensures.1 in
      rw (p.1, p.2) (tame_memory 0 c.args.meter.now c.reduced.new.meter (λ found. IfSome found (All (IsDifferenceRow bits)))
      (let u = ap (λ (x : Gauge). x.units) itself.1 in omega arith));
}

pub returns-clause-tame : goal.returns-clause-tame
returns-clause-tame c = record {
  tame = λ bits full room given.
      let rows = c.without_one_sided-two_sided.result in
      let left = some_all (IsDifferenceRow bits) rows c.args.rows c.without_one_sided-two_sided.ensures.some given in
      let itself = c.in_ok-short.ensures.itself c.requires.some (unit_rows bits rows left) in
      let whole = same_rows c.in_ok-short.field-0 rows c.in-Some.short itself.0 c.in-Some.is in
      tame_ok 0 c.args.meter.now c.reduced.new.meter (λ found. IfSome found (All (IsDifferenceRow bits))) c.in_ok-few.few
      (let u = ap (λ (x : Gauge). x.units) itself.1 in omega arith)
      (some_differences _ c.args.columns bits c.in-Some.short c.in_ok-few.few (rw whole left) c.in_ok-few.ensures);
}

pub returns-clause-exact : goal.returns-clause-exact
returns-clause-exact c =
    let g = c.args.meter.now in
    let columns = c.args.columns in
    let rows = c.without_one_sided-two_sided.result in
    let short = c.in-Some.short in
    let few = c.in_ok-few.few in
    let is : IsReduction g columns rows short =
    reduction_some g columns rows short c.in_ok-short.field-0 c.in-Some.is c.in_ok-short.ensures.exact.0 in (
      reduction_past g columns c.args.rows rows few c.without_one_sided-two_sided.ensures.reduction
          (reduction_fewer g columns rows short few is c.in_ok-few.ensures),
      c.in_ok-short.ensures.exact.1,
    )
