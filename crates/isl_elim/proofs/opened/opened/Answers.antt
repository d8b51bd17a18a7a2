use Rattle.std.proofs.Common.{◌≡◌, ◌↔◌, ◌++◌, ◌∙◌, ℤ, List, ap, arith, Some, IfSome}
use Rattle.std.specs.List.{All}
use Rattle.std.proofs.lemmas.Result.{err_from_is_err_and}
use Rattle.isl_meter.specs.Gauge.{Gauge}
use Rattle.isl_ledger.specs.Difference.{IsDifferenceRow}
use Rattle.isl_elim.proofs.TameLaws.{tame_ok, tame_cut, tame_memory}
use Rattle.isl_elim.proofs.TameSystems.{normal_found, plain_rows}
use Rattle.isl_piece.specs.System.{HoldRows}
use Rattle.isl_elim.specs.Opened.{definition_rows}
use Rattle.isl_elim.proofs.OpenedLaws.{opened_none, opened_some}
use Rattle.isl_elim.proofs.opened.opened.Goals as goal

pub returns-in-None-clause-exact : goal.returns-in-None-clause-exact
returns-in-None-clause-exact c =
    let s = c.args.system.now in
    let all = c.in_ok-rows.ensures.exact.0.0 in
    let points : (point : List ℤ) → ¬ HoldRows (s.rows ++ definition_rows s.columns s.definitions) point = λ point. rw all at (rw c.in-None.is at (c.in_ok-normalise.ensures.points point)) in
    (opened_none c.args.meter.now s c.requires.well_formed points, c.in_ok-rows.ensures.exact.1)

pub returns-in-Some-clause-exact : goal.returns-in-Some-clause-exact
returns-in-Some-clause-exact c =
    let g = c.args.meter.now in
    let s = c.args.system.now in
    let same : c.all_opened.new.meter ≡ g = c.in_ok-rows.ensures.exact.1 in
    let all = c.in_ok-rows.ensures.exact.0.0 in
    let proper = c.in_ok-rows.ensures.exact.0.1 in
    let shape = rw c.in-Some.is at (c.in_ok-normalise.ensures.shape s.columns (λ k d m. (proper k d m).formed)) in
    let within = rw same at (rw c.in-Some.is at c.in_ok-normalise.ensures.within) in
    let normal = rw c.in-Some.is at c.in_ok-normalise.ensures.normal in
    let points : (point : List ℤ) → HoldRows c.in-Some.normal point ↔ HoldRows (s.rows ++ definition_rows s.columns s.definitions) point = λ point. rw all at (rw c.in-Some.is at (c.in_ok-normalise.ensures.points point)) in
    (opened_some g s c.in-Some.normal c.requires.well_formed shape within normal points, same)

pub returns-in_err-rows-clause-tame : goal.returns-in_err-rows-clause-tame
returns-in_err-rows-clause-tame c = record {
  tame = λ bits full room given.
      let p = err_from_is_err_and c.from_residual.result c.from_residual.ensures.1 in
      rw (p.1, p.2) (tame_cut 0 0 c.args.meter.now c.all_opened.new.meter (All (IsDifferenceRow bits)) (λ found. IfSome found (All (IsDifferenceRow bits)))
      c.in_err-rows.field-0.0 (omega arith) (c.in_err-rows.ensures.tame.tame bits full room given));
}

pub returns-in_err-normalise-clause-tame : goal.returns-in_err-normalise-clause-tame
returns-in_err-normalise-clause-tame c = record {
  tame = λ bits full room given.
      let p = err_from_is_err_and c.from_residual-in_err-normalise.result c.from_residual-in_err-normalise.ensures.1 in
      rw (p.1, p.2) (tame_memory 0 c.args.meter.now c.all_opened.new.meter (λ found. IfSome found (All (IsDifferenceRow bits)))
      (let u = ap (λ (x : Gauge). x.units) c.in_ok-rows.ensures.exact.1 in omega arith));
}

pub returns-in-None-clause-tame : goal.returns-in-None-clause-tame
returns-in-None-clause-tame c = record {
  tame = λ bits full room given. tame_ok 0 c.args.meter.now c.all_opened.new.meter (λ found. IfSome found (All (IsDifferenceRow bits))) _
      (let u = ap (λ (x : Gauge). x.units) c.in_ok-rows.ensures.exact.1 in omega arith) tt;
}

pub returns-in-Some-clause-tame : goal.returns-in-Some-clause-tame
returns-in-Some-clause-tame c = record {
  tame = λ bits full room given.
      let s = c.args.system.now in
      let all = c.in_ok-rows.ensures.exact.0.0 ∙ plain_rows s given.undefined in
      let own = normal_found bits s.rows c.in_ok-rows.rows c.in_ok-normalise.field-0 given.rows all c.in_ok-normalise.ensures.exact in
      tame_ok 0 c.args.meter.now c.all_opened.new.meter (λ found. IfSome found (All (IsDifferenceRow bits))) (Some c.in-Some.normal)
      (let u = ap (λ (x : Gauge). x.units) c.in_ok-rows.ensures.exact.1 in omega arith) (rw c.in-Some.is at own);
}
