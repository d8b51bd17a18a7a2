use Rattle.std.proofs.Common.{◌≡◌, ◌<◌, ◌∙◌, length, get_or, ap, arith}
use Rattle.std.specs.List.{All}
use Rattle.std.proofs.lemmas.Result.{err_from_is_err_and}
use Rattle.isl_meter.specs.Gauge.{Gauge}
use Rattle.isl_ledger.specs.Difference.{IsDifferenceRow}
use Rattle.isl_elim.proofs.TameLaws.{tame_ok, tame_memory}
use Rattle.isl_elim.proofs.TameSystems.{no_definition, plain_rows}
use Rattle.isl_elim.proofs.OpenedLaws.{definition_inside, opened_step, opened_end}
use Rattle.isl_elim.proofs.opened.all_opened.Goals as goal

pub push_definition-requires-clause-definition : goal.push_definition-requires-clause-definition
push_definition-requires-clause-definition c =
    let s = c.args.system.now in
    let d = c.definition-item.result in
    let i = c.loop-definition.definition-index in
    let inside : i < length s.definitions = grind arith in
    let at : d ≡ get_or s.definitions i d = grind arith in
    let same : c.loop-definition.meter ≡ c.args.meter.now = c.loop-definition.invariant.2 in
    rw same (definition_inside c.args.meter.now s i d c.requires.well_formed inside at).0

pub loop-definition-preserved : goal.loop-definition-preserved
loop-definition-preserved c =
    let s = c.args.system.now in
    let d = c.definition-item.result in
    let i = c.loop-definition.definition-index in
    let inside : i < length s.definitions = grind arith in
    let at : d ≡ get_or s.definitions i d = grind arith in
    let same : c.loop-definition.meter ≡ c.args.meter.now = c.loop-definition.invariant.2 in
    let told = c.in_ok-push_definition.ensures in
    (opened_step s i d c.loop-definition.rows c.push_definition.new.rows inside at c.loop-definition.invariant.0 told.0.0, rw same at told.0.1, told.1 ∙ same)

pub returns-clause-exact : goal.returns-clause-exact
returns-clause-exact c =
    let s = c.args.system.now in
    let i = c.loop-definition.definition-index in
    let end : i ≡ length s.definitions = grind arith in
    let all = opened_end s i c.loop-definition.rows end c.loop-definition.invariant.0 in
    ((all, c.loop-definition.invariant.1), c.loop-definition.invariant.2)

pub returns-in_err-rows-clause-tame : goal.returns-in_err-rows-clause-tame
returns-in_err-rows-clause-tame c = record {
  tame = λ bits full room given.
      let p = err_from_is_err_and c.from_residual.result c.from_residual.ensures.1 in
      rw (p.1, p.2) (tame_memory 0 c.args.meter.now c.args.meter.now (All (IsDifferenceRow bits)) (omega arith));
}

pub returns-in_err-push_definition-clause-tame : goal.returns-in_err-push_definition-clause-tame
returns-in_err-push_definition-clause-tame c = record {
  tame = λ bits full room given. absurd (no_definition c.args.system.now c.loop-definition.definition-index (grind arith) given.undefined);
}

pub returns-clause-tame : goal.returns-clause-tame
returns-clause-tame c = record {
  tame = λ bits full room given.
      let s = c.args.system.now in
      let i = c.loop-definition.definition-index in
      let end : i ≡ length s.definitions = grind arith in
      let all = opened_end s i c.loop-definition.rows end c.loop-definition.invariant.0 ∙ plain_rows s given.undefined in
      tame_ok 0 c.args.meter.now c.loop-definition.meter (All (IsDifferenceRow bits)) c.loop-definition.rows
      (let u = ap (λ (x : Gauge). x.units) c.loop-definition.invariant.2 in omega arith) (rw all given.rows);
}
