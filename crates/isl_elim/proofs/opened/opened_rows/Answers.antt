use Rattle.std.proofs.Common.{◌≡◌, ◌+◌, ◌<◌, ◌∙◌, [], pos, sym, ap, length, get_or, false, true, arith}
use Rattle.std.specs.List.{All}
use Rattle.std.proofs.lemmas.Result.{err_from_is_err_and}
use Rattle.isl_meter.specs.Gauge.{Gauge}
use Rattle.isl_ledger.specs.Difference.{IsDifferenceRow}
use Rattle.isl_elim.specs.Opened.{opened_rows}
use Rattle.isl_elim.proofs.TameLaws.{tame_ok, tame_memory}
use Rattle.isl_elim.proofs.TameSystems.{no_definition, plain_opened}
use Rattle.isl_piece.specs.System.{free_columns}
use Rattle.isl_elim.proofs.OthersLaws.{among}
use Rattle.isl_elim.proofs.OpenedLaws.{definition_inside, only_step, only_same}
use Rattle.isl_elim.proofs.opened.opened_rows.Goals as goal

pub push_definition-requires-clause-definition : goal.push_definition-requires-clause-definition
push_definition-requires-clause-definition c =
    let s = c.args.system.now in
    let d = c.index-definitions-i.result in
    let inside : c.loop-i.i < length s.definitions = grind arith in
    let at : d ≡ get_or s.definitions c.loop-i.i d = grind arith in
    let same : c.loop-i.meter ≡ c.args.meter.now = c.loop-i.invariant.2 in
    rw same (definition_inside c.args.meter.now s c.loop-i.i d c.requires.well_formed inside at).0

pub loop-i-preserved : goal.loop-i-preserved
loop-i-preserved c =
    let s = c.args.system.now in
    let cols = c.args.cols.now in
    let d = c.index-definitions-i.result in
    let i = c.loop-i.i in
    let inside : i < length s.definitions = grind arith in
    let at : d ≡ get_or s.definitions i d = grind arith in
    let yes : among (free_columns s + i) cols ≡ true = grind arith in
    let same : c.loop-i.meter ≡ c.args.meter.now = c.loop-i.invariant.2 in
    let told = c.in_ok-push_definition.ensures in
    (only_step s cols i d c.loop-i.rows c.push_definition.new.rows inside yes at c.loop-i.invariant.0 told.0.0, rw same at told.0.1, told.1 ∙ same)

pub loop-i-preserved-then-not-is_among : goal.loop-i-preserved-then-not-is_among
loop-i-preserved-then-not-is_among c =
    let s = c.args.system.now in
    let cols = c.args.cols.now in
    let i = c.loop-i.i in
    let inside : i < length s.definitions = grind arith in
    let no : among (free_columns s + i) cols ≡ false = grind arith in
    (c.loop-i.invariant.0 ∙ sym (only_same s cols i (record { coefs = []; constant = pos 0; k = pos 1 }) inside no), c.loop-i.invariant.1, c.loop-i.invariant.2)

pub returns-in_err-rows-clause-tame : goal.returns-in_err-rows-clause-tame
returns-in_err-rows-clause-tame c = record {
  tame = λ bits full room given.
      let p = err_from_is_err_and c.from_residual.result c.from_residual.ensures.1 in
      rw (p.1, p.2) (tame_memory 0 c.args.meter.now c.args.meter.now (All (IsDifferenceRow bits)) (omega arith));
}

pub returns-in_err-push_definition-clause-tame : goal.returns-in_err-push_definition-clause-tame
returns-in_err-push_definition-clause-tame c = record {
  tame = λ bits full room given. absurd (no_definition c.args.system.now c.loop-i.i (grind arith) given.undefined);
}

pub returns-clause-tame : goal.returns-clause-tame
returns-clause-tame c = record {
  tame = λ bits full room given.
      let s = c.args.system.now in
      let cols = c.args.cols.now in
      let is : c.loop-i.rows ≡ opened_rows s cols = grind arith in
      tame_ok 0 c.args.meter.now c.loop-i.meter (All (IsDifferenceRow bits)) c.loop-i.rows
      (let u = ap (λ (x : Gauge). x.units) c.loop-i.invariant.2 in omega arith) (rw (is, plain_opened s cols given.undefined) given.rows);
}
