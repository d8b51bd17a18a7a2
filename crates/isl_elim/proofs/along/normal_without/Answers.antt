use Rattle.std.proofs.Common.{◌≡◌, ◌↔◌, ◌≤◌, ◌+◌, ◌*◌, [], ℤ, List, refl, arith, ap, length, Vec, Global}
use Rattle.std.proofs.lemmas.Result.{err_from_is_err_and}
use Rattle.isl_piece.specs.declared.row.Row.{Row}
use Rattle.isl_elim.specs.Tame.{AreFewDifferences, AddsFewDifferences}
use Rattle.isl_elim.proofs.TameLaws.{tame_ok, tame_memory, tame_cut, adds_all, few_none}
use Rattle.isl_elim.proofs.TameSystems.{normal_found}
use Rattle.isl_meter.specs.Gauge.{IsCharged}
use Rattle.isl_meter.proofs.CutLemmas.{IsCharged_refl}
use Rattle.isl_piece.specs.System.{HoldRows}
use Rattle.isl_elim.specs.Elimination.{AddsAlong}
use Rattle.isl_elim.proofs.AlongLaws.{along_normal, along_false, proper_rows}
use Rattle.isl_elim.proofs.along.normal_without.Goals as goal

pub push_without-requires-clause-rows : goal.push_without-requires-clause-rows
push_without-requires-clause-rows c =
    let g = c.args.meter.now in
    let shape = c.in_ok-normalise.ensures.shape c.args.columns (λ k d i. (c.requires.rows k d i).formed) in
    let within = c.in_ok-normalise.ensures.within in
    proper_rows g c.args.columns c.in-Some.normal (rw c.in-Some.is at shape) (rw c.in-Some.is at within)

pub returns-in-None : goal.returns-in-None
returns-in-None c =
    let g = c.args.meter.now in
    let points : (point : List ℤ) → ¬ HoldRows c.args.rows point = λ point. rw c.in-None.is at (c.in_ok-normalise.ensures.points point) in
    let none : c.new.result.items ≡ [] = grind arith in
    record {
      exact = (along_false g c.args.columns c.args.cols.now c.args.rows [] c.new.result.items none points, IsCharged_refl g g refl);
      counted = let n = ap length none in omega (arith, n);
      tame = record {
        tame = λ bits full room given. tame_ok (length c.args.cols.now * (c.args.columns * c.args.columns)) g g
            (λ (lists : Vec (List Row) Global). AreFewDifferences (bits + length c.args.cols.now) lists.items) c.new.result (omega arith)
            (rw none (few_none (bits + length c.args.cols.now)));
      };
    }

pub returns-in_ok-push_without-in-Some : goal.returns-in_ok-push_without-in-Some
returns-in_ok-push_without-in-Some c =
    let g = c.args.meter.now in
    let normal = c.in-Some.normal in
    let points : (point : List ℤ) → HoldRows normal point ↔ HoldRows c.args.rows point = λ point. rw c.in-Some.is at (c.in_ok-normalise.ensures.points point) in
    let none : c.new-lists.result.items ≡ [] = grind arith in
    let added : AddsAlong g c.args.columns c.args.cols.now (HoldRows normal) c.new-lists.result.items c.push_without.new.lists.items = grind arith in
    let charged : IsCharged g c.push_without.new.meter = grind arith in
    record {
      exact = (along_normal g c.args.columns c.args.cols.now c.args.rows normal [] c.push_without.new.lists.items points (rw none at added), charged);
      counted = let w : g.units + length c.push_without.new.lists.items ≤ c.push_without.new.meter.units + (length c.new-lists.result.items + 1) = grind arith in let n = ap length none in omega (arith, w, n);
      tame = record {
        tame = λ bits full room given.
            let own = normal_found bits c.args.rows c.args.rows c.in_ok-normalise.field-0 given refl c.in_ok-normalise.ensures.exact in
            let pushed = c.in_ok-push_without-in-Some.ensures.tame.tame bits full room (rw c.in-Some.is at own) in
            tame_ok (length c.args.cols.now * (c.args.columns * c.args.columns)) g c.push_without.new.meter
            (λ (lists : Vec (List Row) Global). AreFewDifferences (bits + length c.args.cols.now) lists.items) c.push_without.new.lists pushed.within.units
            (adds_all (bits + length c.args.cols.now) c.new-lists.result.items c.push_without.new.lists.items none pushed.answer);
      };
    }

pub returns-in_err-normalise-clause-tame : goal.returns-in_err-normalise-clause-tame
returns-in_err-normalise-clause-tame c = record {
  tame = λ bits full room given.
      let p = err_from_is_err_and c.from_residual.result c.from_residual.ensures.1 in
      rw (p.1, p.2) (tame_memory (length c.args.cols.now * (c.args.columns * c.args.columns)) c.args.meter.now c.args.meter.now
      (λ (lists : Vec (List Row) Global). AreFewDifferences (bits + length c.args.cols.now) lists.items) (omega arith));
}

pub returns-in_err-push_without-in-Some-clause-tame : goal.returns-in_err-push_without-in-Some-clause-tame
returns-in_err-push_without-in-Some-clause-tame c = record {
  tame = λ bits full room given.
      let most = length c.args.cols.now * (c.args.columns * c.args.columns) in
      let own = normal_found bits c.args.rows c.args.rows c.in_ok-normalise.field-0 given refl c.in_ok-normalise.ensures.exact in
      let pushed = c.in_err-push_without-in-Some.ensures.tame.tame bits full room (rw c.in-Some.is at own) in
      let p = err_from_is_err_and c.from_residual-in_err-push_without-in-Some.result c.from_residual-in_err-push_without-in-Some.ensures.1 in
      rw (p.1, p.2) (tame_cut most most c.args.meter.now c.push_without.new.meter
      (λ _. AddsFewDifferences (bits + length c.args.cols.now) c.new-lists.result.items c.push_without.new.lists.items)
      (λ (lists : Vec (List Row) Global). AreFewDifferences (bits + length c.args.cols.now) lists.items) c.in_err-push_without-in-Some.field-0.0 (omega arith) pushed);
}
