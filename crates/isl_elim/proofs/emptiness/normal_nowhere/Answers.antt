use Rattle.std.proofs.Common.{◌≡◌, ◌↔◌, ◌*◌, ℤ, List, refl, arith}
use Rattle.std.proofs.lemmas.Result.{err_from_is_err_and}
use Rattle.isl_meter.proofs.CutLemmas.{IsCharged_refl}
use Rattle.isl_piece.specs.System.{HoldRows}
use Rattle.isl_elim.proofs.AlongLaws.{proper_rows}
use Rattle.isl_elim.proofs.EmptinessLaws.{normal_after}
use Rattle.isl_elim.proofs.TameLaws.{tame_ok, tame_memory}
use Rattle.isl_elim.proofs.TameSystems.{normal_found}
use Rattle.isl_elim.proofs.emptiness.normal_nowhere.Goals as goal

pub hold_nowhere-requires-clause-rows : goal.hold_nowhere-requires-clause-rows
hold_nowhere-requires-clause-rows c =
    let g = c.args.meter.now in
    let shape = c.in_ok-normalise.ensures.shape c.args.columns (λ k d i. (c.requires.rows k d i).formed) in
    let within = c.in_ok-normalise.ensures.within in
    proper_rows g c.args.columns c.in-Some.normal (rw c.in-Some.is at shape) (rw c.in-Some.is at within)

pub hold_nowhere-requires-clause-normal : goal.hold_nowhere-requires-clause-normal
hold_nowhere-requires-clause-normal c = rw c.in-Some.is at c.in_ok-normalise.ensures.normal

pub returns-in-None : goal.returns-in-None
returns-in-None c =
    let g = c.args.meter.now in
    let columns = c.args.columns in
    let points : (point : List ℤ) → ¬ HoldRows c.args.rows point = λ point. rw c.in-None.is at (c.in_ok-normalise.ensures.points point) in
    record {
      exact = (((λ _ point l. points point), (λ _. refl)), IsCharged_refl g g refl);
      tame = record { tame = λ bits full room given. tame_ok (columns * (columns * columns)) g g (λ _. Unit {0}) _ (omega arith) tt };
    }

pub returns-in-Some : goal.returns-in-Some
returns-in-Some c =
    let g = c.args.meter.now in
    let normal = c.in-Some.normal in
    let points : (point : List ℤ) → HoldRows normal point ↔ HoldRows c.args.rows point = λ point. rw c.in-Some.is at (c.in_ok-normalise.ensures.points point) in
    record {
      exact = normal_after g c.hold_nowhere.new.meter c.args.columns c.args.rows normal c.hold_nowhere.result points c.hold_nowhere.ensures.exact;
      tame = record {
        tame = λ bits full room given.
            let own = normal_found bits c.args.rows c.args.rows c.in_ok-normalise.field-0 given refl c.in_ok-normalise.ensures.exact in
            c.hold_nowhere.ensures.tame.tame bits full room (rw c.in-Some.is at own);
      };
    }

pub returns-in_err-normalise-clause-tame : goal.returns-in_err-normalise-clause-tame
returns-in_err-normalise-clause-tame c = record {
  tame = λ bits full room given.
      let p = err_from_is_err_and c.from_residual.result c.from_residual.ensures.1 in
      rw (p.1, p.2) (tame_memory (c.args.columns * (c.args.columns * c.args.columns)) c.args.meter.now c.args.meter.now (λ _. Unit {0}) (omega arith));
}
