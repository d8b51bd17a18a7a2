use Rattle.std.proofs.Common.{◌↔◌, [], ◌∷◌, All, IsTrue}
use Rattle.std.proofs.lemmas.Result.{IfOk-weaker}
use Rattle.isl_piece.specs.System.{free_columns}
use Rattle.isl_elim.specs.Sample.{IsNowhere}
use Rattle.isl_difference.specs.Split.{HoldsBut}
use Rattle.isl_gist.specs.Thinned.{IsAmong, IsIdleAt}
use Rattle.isl_gist.proofs.IdleLaws.{both_is, idle_exactly}
use Rattle.isl_gist.proofs.idle.hold_in.Goals as goal

pub returns-clause-exact : goal.returns-clause-exact
returns-clause-exact c =
    let g = c.args.meter.now in
    let others = c.args.others.now in
    let context = c.args.context.now in
    let rows = c.args.row.now in
    let meeting = c.in_ok-both.both in
    let is = both_is g others.columns others context meeting c.requires.others c.requires.context c.in_ok-both.ensures.same in
    IfOk-weaker c.hold_throughout.result (λ all. IsTrue all ↔ IsNowhere (free_columns meeting) (HoldsBut meeting rows))
    (λ all. IsTrue all ↔ All (IsIdleAt (IsAmong others.columns (context ∷ [])) others.rows) rows)
    (λ all same. idle_exactly g others.columns others context meeting rows all c.requires.others c.requires.context c.requires.row is same)
    c.hold_throughout.ensures.exact
