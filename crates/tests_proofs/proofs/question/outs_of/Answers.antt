use Rattle.std.proofs.Common.{subst, sym}
use Rattle.std.specs.List.{All}
use Rattle.std.proofs.lemmas.List.Elements.{All-push}
use Rattle.tests_proofs.specs.Question.{IsPlain}
use Rattle.tests_proofs.proofs.question.outs_of.Goals as goal

pub loop-at-preserved : goal.loop-at-preserved
loop-at-preserved c =
    let own = All-push (IsPlain c.args.meter.now c.args.columns) c.loop-at.outs.items c.in-Some.out c.loop-at.invariant c.in-Some.ensures in
    subst (All (IsPlain c.args.meter.now c.args.columns)) (sym c.in_ok-push.ensures.items) own
