use Rattle.std.proofs.Common.{[], sym, subst, map, All}
use Rattle.std.proofs.lemmas.Result.{IfOk-weaker}
use Rattle.isl_gist.specs.declared.pass.Pass.TheVariants.{Equations}
use Rattle.isl_gist.specs.Thinned.{AreNeeded, AreThinned, IsAmong, IsDone, IsPlain, WillBeDone}
use Rattle.isl_gist.proofs.IdleLaws.{all_later, plain_later}
use Rattle.isl_gist.proofs.SweepLaws.{first_asked, plain_back, thinned_twice}
use Rattle.isl_gist.proofs.needed.needed.Goals as goal

pub swept-requires-clause-needed : goal.swept-requires-clause-needed
swept-requires-clause-needed c =
    first_asked (IsAmong c.args.system.now.columns (map (λ o. o.now) c.args.contexts.now)) c.args.system.now.rows

pub swept-requires-2-clause-system : goal.swept-requires-2-clause-system
swept-requires-2-clause-system c =
    let g = c.args.meter.now in
    let h = c.swept.new.meter in
    let middle = c.in_ok-equations.equations in
    let plain = c.in_ok-equations.ensures.plain in
    plain_later g h middle.columns middle c.in_ok-equations.ensures.meter
    (subst (λ n. IsPlain g n middle) (sym plain.columns) plain)

pub swept-requires-2-clause-contexts : goal.swept-requires-2-clause-contexts
swept-requires-2-clause-contexts c =
    let g = c.args.meter.now in
    let h = c.swept.new.meter in
    let contexts = map (λ o. o.now) c.args.contexts.now in
    let middle = c.in_ok-equations.equations in
    let plain = c.in_ok-equations.ensures.plain in
    all_later g h middle.columns contexts c.in_ok-equations.ensures.meter
    (subst (λ n. All (IsPlain g n) contexts) (sym plain.columns) c.requires.contexts)

pub swept-requires-2-clause-needed : goal.swept-requires-2-clause-needed
swept-requires-2-clause-needed c =
    let contexts = map (λ o. o.now) c.args.contexts.now in
    let middle = c.in_ok-equations.equations in
    subst (λ n. AreNeeded (IsDone Equations) (IsAmong n contexts) [] middle.rows) (sym c.in_ok-equations.ensures.plain.columns)
    c.in_ok-equations.ensures.exact.needed

pub returns-clause-exact : goal.returns-clause-exact
returns-clause-exact c =
    let contexts = map (λ o. o.now) c.args.contexts.now in
    let n = c.args.system.now.columns in
    let rows = c.args.system.now.rows in
    let middle = c.in_ok-equations.equations in
    IfOk-weaker c.swept-2.result (λ left. AreThinned (WillBeDone Equations) (IsAmong middle.columns contexts) middle.rows left.rows)
    (λ left. AreThinned (WillBeDone Equations) (IsAmong n contexts) rows left.rows)
    (λ left second. thinned_twice (IsAmong n contexts) rows middle.rows left.rows c.in_ok-equations.ensures.exact
    (subst (λ k. AreThinned (WillBeDone Equations) (IsAmong k contexts) middle.rows left.rows)
    c.in_ok-equations.ensures.plain.columns second))
    c.swept-2.ensures.exact

pub returns-clause-plain : goal.returns-clause-plain
returns-clause-plain c =
    let g = c.args.meter.now in
    let h = c.swept.new.meter in
    let n = c.args.system.now.columns in
    let middle = c.in_ok-equations.equations in
    IfOk-weaker c.swept-2.result (IsPlain h middle.columns) (IsPlain g n)
    (λ left plain. plain_back g h n left c.in_ok-equations.ensures.meter
    (subst (λ k. IsPlain h k left) c.in_ok-equations.ensures.plain.columns plain))
    c.swept-2.ensures.plain
