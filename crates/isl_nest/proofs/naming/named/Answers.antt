use Rattle.std.proofs.Common.{◌<◌, ◌≤◌, ◌∙◌, sym, ap, arith, length}
use Rattle.std.proofs.lemmas.Bool.{false≢true}
use Rattle.std.proofs.lemmas.Grind.{common_steps}
use Rattle.std.proofs.lemmas.List.{take_all}
use Rattle.isl_nest.specs.Item.{named}
use Rattle.isl_nest.proofs.NamingLaws.{named_step_some, named_step_zero}
use Rattle.isl_nest.proofs.naming.named.Goals as goal

pub loop-i-preserved-then-is_zero : goal.loop-i-preserved-then-is_zero
loop-i-preserved-then-is_zero c =
    let cs = c.args.coefs.now in
    let low : c.loop-i.i < length cs = grind (arith, common_steps) in
    named_step_zero cs c.loop-i.i c.get.result low c.get.ensures c.loop-i.count (c.is_zero.ensures.0 c.if-is_zero.true) c.loop-i.invariant

pub loop-i-preserved : goal.loop-i-preserved
loop-i-preserved c =
    let cs = c.args.coefs.now in
    let low : c.loop-i.i < length cs = grind (arith, common_steps) in
    named_step_some cs c.loop-i.i c.get.result low c.get.ensures
    (λ e. false≢true (sym c.if-is_zero.false ∙ c.is_zero.ensures.1 e))

pub returns : goal.returns
returns c =
    let cs = c.args.coefs.now in
    let end : length cs ≤ c.loop-i.i = grind (arith, common_steps) in
    c.loop-i.invariant ∙ ap named (take_all c.loop-i.i cs end)
