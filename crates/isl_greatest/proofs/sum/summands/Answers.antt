use Rattle.std.proofs.Common.{◌<◌, ◌≤◌, ◌≡◌, refl, arith, pos, length, to_z-of_z, subst}
use Rattle.std.proofs.lemmas.Grind.{common_steps}
use Rattle.std.proofs.lemmas.List.{get_or_read}
use Rattle.isl_greatest.proofs.SumLaws.{summands_first, summands_pushed, summands_skip}
use Rattle.isl_greatest.specs.Summands.{AreSummands}
use Rattle.isl_greatest.proofs.sum.summands.Goals as goal

pub loop-i-init : goal.loop-i-init
loop-i-init c = summands_first c.args.coefs.now c.new-items.result c.new-items.ensures

pub loop-i-preserved-then-is_zero : goal.loop-i-preserved-then-is_zero
loop-i-preserved-then-is_zero c =
    let coefs = c.args.coefs.now in
    let low : c.loop-i.i < length coefs = omega arith in
    let read = get_or_read coefs c.loop-i.i c.index-coefs-i.result low c.index-coefs-i.is (pos 0) in
    summands_skip coefs c.loop-i.i c.loop-i.items c.index-coefs-i.result low c.loop-i.invariant read (c.is_zero.ensures.0 c.if-is_zero.true)

pub loop-i-preserved : goal.loop-i-preserved
loop-i-preserved c =
    let coefs = c.args.coefs.now in
    let low : c.loop-i.i < length coefs = omega arith in
    summands_pushed coefs c.loop-i.i c.loop-i.items c.push.new.self _ c.in_ok-push.ensures.ok low c.loop-i.invariant
    (grind (arith, common_steps, to_z-of_z)) refl

pub returns : goal.returns
returns c =
    let end : c.loop-i.i ≡ length c.args.coefs.now = omega arith in
    subst (λ n. AreSummands c.args.coefs.now n c.loop-i.items) end c.loop-i.invariant
