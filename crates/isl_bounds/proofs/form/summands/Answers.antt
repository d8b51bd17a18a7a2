use Rattle.std.proofs.Common.{◌<◌, ◌≤◌, refl, arith, pos, length, to_z-of_z}
use Rattle.std.proofs.lemmas.Grind.{common_steps}
use Rattle.std.proofs.lemmas.List.{get_or_read}
use Rattle.isl_bounds.proofs.FormLaws.{summands_all, summands_pushed, summands_skip}
use Rattle.isl_bounds.proofs.form.summands.Goals as goal

pub loop-i-preserved-then-is_zero : goal.loop-i-preserved-then-is_zero
loop-i-preserved-then-is_zero c =
    let coefs = c.args.coefs.now in
    let low : c.loop-i.i < length coefs = omega arith in
    let read = get_or_read coefs c.loop-i.i c.index-coefs-i.result low c.index-coefs-i.is (pos 0) in
    summands_skip coefs c.loop-i.i c.loop-i.items c.index-coefs-i.result low c.loop-i.invariant read (c.is_zero.ensures.0 c.if-is_zero.true)

pub loop-i-preserved : goal.loop-i-preserved
loop-i-preserved c =
    let coefs = c.args.coefs.now in
    let low : c.loop-i.i < length coefs = omega arith in
    let read = get_or_read coefs c.loop-i.i c.index-coefs-i-in-loop-i.result low c.index-coefs-i-in-loop-i.is (pos 0) in
    summands_pushed coefs c.loop-i.i c.loop-i.items c.push.new.self _ c.in_ok-push.ensures.ok low c.loop-i.invariant
    (grind (arith, common_steps, to_z-of_z)) refl

pub returns-clause-over : goal.returns-clause-over
returns-clause-over c g n within long = c.loop-i.invariant.over g n within long

pub returns-clause-value : goal.returns-clause-value
returns-clause-value c point long =
    let end : length c.args.coefs.now ≤ c.loop-i.i = omega arith in
    summands_all c.args.coefs.now c.loop-i.i c.loop-i.items point end c.loop-i.invariant long
