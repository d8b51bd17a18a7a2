use Rattle.std.proofs.Common.{◌≡◌, ◌∙◌, ◌+◌, ◌<◌, ◌≤◌, ◌<ℤ◌, sym, ap, subst, arith, ℤ, pos, List, length, get_or, replicate}
use Rattle.std.specs.List.{All}
use Rattle.std.proofs.lemmas.Grind.{common_steps}
use Rattle.std.proofs.lemmas.List.{get_or_read}
use Rattle.isl_meter.specs.Gauge.{IsWithin}
use Rattle.isl_meter.proofs.LimitLemmas.{IsWithin-zero}
use Rattle.isl_pip.proofs.LiftedLaws.{anchor_made, cut_more, cut_none, signed_falls, AreCut}
use Rattle.isl_pip.proofs.lift.cut_off.Goals as goal

pub loop-i-init : goal.loop-i-init
loop-i-init c =
    let g = c.args.meter.now in
    let m = length c.args.row.now.coefs in
    let zeros : c.in_ok-coefs.coefs ≡ replicate m (pos 0) = grind (arith, common_steps) in
    cut_none g m c.args.column c.in_ok-coefs.coefs (IsWithin-zero g) zeros

pub signed-number-requires : goal.signed-number-requires
signed-number-requires c =
    let g = c.args.meter.now in
    let all = subst (All (IsWithin g)) (sym c.as_slice-numbers.ensures) c.requires.within.coefs in
    let low : c.loop-i.i < length c.as_slice-numbers.result.now = grind (arith, common_steps) in
    let read = get_or_read c.as_slice-numbers.result.now c.loop-i.i c.index-numbers-i.result low c.index-numbers-i.is (pos 0) in
    subst (IsWithin g) (sym read) (all c.loop-i.i (pos 0) low)

pub set-requires : goal.set-requires
set-requires c =
    let long = c.loop-i.invariant.long in
    let inside = c.requires.inside in
    omega (arith, long, inside)

pub loop-i-preserved : goal.loop-i-preserved
loop-i-preserved c =
    let g = c.args.meter.now in
    let cs = c.args.row.now.coefs in
    let m = length cs in
    let i = c.loop-i.i in
    let inside = c.requires.inside in
    let low : i < m = omega (arith, inside) in
    let slice = c.as_slice-numbers.ensures in
    let in_slice : i < length c.as_slice-numbers.result.now = (let e = ap length slice in omega (arith, low, e)) in
    let read : c.index-numbers-i.result ≡ get_or cs i (pos 0) =
    get_or_read c.as_slice-numbers.result.now i c.index-numbers-i.result in_slice c.index-numbers-i.is (pos 0) ∙ ap (λ (l : List ℤ). get_or l i (pos 0)) slice in
    cut_more g m c.args.column i c.loop-i.coefs c.set.new.self c.signed-number.result low inside c.set.ensures c.signed-number.ensures.within
    (λ same.
    let value : c.index-numbers-i.result ≡ c.get.result = read ∙ ap (λ k. get_or cs k (pos 0)) same ∙ sym c.get.ensures in
    signed_falls c.is_positive-is_negated.result c.index-numbers-i.result c.signed-number.result
    (λ none. c.requires.some (sym c.get.ensures ∙ sym value ∙ none))
    (λ yes. subst (λ z. pos 0 <ℤ z) (sym value) (c.is_positive-is_negated.ensures.0 yes))
    (λ up. c.is_positive-is_negated.ensures.1 (subst (λ z. pos 0 <ℤ z) value up)) c.signed-number.ensures.value)
    c.loop-i.invariant

pub signed-constant-requires : goal.signed-constant-requires
signed-constant-requires c = subst (IsWithin c.args.meter.now) (sym c.constant.ensures) c.requires.within.constant

pub returns : goal.returns
returns c =
    let g = c.args.meter.now in
    let m = length c.args.row.now.coefs in
    let end : c.loop-i.i ≡ c.args.column + 1 = omega arith in
    anchor_made g m c.args.column c.loop-i.coefs c.signed-constant.result c.args.factor c.new.result c.new.ensures c.requires.inside
    (subst (λ n. AreCut g m c.args.column n c.loop-i.coefs) end c.loop-i.invariant) c.signed-constant.ensures.within c.requires.factor.0 c.requires.factor.1
