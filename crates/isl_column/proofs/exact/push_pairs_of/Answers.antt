use Rattle.std.proofs.Common.{◌≡◌, ◌≢◌, ◌+◌, ◌<◌, ◌∷◌, [], length, map, take, arith, pos}
use Rattle.std.proofs.lemmas.Grind.{common_steps}
use Rattle.std.proofs.lemmas.List.{map-append}
use Rattle.std.proofs.lemmas.Result.{err_from_is_err_and}
use Rattle.isl_shadows.specs.Exact.{AreAdded}
use Rattle.isl_omega.specs.Shadow.{real_row}
use Rattle.isl_math.proofs.Ring.{linear}
use Rattle.isl_meter.specs.Gauge.{IsCutUpTo}
use Rattle.isl_meter.specs.declared.Cut.TheVariants.{Overflow}
use Rattle.isl_omega.specs.Magnitude.{IsRowUpToAt}
use Rattle.isl_omega.specs.Sides.{IsUpper}
use Rattle.isl_omega.specs.Units.{paid}
use Rattle.isl_meter.proofs.UnitLemmas.{charged_bits, charged_more, cut_after, cut_weaker}
use Rattle.isl_omega.proofs.ExactUnits.{charged_up_to, charged_sum, answered_ok}
use Rattle.isl_shadows.proofs.ExactLemmas.{mapped_next, mapped_one, added_more, added_kept, upper_kept}
use Rattle.isl_shadows.proofs.TameLemmas.{answered_behind}
use Rattle.isl_column.proofs.exact.push_pairs_of.Goals as goal

pub returns-in_err-push_pair-clause-exact : goal.returns-in_err-push_pair-clause-exact
returns-in_err-push_pair-clause-exact c =
    let g = c.args.meter.now in
    let h = c.loop-upper.meter in
    let k = c.push_pair.new.meter in
    let uppers = c.args.uppers.now in
    let i = c.loop-upper.upper-index in
    let e = c.in_err-push_pair.field-0.0 in
    let low : i < length uppers = grind arith in
    let own : IsCutUpTo (pos 1) h k e = grind arith in
    let cut = cut_weaker (pos (i + 1)) (pos (length uppers)) g k e (omega (arith, linear)) (cut_after (pos i) (pos 1) g h k e c.loop-upper.invariant.charged own) in
    grind arith

pub loop-upper-preserved : goal.loop-upper-preserved
loop-upper-preserved c =
    let g = c.args.meter.now in
    let h = c.loop-upper.meter in
    let k = c.push_pair.new.meter in
    let col = c.args.column.at in
    let uppers = c.args.uppers.now in
    let i = c.loop-upper.upper-index in
    let upper = c.upper-item.result in
    let low : i < length uppers = grind arith in
    let before = map (λ row. row.now) (take i uppers) in
    let real = real_row col c.args.lower.now in
    let more : AreAdded h col (real upper.now ∷ []) c.loop-upper.short c.push_pair.new.short = grind arith in
    let exact : k ≡ paid 1 h = grind arith in
    let used = charged_up_to 1 h k exact in
    let kept = added_kept g h col (real upper.now ∷ []) c.loop-upper.short c.push_pair.new.short (charged_bits (pos i) g h c.loop-upper.invariant.charged) more in
    let next = mapped_next (λ row. row.now) uppers i upper low c.upper-item.is in
    record {
      added = rw (next, map-append real before (upper.now ∷ [])) (added_more g col (map real before) (real upper.now ∷ []) c.args.short.now c.loop-upper.short c.push_pair.new.short c.loop-upper.invariant.added kept);
      charged = charged_more (pos i) (pos 1) g h k c.loop-upper.invariant.charged used;
      exact = charged_sum i 1 g h k c.loop-upper.invariant.exact exact;
    }

pub push_pair-requires-clause-upper : goal.push_pair-requires-clause-upper
push_pair-requires-clause-upper c =
    let g = c.args.meter.now in
    let h = c.loop-upper.meter in
    let columns = c.args.column.columns in
    let col = c.args.column.at in
    let uppers = c.args.uppers.now in
    let i = c.loop-upper.upper-index in
    let upper = c.upper-item.result in
    let low : i < length uppers = grind arith in
    upper_kept g h columns col upper.now (charged_bits (pos i) g h c.loop-upper.invariant.charged)
    (mapped_one (IsUpper g columns col) (λ row. row.now) uppers i upper low c.upper-item.is c.requires.uppers)

pub returns-in_err-push_pair-clause-no_overflow : goal.returns-in_err-push_pair-clause-no_overflow
returns-in_err-push_pair-clause-no_overflow c = λ u w lower uppers room.
    let g = c.args.meter.now in
    let h = c.loop-upper.meter in
    let i = c.loop-upper.upper-index in
    let upper = c.upper-item.result in
    let low : i < length c.args.uppers.now = grind arith in
    let one = mapped_one (IsRowUpToAt c.args.column.at u w) (λ row. row.now) c.args.uppers.now i upper low c.upper-item.is uppers in
    let same = charged_bits (pos i) g h c.loop-upper.invariant.charged in
    let fact : c.in_err-push_pair.field-0.0 ≢ Overflow = c.in_err-push_pair.ensures.no_overflow u w lower one (rw same room) in
    grind arith

pub returns-in_err-push_pair-clause-answered : goal.returns-in_err-push_pair-clause-answered
returns-in_err-push_pair-clause-answered c =
    let g = c.args.meter.now in
    let h = c.loop-upper.meter in
    let k = c.push_pair.new.meter in
    let i = c.loop-upper.upper-index in
    let low : i < length c.args.uppers.now = grind arith in
    let p = err_from_is_err_and c.from_residual.result c.from_residual.ensures.1 in
    rw (p.1, p.2) (λ few. answered_behind i 1 (length c.args.uppers.now) g h k c.in_err-push_pair.field-0.0 (omega arith)
    c.loop-upper.invariant.exact (c.in_err-push_pair.ensures.answered few))

pub returns-clause-answered : goal.returns-clause-answered
returns-clause-answered c = λ few.
    let n = length c.args.uppers.now in
    let all : c.loop-upper.upper-index ≡ n = grind (arith, common_steps) in
    let used : c.loop-upper.meter ≡ paid n c.args.meter.now = rw all at c.loop-upper.invariant.exact in
    answered_ok n c.args.meter.now c.loop-upper.meter _ used
