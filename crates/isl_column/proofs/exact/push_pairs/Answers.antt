use Rattle.std.proofs.Common.{◌≡◌, ◌≢◌, ◌*◌, ◌∷◌, [], length, map, take, arith, pos}
use Rattle.std.proofs.lemmas.Grind.{common_steps}
use Rattle.std.proofs.lemmas.List.{length-append}
use Rattle.std.proofs.lemmas.Result.{err_from_is_err_and}
use Rattle.isl_shadows.specs.Exact.{AreAdded, real_rows}
use Rattle.isl_omega.specs.Sides.{on_side}
use Rattle.isl_meter.specs.Gauge.{IsCutUpTo}
use Rattle.isl_meter.specs.declared.Cut.TheVariants.{Overflow}
use Rattle.isl_omega.specs.Magnitude.{IsRowUpToAt}
use Rattle.isl_omega.specs.Units.{paid}
use Rattle.isl_meter.proofs.UnitLemmas.{charged_bits, charged_share, cut_share}
use Rattle.isl_omega.specs.declared.sides.Side.TheVariants.{Lower}
use Rattle.isl_omega.proofs.ExactUnits.{charged_up_to, charged_share_for, answered_ok}
use Rattle.isl_shadows.proofs.ExactLemmas.{on_side_next, on_side_room, added_more, added_kept, real_rows-append}
use Rattle.isl_shadows.proofs.TameLemmas.{answered_share}
use Rattle.isl_column.proofs.exact.push_pairs.Goals as goal

pub returns-in_err-push_lower-clause-exact : goal.returns-in_err-push_lower-clause-exact
returns-in_err-push_lower-clause-exact c =
    let g = c.args.meter.now in
    let h = c.loop-row.meter in
    let k = c.push_lower.new.meter in
    let rows = c.args.rows.now in
    let i = c.loop-row.row-index in
    let row = c.row-item.result in
    let before = on_side Lower c.args.column.at (take i rows) in
    let one = on_side Lower c.args.column.at (row ∷ []) in
    let each = length c.args.uppers.now in
    let e = c.in_err-push_lower.field-0.0 in
    let own : IsCutUpTo (pos (length one * each)) h k e = grind arith in
    let room = on_side_room Lower c.args.column.at rows i row c.loop-row-test.true c.row-item.is in
    let cut = cut_share (length before) (length one) (length (on_side Lower c.args.column.at rows)) each g h k e room c.loop-row.invariant.charged own in
    grind arith

pub loop-row-preserved : goal.loop-row-preserved
loop-row-preserved c =
    let g = c.args.meter.now in
    let h = c.loop-row.meter in
    let k = c.push_lower.new.meter in
    let col = c.args.column.at in
    let rows = c.args.rows.now in
    let i = c.loop-row.row-index in
    let row = c.row-item.result in
    let before = on_side Lower col (take i rows) in
    let one = on_side Lower col (row ∷ []) in
    let refs = c.args.uppers.now in
    let uppers = map (λ row. row.now) refs in
    let more : AreAdded h col (real_rows col one uppers) c.loop-row.short c.push_lower.new.short = grind arith in
    let exact : k ≡ paid (length one * length refs) h = grind arith in
    let used = charged_up_to (length one * length refs) h k exact in
    let kept = added_kept g h col (real_rows col one uppers) c.loop-row.short c.push_lower.new.short (charged_bits (pos (length before * length refs)) g h c.loop-row.invariant.charged) more in
    let next = on_side_next Lower col rows i row c.loop-row-test.true c.row-item.is in
    record {
      added = rw (next, real_rows-append col before one uppers) (added_more g col (real_rows col before uppers) (real_rows col one uppers) c.args.short.now c.loop-row.short c.push_lower.new.short c.loop-row.invariant.added kept);
      charged = rw (next, length-append before one) (charged_share (length before) (length one) (length refs) g h k c.loop-row.invariant.charged used);
      exact = rw (next, length-append before one) (charged_share_for (length before) (length one) (length refs) g h k c.loop-row.invariant.exact exact);
    }

pub returns-in_err-push_lower-clause-no_overflow : goal.returns-in_err-push_lower-clause-no_overflow
returns-in_err-push_lower-clause-no_overflow c = λ u w all uppers room.
    let g = c.args.meter.now in
    let h = c.loop-row.meter in
    let i = c.loop-row.row-index in
    let row = c.row-item.result in
    let before = on_side Lower c.args.column.at (take i c.args.rows.now) in
    let one : IsRowUpToAt c.args.column.at u w row = rw (← c.row-item.is) at (all i row c.loop-row-test.true) in
    let same = charged_bits (pos (length before * length c.args.uppers.now)) g h c.loop-row.invariant.charged in
    let fact : c.in_err-push_lower.field-0.0 ≢ Overflow = c.in_err-push_lower.ensures.no_overflow u w one uppers (rw same room) in
    grind arith

pub returns-in_err-push_lower-clause-answered : goal.returns-in_err-push_lower-clause-answered
returns-in_err-push_lower-clause-answered c =
    let g = c.args.meter.now in
    let h = c.loop-row.meter in
    let k = c.push_lower.new.meter in
    let rows = c.args.rows.now in
    let i = c.loop-row.row-index in
    let row = c.row-item.result in
    let before = on_side Lower c.args.column.at (take i rows) in
    let one = on_side Lower c.args.column.at (row ∷ []) in
    let each = length c.args.uppers.now in
    let room = on_side_room Lower c.args.column.at rows i row c.loop-row-test.true c.row-item.is in
    let p = err_from_is_err_and c.from_residual.result c.from_residual.ensures.1 in
    rw (p.1, p.2) (λ few. answered_share (length before) (length one) (length (on_side Lower c.args.column.at rows)) each g h k
    c.in_err-push_lower.field-0.0 room c.loop-row.invariant.exact (c.in_err-push_lower.ensures.answered few))

pub returns-clause-answered : goal.returns-clause-answered
returns-clause-answered c = λ few.
    let rows = c.args.rows.now in
    let n = length (on_side Lower c.args.column.at rows) * length c.args.uppers.now in
    let whole : take c.loop-row.row-index rows ≡ rows = grind (arith, common_steps) in
    let used : c.loop-row.meter ≡ paid n c.args.meter.now = rw whole at c.loop-row.invariant.exact in
    answered_ok n c.args.meter.now c.loop-row.meter _ used
