use Rattle.std.proofs.Common.{◌≡◌, ◌∙◌, ◌+◌, ◌*◌, ◌∷◌, [], ap, arith, length, refl, sym, false, true}
use Rattle.std.proofs.lemmas.Bool.{false≢true}
use Rattle.std.proofs.lemmas.Grind.{common_steps}
use Rattle.std.proofs.lemmas.Result.{err_from_is_err_and}
use Rattle.isl_meter.specs.Gauge.{Gauge}
use Rattle.isl_meter.proofs.CutLemmas.{IsCharged_refl, IsCharged_trans}
use Rattle.isl_ledger.proofs.SizeLaws.{differences_of}
use Rattle.isl_difference.proofs.TameLaws.{tame_cut, tame_ok}
use Rattle.isl_ledger.specs.Work.{row_limit}
use Rattle.isl_span.specs.Points.{IsPoint}
use Rattle.isl_span.specs.Work.{link_units, test_units}
use Rattle.isl_span.proofs.CallLaws.{rows_formed}
use Rattle.isl_span.proofs.ChainLaws.{equation_later}
use Rattle.isl_span.proofs.PointLaws.{over_later}
use Rattle.isl_span.proofs.SeenLaws.{free_seen}
use Rattle.isl_span.proofs.WorkLaws.{link_sum, link_sum_less, link_sum_none, rows_work}
use Rattle.isl_span.proofs.last.link_in.Goals as goal

pub returns-in-Some-clause-exact : goal.returns-in-Some-clause-exact
returns-in-Some-clause-exact c = (refl, rw c.in-Some.is at c.in_ok-row.ensures.exact)

pub is_free-requires-clause-over : goal.is_free-requires-clause-over
is_free-requires-clause-over c =
    over_later c.args.meter.now c.equation_among.new.meter (c.args.last + 1) c.args.system.now
    (ap (λ (x : Gauge). x.bits) c.in_ok-row.ensures.meter.same) c.requires.over

pub returns-then-branch-clause-exact : goal.returns-then-branch-clause-exact
returns-then-branch-clause-exact c =
    let sure : c.in_ok-is_free.field-0 ≡ true = grind (arith, common_steps) in
    (refl, c.in_ok-is_free.ensures.exact.0 sure)

pub equation_among-requires-2-clause-over : goal.equation_among-requires-2-clause-over
equation_among-requires-2-clause-over c =
    over_later c.args.meter.now c.is_free.new.meter (c.args.last + 1) c.args.system.now
    (ap (λ (x : Gauge). x.bits) c.in_ok-is_free.ensures.meter.same ∙ ap (λ (x : Gauge). x.bits) c.in_ok-row.ensures.meter.same)
    c.requires.over

pub returns-in-Some-2-clause-exact : goal.returns-in-Some-2-clause-exact
returns-in-Some-2-clause-exact c =
    let same = ap (λ (x : Gauge). x.bits) c.in_ok-is_free.ensures.meter.same
    ∙ ap (λ (x : Gauge). x.bits) c.in_ok-row.ensures.meter.same in (
      refl,
      equation_later c.is_free.new.meter c.args.meter.now c.args.last (IsPoint (c.args.last + 1) (c.args.system.now ∷ []))
          c.in-Some-2.row (sym same) (rw c.in-Some-2.is at c.in_ok-row-2.ensures.exact),
    )

pub returns-in-None-clause-seen : goal.returns-in-None-clause-seen
returns-in-None-clause-seen c bits plain unknown =
    let s = c.args.system.now in
    let no : c.in_ok-is_free.field-0 ≡ false = grind (arith, common_steps) in
    let zeros = rw c.in_default.is at c.in_ok-row.ensures.exact in
    let bounds = rw c.in-None.is at c.in_ok-row-2.ensures.exact in
    false≢true (sym no ∙ c.in_ok-is_free.ensures.exact.1 (free_seen c.args.last bits s plain
    (rows_formed c.args.meter.now (c.args.last + 1) s c.requires.over c.requires.plain) zeros bounds))

-- ---- of difference constraints
pub returns-in_err-row-clause-tame : goal.returns-in_err-row-clause-tame
returns-in_err-row-clause-tame c = λ bits limit room plain.
    let g = c.args.meter.now in
    let n = c.args.last + 1 in
    let s = c.args.system.now in
    let t = test_units n in
    let d = differences_of n bits s plain.differences in
    let all = rows_work n bits g s c.requires.over plain in
    let p = err_from_is_err_and c.from_residual.result c.from_residual.ensures.1 in
    rw (p.1, p.2) (tame_cut 0 (length s.rows * t) (link_units n) g g c.equation_among.new.meter _ _ c.in_err-row.field-0.0
    (IsCharged_refl g g refl) (omega arith) (link_sum_none (length s.rows * t) t (row_limit n * t) all)
    (c.in_err-row.ensures.tame bits limit room d))

pub returns-in-Some-clause-tame : goal.returns-in-Some-clause-tame
returns-in-Some-clause-tame c = λ bits limit room plain.
    let g = c.args.meter.now in
    let n = c.args.last + 1 in
    let s = c.args.system.now in
    let t = test_units n in
    let d = differences_of n bits s plain.differences in
    let all = rows_work n bits g s c.requires.over plain in
    let h = c.equation_among.new.meter in
    let first = c.in_ok-row.ensures.tame bits limit room d in
    let one = first.within.units in
    let limit_then = ap (λ (x : Gauge). x.bits) c.in_ok-row.ensures.meter.same in
    let most = link_sum_none (length s.rows * t) t (row_limit n * t) all in
    tame_ok (link_units n) g h _ _ (omega (arith, one, most)) tt

pub returns-in_err-is_free-clause-tame : goal.returns-in_err-is_free-clause-tame
returns-in_err-is_free-clause-tame c = λ bits limit room plain.
    let g = c.args.meter.now in
    let n = c.args.last + 1 in
    let s = c.args.system.now in
    let t = test_units n in
    let d = differences_of n bits s plain.differences in
    let all = rows_work n bits g s c.requires.over plain in
    let h = c.equation_among.new.meter in
    let first = c.in_ok-row.ensures.tame bits limit room d in
    let one = first.within.units in
    let limit_then = ap (λ (x : Gauge). x.bits) c.in_ok-row.ensures.meter.same in
    let p = err_from_is_err_and c.from_residual-in_err-is_free.result c.from_residual-in_err-is_free.ensures.1 in
    rw (p.1, p.2) (tame_cut (length s.rows * t) t (link_units n) g h c.is_free.new.meter _ _ c.in_err-is_free.field-0.0
    c.in_ok-row.ensures.meter one (link_sum_less (length s.rows * t) t (row_limit n * t) all)
    (c.in_err-is_free.ensures.tame bits (limit_then ∙ limit) room d))

pub returns-then-branch-clause-tame : goal.returns-then-branch-clause-tame
returns-then-branch-clause-tame c = λ bits limit room plain.
    let g = c.args.meter.now in
    let n = c.args.last + 1 in
    let s = c.args.system.now in
    let t = test_units n in
    let d = differences_of n bits s plain.differences in
    let all = rows_work n bits g s c.requires.over plain in
    let h = c.equation_among.new.meter in
    let first = c.in_ok-row.ensures.tame bits limit room d in
    let one = first.within.units in
    let limit_then = ap (λ (x : Gauge). x.bits) c.in_ok-row.ensures.meter.same in
    let second = c.in_ok-is_free.ensures.tame bits (limit_then ∙ limit) room d in
    let two = second.within.units in
    let later = ap (λ (x : Gauge). x.bits) c.in_ok-is_free.ensures.meter.same in
    let charged = IsCharged_trans g h c.is_free.new.meter c.in_ok-row.ensures.meter c.in_ok-is_free.ensures.meter in
    let most = link_sum_less (length s.rows * t) t (row_limit n * t) all in
    tame_ok (link_units n) g c.is_free.new.meter _ _ (omega (arith, one, two, most)) tt

pub returns-in_err-row-2-clause-tame : goal.returns-in_err-row-2-clause-tame
returns-in_err-row-2-clause-tame c = λ bits limit room plain.
    let g = c.args.meter.now in
    let n = c.args.last + 1 in
    let s = c.args.system.now in
    let t = test_units n in
    let d = differences_of n bits s plain.differences in
    let all = rows_work n bits g s c.requires.over plain in
    let h = c.equation_among.new.meter in
    let first = c.in_ok-row.ensures.tame bits limit room d in
    let one = first.within.units in
    let limit_then = ap (λ (x : Gauge). x.bits) c.in_ok-row.ensures.meter.same in
    let second = c.in_ok-is_free.ensures.tame bits (limit_then ∙ limit) room d in
    let two = second.within.units in
    let later = ap (λ (x : Gauge). x.bits) c.in_ok-is_free.ensures.meter.same in
    let charged = IsCharged_trans g h c.is_free.new.meter c.in_ok-row.ensures.meter c.in_ok-is_free.ensures.meter in
    let p = err_from_is_err_and c.from_residual-in_err-row-2.result c.from_residual-in_err-row-2.ensures.1 in
    rw (p.1, p.2) (tame_cut (length s.rows * t + t) (length s.rows * t) (link_units n) g c.is_free.new.meter c.equation_among-2.new.meter
    _ _ c.in_err-row-2.field-0.0 charged (omega (arith, one, two)) (link_sum (length s.rows * t) t (row_limit n * t) all)
    (c.in_err-row-2.ensures.tame bits (later ∙ limit_then ∙ limit) room d))

pub returns-in-Some-2-clause-tame : goal.returns-in-Some-2-clause-tame
returns-in-Some-2-clause-tame c = λ bits limit room plain.
    let g = c.args.meter.now in
    let n = c.args.last + 1 in
    let s = c.args.system.now in
    let t = test_units n in
    let d = differences_of n bits s plain.differences in
    let all = rows_work n bits g s c.requires.over plain in
    let h = c.equation_among.new.meter in
    let first = c.in_ok-row.ensures.tame bits limit room d in
    let one = first.within.units in
    let limit_then = ap (λ (x : Gauge). x.bits) c.in_ok-row.ensures.meter.same in
    let second = c.in_ok-is_free.ensures.tame bits (limit_then ∙ limit) room d in
    let two = second.within.units in
    let later = ap (λ (x : Gauge). x.bits) c.in_ok-is_free.ensures.meter.same in
    let charged = IsCharged_trans g h c.is_free.new.meter c.in_ok-row.ensures.meter c.in_ok-is_free.ensures.meter in
    let third = c.in_ok-row-2.ensures.tame bits (later ∙ limit_then ∙ limit) room d in
    let three = third.within.units in
    let most = link_sum (length s.rows * t) t (row_limit n * t) all in
    tame_ok (link_units n) g c.equation_among-2.new.meter _ _ (omega (arith, one, two, three, most)) tt

pub returns-in-None-clause-tame : goal.returns-in-None-clause-tame
returns-in-None-clause-tame c = λ bits limit room plain.
    let g = c.args.meter.now in
    let n = c.args.last + 1 in
    let s = c.args.system.now in
    let t = test_units n in
    let d = differences_of n bits s plain.differences in
    let all = rows_work n bits g s c.requires.over plain in
    let h = c.equation_among.new.meter in
    let first = c.in_ok-row.ensures.tame bits limit room d in
    let one = first.within.units in
    let limit_then = ap (λ (x : Gauge). x.bits) c.in_ok-row.ensures.meter.same in
    let second = c.in_ok-is_free.ensures.tame bits (limit_then ∙ limit) room d in
    let two = second.within.units in
    let later = ap (λ (x : Gauge). x.bits) c.in_ok-is_free.ensures.meter.same in
    let charged = IsCharged_trans g h c.is_free.new.meter c.in_ok-row.ensures.meter c.in_ok-is_free.ensures.meter in
    let third = c.in_ok-row-2.ensures.tame bits (later ∙ limit_then ∙ limit) room d in
    let three = third.within.units in
    let most = link_sum (length s.rows * t) t (row_limit n * t) all in
    tame_ok (link_units n) g c.equation_among-2.new.meter _ _ (omega (arith, one, two, three, most)) tt
