use Rattle.std.proofs.Common.{◌∙◌, ◌*◌, ◌<◌, ◌≤◌, ap, arith, length, refl, subst, sym, take, ℕ}
use Rattle.std.proofs.lemmas.List.{take_all}
use Rattle.std.proofs.lemmas.Result.{err_from_is_err_and}
use Rattle.isl_meter.specs.Gauge.{Gauge}
use Rattle.isl_meter.proofs.CutLemmas.{IsCharged_refl, IsCharged_trans}
use Rattle.isl_piece.specs.System.{HoldsSystem, free_columns}
use Rattle.isl_elim.specs.Sample.{IsNowhere, IsSample}
use Rattle.isl_difference.proofs.TameLaws.{taken_next, taken_turn, tame_cut, tame_ok}
use Rattle.isl_span.specs.Points.{IsOver}
use Rattle.isl_span.specs.Work.{test_units}
use Rattle.isl_span.proofs.PointLaws.{nothing, nowhere_all, nowhere_first, nowhere_more, over_later}
use Rattle.isl_span.proofs.WorkLaws.{one_size}
use Rattle.isl_span.proofs.points.first_point.Goals as goal

pub sample_point-requires : goal.sample_point-requires
sample_point-requires c =
    let g = c.args.meter.now in
    let n = c.args.columns in
    let systems = c.args.systems.now in
    let i = c.loop-system.system-index in
    let s = c.system-item.result in
    let low : i < length systems = omega arith in
    let same = ap (λ (x : Gauge). x.bits) c.loop-system.invariant.charged.same in
    let over = over_later g c.loop-system.meter n s same (subst (IsOver g n) (sym c.system-item.is) (c.requires i s low)) in
    record { well_formed = over.within }

pub loop-system-init : goal.loop-system-init
loop-system-init c =
    let g = c.args.meter.now in
    record {
      none = nowhere_first HoldsSystem c.args.columns c.args.systems.now;
      charged = IsCharged_refl g g refl;
      tame = λ size limit room all. omega arith;
    }

pub loop-system-preserved : goal.loop-system-preserved
loop-system-preserved c =
    let g = c.args.meter.now in
    let h = c.loop-system.meter in
    let n = c.args.columns in
    let systems = c.args.systems.now in
    let i = c.loop-system.system-index in
    let s = c.system-item.result in
    let low : i < length systems = omega arith in
    let same = ap (λ (x : Gauge). x.bits) c.loop-system.invariant.charged.same in
    let free = (over_later g h n s same (subst (IsOver g n) (sym c.system-item.is) (c.requires i s low))).free in
    let none = nothing c.in_ok-point.field-0 (IsNowhere (free_columns s) (HoldsSystem s))
    (λ point. IsSample h (free_columns s) (HoldsSystem s) point.items) c.in_default.not-Some c.in_ok-point.ensures.exact in
    record {
      none = nowhere_more HoldsSystem n systems i s low c.system-item.is c.loop-system.invariant.none
          (subst (λ (k : ℕ). IsNowhere k (HoldsSystem s)) free none);
      charged = IsCharged_trans g h c.sample_point.new.meter c.loop-system.invariant.charged c.in_ok-point.ensures.meter;
      tame = λ size limit room all.
          let made = c.in_ok-point.ensures.tame size (same ∙ limit) room (one_size size systems i s low c.system-item.is all) in
          taken_next i systems (test_units size.columns) g h c.sample_point.new.meter low
          (c.loop-system.invariant.tame size limit room all) made.within.units;
    }

pub returns-clause-exact : goal.returns-clause-exact
returns-clause-exact c =
    let end : length c.args.systems.now ≤ c.loop-system.system-index = omega arith in
    nowhere_all HoldsSystem c.args.columns c.args.systems.now c.loop-system.system-index end c.loop-system.invariant.none

-- ---- of difference constraints
pub returns-in_err-point-clause-tame : goal.returns-in_err-point-clause-tame
returns-in_err-point-clause-tame c = λ size limit room all.
    let g = c.args.meter.now in
    let h = c.loop-system.meter in
    let t = test_units size.columns in
    let systems = c.args.systems.now in
    let i = c.loop-system.system-index in
    let s = c.system-item.result in
    let low : i < length systems = omega arith in
    let before = c.loop-system.invariant.tame size limit room all in
    let limit_then = ap (λ (x : Gauge). x.bits) c.loop-system.invariant.charged.same ∙ limit in
    let own = one_size size systems i s low c.system-item.is all in
    let p = err_from_is_err_and c.from_residual.result c.from_residual.ensures.1 in
    rw (p.1, p.2) (tame_cut (length (take i systems) * t) t (length systems * t) g h c.sample_point.new.meter _ _ c.in_err-point.field-0.0
    c.loop-system.invariant.charged before (taken_turn i systems t low) (c.in_err-point.ensures.tame size limit_then room own))

pub returns-in-Some-clause-tame : goal.returns-in-Some-clause-tame
returns-in-Some-clause-tame c = λ size limit room all.
    let g = c.args.meter.now in
    let h = c.loop-system.meter in
    let t = test_units size.columns in
    let systems = c.args.systems.now in
    let i = c.loop-system.system-index in
    let s = c.system-item.result in
    let low : i < length systems = omega arith in
    let before = c.loop-system.invariant.tame size limit room all in
    let limit_then = ap (λ (x : Gauge). x.bits) c.loop-system.invariant.charged.same ∙ limit in
    let own = one_size size systems i s low c.system-item.is all in
    let made = c.in_ok-point.ensures.tame size limit_then room own in
    let used = made.within.units in
    let most = taken_turn i systems t low in
    tame_ok (length systems * t) g c.sample_point.new.meter _ _ (omega (arith, before, used, most)) tt

pub returns-clause-tame : goal.returns-clause-tame
returns-clause-tame c = λ size limit room all.
    let systems = c.args.systems.now in
    let i = c.loop-system.system-index in
    let end : length systems ≤ i = omega arith in
    tame_ok (length systems * test_units size.columns) c.args.meter.now c.loop-system.meter _ _
    (rw (take_all i systems end) at (c.loop-system.invariant.tame size limit room all)) tt
