use Rattle.std.proofs.Common.{◌≡◌, ◌∙◌, ◌*◌, ◌≤◌, ap, arith, length, refl, subst, sym, List, ℕ, ℤ}
use Rattle.std.specs.List.{All}
use Rattle.std.proofs.lemmas.Result.{err_from_is_err_and}
use Rattle.isl_meter.specs.Gauge.{Gauge}
use Rattle.isl_meter.proofs.CutLemmas.{IsCharged_refl}
use Rattle.isl_span.specs.Points.{IsOver, IsPoint}
use Rattle.isl_difference.proofs.TameLaws.{first_within, tame_cut, tame_ok}
use Rattle.isl_span.specs.Work.{test_units}
use Rattle.isl_span.proofs.EndLaws.{empty_hull, forms_before, rows_are}
use Rattle.isl_span.proofs.PointLaws.{all_over_later}
use Rattle.isl_span.proofs.WorkLaws.{none_asked}
use Rattle.isl_span.proofs.hull.equations_of.Goals as goal

pub rows_through-requires-clause-systems : goal.rows_through-requires-clause-systems
rows_through-requires-clause-systems c =
    let n = c.args.columns in
    let systems = c.args.systems.now in
    let sample = rw c.in-Some.is at c.in_ok-point.ensures.exact in
    let long = ap (λ (l : List ℤ). length l) c.as_slice.ensures.value ∙ sample.width in
    subst (λ (k : ℕ). All (IsOver c.first_point.new.meter k) systems) (sym long)
    (all_over_later c.args.meter.now c.first_point.new.meter n systems (ap (λ (x : Gauge). x.bits) c.in_ok-point.ensures.meter.same)
    c.requires)

pub returns-clause-exact : goal.returns-clause-exact
returns-clause-exact c =
    let g = c.args.meter.now in
    let n = c.args.columns in
    let systems = c.args.systems.now in
    let sample = rw c.in-Some.is at c.in_ok-point.ensures.exact in
    let long = ap (λ (l : List ℤ). length l) c.as_slice.ensures.value ∙ sample.width in
    let rows = c.in_ok-rows_through.field-0 in
    let forms = forms_before g c.first_point.new.meter n (length c.as_slice.result.now) systems rows
    (ap (λ (x : Gauge). x.bits) c.in_ok-point.ensures.meter.same) long c.in_ok-rows_through.ensures.forms in
    rows_are g n (IsPoint n systems) rows forms c.in-Some.point.items (record { long = sample.width; holds = sample.holds })

pub returns-then-columns-eq0-clause-exact : goal.returns-then-columns-eq0-clause-exact
returns-then-columns-eq0-clause-exact c =
    let n = c.args.columns in
    let none : n ≡ 0 = omega arith in
    let sample = rw c.in-Some.is at c.in_ok-point.ensures.exact in
    rw c.new.ensures (empty_hull c.args.meter.now n (IsPoint n c.args.systems.now) none c.in-Some.point.items sample.width
    (record { long = sample.width; holds = sample.holds }))

-- ---- of difference constraints, once all columns were taken
pub returns-in_err-point-clause-tame : goal.returns-in_err-point-clause-tame
returns-in_err-point-clause-tame c = λ size limit none wide room all.
    let g = c.args.meter.now in
    let u = length c.args.systems.now * test_units size.columns in
    let p = err_from_is_err_and c.from_residual.result c.from_residual.ensures.1 in
    rw (p.1, p.2) (tame_cut 0 u 0 g g c.first_point.new.meter _ _ c.in_err-point.field-0.0 (IsCharged_refl g g refl) (omega arith)
    (first_within u 0 (none_asked (length c.args.systems.now) size.columns wide))
    (c.in_err-point.ensures.tame size limit (omega (arith, room, wide)) all))

pub returns-in_default-clause-tame : goal.returns-in_default-clause-tame
returns-in_default-clause-tame c = λ size limit none wide room all.
    let g = c.args.meter.now in
    let u = length c.args.systems.now * test_units size.columns in
    let asked = c.in_ok-point.ensures.tame size limit (omega (arith, room, wide)) all in
    let used = asked.within.units in
    let zero : u ≤ 0 = none_asked (length c.args.systems.now) size.columns wide in
    tame_ok 0 g c.first_point.new.meter _ _ (omega (arith, used, zero)) tt

pub returns-then-columns-eq0-clause-tame : goal.returns-then-columns-eq0-clause-tame
returns-then-columns-eq0-clause-tame c = λ size limit none wide room all.
    let g = c.args.meter.now in
    let u = length c.args.systems.now * test_units size.columns in
    let asked = c.in_ok-point.ensures.tame size limit (omega (arith, room, wide)) all in
    let used = asked.within.units in
    let zero : u ≤ 0 = none_asked (length c.args.systems.now) size.columns wide in
    tame_ok 0 g c.first_point.new.meter _ _ (omega (arith, used, zero)) tt

pub returns-in_err-rows_through-clause-tame : goal.returns-in_err-rows_through-clause-tame
returns-in_err-rows_through-clause-tame c = λ size limit none wide room all. absurd (omega (arith, none))

pub returns-clause-tame : goal.returns-clause-tame
returns-clause-tame c = λ size limit none wide room all. absurd (omega (arith, none))
