use Rattle.std.proofs.Common.{◌≡◌, ◌-◌, subst, arith, Some, None, List}
use Rattle.isl_meter.specs.Gauge.{IsCharged}
use Rattle.isl_piece.specs.declared.row.Row.{Row}
use Rattle.isl_column.specs.Column.{HoldAtSome}
use Rattle.isl_column.specs.RealShadow.{IsImplied}
use Rattle.isl_calls.proofs.LevelLaws.{shadow_none, shadow_some}
use Rattle.isl_calls.proofs.shadow.shadow.Goals as goal

pub returns-in-None : goal.returns-in-None
returns-in-None c =
    let g = c.args.meter.now in
    let s = c.args.system.now in
    let width = c.args.width in
    let rows : c.as_slice.result.now ≡ s.rows = grind arith in
    let none : c.in_ok-real_shadow.field-0 ≡ None = grind arith in
    let charged : IsCharged g c.real_shadow.new.meter = grind arith in
    let implied = subst (IsImplied g (s.columns - 1) (HoldAtSome s.rows width)) none
    (subst (λ (rs : List Row). IsImplied g (s.columns - 1) (HoldAtSome rs width) c.in_ok-real_shadow.field-0) rows
    c.in_ok-real_shadow.ensures.implied) in
    (shadow_none s width c.requires.plain c.requires.columns implied, charged)

pub returns-in-Some : goal.returns-in-Some
returns-in-Some c =
    let g = c.args.meter.now in
    let s = c.args.system.now in
    let width = c.args.width in
    let rows : c.as_slice.result.now ≡ s.rows = grind arith in
    let some : c.in_ok-real_shadow.field-0 ≡ Some c.in-Some.rows = grind arith in
    let charged : IsCharged g c.real_shadow.new.meter = grind arith in
    let implied = subst (IsImplied g (s.columns - 1) (HoldAtSome s.rows width)) some
    (subst (λ (rs : List Row). IsImplied g (s.columns - 1) (HoldAtSome rs width) c.in_ok-real_shadow.field-0) rows
    c.in_ok-real_shadow.ensures.implied) in
    (shadow_some s width c.requires.plain c.requires.columns g c.in-Some.rows c.from_rows.result implied c.from_rows.ensures, charged)
