use Rattle.std.proofs.Common.{◌≡◌, ◌∙◌, ◌<◌, ◌≤◌, refl, subst, arith, take, length, List}
use Rattle.std.proofs.lemmas.Grind.{common_steps}
use Rattle.isl_meter.specs.Gauge.{Gauge, IsWithin}
use Rattle.isl_piece.specs.declared.row.Row.{Row}
use Rattle.isl_greatest.specs.Parts.{IsPeriodOf, PushesRow}
use Rattle.isl_greatest.proofs.PartsLaws.{taken_case, taken_more, AreTaken}
use Rattle.isl_greatest.proofs.case.case_of.Goals as goal

pub loop-row-preserved : goal.loop-row-preserved
loop-row-preserved c =
    let rows = c.as_slice-rows.result.now in
    let inside : c.loop-row.row-index < length rows = omega arith in
    let pushed = subst (λ (m : Gauge). PushesRow m c.args.column c.row-item.result c.loop-row.parts c.add.new.self) c.loop-row.invariant.1
    c.in_ok-add.ensures.0 in (
      taken_more c.args.meter.now c.args.column rows c.loop-row.row-index c.row-item.result c.loop-row.parts c.add.new.self inside c.row-item.is
          c.loop-row.invariant.0 pushed,
      c.in_ok-add.ensures.1 ∙ c.loop-row.invariant.1,
    )

pub returns : goal.returns
returns c =
    let g = c.args.meter.now in
    let s = c.args.system.now in
    let rows = c.as_slice-rows.result.now in
    let i = c.loop-row.row-index in
    let all : length s.rows ≤ i = grind (arith, common_steps) in
    let taken = subst (λ (rs : List Row). AreTaken g c.args.column (take i rs) c.loop-row.parts) c.as_slice-rows.ensures c.loop-row.invariant.0 in
    let multiple = subst (λ (rs : List Row). IsPeriodOf rs c.in_ok-period.period) c.as_slice.ensures c.in_ok-period.ensures.0 in
    let within = subst (λ (m : Gauge). IsWithin m c.in_ok-period.period) c.loop-row.invariant.1 c.in_ok-period.ensures.1 in (
      taken_case g c.args.column i s c.loop-row.parts c.in_ok-period.period _ all taken multiple within refl,
      c.in_ok-period.ensures.2 ∙ c.loop-row.invariant.1,
    )
