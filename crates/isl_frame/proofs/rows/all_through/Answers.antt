use Rattle.std.proofs.Common.{◌≡◌, ◌<◌, ◌≤◌, ◌∙◌, sym, subst, arith, List, length, get_or}
use Rattle.std.specs.List.{All, AllZip}
use Rattle.std.proofs.lemmas.Grind.{common_steps}
use Rattle.std.proofs.lemmas.List.{take_all}
use Rattle.isl_meter.specs.Gauge.{Gauge}
use Rattle.isl_piece.specs.declared.row.Row.{Row}
use Rattle.isl_piece.specs.Row.{IsRowWithin}
use Rattle.isl_frame.specs.Frame.{IsThrough}
use Rattle.isl_frame.proofs.ZipLaws.{all_step, zip_step}
use Rattle.isl_frame.proofs.rows.all_through.Goals as goal

pub loop-row-preserved : goal.loop-row-preserved
loop-row-preserved c =
    let rows = c.args.rows.now in
    let i = c.loop-row.row-index in
    let row = c.row-item.result in
    let same : c.as_slice-row-items.result.now ≡ rows = c.as_slice-row-items.ensures in
    let at : row ≡ get_or rows i row = subst (λ (rs : List Row). row ≡ get_or rs i row) same c.row-item.is in
    let low : i < length rows = grind (arith, common_steps) in
    let so_far = c.loop-row.invariant in
    let one = c.in_ok-through.ensures in
    let old = c.loop-row.meter in
    let made = c.in_ok-through.field-0 in (
      zip_step (λ r t. IsThrough c.args.variables r c.args.frame.now t) rows i row c.loop-row.made made c.push.new.self low at so_far.0
          one.0.0 c.in_ok-push.ensures.ok,
      subst (λ (g : Gauge). All (IsRowWithin g) c.push.new.self) (sym one.1)
          (all_step (IsRowWithin old) c.loop-row.made made c.push.new.self so_far.1 one.0.1 c.in_ok-push.ensures.ok),
      one.1 ∙ so_far.2,
    )

pub returns : goal.returns
returns c =
    let rows = c.args.rows.now in
    let so_far = c.loop-row.invariant in
    let end : length rows ≤ c.loop-row.row-index = grind (arith, common_steps) in (
      (
        subst (λ (rs : List Row). AllZip (λ r t. IsThrough c.args.variables r c.args.frame.now t) rs c.loop-row.made)
            (take_all c.loop-row.row-index rows end) so_far.0,
        subst (λ (g : Gauge). All (IsRowWithin g) c.loop-row.made) so_far.2 so_far.1,
      ),
      so_far.2,
    )
