use Rattle.std.proofs.Common.{◌≡◌, ◌<◌, ◌∙◌, ◌++◌, ◌∷◌, [], sym, subst, get_or, length, pos, arith}
use Rattle.isl_piece.specs.declared.row.Row.{Row}
use Rattle.isl_piece.specs.Row.{HoldsRow}
use Rattle.isl_omega.specs.Column.{IsProper}
use Rattle.isl_presolve.specs.declared.fixed.Range.{Range}
use Rattle.isl_presolve.specs.Fixed.{IsInRange}
use Rattle.isl_presolve.proofs.FixedLaws.{fixed_next}
use Rattle.isl_presolve.proofs.fixed.push_fixed.Goals as goal

pub loop-col-preserved : goal.loop-col-preserved
loop-col-preserved c =
    let g = c.args.meter.now in
    let rows = c.args.rows.now in
    let at = c.args.at in
    let columns = length c.args.ranges.now in
    let col = c.loop-col.col in
    let line = c.index-rows-at.result in
    let range = c.index-ranges-col.result in
    let row = c.in_ok-number_row.field-0 in
    let low : col < columns = grind arith in
    let proper = subst (λ (r : Row). IsProper g columns r) (sym c.index-rows-at.is) (c.requires.rows at line c.requires.inside) in
    let pushed : c.push.new.self ≡ c.loop-col.found ++ row ∷ [] = grind arith in
    let made = rw c.loop-col.invariant.1 at c.in_ok-number_row.ensures in (
      rw pushed (fixed_next g columns rows c.loop-col.found row c.loop-col.invariant.0 made.0.0 (λ point w h.
          let inside = subst (λ (r : Range). IsInRange r (get_or point col (pos 0))) (sym c.index-ranges-col.is)
          (c.requires.ranges.each col range low point w h) in
          let holds = subst (λ (r : Row). HoldsRow r point) (sym c.index-rows-at.is) (h at line c.requires.inside) in
          made.0.1 point w (c.in-Some.ensures point (w ∙ sym proper.formed.width) holds inside))),
      made.1,
    )
