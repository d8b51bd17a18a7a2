use Rattle.std.proofs.Common.{◌≡◌, ◌<◌, sym, subst, get_or, length, arith}
use Rattle.isl_piece.specs.declared.row.Row.{Row}
use Rattle.isl_piece.specs.declared.row.RowKind.TheVariants.{AtLeast}
use Rattle.isl_piece.specs.Row.{coef_at}
use Rattle.isl_omega.specs.Column.{IsProper}
use Rattle.isl_presolve.specs.declared.fixed.Range.{Range}
use Rattle.isl_presolve.specs.Fixed.{IsRangeAt}
use Rattle.isl_presolve.proofs.FixedLaws.{range_narrowed, ranges_next}
use Rattle.isl_presolve.proofs.fixed.ranges_of.Goals as goal

pub loop-row-preserved : goal.loop-row-preserved
loop-row-preserved c =
    let g = c.args.meter.now in
    let columns = c.args.columns in
    let rows = c.args.rows.now in
    let i = c.loop-row.row-index in
    let row = c.row-item.result in
    let col = c.in-Some.col in
    let ranges = c.loop-row.ranges.items in
    let old = c.index.result.now in
    let inside : i < length rows = grind arith in
    let proper = subst (λ (r : Row). IsProper g columns r) (sym c.row-item.is) (c.requires.rows i row inside) in
    let kind : row.kind ≡ AtLeast = grind arith in
    let slice : c.as_slice.result.now ≡ row.coefs = grind arith in
    let seen = rw slice at c.in-Some.ensures in
    let low : col < columns = rw proper.formed.width at seen.0 in
    let at : old ≡ get_or ranges col old = grind arith in
    let own = subst (λ (r : Range). IsRangeAt columns rows col r) (sym at) (c.loop-row.invariant.each col old low) in
    let number : c.get.result ≡ coef_at row col = grind arith in
    let constant : c.constant.result ≡ row.constant = grind arith in
    let step = rw (number, constant) at c.narrowed.ensures in
    ranges_next columns rows ranges col c.narrowed.result c.loop-row.invariant low
    (range_narrowed columns rows row i col old c.narrowed.result inside c.row-item.is kind seen.1 own step)
