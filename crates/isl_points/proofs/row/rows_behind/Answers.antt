use Rattle.std.proofs.Common.{◌≡◌, ◌++◌, ◌∷◌, [], ◌<◌, length, arith, subst}
use Rattle.std.proofs.lemmas.Grind.{common_steps}
use Rattle.std.proofs.lemmas.List.Elements.{All-append, All-cons, All-nil}
use Rattle.isl_meter.specs.Gauge.{Gauge, IsWithin}
use Rattle.isl_piece.specs.declared.row.Row.{Row}
use Rattle.isl_points.proofs.RowLaws.{rows_more}
use Rattle.isl_points.proofs.row.rows_behind.Goals as goal

pub loop-row-preserved : goal.loop-row-preserved
loop-row-preserved c =
    let g = c.args.meter.now in
    let IsRowConstant : Row → Type 0 = λ r. IsWithin g r.constant in
    let rows = c.args.rows.now in
    let i = c.loop-row.row-index in
    let row = c.row-item.result in
    let left = c.in_ok-left.left in
    let old = c.loop-row.kept.items in
    let new = c.push.new.self.items in
    let before = c.loop-row.invariant in
    let own = c.in_ok-left.ensures.exact in
    let low : i < length rows = grind (arith, common_steps) in
    let more : new ≡ old ++ left ∷ [] = grind (arith, common_steps) in (
      rows_more c.args.numbers.now rows i row left old new low c.row-item.is own.0 before.0 more,
      rw more (All-append IsRowConstant old (left ∷ []) before.1 (All-cons IsRowConstant left []
          (subst (λ (m : Gauge). IsWithin m left.constant) before.2 own.1) (All-nil IsRowConstant))),
      grind arith,
    )
