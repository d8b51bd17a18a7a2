use Rattle.std.proofs.Common.{◌≢◌, ◌<◌, sym, subst, arith, length, ℤ, List}
use Rattle.std.specs.List.{remove}
use Rattle.isl_piece.specs.declared.row.Row.{Row}
use Rattle.isl_piece.specs.Row.{HoldsRow, IsWellFormed}
use Rattle.isl_piece.specs.System.{HoldRows}
use Rattle.isl_redundant.specs.Redundant.{IsAtLeast}
use Rattle.isl_redundant.proofs.KeptLaws.{others_at}
use Rattle.isl_redundant.proofs.SumLaws.{sum_next}
use Rattle.isl_redundant.proofs.certificate.sum_of_others.Goals as goal

pub loop-i-preserved : goal.loop-i-preserved
loop-i-preserved c =
    let rows = c.args.rows.now in
    let at = c.args.at in
    let i = c.loop-i.i in
    let row = c.index-rows-i.result in
    let inside : i < length rows = grind arith in
    let other : i ≢ at = grind arith in
    let is = c.index-rows-i.is in
    let formed = subst (λ (x : Row). IsWellFormed c.args.columns x) (sym is) (c.requires.well_formed i row inside) in
    let part : IsAtLeast row c.new-number.result = c.is_at_least.ensures (grind arith) in
    let implied : (point : List ℤ) → HoldRows (remove rows at) point → HoldsRow row point =
    λ point h. subst (λ (x : Row). HoldsRow x point) (sym is) (others_at (λ r. HoldsRow r point) rows at i row h other inside) in
    let made = rw c.in-Some.is at c.in_ok-more.ensures in
    sum_next c.args.columns (remove rows at) c.loop-i.sum row c.in-Some.more c.new-number.result c.loop-i.invariant formed.width part implied made.0 made.1
