use Rattle.std.proofs.Common.{◌≡◌, ◌+◌, ◌<◌, ◌++◌, ◌∷◌, [], length, take, sym, ap, ◌∙◌, to_z-of_z, arith}
use Rattle.std.proofs.lemmas.Grind.{common_steps}
use Rattle.std.proofs.lemmas.List.{take_more}
use Rattle.isl_math.specs.Divide.{floor_div}
use Rattle.isl_piece.specs.declared.row.Row.{Row}
use Rattle.isl_omega.specs.Congruence.{period}
use Rattle.isl_omega.specs.Sides.{IsNotDivides}
use Rattle.isl_shadows.proofs.SearchLemmas.{left_none, left_more, left_below}
use Rattle.isl_column.proofs.neighbours.is_below_periods.Goals as goal

pub loop-row-init : goal.loop-row-init
loop-row-init c = left_none c.args.column.at c.args.number

pub loop-row-preserved : goal.loop-row-preserved
loop-row-preserved c =
    let rows = c.args.rows.now in
    let i = c.loop-row.row-index in
    let r = c.row-item.result in
    let inside : i < length rows = grind (arith, common_steps) in
    let taken : take (i + 1) rows ≡ take i rows ++ r ∷ [] = take_more rows i r inside ∙ ap (λ (s : Row). take i rows ++ s ∷ []) (sym c.row-item.is) in
    let not_divides : IsNotDivides c.args.meter.now c.args.column.columns c.args.column.at r = grind (arith, common_steps) in
    let is : c.new-left.result ≡ floor_div c.loop-row.left (period c.args.column.at r) = grind (arith, common_steps, to_z-of_z) in
    rw (taken, is) (left_more c.args.meter.now c.args.column.columns c.args.column.at (take i rows) r c.args.number c.loop-row.left not_divides c.loop-row.invariant)

pub returns : goal.returns
returns c =
    let rows = c.args.rows.now in
    let whole : take c.loop-row.row-index rows ≡ rows = grind (arith, common_steps) in
    λ t. left_below c.args.column.at rows c.args.number c.loop-row.left (grind (arith, common_steps)) (rw whole at c.loop-row.invariant)
