use Rattle.std.proofs.Common.{◌≡◌, ◌+◌, ◌<◌, ◌++◌, ◌∷◌, [], length, map, take, sym, ap, ◌∙◌, arith}
use Rattle.std.proofs.lemmas.Grind.{common_steps}
use Rattle.std.proofs.lemmas.List.{take_more}
use Rattle.isl_math.specs.Divide.{floor_mod}
use Rattle.isl_piece.specs.declared.row.Row.{Row}
use Rattle.isl_omega.specs.Congruence.{period}
use Rattle.isl_omega.specs.Sides.{IsNotDivides}
use Rattle.isl_shadows.proofs.CountLemmas.{AreAtMost, left_of_all, left_behind, met_as_left}
use Rattle.isl_column.proofs.neighbours.leaves_one.Goals as goal

pub loop-row-init : goal.loop-row-init
loop-row-init c = left_of_all c.args.column.columns c.args.column.at c.args.numbers.now

pub loop-row-preserved : goal.loop-row-preserved
loop-row-preserved c =
    let rows = c.args.rows.now in
    let i = c.loop-row.row-index in
    let r = c.row-item.result in
    let columns = c.args.column.columns in
    let at = c.args.column.at in
    let rests = c.in_ok-rests.rests.items in
    let inside : i < length rows = grind (arith, common_steps) in
    let taken : take (i + 1) rows ≡ take i rows ++ r ∷ [] = take_more rows i r inside ∙ ap (λ (s : Row). take i rows ++ s ∷ []) (sym c.row-item.is) in
    let not_divides : IsNotDivides c.args.meter.now columns at r = grind (arith, common_steps) in
    let is : rests ≡ map (λ n. floor_mod n (period at r)) c.args.numbers.now = grind (arith, common_steps) in
    let at_most : AreAtMost rests c.most_alike-most.result rests = grind (arith, common_steps) in
    rw taken (left_behind c.args.meter.now columns at (take i rows) r c.args.numbers.now rests c.loop-row.left c.most_alike-most.result _
    c.args.column.in_range not_divides is at_most (grind (arith, common_steps)) c.loop-row.invariant)

pub returns : goal.returns
returns c =
    let rows = c.args.rows.now in
    let whole : take c.loop-row.row-index rows ≡ rows = grind (arith, common_steps) in
    λ t. met_as_left c.args.column.columns c.args.column.at rows c.args.numbers.now c.loop-row.left (grind (arith, common_steps))
    (rw whole at c.loop-row.invariant)
