use Rattle.std.proofs.Common.{◌≡◌, ◌+◌, pos, ◌≤ℤ◌, ◌<ℤ◌, to_z-of_z, subst, List, arith}
use Rattle.std.specs.List.{All}
use Rattle.std.proofs.lemmas.Grind.{common_steps}
use Rattle.isl_piece.specs.declared.row.Row.{Row}
use Rattle.isl_shadows.specs.Neighbours.{AreMetAmong, Has}
use Rattle.isl_shadows.proofs.CountLemmas.{met_in_order}
use Rattle.isl_shadows.proofs.SearchLemmas.{met_within}
use Rattle.isl_column.proofs.neighbours.neighbours_for.Goals as goal

pub returns-in-Met-clause-met : goal.returns-in-Met-clause-met
returns-in-Met-clause-met c =
    let rows = c.args.rows.now in
    let ordered = c.in_ok-ordered.ordered.items in
    let last = c.loop-last.last in
    let numbers = c.in_ok-numbers.numbers.items in
    let is : c.new-neighbours.result ≡ pos last = grind (arith, common_steps, to_z-of_z) in
    let in_row : All (λ n. (pos 0 ≤ℤ n) × (n <ℤ pos (last + 1))) numbers = grind (arith, common_steps) in
    let all : All (Has ordered) rows = grind (arith, common_steps) in
    let same : c.as_slice.result.now ≡ ordered = grind (arith, common_steps) in
    let met : AreMetAmong c.args.column.columns c.args.column.at ordered numbers =
    subst (λ (own : List Row). AreMetAmong c.args.column.columns c.args.column.at own numbers) same
    (c.in_ok-are_met.ensures c.in-Met.is) in
    met_within c.args.column.columns c.args.column.at rows numbers last c.new-neighbours.result is in_row
    (met_in_order c.args.column.columns c.args.column.at ordered rows numbers all met)
