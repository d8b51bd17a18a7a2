use Rattle.std.proofs.Common.{◌≡◌, ◌<◌, ◌≤◌, true, false, arith, length}
use Rattle.std.specs.List.{Any}
use Rattle.std.proofs.lemmas.Grind.{common_steps}
use Rattle.isl_piece.specs.declared.row.Row.{Row}
use Rattle.isl_difference.specs.Told.{Says}
use Rattle.isl_difference.proofs.BoundLaws.{all_found, imply_rows, not_so, one_all, one_missed}
use Rattle.isl_difference.proofs.bounds.are_implied.Goals as goal

pub loop-other-preserved : goal.loop-other-preserved
loop-other-preserved c =
    let others = c.args.others.now in
    let i = c.loop-other.other-index in
    let x = c.other-item.result in
    let low : i < length others = grind (arith, common_steps) in
    let yes : c.is_implied.result ≡ true = grind (arith, common_steps) in
    let P : Row → Type 0 = λ other. Any (λ row. Says row other) c.args.rows.now in
    one_all P others i x low c.other-item.is (c.is_implied.ensures.exact.0 yes) c.loop-other.invariant

pub returns-clause-exact : goal.returns-clause-exact
returns-clause-exact c =
    let others = c.args.others.now in
    let end : length others ≤ c.loop-other.other-index = grind (arith, common_steps) in
    all_found (λ (other : Row). Any (λ row. Says row other) c.args.rows.now) others c.loop-other.other-index end c.loop-other.invariant

pub returns-clause-hold : goal.returns-clause-hold
returns-clause-hold c = λ t. imply_rows c.args.rows.now c.args.others.now ((returns-clause-exact c).0 t)

pub returns-then-not-is_implied-clause-exact : goal.returns-then-not-is_implied-clause-exact
returns-then-not-is_implied-clause-exact c =
    let others = c.args.others.now in
    let i = c.loop-other.other-index in
    let x = c.other-item.result in
    let low : i < length others = grind (arith, common_steps) in
    let no : c.is_implied.result ≡ false = grind (arith, common_steps) in
    let P : Row → Type 0 = λ other. Any (λ row. Says row other) c.args.rows.now in
    one_missed P others i x low c.other-item.is (not_so (P x) c.is_implied.result no c.is_implied.ensures.exact)
