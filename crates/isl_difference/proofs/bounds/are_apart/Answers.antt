use Rattle.std.proofs.Common.{◌≡◌, ◌<◌, ◌≤◌, true, false, arith, length}
use Rattle.std.specs.List.{Any}
use Rattle.std.proofs.lemmas.Grind.{common_steps}
use Rattle.isl_piece.specs.declared.row.Row.{Row}
use Rattle.isl_difference.specs.Told.{Excludes}
use Rattle.isl_difference.proofs.BoundLaws.{none_at_first, none_found, not_so, one_found, one_none}
use Rattle.isl_difference.proofs.bounds.are_apart.Goals as goal

pub loop-other-init : goal.loop-other-init
loop-other-init c = none_at_first (λ (other : Row). Any (λ row. Excludes row other) c.args.rows.now) c.args.others.now

pub loop-other-preserved : goal.loop-other-preserved
loop-other-preserved c =
    let i = c.loop-other.other-index in
    let x = c.other-item.result in
    let low : i < length c.args.others.now = grind (arith, common_steps) in
    let no : c.is_excluded.result ≡ false = grind (arith, common_steps) in
    let P : Row → Type 0 = λ (other : Row). Any (λ row. Excludes row other) c.args.rows.now in
    one_none P c.args.others.now i x low c.other-item.is (not_so (P x) c.is_excluded.result no c.is_excluded.ensures) c.loop-other.invariant

pub returns-clause-exact : goal.returns-clause-exact
returns-clause-exact c =
    let end : length c.args.others.now ≤ c.loop-other.other-index = grind (arith, common_steps) in
    none_found (λ (other : Row). Any (λ row. Excludes row other) c.args.rows.now) c.args.others.now c.loop-other.other-index end
    c.loop-other.invariant

pub returns-then-is_excluded-clause-exact : goal.returns-then-is_excluded-clause-exact
returns-then-is_excluded-clause-exact c =
    let i = c.loop-other.other-index in
    let x = c.other-item.result in
    let low : i < length c.args.others.now = grind (arith, common_steps) in
    let yes : c.is_excluded.result ≡ true = grind (arith, common_steps) in
    let P : Row → Type 0 = λ (other : Row). Any (λ row. Excludes row other) c.args.rows.now in
    one_found P c.args.others.now i x low c.other-item.is (c.is_excluded.ensures.0 yes)
