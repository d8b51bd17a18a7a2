use Rattle.std.proofs.Common.{◌≡◌, ◌<◌, ◌≤◌, true, false, arith, length}
use Rattle.std.proofs.lemmas.Grind.{common_steps}
use Rattle.isl_piece.specs.declared.row.Row.{Row}
use Rattle.isl_difference.specs.Told.{Says}
use Rattle.isl_difference.proofs.BoundLaws.{none_at_first, none_found, not_so, one_found, one_none}
use Rattle.isl_difference.proofs.bounds.is_implied.Goals as goal

pub loop-row-init : goal.loop-row-init
loop-row-init c = none_at_first (λ (row : Row). Says row c.args.other.now) c.args.rows.now

pub loop-row-preserved : goal.loop-row-preserved
loop-row-preserved c =
    let i = c.loop-row.row-index in
    let x = c.row-item.result in
    let low : i < length c.args.rows.now = grind (arith, common_steps) in
    let no : c.says.result ≡ false = grind (arith, common_steps) in
    let P : Row → Type 0 = λ (row : Row). Says row c.args.other.now in
    one_none P c.args.rows.now i x low c.row-item.is (not_so (P x) c.says.result no c.says.ensures) c.loop-row.invariant

pub returns-clause-exact : goal.returns-clause-exact
returns-clause-exact c =
    let end : length c.args.rows.now ≤ c.loop-row.row-index = grind (arith, common_steps) in
    none_found (λ (row : Row). Says row c.args.other.now) c.args.rows.now c.loop-row.row-index end c.loop-row.invariant

pub returns-then-says-clause-exact : goal.returns-then-says-clause-exact
returns-then-says-clause-exact c =
    let i = c.loop-row.row-index in
    let x = c.row-item.result in
    let low : i < length c.args.rows.now = grind (arith, common_steps) in
    let yes : c.says.result ≡ true = grind (arith, common_steps) in
    let P : Row → Type 0 = λ (row : Row). Says row c.args.other.now in
    one_found P c.args.rows.now i x low c.row-item.is (c.says.ensures.0 yes)
