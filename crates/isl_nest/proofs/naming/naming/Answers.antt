use Rattle.std.proofs.Common.{◌≡◌, ◌<◌, ◌≤◌, subst, arith, List, length, get_or}
use Rattle.std.proofs.lemmas.Grind.{common_steps}
use Rattle.std.proofs.lemmas.List.{take_all}
use Rattle.isl_piece.specs.declared.row.Row.{Row}
use Rattle.isl_nest.specs.Item.{named}
use Rattle.isl_nest.specs.Naming.{AreNaming}
use Rattle.isl_nest.proofs.NamingLaws.{naming_skip, naming_step, outside}
use Rattle.isl_nest.proofs.naming.naming.Goals as goal

pub loop-row-preserved-then-last-least : goal.loop-row-preserved-then-last-least
loop-row-preserved-then-last-least c =
    let rows = c.args.rows.now in
    let row = c.row-item.result in
    let same : c.as_slice-row-items.result.now ≡ rows = c.as_slice-row-items.ensures in
    let at : row ≡ get_or rows c.loop-row.row-index row =
    subst (λ (rs : List Row). row ≡ get_or rs c.loop-row.row-index row) same c.row-item.is in
    let low : c.loop-row.row-index < length rows = grind (arith, common_steps) in
    naming_skip c.args.least c.args.columns rows c.loop-row.row-index row c.loop-row.own low at c.loop-row.invariant
    (outside c.args.least c.args.columns c.named-last.result (named row.coefs) c.named-last.ensures c.then-last-least.either)

pub loop-row-preserved : goal.loop-row-preserved
loop-row-preserved c =
    let rows = c.args.rows.now in
    let row = c.row-item.result in
    let same : c.as_slice-row-items.result.now ≡ rows = c.as_slice-row-items.ensures in
    let at : row ≡ get_or rows c.loop-row.row-index row =
    subst (λ (rs : List Row). row ≡ get_or rs c.loop-row.row-index row) same c.row-item.is in
    let low : c.loop-row.row-index < length rows = grind (arith, common_steps) in
    let last = c.named-last.ensures in
    naming_step c.args.least c.args.columns rows c.loop-row.row-index row c.loop-row.own low at c.loop-row.invariant c.in_ok-cut.field-0
    c.push.new.self (grind (arith, common_steps, last)) (grind (arith, common_steps, last)) c.in_ok-cut.ensures c.in_ok-push.ensures.ok

pub returns : goal.returns
returns c =
    let rows = c.args.rows.now in
    let end : length rows ≤ c.loop-row.row-index = grind (arith, common_steps) in
    subst (λ (rs : List Row). AreNaming c.args.least c.args.columns rs c.loop-row.own) (take_all c.loop-row.row-index rows end)
    c.loop-row.invariant
