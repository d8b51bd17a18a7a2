use Rattle.std.proofs.Common.{◌≤◌, ℕ, arith, length}
use Rattle.std.proofs.lemmas.Grind.{common_steps}
use Rattle.std.proofs.lemmas.List.Elements.{All-more}
use Rattle.isl_quotient.specs.Quotient.{PinsNone}
use Rattle.isl_quotient.proofs.PinnedLaws.{all_seen}
use Rattle.isl_quotient.proofs.candidate.is_upper.Goals as goal

pub returns : goal.returns
returns c = λ _.
    let cols = c.args.cols.now in
    let P : ℕ → Type 0 = λ col. PinsNone c.args.rows.now col c.args.row.now in
    let end : length cols ≤ c.loop-col.col-index = grind (arith, common_steps) in
    all_seen P cols c.loop-col.col-index end c.loop-col.invariant

pub loop-col-preserved : goal.loop-col-preserved
loop-col-preserved c =
    let cols = c.args.cols.now in
    let P : ℕ → Type 0 = λ col. PinsNone c.args.rows.now col c.args.row.now in
    All-more P cols c.loop-col.col-index 0 c.loop-col-test.true c.loop-col.invariant (c.has_lower.ensures (grind (arith, common_steps)))
