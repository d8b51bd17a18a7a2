use Rattle.std.proofs.Common.{◌≤◌, arith, length}
use Rattle.std.proofs.lemmas.Grind.{common_steps}
use Rattle.isl_elim.proofs.NarrowLaws.{free_more}
use Rattle.isl_elim.proofs.narrow.are_free.Goals as goal

pub loop-at-preserved : goal.loop-at-preserved
loop-at-preserved c =
    free_more c.args.rows.now c.args.narrow c.loop-at.at c.index-rows-at.result (grind (arith, common_steps)) (grind (arith, common_steps))
    (c.is_free_at.ensures (grind (arith, common_steps))) c.loop-at.invariant

pub returns : goal.returns
returns c = λ yes i d l m n.
    let end : length c.args.rows.now ≤ c.loop-at.at = grind (arith, common_steps) in
    c.loop-at.invariant i d (omega (arith, l, end)) m n
