use Rattle.std.proofs.Common.{refl, arith}
use Rattle.std.proofs.lemmas.Grind.{common_steps}
use Rattle.isl_elim.proofs.NarrowLaws.{narrow_is}
use Rattle.isl_elim.proofs.narrow.narrow_at.Goals as goal

pub returns : goal.returns
returns c = (
  refl,
  narrow_is c.args.rows.now c.args.col _ _ _ c.index-rows-lower.result c.index-rows-upper.result (grind (arith, common_steps))
      (grind (arith, common_steps)) (grind (arith, common_steps)) (grind (arith, common_steps)) (grind (arith, common_steps))
      (c.are_free.ensures (grind (arith, common_steps))),
)
