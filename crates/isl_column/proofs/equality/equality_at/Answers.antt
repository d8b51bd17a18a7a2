use Rattle.std.proofs.Common.{◌≡◌, length, take, arith}
use Rattle.std.proofs.lemmas.Grind.{common_steps}
use Rattle.isl_shadows.proofs.LeastEquality.{IsFound, found_first}
use Rattle.isl_column.proofs.equality.equality_at.Goals as goal

pub loop-i-init : goal.loop-i-init
loop-i-init c = found_first c.args.column.at c.args.rows.now

pub returns : goal.returns
returns c =
    let whole : take c.loop-i.i c.args.rows.now ≡ c.args.rows.now = grind (arith, common_steps) in
    let all : c.loop-i.i ≡ length c.args.rows.now = grind (arith, common_steps) in
    let found : IsFound c.args.column.at c.args.rows.now (length c.args.rows.now) c.loop-i.found = rw all at c.loop-i.invariant in
    grind arith
