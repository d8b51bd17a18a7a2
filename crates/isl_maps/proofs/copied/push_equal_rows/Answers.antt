use Rattle.isl_maps.proofs.CopiedLaws.{equal_more}
use Rattle.isl_maps.proofs.copied.push_equal_rows.Goals as goal

pub loop-offset-preserved : goal.loop-offset-preserved
loop-offset-preserved c =
    equal_more c.args.system.now c.loop-offset.system c.push.new.self c.in_ok-row.row c.args.first c.args.second c.loop-offset.offset
    c.loop-offset.invariant c.in_ok-push.ensures.ok c.in_ok-row.ensures
