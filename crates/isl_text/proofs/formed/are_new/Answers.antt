use Rattle.std.proofs.Common.{arith}
use Rattle.isl_text.proofs.SameNames.{along_more}
use Rattle.isl_text.proofs.formed.are_new.Goals as goal

pub loop-entry-preserved : goal.loop-entry-preserved
loop-entry-preserved c =
    along_more c.args.params.now.keys c.args.own.now.keys c.loop-entry.own.keys c.args.entries.now c.loop-entry.entry-index
    c.entry-item.result
    c.loop-entry-test.true c.entry-item.is c.loop-entry.invariant c.learn.new.own.keys (grind arith) c.in_ok-learn.ensures
