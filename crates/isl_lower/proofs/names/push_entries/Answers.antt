use Rattle.std.proofs.Common.{arith}
use Rattle.isl_lower.proofs.NameLaws.{names_next, names_end}
use Rattle.isl_lower.proofs.names.push_entries.Goals as goal

pub loop-entry-preserved : goal.loop-entry-preserved
loop-entry-preserved c =
    names_next c.args.entries.now c.loop-entry.entry-index c.entry-item.result c.args.scope.now c.loop-entry.scope c.push_entry.new.scope
    c.loop-entry-test.true c.entry-item.is (grind arith) c.loop-entry.invariant
