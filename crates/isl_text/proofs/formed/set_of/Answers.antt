use Rattle.isl_text.proofs.SameNames.{set_more}
use Rattle.isl_text.proofs.formed.set_of.Goals as goal

pub loop-name-preserved : goal.loop-name-preserved
loop-name-preserved c =
    set_more c.args.names.now c.loop-name.set.keys c.insert_full.new.self.keys c.loop-name.name-index c.name-item.result
    c.in_ok-copy.field-0
    c.loop-name-test.true c.name-item.is c.in_ok-copy.ensures c.in_ok-insert_full.ensures.keys c.loop-name.invariant
