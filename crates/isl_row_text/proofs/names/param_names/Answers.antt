use Rattle.isl_row_text.proofs.NamingLaws.{copied_more}
use Rattle.isl_row_text.proofs.names.param_names.Goals as goal

pub loop-at-preserved : goal.loop-at-preserved
loop-at-preserved c =
    copied_more c.args.params.now c.loop-at.names.items c.push.new.self.items c.loop-at.at c.name.result.now c.in_ok-copy.field-0 c.name.ensures c.in_ok-copy.ensures c.in_ok-push.ensures.items
    c.loop-at.invariant
