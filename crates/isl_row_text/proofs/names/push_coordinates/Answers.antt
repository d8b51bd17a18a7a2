use Rattle.std.proofs.Common.{◌++◌}
use Rattle.isl_row_text.specs.Naming.{numbered}
use Rattle.isl_row_text.proofs.NamingLaws.{numbered_more}
use Rattle.isl_row_text.proofs.names.push_coordinates.Goals as goal

pub loop-number-preserved : goal.loop-number-preserved
loop-number-preserved c =
    numbered_more c.args.params.now c.args.letter.now c.loop-number.number c.args.count c.in_ok-coordinate_name.field-0 c.loop-number.names.items c.push.new.self.items
    (c.args.names.now.items ++ numbered c.args.params.now c.args.letter.now 0 c.args.count) c.loop-number-test.true c.in_ok-coordinate_name.ensures c.in_ok-push.ensures.items c.loop-number.invariant
