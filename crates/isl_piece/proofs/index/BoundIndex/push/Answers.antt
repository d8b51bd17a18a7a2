use Rattle.std.proofs.Common.{arith}
use Rattle.std.proofs.lemmas.Grind.{common_steps}
use Rattle.isl_piece.proofs.IndexLaws.{IsIndexOf-push, IsIndexOf-push_none}
use Rattle.isl_piece.proofs.index.BoundIndex.push.Goals as goal

pub returns-in_ok-push : goal.returns-in_ok-push
returns-in_ok-push c =
    rw c.self.view_is (IsIndexOf-push c.args.self.now c.args.rows.now c.args.row.now c.requires.index c.requires.unlike
    c.slot_of-slot.result c.push.new.self (grind (arith, common_steps)) (grind (arith, common_steps)) (grind arith))

pub returns-else-not-is_empty : goal.returns-else-not-is_empty
returns-else-not-is_empty c =
    IsIndexOf-push_none c.args.self.now c.args.rows.now c.args.row.now c.requires.index c.requires.unlike (grind (arith, common_steps))
