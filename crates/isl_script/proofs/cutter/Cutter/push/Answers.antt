use Rattle.std.proofs.Common.{arith}
use Rattle.isl_script.proofs.CutterLaws.{at_push}
use Rattle.isl_script.proofs.cutter.Cutter.push.Goals as goal

pub returns-then-self-2-clause-part : goal.returns-then-self-2-clause-part
returns-then-self-2-clause-part c = λ part at_part.
    at_push c.args.self.now part c.args.byte at_part c.if-byte-ne10.self (grind arith) c.self.inside.depth (grind arith) c.self.inside.blank (grind arith)

pub returns-clause-part : goal.returns-clause-part
returns-clause-part c = λ part at_part.
    at_push c.args.self.now part c.args.byte at_part c.match-byte.self-inside.in_comment (grind arith) c.match-byte.self-inside.depth (grind arith) c.if-self-3.self (grind arith)
