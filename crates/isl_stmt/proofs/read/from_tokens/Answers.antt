use Rattle.std.proofs.Common.{sym}
use Rattle.std.specs.Int.{w128}
use Rattle.std.proofs.lemmas.Int.{to_z-of_z}
use Rattle.isl_stmt.proofs.ReadLaws.{due_judged}
use Rattle.isl_stmt.proofs.read.from_tokens.Goals as goal

pub returns-in-Ok : goal.returns-in-Ok
returns-in-Ok c = due_judged c.args.tokens.now c.args.limit c.in-Ok.found c.judged.result _
    (sym c.if-is_too_deep.ensures) c.in-Ok.ensures (to_z-of_z w128 c.args.limit c.ranges.limit) c.judged.ensures
