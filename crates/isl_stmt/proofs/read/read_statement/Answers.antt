use Rattle.std.specs.Int.{w128}
use Rattle.std.proofs.lemmas.Int.{to_z-of_z}
use Rattle.isl_stmt.proofs.ReadLaws.{due_bytes, exactly_due}
use Rattle.isl_stmt.proofs.read.read_statement.Goals as goal

pub returns-in-Ok-clause-only : goal.returns-in-Ok-clause-only
returns-in-Ok-clause-only c =
    due_bytes c.args.bytes.now c.args.limit c.in-Ok.found c.from_tokens.result _ c.in-Ok.ensures.lexes
    (to_z-of_z w128 c.args.limit c.ranges.limit) c.from_tokens.ensures

pub returns-in-Ok-clause-exactly : goal.returns-in-Ok-clause-exactly
returns-in-Ok-clause-exactly c = exactly_due c.args.bytes.now c.args.limit c.from_tokens.result
    (due_bytes c.args.bytes.now c.args.limit c.in-Ok.found c.from_tokens.result _ c.in-Ok.ensures.lexes
    (to_z-of_z w128 c.args.limit c.ranges.limit) c.from_tokens.ensures)
