use Rattle.std.proofs.Common.{◌∙◌, ◌+◌, ap, length, arith}
use Rattle.isl_stmt.proofs.ReadLaws.{whole_found, whole_goes_on}
use Rattle.isl_stmt.proofs.read.whole.Goals as goal

pub returns-then-left-gt0 : goal.returns-then-left-gt0
returns-then-left-gt0 c =
    let depth = c.left-depth.ensures ∙ ap length c.rest-rest.ensures in
    whole_goes_on c.args.tokens.now c.new-cursor.result c.statement.new.tokens (c.left-depth.result + 1)
    (c.new-cursor.ensures ∙ c.rest-rest.ensures) (omega (arith, depth))
    c.in_ok-found.found c.left.result c.in_ok-found.ensures c.left.ensures c.if-left-gt0.true

pub returns : goal.returns
returns c =
    let depth = c.left-depth.ensures ∙ ap length c.rest-rest.ensures in
    whole_found c.args.tokens.now c.new-cursor.result c.statement.new.tokens (c.left-depth.result + 1)
    (c.new-cursor.ensures ∙ c.rest-rest.ensures) (omega (arith, depth))
    c.in_ok-found.found c.left.result c.in_ok-found.ensures c.left.ensures c.if-left-gt0.false
