use Rattle.std.proofs.Common.{◌∙◌, ap, drop, length}
use Rattle.isl_text.proofs.ReadLaws.{found_from, left_from}
use Rattle.isl_text.proofs.read.found_at.Goals as goal

pub overflow_sub-result : goal.overflow_sub-result
overflow_sub-result c =
    left_from c.args.form c.args.tokens.now c.args.at c.requires c.from-rest.result c.new-cursor.result c.left-depth.result
    (c.from-rest.ensures ∙ ap (drop c.args.at) c.rest-all.ensures) c.new-cursor.ensures c.left-depth.ensures
    c.in-Ok.found c.tree.new.tokens c.left.result c.left-in-Ok.result c.in-Ok.ensures
    (c.left.ensures ∙ ap length c.rest-all.ensures) c.left-in-Ok.ensures

pub returns-in-Ok : goal.returns-in-Ok
returns-in-Ok c =
    found_from c.args.form c.args.tokens.now c.args.at c.requires c.from-rest.result c.new-cursor.result c.left-depth.result
    (c.from-rest.ensures ∙ ap (drop c.args.at) c.rest-all.ensures) c.new-cursor.ensures c.left-depth.ensures
    c.in-Ok.found c.tree.new.tokens c.left.result c.left-in-Ok.result c.in-Ok.ensures
    (c.left.ensures ∙ ap length c.rest-all.ensures) c.left-in-Ok.ensures
