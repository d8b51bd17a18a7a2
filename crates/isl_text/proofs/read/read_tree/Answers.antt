use Rattle.std.proofs.Common.{◌∙◌, ◌-◌, ap, sym, take, drop}
use Rattle.std.specs.Int.{w128}
use Rattle.std.proofs.lemmas.Int.{to_z-of_z}
use Rattle.isl_text.proofs.ReadLaws.{only_fault, exactly_fault, only_judged, exactly_judged}
use Rattle.isl_text.proofs.read.read_tree.Goals as goal

pub returns-in-Ok-clause-only : goal.returns-in-Ok-clause-only
returns-in-Ok-clause-only c =
    let spelled = c.first-spelled.ensures ∙ ap (take (c.in-Ok.next - c.args.at)) (c.from.ensures ∙ ap (drop c.args.at) c.rest.ensures) in
    only_judged c.args.form c.args.tokens.now c.args.at c.requires.begins c.args.limit (sym c.if-is_too_deep.ensures)
    c.in-Ok.found c.in-Ok.next c.in-Ok.ensures _
    (to_z-of_z w128 c.args.limit c.ranges.limit) c.first-spelled.result spelled c.judged.result c.judged.ensures

pub returns-in-Ok-clause-exactly : goal.returns-in-Ok-clause-exactly
returns-in-Ok-clause-exactly c =
    let spelled = c.first-spelled.ensures ∙ ap (take (c.in-Ok.next - c.args.at)) (c.from.ensures ∙ ap (drop c.args.at) c.rest.ensures) in
    exactly_judged c.args.form c.args.tokens.now c.args.at c.requires.begins c.args.limit (sym c.if-is_too_deep.ensures)
    c.in-Ok.found c.in-Ok.next c.in-Ok.ensures _
    (to_z-of_z w128 c.args.limit c.ranges.limit) c.first-spelled.result spelled c.judged.result c.judged.ensures

pub returns-in-Err-clause-only : goal.returns-in-Err-clause-only
returns-in-Err-clause-only c =
    only_fault c.args.form c.args.tokens.now c.args.at c.requires.begins c.args.limit (sym c.if-is_too_deep.ensures)
    c.in-Err.fault c.from-in-Err.result c.in-Err.ensures c.from-in-Err.ensures

pub returns-in-Err-clause-exactly : goal.returns-in-Err-clause-exactly
returns-in-Err-clause-exactly c =
    exactly_fault c.args.form c.args.tokens.now c.args.at c.requires.begins c.args.limit (sym c.if-is_too_deep.ensures)
    c.in-Err.fault c.from-in-Err.result c.in-Err.ensures c.from-in-Err.ensures
