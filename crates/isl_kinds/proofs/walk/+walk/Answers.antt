use Rattle.std.proofs.Common.{◌∙◌, Bool, ap}
use Rattle.std.specs.List.{list_any}
use Rattle.isl_tree.specs.declared.statement.Expr.{Expr}
use Rattle.isl_kinds.specs.Parts.{Part, parts_of}
use Rattle.isl_kinds.proofs.WalkLaws.{walk-Last, walk-Prefix}
use Rattle.isl_kinds.proofs.walk.+walk.Goals as goal

pub any_part-returns-in-Prefix : goal.any_part-returns-in-Prefix
any_part-returns-in-Prefix g t c =
    let test : Part → Bool = g.T.PartTest.passing c.args.test.now in
    walk-Prefix test c.args.expr.now c.in-Prefix.operand c.in-Prefix.word _ _ c.in-Prefix.is c.passes-in-Prefix.ensures
    (c.any_part-in-Prefix.ensures ∙ ap (λ (e : Expr). list_any test (parts_of e)) c.get-in-Prefix.ensures)

pub any_part-returns-in-Last : goal.any_part-returns-in-Last
any_part-returns-in-Last g t c =
    let test : Part → Bool = g.T.PartTest.passing c.args.test.now in
    let found = λ (e : Expr). list_any test (parts_of e) in
    walk-Last test c.args.expr.now c.in-Last.source c.in-Last.sink c.in-Last.schedule _ _ _ _ c.in-Last.is c.passes-in-Last.ensures
    (c.any_part-in-Last.ensures ∙ ap found c.get-in-Last.ensures)
    (c.any_part-in-Last-2.ensures ∙ ap found c.get-in-Last-2.ensures)
    (c.any_part-in-Last-3.ensures ∙ ap found c.get-in-Last-3.ensures)
