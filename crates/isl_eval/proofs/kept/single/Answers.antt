use Rattle.std.proofs.Common.{◌∙◌, ap, ap₂, sym}
use Rattle.isl_tree.specs.declared.statement.Expr.{Prefix, Row}
use Rattle.isl_eval.proofs.ShownLaws.{any_selects, last_selects, literal_selects, name_selects, post_selects}
use Rattle.isl_eval.proofs.kept.single.Goals as goal

pub word_kept-requires-clause-is : goal.word_kept-requires-clause-is
word_kept-requires-clause-is c = c.in-Prefix.is ∙ ap (Prefix c.in-Prefix.word) (sym c.get.ensures)

pub row_kept-requires-clause-is : goal.row_kept-requires-clause-is
row_kept-requires-clause-is c = c.in-Row.is ∙ ap₂ Row (sym c.get-in-Row.ensures) (sym c.as_slice.ensures)

pub selected-requires-clause-selects : goal.selected-requires-clause-selects
selected-requires-clause-selects c = name_selects c.args.expr.now _ c.in-Name.is

pub selected-requires-in-Literal-clause-selects : goal.selected-requires-in-Literal-clause-selects
selected-requires-in-Literal-clause-selects c = literal_selects c.args.expr.now _ c.in-Literal.is

pub selected-requires-in-Any-clause-selects : goal.selected-requires-in-Any-clause-selects
selected-requires-in-Any-clause-selects c = any_selects c.args.expr.now _ _ _ c.in-Any.is

pub selected-requires-in-Last-clause-selects : goal.selected-requires-in-Last-clause-selects
selected-requires-in-Last-clause-selects c = last_selects c.args.expr.now _ _ _ c.in-Last.is

pub selected-requires-in-Post-clause-selects : goal.selected-requires-in-Post-clause-selects
selected-requires-in-Post-clause-selects c = post_selects c.args.expr.now _ _ c.in-Post.is
