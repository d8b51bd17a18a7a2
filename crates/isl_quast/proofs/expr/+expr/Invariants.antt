use Rattle.std.proofs.Common.{◌≡◌, ◌++◌, drop, map}
use Rattle.std.specs.Prelude.{codes, string_bytes}
use Rattle.isl_row_text.specs.Joined.{each_after}
use Rattle.isl_loop.specs.declared.tree.Expr.{out-Expr}
use Rattle.isl_loop_text.specs.ExprText.{expr_text}
use Rattle.isl_loop_text.specs.Rest.{sum_rest}
use Rattle.isl_loop_text.specs.Size.{expr_size, atom_size, list_size}
use Rattle.isl_quast.proofs.expr.+expr.Given as goal

abbrev pub invariant-write_expr-loop-item : goal.invariant-write_expr-loop-item
invariant-write_expr-loop-item l =
    string_bytes l.out ++ sum_rest l.names l.is_first (drop l.item-index l.items) (out-Expr l.expr).constant
    ≡ string_bytes l.initial.out ++ expr_text l.names l.expr

abbrev pub invariant-write_more_exprs-loop-expr : goal.invariant-write_more_exprs-loop-expr
invariant-write_more_exprs-loop-expr l =
    string_bytes l.out ++ each_after (codes ", ") (map (expr_text l.names) (drop l.expr-index l.exprs))
    ≡ string_bytes l.initial.out ++ each_after (codes ", ") (map (expr_text l.names) l.exprs)

abbrev pub decreases-write_expr : goal.decreases-write_expr
decreases-write_expr l = expr_size l.expr.now

abbrev pub decreases-write_atom : goal.decreases-write_atom
decreases-write_atom l = atom_size l.atom.now

abbrev pub decreases-write_exprs : goal.decreases-write_exprs
decreases-write_exprs l = list_size l.exprs.now

abbrev pub decreases-write_more_exprs : goal.decreases-write_more_exprs
decreases-write_more_exprs l = list_size l.exprs.now
