use Rattle.std.proofs.Common.{◌≡◌, ◌++◌, drop, map}
use Rattle.std.specs.Prelude.{codes, string_bytes}
use Rattle.isl_row_text.specs.Joined.{each_after}
use Rattle.isl_loop_text.specs.ExprText.{expr_text}
use Rattle.isl_quast.proofs.text.write_more_exprs.Given as goal

abbrev pub invariant-loop-expr : goal.invariant-loop-expr
invariant-loop-expr l =
    string_bytes l.out ++ each_after (codes ", ") (map (expr_text l.names) (drop l.expr-index l.exprs))
    ≡ string_bytes l.initial.out ++ each_after (codes ", ") (map (expr_text l.names) l.exprs)
