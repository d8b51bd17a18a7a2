-- What is no list: each part of it is the whole.
use Rattle.std.proofs.Common.{◌≡◌, ℕ, List, sym, subst}
use Rattle.isl_space.specs.Valuation.{Valuation}
use Rattle.isl_union.specs.KeptValue.{KeptValue, Has}
use Rattle.isl_tree.specs.declared.tree.Literal.{Literal}
use Rattle.isl_tree.specs.declared.statement.Prefix.{Prefix as Word}
use Rattle.isl_tree.specs.declared.statement.Link.{Link}
use Rattle.isl_tree.specs.declared.statement.Postfix.{Postfix}
use Rattle.isl_tree.specs.declared.statement.Expr as e
use Rattle.isl_tree.specs.declared.statement.Expr.{Expr, Row, Prefix, Any, Post}
use Rattle.isl_tree.specs.declared.statement.Expr.TheBlock.{hidden-the_row-Expr-0}
use Rattle.isl_state.specs.declared.list.ListPart.TheVariants.{First, Second}
use Rattle.isl_state.specs.declared.list.ListValue.{ListValue}
use Rattle.isl_state.specs.State.{StateView}
use Rattle.isl_values.specs.Worked.{IsWorkedAt}
use Rattle.isl_values.specs.Selection.{SelectsAt}
use Rattle.isl_values.specs.Three.{AreBothOf, IsValueAt}
use Rattle.isl_values.specs.Three.{IsWhole}
use Rattle.isl_values.proofs.SameLaws.{Same, same_trans}

-- both parts of it are worked out, and selected, in one way
whole_by : (state : StateView) (expr : Expr)
    → ((value : KeptValue) → IsWorkedAt state First expr value → IsWorkedAt state Second expr value)
    → ((v : Valuation) → Same (SelectsAt state First expr v) (SelectsAt state Second expr v)) → IsWhole state expr
whole_by state expr worked selects limit value made = record {
  written = worked value made.written;
  kept = made.kept;
  live = made.live;
  params = made.params;
  elements = λ v here. same_trans (Has value v) (SelectsAt state First expr v) (SelectsAt state Second expr v) (made.elements v here)
      (selects v);
  numbers = made.numbers;
  definitions = made.definitions;
}

pub literal_whole : (state : StateView) (expr : Expr) (literal : Literal) → expr ≡ e.Literal literal → IsWhole state expr
literal_whole state expr literal is =
    subst (IsWhole state) (sym is) (whole_by state (e.Literal literal) (λ value h. h) (λ v x. ((λ h. h), (λ h. h))))

pub row_whole : (state : StateView) (expr first : Expr) (links : List Link) → expr ≡ Row first links → IsWhole state expr
unfolding hidden-the_row-Expr-0 denote.Hole.Carrier.hidden
row_whole state expr first links is =
    subst (IsWhole state) (sym is) (whole_by state (Row first links) (λ value h. h) (λ v x. ((λ h. h), (λ h. h))))

pub post_whole : (state : StateView) (expr operand : Expr) (postfixes : List Postfix) → expr ≡ Post operand postfixes → IsWhole state expr
unfolding hidden-the_row-Expr-0 denote.Hole.Carrier.hidden
post_whole state expr operand postfixes is =
    subst (IsWhole state) (sym is) (whole_by state (Post operand postfixes) (λ value h. h) (λ v x. ((λ h. h), (λ h. h))))

pub word_whole : (state : StateView) (expr : Expr) (word : Word) (operand : Expr) → expr ≡ Prefix word operand → IsWhole state expr
unfolding hidden-the_row-Expr-0 denote.Hole.Carrier.hidden
word_whole state expr word operand is =
    subst (IsWhole state) (sym is) (whole_by state (Prefix word operand) (λ value h. h) (λ v x. ((λ h. h), (λ h. h))))

pub any_whole : (state : StateView) (expr source sink schedule : Expr) → expr ≡ Any source sink schedule → IsWhole state expr
unfolding hidden-the_row-Expr-0 denote.Hole.Carrier.hidden
any_whole state expr source sink schedule is =
    subst (IsWhole state) (sym is) (whole_by state (Any source sink schedule) (λ value h. h) (λ v x. ((λ h. h), (λ h. h))))

pub doubled_both : (state : StateView) (expr : Expr) (limit : ℕ) (value : KeptValue) (list : ListValue) → IsWhole state expr
    → IsValueAt state First expr limit value → (list.first.value ≡ value) × (list.second.value ≡ value) → AreBothOf state expr limit list
doubled_both state expr limit value list whole made are = (
  subst (IsValueAt state First expr limit) (sym are.0) made,
  subst (IsValueAt state Second expr limit) (sym are.1) (whole limit value made),
)
