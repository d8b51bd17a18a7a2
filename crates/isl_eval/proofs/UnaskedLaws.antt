-- Once a statement is evaluated, no part of it ends for numbers that are not assumed: that is asked before.
use mathlib.Core.Former.{Count}
use Rattle.std.proofs.Common.{◌⊎◌, inl, inr, List}
use Rattle.isl_space.specs.Name.{Name}
use Rattle.isl_space.specs.Valuation.{Valuation}
use Rattle.isl_space.specs.Element.{Element}
use Rattle.isl_tree.specs.declared.statement.Postfix.{Postfix, Inverse, Apply, Item}
use Rattle.isl_tree.specs.declared.statement.Expr.{Expr, Row', Prefix', Any', Last', Post', Row_of-Expr, end_of-Expr, more_of-Expr}
use Rattle.isl_tree.specs.declared.statement.Expr.{Row_of-Link, end_of-Link, more_of-Link, Row_of-Postfix, end_of-Postfix, more_of-Postfix}
use Rattle.isl_tree.specs.declared.statement.Expr as e
use Rattle.isl_tree.specs.declared.words.Question.{Question}
use Rattle.isl_tree.specs.declared.words.Question.TheVariants as question
use Rattle.isl_tree.specs.declared.statement.Stmt.{Stmt}
use Rattle.isl_tree.specs.declared.statement.Stmt.TheVariants.{Empty, Bind, Show, Assume}
use Rattle.isl_kinds.specs.Typed.{declared_in}
use Rattle.isl_values.specs.State.{Moment, StateView, scope_of}
use Rattle.isl_values.specs.Selection.{SelectsIn}
use Rattle.isl_state.specs.declared.list.ListPart.TheVariants.{First}
use Rattle.isl_values.specs.Ends.{End, because, not_assumed, Ends, EndsIn, EndsPastLinks, EndsPastPostfixes}
use Rattle.isl_eval.specs.Asked.{question_of}
use Rattle.isl_eval.specs.Ended.{QuestionEnds, ShownEnds, StatementEnds}

-- neither the one is so, nor the other where the first goes on
either : {A B C : Type 0} → ¬ A → ¬ B → ¬ (A ⊎ (C × B))
either first second (inl own) = first own
either first second (inr later) = second later.1

-- no operand of the links is so, nor an argument of the postfixes
abbrev LinksGo : {m : Count} → StateView → Row_of-Link m → Type 0
LinksGo state end_of-Link = Unit {0}
LinksGo state (more_of-Link operator operand rest) = (¬ Ends state operand (because not_assumed)) × LinksGo state rest

abbrev ArgumentGoes : StateView → Postfix → Type 0
ArgumentGoes state Inverse = Unit {0}
ArgumentGoes state (Apply argument) = ¬ Ends state argument (because not_assumed)
ArgumentGoes state (Item number) = Unit {0}

abbrev PostfixesGo : {m : Count} → StateView → Row_of-Postfix m → Type 0
PostfixesGo state end_of-Postfix = Unit {0}
PostfixesGo state (more_of-Postfix postfix rest) = ArgumentGoes state postfix × PostfixesGo state rest

links_ask : (m : Count) (state : StateView) (names : List Name) (Left : Valuation → Element → Type 0) (row : Row_of-Link m) → LinksGo state row
    → ¬ EndsPastLinks state names Left row (because not_assumed)
links_ask m state names Left end_of-Link goes = λ ends. ends
links_ask m state names Left (more_of-Link operator operand rest) goes =
    either goes.0 (either (λ ends. ends) (links_ask _ state _ _ rest goes.1))

postfixes_ask : (m : Count) (state : StateView) (names : List Name) (Operand : Valuation → Element → Type 0) (row : Row_of-Postfix m)
    → PostfixesGo state row → ¬ EndsPastPostfixes state names Operand row (because not_assumed)
postfixes_ask m state names Operand end_of-Postfix goes = λ ends. ends
postfixes_ask m state names Operand (more_of-Postfix Inverse rest) goes = either (λ ends. ends) (postfixes_ask _ state _ _ rest goes.1)
postfixes_ask m state names Operand (more_of-Postfix (Apply argument) rest) goes =
    either (either goes.0 (λ ends. ends)) (postfixes_ask _ state _ _ rest goes.1)
postfixes_ask m state names Operand (more_of-Postfix (Item number) rest) goes =
    either (λ ends. ends) (postfixes_ask _ state _ _ rest goes.1)

mutual
  expr_asks : (state : StateView) (expr : Expr) → ¬ Ends state expr (because not_assumed)
  expr_asks state (e.Name name) = λ ends. ends
  expr_asks state (e.Literal literal) = λ ends. ends
  expr_asks state (Row' s first t links) = either (row_asks _ state first) (links_ask _ state _ _ links (links_go _ state links))
  expr_asks state (Prefix' word s operand) = either (row_asks _ state operand) (λ ends. ends)
  expr_asks state (Any' r source s sink t schedule) =
      either (either (row_asks _ state source) (either (row_asks _ state sink) (row_asks _ state schedule))) (λ ends. ends)
  expr_asks state (Last' r source s sink t schedule) =
      either (either (row_asks _ state source) (either (row_asks _ state sink) (row_asks _ state schedule))) (λ ends. ends)
  expr_asks state (Post' s operand t postfixes) =
      either (row_asks _ state operand) (postfixes_ask _ state _ _ postfixes (postfixes_go _ state postfixes))

  row_asks : (m : Count) (state : StateView) (row : Row_of-Expr m) → ¬ EndsIn state row (because not_assumed)
  row_asks m state end_of-Expr = λ ends. ends
  row_asks m state (more_of-Expr expr rest) = expr_asks state expr

  links_go : (m : Count) (state : StateView) (row : Row_of-Link m) → LinksGo state row
  links_go m state end_of-Link = tt
  links_go m state (more_of-Link operator operand rest) = (expr_asks state operand, links_go _ state rest)

  postfixes_go : (m : Count) (state : StateView) (row : Row_of-Postfix m) → PostfixesGo state row
  postfixes_go m state end_of-Postfix = tt
  postfixes_go m state (more_of-Postfix postfix rest) = (argument_goes state postfix, postfixes_go _ state rest)

  argument_goes : (state : StateView) (postfix : Postfix) → ArgumentGoes state postfix
  argument_goes state Inverse = tt
  argument_goes state (Apply argument) = expr_asks state argument
  argument_goes state (Item number) = tt

-- what is asked of an operand that is shown
question_asks : (which : Question) (now : Moment) (whole : Expr) (OperandEnds : End → Type 0) (names : List Name)
    (P : Valuation → Element → Type 0) → ¬ OperandEnds (because not_assumed)
    → ¬ QuestionEnds which now whole OperandEnds names P (because not_assumed)
question_asks question.Elements now whole OperandEnds names P none = either none (λ ends. ends)
question_asks question.Loops now whole OperandEnds names P none = either none (λ ends. ends)
question_asks question.Trees now whole OperandEnds names P none = either none (λ ends. ends)
question_asks question.Value now whole OperandEnds names P none = expr_asks now.state whole

shown_asks : (now : Moment) (expr : Expr) → ¬ ShownEnds now expr (because not_assumed)
shown_asks now (e.Name name) = expr_asks now.state (e.Name name)
shown_asks now (e.Literal literal) = expr_asks now.state (e.Literal literal)
shown_asks now (Row' s first t links) = expr_asks now.state (Row' s first t links)
shown_asks now (Prefix' word s operand) =
    question_asks (question_of word) now (Prefix' word s operand) (EndsIn now.state operand) (declared_in (scope_of now.state) operand)
    (λ v x. SelectsIn now.state First operand v x) (row_asks _ now.state operand)
shown_asks now (Any' r source s sink t schedule) = expr_asks now.state (Any' r source s sink t schedule)
shown_asks now (Last' r source s sink t schedule) = expr_asks now.state (Last' r source s sink t schedule)
shown_asks now (Post' s operand t postfixes) = expr_asks now.state (Post' s operand t postfixes)

pub statement_asks : (now : Moment) (stmt : Stmt) → ¬ StatementEnds now stmt (because not_assumed)
statement_asks now Empty = λ ends. ends
statement_asks now (Bind name expr) = expr_asks now.state expr
statement_asks now (Show expr) = shown_asks now expr
statement_asks now (Assume set) = either (λ ends. ends) (λ ends. ends)
