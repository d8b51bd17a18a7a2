-- What an operator joins.
use Rattle.std.proofs.Common.{◌≡◌, List, Result, sym, subst}
use Rattle.isl_token.specs.TokenView.{Token}
use Rattle.isl_token.specs.declared.fault.Fault.{Fault}
use Rattle.isl_token.specs.Reading.{Parser, Reads}
use Rattle.isl_tree.specs.declared.statement.Expr.{Expr}
use Rattle.isl_stmt.specs.declared.operator.Precedence.{Precedence}
use Rattle.isl_stmt.specs.declared.operator.Precedence.TheVariants.{Test, Universal, Sum, Product, Join}
use Rattle.isl_stmt.specs.Expression.{operand, row_at}

module _ (pre : Parser Expr) (p : Precedence) (ts rest : List Token) (r : Result Expr Fault) where
  pub of_tests : p ≡ Test → Reads (row_at pre Universal ts) r rest → Reads (operand pre p ts) r rest
  of_tests is read = subst (λ (q : Precedence). Reads (operand pre q ts) r rest) (sym is) read

  pub of_universals : p ≡ Universal → Reads (row_at pre Sum ts) r rest → Reads (operand pre p ts) r rest
  of_universals is read = subst (λ (q : Precedence). Reads (operand pre q ts) r rest) (sym is) read

  pub of_sums : p ≡ Sum → Reads (row_at pre Product ts) r rest → Reads (operand pre p ts) r rest
  of_sums is read = subst (λ (q : Precedence). Reads (operand pre q ts) r rest) (sym is) read

  pub of_products : p ≡ Product → Reads (row_at pre Join ts) r rest → Reads (operand pre p ts) r rest
  of_products is read = subst (λ (q : Precedence). Reads (operand pre q ts) r rest) (sym is) read

pub ruleset operands = (of_tests, of_universals, of_sums, of_products)
