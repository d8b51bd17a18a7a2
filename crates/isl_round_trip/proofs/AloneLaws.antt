-- The tokens of a literal spell the statement that shows it.
use Rattle.std.proofs.Common.{ℕ, suc, List, [], inl, inr, refl, sym}
use Rattle.std.proofs.lemmas.List.{append-nil}
use Rattle.isl_token.specs.TokenView.{Token}
use Rattle.isl_token.specs.Spelling.{Grammar, Spells}
use Rattle.isl_tree.specs.declared.tree.Literal.{Literal}
use Rattle.isl_text.specs.Literal.{literal_grammar}
use Rattle.isl_tree.specs.declared.statement.Stmt.TheVariants.{Show}
use Rattle.isl_tree.specs.declared.statement.Expr.{Expr}
use Rattle.isl_tree.specs.declared.statement.Expr.TheVariants as e
use Rattle.isl_stmt.specs.declared.operator.Precedence.{Precedence}
use Rattle.isl_stmt.specs.declared.operator.Precedence.TheVariants.{Test, Universal, Sum, Product, Join}
use Rattle.isl_stmt.specs.ExpressionGrammar as g
use Rattle.isl_stmt.specs.StatementGrammar.{statement_grammar}

-- what nothing is joined to
alone : (p : Precedence) (item : Grammar Expr) (x : Expr) (ts : List Token) → item x ts → g.rows p item x ts
alone p item x ts h = (x, ts, [], sym (append-nil ts), h, ([], [], [], refl, refl, (refl, refl)))

module _ (n : ℕ) (literal : Literal) (ts : List Token) (spelled : literal_grammar (suc n) literal ts) where
  atom : g.atom (literal_grammar (suc n)) (g.pre n) (e.Literal literal) ts
  atom = inr (inl (literal, ts, [], sym (append-nil ts), spelled, (refl, refl)))

  post : g.post (literal_grammar (suc n)) (g.pre n) (e.Literal literal) ts
  post = (e.Literal literal, ts, [], sym (append-nil ts), atom, ([], [], [], refl, refl, (refl, refl)))

  pre : g.pre (suc n) (e.Literal literal) ts
  unfolding g.pre
  pre = inr (inr (inr post))

  expression : g.expression (suc n) (e.Literal literal) ts
  expression = alone Test _ _ ts (alone Universal _ _ ts (alone Sum _ _ ts (alone Product _ _ ts (alone Join _ _ ts pre))))

  pub shown_alone : Spells statement_grammar (Show (e.Literal literal)) ts
  shown_alone = record { depth = suc n; spelled = inr (inr (inr (inl (e.Literal literal, ts, [], sym (append-nil ts), expression, (refl, refl))))) }
