-- A statement that is read is spelled so.
use Rattle.std.proofs.Common.{◌≡◌, ℕ, List, length, Some, refl, inl, inr}
use Rattle.std.specs.Prelude.{nat_eq}
use Rattle.isl_token.specs.TokenView.{Token}
use Rattle.isl_token.specs.declared.token.Kind.TheVariants as k
use Rattle.isl_token.specs.Reading.{Parser, expect}
use Rattle.isl_token.specs.Reading as r
use Rattle.isl_token.specs.Spelling.{Grammar}
use Rattle.isl_token.specs.Spelling as s
use Rattle.isl_token.proofs.Taking.{TakesAt, Takes, takes_pure, takes_bind, takes_map, takes_after, takes_or_left, takes_or_right, chosen}
use Rattle.isl_tree.specs.declared.tree.Literal.{Literal}
use Rattle.isl_tree.specs.declared.statement.Expr.{Expr}
use Rattle.isl_tree.specs.declared.statement.Stmt.TheVariants.{Empty, Bind, Show, Assume}
use Rattle.isl_text.specs.Pset.{pset}
use Rattle.isl_text.specs.PsetGrammar.{pset_grammar}
use Rattle.isl_text.proofs.PsetLaws.{pset_taken}
use Rattle.isl_stmt.specs.declared.word.Role.{Role}
use Rattle.isl_stmt.specs.declared.word.Role.TheVariants as role
use Rattle.isl_stmt.specs.Word as words
use Rattle.isl_stmt.specs.Word.{head_role}
use Rattle.isl_stmt.specs.Expression.{expression}
use Rattle.isl_stmt.specs.ExpressionGrammar as exprs
use Rattle.isl_stmt.specs.Statement as read
use Rattle.isl_stmt.specs.StatementGrammar as spell
use Rattle.isl_stmt.proofs.ExpressionTaken.{takes_variable, takes_said, expression_taken}

module _ (p : Parser Expr) (L : Grammar Expr) (expr : Takes p L) where
  bound_taken : Takes (read.bound p) (spell.bound L)
  unfolding read.bound
  bound_taken ts = takes_bind words.variable _ exprs.variable _ ts (takes_variable ts)
      (λ name. takes_after k.Assign (λ h. cc) _ _ (λ _. takes_map p L (Bind name) expr))

  shown_taken : Takes (read.shown p) (spell.shown L)
  unfolding read.shown
  shown_taken = takes_map p L Show expr

  printed_taken : (ts : List Token) → head_role ts ≡ role.Print → TakesAt ts (r.◌>>◌ r.skip (read.shown p)) (spell.printed L)
  printed_taken ts h = takes_bind r.skip _ (exprs.said role.Print) _ ts (takes_said role.Print (λ h. cc) ts h) (λ _. shown_taken)

module _ (q : Parser Literal) (M : Grammar Literal) (set : Takes q M) (p : Parser Expr) (L : Grammar Expr) (expr : Takes p L) where
  assumed_taken : (ts : List Token) → head_role ts ≡ role.Assume → TakesAt ts (r.◌>>◌ r.skip (read.assumed q)) (spell.assumed M)
  unfolding read.assumed
  assumed_taken ts h = takes_bind r.skip _ (exprs.said role.Assume) _ ts (takes_said role.Assume (λ h. cc) ts h) (λ _. takes_map q M Assume set)

  unbound_taken : (ts : List Token) (x : Role) → head_role ts ≡ x
      → TakesAt ts (read.unbound_by q p x) (s.◌∪◌ (spell.printed L) (s.◌∪◌ (spell.shown L) (spell.assumed M)))
  unbound_taken ts role.Print h = takes_or_left _ (printed_taken p L expr ts h)
  unbound_taken ts role.Assume h = takes_or_right _ (takes_or_right _ (assumed_taken ts h))
  unbound_taken ts _ h = takes_or_right _ (takes_or_left _ (shown_taken p L expr ts))

  statement_read : Takes (read.statement_with q p) (spell.statement_with M L)
  unfolding read.statement_with
  statement_read ts = record {
    by = λ a rest h.
        elim (chosen (nat_eq (length ts) 0) (Some (Empty, ts)) (read.some_statement q p ts) (Some (a, rest)) h) [
          | inl none ↦ let c = (takes_pure Empty ts).by a rest none.1 in (c.0, c.1, inl c.2)
          | inr some ↦ elim (chosen (read.sees_binding ts) (read.bound p ts) (read.unbound q p ts) (Some (a, rest)) some.1) [
            | inl yes' ↦ let c = (bound_taken p L expr ts).by a rest yes'.1 in (c.0, c.1, inr (inl c.2))
            | inr no' ↦ let c = (unbound_taken ts (head_role ts) refl).by a rest no'.1 in (c.0, c.1, inr (inr c.2))
          ]
        ];
  }

pub statement_taken : (n : ℕ) → Takes (read.statement n) (spell.statement_grammar n)
statement_taken n =
    statement_read (pset n) (pset_grammar n) (pset_taken n) (expression n) (exprs.expression n) (expression_taken n)
