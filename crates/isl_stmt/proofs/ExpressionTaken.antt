-- An expression that is read is spelled so.
use Rattle.std.proofs.Common.{◌≡◌, ◌≢◌, ℕ, zero, suc, List, [], ◌∷◌, ◌++◌, Option, Some, None, refl, sym, ap, subst, ◌∙◌, inl, inr}
use Rattle.isl_token.specs.TokenView.{Token}
use Rattle.isl_token.specs.TokenView as token
use Rattle.isl_token.specs.declared.token.Kind.{Kind}
use Rattle.isl_token.specs.declared.token.Kind.TheVariants as k
use Rattle.isl_token.specs.Token.{Text}
use Rattle.isl_token.specs.AnyWord.{any_word}
use Rattle.isl_token.specs.Reading.{Parser, and_then, head_kind, tail}
use Rattle.isl_token.specs.Reading as r
use Rattle.isl_token.specs.Spelling.{Grammar}
use Rattle.isl_token.specs.Spelling as s
use Rattle.isl_token.proofs.Taking.{TakesAt, Takes, takes_pure, takes_none, takes_bind, takes_map, takes_past, takes_end, takes_or_left}
use Rattle.isl_token.proofs.Taking.{takes_or_right, takes_peek, takes_number, takes_row, chosen, same_read}
use Rattle.isl_tree.specs.declared.tree.Literal.{Literal}
use Rattle.isl_text.specs.Literal.{literal, literal_grammar}
use Rattle.isl_text.proofs.LiteralLaws.{literal_taken}
use Rattle.isl_tree.specs.declared.statement.Binary.{Binary}
use Rattle.isl_tree.specs.declared.statement.Prefix.{Prefix}
use Rattle.isl_tree.specs.declared.statement.Postfix.TheVariants.{Inverse, Apply, Item}
use Rattle.isl_tree.specs.declared.statement.Expr.{Expr}
use Rattle.isl_tree.specs.declared.statement.Expr.TheVariants as e
use Rattle.isl_stmt.specs.declared.expression.Flow.{Flow}
use Rattle.isl_stmt.specs.declared.expression.Flow.TheVariants as flow
use Rattle.isl_stmt.specs.declared.operator.Precedence.{Precedence}
use Rattle.isl_stmt.specs.declared.operator.Precedence.TheVariants.{Test, Universal, Sum, Product, Join}
use Rattle.isl_stmt.specs.declared.word.Role.{Role}
use Rattle.isl_stmt.specs.declared.word.Role.TheVariants as role
use Rattle.isl_stmt.specs.Word as words
use Rattle.isl_stmt.specs.Word.{is_role, head_role, role_of, token_prefix}
use Rattle.isl_stmt.specs.Operator as ops
use Rattle.isl_stmt.specs.Operator.{operator_of, of_precedence, sees_operator}
use Rattle.isl_stmt.specs.Expression as read
use Rattle.isl_stmt.specs.ExpressionGrammar as spell
use Rattle.isl_stmt.proofs.Words.{is_role_true}

-- ---- words

pub takes_variable : Takes words.variable spell.variable
unfolding words.variable any_word
takes_variable [] = record { by = λ a rest h. absurd cc }
takes_variable (token.Word w ∷ ts) = record {
  by = λ a rest h.
      elim (chosen (is_role (role_of w) role.Name) (Some (w, ts)) None (Some (a, rest)) h) [
        | inl yes' ↦
            let p = same_read w a ts rest yes'.1 in (
              token.Word w ∷ [],
              ap (λ l. token.Word w ∷ l) p.1,
              (
                ap (λ v. token.Word v ∷ []) p.0,
                subst (λ (v : Text). role_of v ≡ role.Name) p.0
                    (is_role_true (role_of w) role.Name yes'.0),
              ),
            )
        | inr no' ↦ absurd cc
      ];
}
takes_variable (token.Number d ∷ ts) = record { by = λ a rest h. absurd cc }
takes_variable (token.Sign g ∷ ts) = record { by = λ a rest h. absurd cc }

prefix_taken : (t : Token) (ts : List Token) (o : Option Prefix) → token_prefix t ≡ o → (a : Prefix) (rest : List Token)
    → words.prefix_given o (t ∷ ts) ≡ Some (a, rest)
    → (us : List Token) × (t ∷ ts ≡ us ++ rest) × spell.prefix a us
prefix_taken t ts None e a rest h = absurd cc
prefix_taken t ts (Some found) e a rest h = let p = same_read found a ts rest h in
    (t ∷ [], ap (λ l. t ∷ l) p.1, is_word t (e ∙ ap (λ q. Some q) p.0))
  where
    is_word : (t : Token) {a : Prefix} → token_prefix t ≡ Some a → spell.prefix a (t ∷ [])
    is_word (token.Word w) e = (w, refl, e)
    is_word (token.Number d) e = absurd cc
    is_word (token.Sign g) e = absurd cc

takes_prefix : Takes words.prefix spell.prefix
unfolding words.prefix
takes_prefix [] = record { by = λ a rest h. absurd cc }
takes_prefix (t ∷ ts) = record { by = λ a rest h. prefix_taken t ts (token_prefix t) refl a rest h }

module _ (x : Role) (some : x ≢ role.NoWord) where
  pub takes_said : (ts : List Token) → head_role ts ≡ x → TakesAt ts r.skip (spell.said x)
  takes_said [] e = absurd (some (sym e))
  takes_said (token.Word w ∷ ts) e = record
      { by = λ a rest h. (token.Word w ∷ [], ap (λ l. token.Word w ∷ l) (same_read tt a ts rest h).1, (w, refl, e)) }
  takes_said (token.Number d ∷ ts) e = absurd (some (sym e))
  takes_said (token.Sign g ∷ ts) e = absurd (some (sym e))

  takes_word : Takes (words.expect_word x) (spell.said x)
  unfolding words.expect_word
  takes_word ts = record {
    by = λ a rest h.
        elim (chosen (is_role (head_role ts) x) (Some (tt, tail ts)) None (Some (a, rest)) h) [
          | inl yes' ↦ (takes_said ts (is_role_true (head_role ts) x yes'.0)).by a rest yes'.1
          | inr no' ↦ absurd cc
        ];
  }

-- ---- operators

operator_taken : (p : Precedence) (t : Token) (ts : List Token) (o : Option Binary) → of_precedence p (operator_of t) ≡ o
    → (a : Binary) (rest : List Token) → ops.operator_given o (t ∷ ts) ≡ Some (a, rest)
    → (us : List Token) × (t ∷ ts ≡ us ++ rest) × spell.operator p a us
operator_taken p t ts None e a rest h = absurd cc
operator_taken p t ts (Some found) e a rest h = let q = same_read found a ts rest h in
    (t ∷ [], ap (λ l. t ∷ l) q.1, (t, refl, e ∙ ap (λ b. Some b) q.0))

takes_operator : (p : Precedence) → Takes (ops.operator p) (spell.operator p)
unfolding ops.operator
takes_operator p [] = record { by = λ a rest h. absurd cc }
takes_operator p (t ∷ ts) = record { by = λ a rest h. operator_taken p t ts (of_precedence p (operator_of t)) refl a rest h }

-- ---- rows

module _ (p : Precedence) (item : Parser Expr) (L : Grammar Expr) (taken : Takes item L) where
  link_taken : Takes (read.link p item) (spell.link p L)
  unfolding read.link
  link_taken ts = takes_bind (ops.operator p) _ (spell.operator p) _ ts (takes_operator p ts)
      (λ binary. takes_map item L (read.make_link binary) taken)

  rows_taken : Takes (read.rows p item) (spell.rows p L)
  unfolding read.rows
  rows_taken ts = takes_bind item _ L _ ts (taken ts)
      (λ first. takes_row (sees_operator p) (read.link p item) (spell.link p L) (λ us _. link_taken us) [] _ _
      (λ more. takes_pure (read.row_of first more)))

expr_taken : (p : Parser Expr) (L : Grammar Expr) → Takes p L → Takes (read.expr_with p) (spell.expr_with L)
expr_taken p L pre =
    rows_taken Test (read.univ p) (spell.univ L)
    (rows_taken Universal (read.sum p) (spell.sum L) (rows_taken Sum (read.prod p) (spell.prod L)
    (rows_taken Product (read.join p) (spell.join L) (rows_taken Join p L pre))))

-- ---- operands

takes_look : (f : Role → Parser Expr) (L : Grammar Expr) (ts : List Token) → TakesAt ts (f (head_role ts)) L
    → TakesAt ts (r.◌>>=◌ words.look f) L
takes_look f L ts h = record { by = h.by }

lone_taken : Takes read.lone spell.lone
unfolding read.lone
lone_taken = takes_map words.variable spell.variable e.Name takes_variable

item_taken : (ts : List Token) → head_kind ts ≡ k.OpenSquare → TakesAt ts (r.◌>>◌ r.skip read.item) spell.item
unfolding read.item
item_taken = takes_past k.OpenSquare (λ h. cc) _ _
    (λ _. λ ts. takes_bind r.number _ s.number _ ts (takes_number ts) (λ at. takes_end k.CloseSquare (λ h. cc) (Item at)))

module _ (p : Parser Expr) (L : Grammar Expr) (nested : Takes p L) where
  enclosed_taken : (ts : List Token) → head_kind ts ≡ k.Open → TakesAt ts (r.◌>>◌ r.skip (read.enclosed p)) (spell.enclosed L)
  unfolding read.enclosed
  enclosed_taken = takes_past k.Open (λ h. cc) _ _
      (λ _. λ ts. takes_bind (read.expr_with p) _ (spell.expr_with L) _ ts (expr_taken p L nested ts)
      (λ inner. takes_end k.Close (λ h. cc) inner))

  prefixed_taken : Takes (read.prefixed p) (spell.prefixed L)
  unfolding read.prefixed
  prefixed_taken ts = takes_bind words.prefix _ spell.prefix _ ts (takes_prefix ts) (λ found. takes_map p L (e.Prefix found) nested)

  applied_taken : (ts : List Token) → head_kind ts ≡ k.Open → TakesAt ts (r.◌>>◌ r.skip (read.applied p)) (spell.applied L)
  unfolding read.applied
  applied_taken ts h = record {
    by =
        (takes_bind (r.◌>>◌ r.skip (read.enclosed p)) _ (spell.enclosed L) _ ts (enclosed_taken ts h)
        (λ argument. takes_pure (Apply argument))).by;
  }

  postfix_by_taken : (ts : List Token) (kind : Kind) → head_kind ts ≡ kind → TakesAt ts (read.postfix_by p kind) (spell.postfix L)
  postfix_by_taken ts k.Inverse h = takes_or_left _ (takes_past k.Inverse (λ h. cc) _ _ (λ _. takes_pure Inverse) ts h)
  postfix_by_taken ts k.Open h = takes_or_right _ (takes_or_left _ (applied_taken ts h))
  postfix_by_taken ts k.OpenSquare h = takes_or_right _ (takes_or_right _ (item_taken ts h))
  postfix_by_taken ts _ h = takes_none ts (spell.postfix L)

  postfix_taken : Takes (read.postfix p) (spell.postfix L)
  unfolding read.postfix
  postfix_taken ts = takes_peek (read.postfix_by p) (spell.postfix L) ts (postfix_by_taken ts (head_kind ts) refl)

module _ (lp : Parser Literal) (ll : Grammar Literal) (literal : Takes lp ll) (p : Parser Expr) (L : Grammar Expr)
    (nested : Takes p L) where
  whole_taken : Takes (read.whole_literal lp) (spell.whole_literal ll)
  unfolding read.whole_literal
  whole_taken = takes_map lp ll e.Literal literal

  atom_by_taken : (ts : List Token) (kind : Kind) → head_kind ts ≡ kind → TakesAt ts (read.atom_by lp p kind) (spell.atom ll L)
  atom_by_taken ts k.Open h = takes_or_right _ (takes_or_right _ (enclosed_taken p L nested ts h))
  atom_by_taken ts k.OpenSquare h = takes_or_right _ (takes_or_left _ (whole_taken ts))
  atom_by_taken ts k.OpenBrace h = takes_or_right _ (takes_or_left _ (whole_taken ts))
  atom_by_taken ts _ h = takes_or_left _ (lone_taken ts)

  atom_taken : Takes (read.atom lp p) (spell.atom ll L)
  unfolding read.atom
  atom_taken ts = takes_peek (read.atom_by lp p) (spell.atom ll L) ts (atom_by_taken ts (head_kind ts) refl)

  post_taken : Takes (read.post lp p) (spell.post ll L)
  unfolding read.post
  post_taken ts = takes_bind (read.atom lp p) _ (spell.atom ll L) _ ts (atom_taken ts)
      (λ operand. takes_row read.sees_postfix (read.postfix p) (spell.postfix L) (λ us _. postfix_taken p L nested us) [] _ _
      (λ more. takes_pure (read.post_of operand more)))

  flows_taken : (first : Role) → first ≢ role.NoWord → (found : Flow) (ts : List Token) → head_role ts ≡ first
      → TakesAt ts (r.◌>>◌ r.skip (read.flows lp p found)) (spell.flows ll L first found)
  unfolding read.flows
  flows_taken first some found ts h = takes_bind r.skip _ (spell.said first) _ ts (takes_said first some ts h) (λ _. λ us.
      takes_bind (read.post lp p) _ (spell.post ll L) _ us (post_taken us) (λ source. λ vs.
      takes_bind (words.expect_word role.Before) _ (spell.said role.Before) _ vs (takes_word role.Before (λ h. cc) vs) (λ _. λ ws.
      takes_bind (read.post lp p) _ (spell.post ll L) _ ws (post_taken ws) (λ sink. λ xs.
      takes_bind (words.expect_word role.Under) _ (spell.said role.Under) _ xs (takes_word role.Under (λ h. cc) xs) (λ _.
      takes_map (read.post lp p) (spell.post ll L) (read.dependence found source sink) post_taken)))))

  pre_by_taken : (ts : List Token) (x : Role) → head_role ts ≡ x → TakesAt ts (read.pre_by lp p x) (spell.pre_level ll L)
  pre_by_taken ts role.Prefix h = takes_or_left _ (prefixed_taken p L nested ts)
  pre_by_taken ts role.Any h = takes_or_right _ (takes_or_left _ (flows_taken role.Any (λ h. cc) flow.Any ts h))
  pre_by_taken ts role.Last h = takes_or_right _ (takes_or_right _ (takes_or_left _ (flows_taken role.Last (λ h. cc) flow.Last ts h)))
  pre_by_taken ts _ h = takes_or_right _ (takes_or_right _ (takes_or_right _ (post_taken ts)))

  level_taken : Takes (read.pre_level lp p) (spell.pre_level ll L)
  unfolding read.pre_level
  level_taken ts = takes_look (read.pre_by lp p) (spell.pre_level ll L) ts (pre_by_taken ts (head_role ts) refl)

pub pre_taken : (n : ℕ) → Takes (read.pre n) (spell.pre n)
unfolding read.pre spell.pre
pre_taken zero ts = takes_none ts (spell.pre 0)
pre_taken (suc n) ts = level_taken (literal (suc n)) (literal_grammar (suc n)) (literal_taken (suc n)) (read.pre n) (spell.pre n)
    (pre_taken n) ts

pub expression_taken : (n : ℕ) → Takes (read.expression n) (spell.expression n)
expression_taken n = expr_taken (read.pre n) (spell.pre n) (pre_taken n)
