-- What spells an expression is read again.
use Rattle.std.proofs.Common.{◌≡◌, ℕ, zero, suc, ◌<◌, Bool, true, false, cond, not, ◌&&◌, List, [], ◌∷◌, ◌++◌, length, Option, Some, None}
use Rattle.std.proofs.Common.{refl, sym, ap, ◌∙◌, inl, inr, arith}
use Rattle.std.specs.Prelude.{is_some}
use Rattle.std.proofs.lemmas.List.{append-nil}
use Rattle.std.proofs.lemmas.Bool.{false≢true}
use Rattle.std.proofs.Common.{rules}
use denote.Enum.Bare.{same_true}
use Rattle.isl_token.specs.TokenView.{Token}
use Rattle.isl_token.specs.TokenView as token
use Rattle.isl_token.specs.declared.token.Kind.{Kind}
use Rattle.isl_token.specs.declared.token.Kind.TheVariants as k
use Rattle.isl_token.specs.Token.{Text, kind_of, sign_kind}
use Rattle.isl_token.specs.AnyWord.{any_word}
use Rattle.isl_token.specs.Reading.{Parser, head_kind, sees}
use Rattle.isl_token.specs.Reading as r
use Rattle.isl_token.specs.Spelling.{Grammar}
use Rattle.isl_token.specs.Spelling as s
use Rattle.isl_token.proofs.Taking.{both_left, both_right, is_kind_true}
use Rattle.isl_token.proofs.Again.{Stops, Again, Starts, Follows, Full, Items, always, again_pure, again_map, again_bind, again_skip}
use Rattle.isl_token.proofs.Again.{again_end, again_number, again_row, follows_pure, follows_starts, follows_always, follows_bind}
use Rattle.isl_token.proofs.Again.{follows_many, follows_either, starts_bind, starts_either, starts_more, starts_then, starts_with}
use Rattle.isl_token.proofs.Again.{starts_kind, head_is, head_of_word, full_word, full_bind, full_either}
use Rattle.isl_tree.specs.declared.tree.Literal.{Literal}
use Rattle.isl_formula.specs.FormulaGrammar as formulas
use Rattle.isl_text.specs.LiteralGrammar as literals
use Rattle.isl_text.specs.Literal.{literal, literal_grammar}
use Rattle.isl_text.proofs.LiteralLaws.{literal_again}
use Rattle.isl_tree.specs.declared.statement.Binary.{Binary}
use Rattle.isl_tree.specs.declared.statement.Prefix.{Prefix}
use Rattle.isl_tree.specs.declared.statement.Postfix.{Postfix}
use Rattle.isl_tree.specs.declared.statement.Postfix.TheVariants.{Inverse, Apply, Item}
use Rattle.isl_tree.specs.declared.statement.Expr.{Expr}
use Rattle.isl_tree.specs.declared.statement.Expr.TheVariants as e
use Rattle.isl_stmt.specs.declared.expression.Flow.{Flow}
use Rattle.isl_stmt.specs.declared.expression.Flow.TheVariants as flow
use Rattle.isl_stmt.specs.contracts.operator.Precedence.{the_type}
use Rattle.isl_stmt.specs.declared.operator.Precedence.{Precedence}
use Rattle.isl_stmt.specs.declared.operator.Precedence.TheVariants.{Test, Universal, Sum, Product, Join}
use Rattle.isl_stmt.specs.declared.word.Role.{Role}
use Rattle.isl_stmt.specs.declared.word.Role.TheVariants as role
use Rattle.isl_stmt.specs.Word as words
use Rattle.isl_tree.specs.Words.{prefix_of}
use Rattle.isl_stmt.specs.Word.{is_role, head_role, role_of}
use Rattle.isl_stmt.specs.Operator as ops
use Rattle.isl_stmt.specs.Operator.{is_precedence, precedence_of, of_precedence, operator_sign, sees_operator}
use Rattle.isl_stmt.specs.Expression as read
use Rattle.isl_stmt.specs.ExpressionGrammar as spell
use Rattle.isl_stmt.proofs.Words.{is_role_same, word_passes, sign_is_no_word}

-- ---- words

pub again_variable : (size : ℕ) → Again size words.variable spell.variable always
unfolding words.variable any_word
again_variable size = record { by = λ n ts rest l lt stop. rw (l.0, is_role_same (role_of n) role.Name l.1) refl }

again_word : (size : ℕ) (x : Role) → Again size (words.expect_word x) (spell.said x) always
unfolding words.expect_word
again_word size x = record { by = λ n ts rest l lt stop. rw (l.1, is_role_same (role_of l.0) x l.2) refl }

-- a word before an operand, and what follows it
module _ {B : Type 0} (q : Prefix → Parser B) (M : Prefix → Grammar B) where
  again_prefix : (size : ℕ) (stops : Stops) → ((x : Prefix) → Again size (q x) (M x) stops) → Again (suc size) (r.◌>>=◌ words.prefix q)
      (s.◌>>=◌ spell.prefix M) stops
  unfolding words.prefix
  again_prefix size stops h = record {
    by = λ b ts rest l lt stop.
        let whole : ts ≡ token.Word l.4.0 ∷ l.2 = l.3 ∙ ap (λ (x : List Token). x ++ l.2) l.4.1 in
        let shorter : length l.2 < size = omega (arith, ap length whole) in
        rw (whole, l.4.2) ((h l.0).by b l.2 rest l.5 shorter stop);
  }

-- a word that is known to be there, and what follows it
module _ {B : Type 0} (x : Role) (q : Unit {0} → Parser B) (M : Unit {0} → Grammar B) where
  pub again_said : (size : ℕ) (stops : Stops) → ((u : Unit {0}) → Again size (q u) (M u) stops)
      → Again (suc size) (r.◌>>=◌ r.skip q) (s.◌>>=◌ (spell.said x) M) stops
  again_said size stops h = record {
    by = λ b ts rest l lt stop.
        let whole : ts ≡ token.Word l.4.0 ∷ l.2 = l.3 ∙ ap (λ (x : List Token). x ++ l.2) l.4.1 in
        let shorter : length l.2 < size = omega (arith, ap length whole) in
        rw whole ((h tt).by b l.2 rest l.5 shorter stop);
  }

-- ---- what ends an operand

abbrev ends_post : Stops
ends_post ts = not (read.sees_postfix ts)

abbrev no : Precedence → Stops
no p ts = not (sees_operator p ts)

word_ends_post : (word : Text) → not (read.begins_postfix (kind_of (token.Word word))) ≡ true
word_ends_post word = word_passes (λ kind. not (read.begins_postfix kind)) refl refl word

sign_ends_post : (p : Precedence) (kind : Kind) → is_some (of_precedence p (operator_sign kind)) ≡ true
    → not (read.begins_postfix kind) ≡ true
sign_ends_post p k.Inverse h = absurd (false≢true h)
sign_ends_post p k.Open h = absurd (false≢true h)
sign_ends_post p k.OpenSquare h = absurd (false≢true h)
sign_ends_post p _ h = refl

operator_ends_post : (p : Precedence) (ts : List Token) → sees_operator p ts ≡ true → ends_post ts ≡ true
operator_ends_post p [] h = absurd (false≢true h)
operator_ends_post p (token.Word w ∷ ts) h = word_ends_post w
operator_ends_post p (token.Number d ∷ ts) h = refl
operator_ends_post p (token.Sign g ∷ ts) h = sign_ends_post p (sign_kind g) h

-- an operator has one precedence
one_precedence : (p q : Precedence) → is_precedence p q ≡ false → (binary : Binary) (b : Bool)
    → is_precedence (precedence_of binary) p ≡ b → is_some (cond b (Some binary) None) ≡ true
    → not (is_some (of_precedence q (Some binary))) ≡ true
one_precedence p q apart binary true is h = let same : precedence_of binary ≡ p = same_true the_type (search rules)
    (precedence_of binary) p is in rw (same, apart) refl
one_precedence p q apart binary false is h = absurd (false≢true h)

other_operator : (p q : Precedence) → is_precedence p q ≡ false → (o : Option Binary) → is_some (of_precedence p o) ≡ true
    → not (is_some (of_precedence q o)) ≡ true
other_operator p q apart None h = absurd (false≢true h)
other_operator p q apart (Some binary) h = one_precedence p q apart binary (is_precedence (precedence_of binary) p) refl h

apart_at : (p q : Precedence) → is_precedence p q ≡ false → (ts : List Token) → sees_operator p ts ≡ true → no q ts ≡ true
apart_at p q apart ts h = other_operator p q apart (ops.operator_by (head_role ts) (head_kind ts)) h

both : {a b : Bool} → a ≡ true → b ≡ true → (a && b) ≡ true
both x y = rw (x, y) refl

-- ---- rows

operator_again : (size : ℕ) (p : Precedence) → Again size (ops.operator p) (spell.operator p) always
unfolding ops.operator
operator_again size p = record { by = λ b ts rest l lt stop. rw (l.1, l.2) refl }

operator_starts : (p : Precedence) → Starts (spell.operator p) (sees_operator p)
operator_starts p = record { by = λ b ts rest l. rw (l.1, l.2) refl }

operator_full : (p : Precedence) → Full (spell.operator p)
operator_full p = record { by = λ b ts l. omega (arith, ap length l.1) }

module _ (size : ℕ) (p : Precedence) (item : Parser Expr) (L : Grammar Expr) (stops : Stops) (again : Again size item L stops)
    (opens : (ts : List Token) → sees_operator p ts ≡ true → stops ts ≡ true) where
  -- what ends a row
  abbrev ends : Stops
  ends ts = no p ts && stops ts

  link_again : Again size (read.link p item) (spell.link p L) stops
  unfolding read.link
  link_again = again_bind size (ops.operator p) _ (spell.operator p) _ always stops (operator_again size p)
      (λ binary. again_map size item L (read.make_link binary) stops again) (λ binary. follows_always _ stops)

  link_starts : (test : Stops) → ((ts : List Token) → sees_operator p ts ≡ true → test ts ≡ true) → Starts (spell.link p L) test
  link_starts test h = starts_bind (spell.operator p) _ test (starts_more _ (sees_operator p) test (operator_starts p) h)

  link_items : Items (sees_operator p) (spell.link p L) stops
  link_items = record {
    starts = link_starts (sees_operator p) (λ ts h. h);
    follows = link_starts stops opens;
    some = full_bind
        (spell.operator p) _ (operator_full p);
  }

  rows_again : Again size (read.rows p item) (spell.rows p L) ends
  unfolding read.rows
  rows_again = again_bind size item _ L _ stops ends again
      (λ first. again_row size (sees_operator p) (read.link p item) (spell.link p L) stops link_items link_again [] _ _ ends
      (λ more. again_pure size (read.row_of first more) ends)
      (λ more. follows_pure _ ends (no p) (λ rest h. both_left (no p rest) (stops rest) h))
      (λ more. follows_pure _ ends stops (λ rest h. both_right (no p rest) (stops rest) h)))
      (λ first. follows_bind (follows_many (link_starts stops opens) (λ rest h. both_right (no p rest) (stops rest) h))
      (λ more. follows_pure _ ends ends (λ rest h. h)))

-- what ends a row of each precedence
abbrev ends_join : Stops
ends_join ts = no Join ts && ends_post ts

abbrev ends_prod : Stops
ends_prod ts = no Product ts && ends_join ts

abbrev ends_sum : Stops
ends_sum ts = no Sum ts && ends_prod ts

abbrev ends_univ : Stops
ends_univ ts = no Universal ts && ends_sum ts

abbrev pub ends_expr : Stops
ends_expr ts = no Test ts && ends_univ ts

-- a looser operator ends the rows of tighter ones
opens_join : (p : Precedence) → is_precedence p Join ≡ false → (ts : List Token) → sees_operator p ts ≡ true → ends_join ts ≡ true
opens_join p a ts h = both (apart_at p Join a ts h) (operator_ends_post p ts h)

opens_prod : (p : Precedence) → is_precedence p Product ≡ false → is_precedence p Join ≡ false → (ts : List Token)
    → sees_operator p ts ≡ true → ends_prod ts ≡ true
opens_prod p b a ts h = both (apart_at p Product b ts h) (opens_join p a ts h)

opens_sum : (p : Precedence) → is_precedence p Sum ≡ false → is_precedence p Product ≡ false → is_precedence p Join ≡ false
    → (ts : List Token) → sees_operator p ts ≡ true → ends_sum ts ≡ true
opens_sum p c b a ts h = both (apart_at p Sum c ts h) (opens_prod p b a ts h)

opens_univ : (ts : List Token) → sees_operator Test ts ≡ true → ends_univ ts ≡ true
opens_univ ts h = both (apart_at Test Universal refl ts h) (opens_sum Test refl refl refl ts h)

module _ (size : ℕ) (p : Parser Expr) (L : Grammar Expr) (pre : Again size p L ends_post) where
  join_again : Again size (read.join p) (spell.join L) ends_join
  join_again = rows_again size Join p L ends_post pre (operator_ends_post Join)

  prod_again : Again size (read.prod p) (spell.prod L) ends_prod
  prod_again = rows_again size Product (read.join p) (spell.join L) ends_join join_again (opens_join Product refl)

  sum_again : Again size (read.sum p) (spell.sum L) ends_sum
  sum_again = rows_again size Sum (read.prod p) (spell.prod L) ends_prod prod_again (opens_prod Sum refl refl)

  univ_again : Again size (read.univ p) (spell.univ L) ends_univ
  univ_again = rows_again size Universal (read.sum p) (spell.sum L) ends_sum sum_again (opens_sum Universal refl refl refl)

  pub expr_again : Again size (read.expr_with p) (spell.expr_with L) ends_expr
  expr_again = rows_again size Test (read.univ p) (spell.univ L) ends_univ univ_again opens_univ

-- ---- operands

-- what neither joins nor follows an operand ends an expression
pub over_expr : (ts : List Token) → ops.operator_by (head_role ts) (head_kind ts) ≡ None → read.begins_postfix (head_kind ts) ≡ false
    → ends_expr ts ≡ true
over_expr ts none nothing = rw (none, nothing) refl

-- the bracket that closes, or `:=`
abbrev closing : Kind → Bool
closing k.Close = true
closing k.Assign = true
closing _ = false

closing_kind : (kind : Kind) → closing kind ≡ true → (operator_sign kind ≡ None) × (read.begins_postfix kind ≡ false)
closing_kind k.Close h = (refl, refl)
closing_kind k.Assign h = (refl, refl)
closing_kind _ h = absurd (false≢true h)

pub closing_over : (t : Token) (ts : List Token) → closing (kind_of t) ≡ true → ends_expr (t ∷ ts) ≡ true
closing_over t ts h =
    let c = closing_kind (kind_of t) h in
    over_expr (t ∷ ts) (ap (λ x. ops.operator_by x (kind_of t)) (sign_is_no_word t closing refl refl h) ∙ c.0) c.1

close_ends : (inner : Expr) → Starts (s.◌>>◌ (s.word k.Close) (s.pure inner)) ends_expr
close_ends inner = record { by = λ a ts rest l. rw (l.3, l.4.1) (closing_over l.4.0 (l.2 ++ rest) (rw l.4.2 refl)) }

lone_again : (size : ℕ) → Again size read.lone spell.lone always
unfolding read.lone
lone_again size = again_map size words.variable spell.variable e.Name always (again_variable size)

postfix_starts : (L : Grammar Expr) → Starts (spell.postfix L) read.sees_postfix
postfix_starts L = starts_either _ _ read.sees_postfix (starts_kind k.Inverse read.begins_postfix (starts_with k.Inverse _) refl)
    (starts_either _ _ read.sees_postfix
    (starts_bind (spell.enclosed L) _ read.sees_postfix (starts_kind k.Open read.begins_postfix (starts_with k.Open _) refl))
    (starts_kind k.OpenSquare read.begins_postfix (starts_with k.OpenSquare _) refl))

postfix_full : (L : Grammar Expr) → Full (spell.postfix L)
postfix_full L = full_either _ _ (full_bind _ _ (full_word k.Inverse))
    (full_either _ _ (full_bind _ _ (full_bind _ _ (full_word k.Open))) (full_bind _ _ (full_word k.OpenSquare)))

module _ (size : ℕ) (p : Parser Expr) (L : Grammar Expr) (nested : Again size p L ends_post) where
  enclosed_again : Again (suc size) (r.◌>>◌ r.skip (read.enclosed p)) (spell.enclosed L) always
  unfolding read.enclosed
  enclosed_again = again_skip k.Open size (λ _. read.enclosed p) _ always (λ _.
      again_bind size (read.expr_with p) _ (spell.expr_with L) _ ends_expr always (expr_again size p L nested)
      (λ inner. again_end size k.Close inner) (λ inner. follows_starts always (close_ends inner)))

  applied_again : Again (suc size) (r.◌>>◌ r.skip (read.applied p)) (spell.applied L) always
  unfolding read.applied
  applied_again = record { by = (again_map (suc size) (r.◌>>◌ r.skip (read.enclosed p)) (spell.enclosed L) Apply always enclosed_again).by }

  inverse_again : Again (suc size) (r.◌>>◌ r.skip (r.pure Inverse)) spell.inverse always
  inverse_again = again_skip k.Inverse size (λ _. r.pure Inverse) _ always (λ _. again_pure size Inverse always)

  item_again : Again (suc size) (r.◌>>◌ r.skip read.item) spell.item always
  unfolding read.item
  item_again = again_skip k.OpenSquare size (λ _. read.item) _ always (λ _.
      again_bind size r.number _ s.number _ always always (again_number size) (λ at. again_end size k.CloseSquare (Item at))
      (λ at. follows_always _ always))

  applied_starts : Starts (spell.applied L) (sees k.Open)
  applied_starts = starts_bind (spell.enclosed L) _ (sees k.Open) (starts_with k.Open _)

  postfix_head : (kind : Kind) (M : Unit {0} → Grammar Postfix) → Again (suc size) (read.postfix_by p kind) (s.◌>>=◌ (s.word kind) M) always
      → (a : Postfix) (ts rest : List Token) → s.◌>>=◌ (s.word kind) M a ts → length ts < suc size
      → read.postfix p (ts ++ rest) ≡ Some (a, rest)
  unfolding read.postfix
  postfix_head kind M h a ts rest l lt = ap (λ kind. read.postfix_by p kind (ts ++ rest)) (head_of_word kind M a ts rest l)
      ∙ h.by a ts rest l lt refl

  postfix_read : (a : Postfix) (ts rest : List Token) → spell.postfix L a ts → length ts < suc size
      → read.postfix p (ts ++ rest) ≡ Some (a, rest)
  unfolding read.postfix
  postfix_read a ts rest (inl l) lt = postfix_head k.Inverse _ inverse_again a ts rest l lt
  postfix_read a ts rest (inr (inl l)) lt = ap (λ kind. read.postfix_by p kind (ts ++ rest)) (head_is k.Open applied_starts a ts rest l)
      ∙ applied_again.by a ts rest l lt refl
  postfix_read a ts rest (inr (inr l)) lt = postfix_head k.OpenSquare _ item_again a ts rest l lt

  postfix_again : Again (suc size) (read.postfix p) (spell.postfix L) always
  postfix_again = record { by = λ a ts rest l lt stop. postfix_read a ts rest l lt }

  postfix_items : Items read.sees_postfix (spell.postfix L) always
  postfix_items = record { starts = postfix_starts L; follows = record { by = λ a us rest l. refl }; some = postfix_full L }

  prefixed_again : Again (suc size) (read.prefixed p) (spell.prefixed L) ends_post
  unfolding read.prefixed
  prefixed_again = again_prefix _ _ size ends_post (λ x. again_map size p L (e.Prefix x) ends_post nested)

-- how a literal begins
abbrev begins_literal : Kind → Bool
begins_literal k.OpenSquare = true
begins_literal k.OpenBrace = true
begins_literal _ = false

abbrev at_literal : Stops
at_literal ts = begins_literal (head_kind ts)

literal_starts : (n : ℕ) → Starts (literal_grammar n) at_literal
literal_starts n = record { by = λ a us rest l. outline_starts.by a us rest l.0 } where
  braces_start : Starts (literals.braces (literals.tuple n) (formulas.formula n)) at_literal
  braces_start = starts_kind k.OpenBrace begins_literal (starts_with k.OpenBrace _) refl

  declared_follows : Follows (s.◌∪◌ literals.declared (s.pure [])) at_literal at_literal
  declared_follows = follows_either
      (follows_starts at_literal (starts_kind k.OpenSquare begins_literal (starts_with k.OpenSquare _) refl))
      (follows_pure [] at_literal at_literal (λ rest h. h))

  outline_starts : Starts (literals.outline_of n) at_literal
  outline_starts = starts_then _ _ at_literal declared_follows
      (λ params. starts_bind (literals.braces (literals.tuple n) (formulas.formula n)) _ at_literal braces_start)

-- how an operand begins
abbrev begins_post : Role → Bool
begins_post role.NoWord = true
begins_post role.Name = true
begins_post _ = false

abbrev begins_atom : Kind → Bool
begins_atom k.Open = true
begins_atom kind = begins_literal kind

literal_begins_atom : (kind : Kind) → begins_literal kind ≡ true → begins_atom kind ≡ true
literal_begins_atom k.Open h = absurd (false≢true h)
literal_begins_atom _ h = h

bracket_no_word : (ts : List Token) → begins_atom (head_kind ts) ≡ true → head_role ts ≡ role.NoWord
bracket_no_word [] h = refl
bracket_no_word (t ∷ ts) h = sign_is_no_word t begins_atom refl refl h

-- ---- how an expression begins

abbrev pub begins_expr : Role → Bool
begins_expr role.NoWord = true
begins_expr role.Name = true
begins_expr role.Prefix = true
begins_expr role.Any = true
begins_expr role.Last = true
begins_expr _ = false

abbrev pub at_expr : Stops
at_expr ts = begins_expr (head_role ts)

post_begins_expr : (x : Role) → begins_post x ≡ true → begins_expr x ≡ true
post_begins_expr role.NoWord h = refl
post_begins_expr role.Name h = refl
post_begins_expr _ h = absurd (false≢true h)

module _ (size : ℕ) (lp : Parser Literal) (ll : Grammar Literal) (literal : Again (suc size) lp ll always)
    (begins : Starts ll at_literal) (p : Parser Expr) (L : Grammar Expr) (nested : Again size p L ends_post) where
  whole_again : Again (suc size) (read.whole_literal lp) (spell.whole_literal ll) always
  unfolding read.whole_literal
  whole_again = again_map (suc size) lp ll e.Literal always literal

  by_literal : (kind : Kind) → begins_literal kind ≡ true → read.atom_by lp p kind ≡ read.whole_literal lp
  by_literal k.OpenSquare h = refl
  by_literal k.OpenBrace h = refl
  by_literal _ h = absurd (false≢true h)

  by_word : (kind : Kind) → not (begins_atom kind) ≡ true → read.atom_by lp p kind ≡ read.lone
  by_word k.Open h = absurd (false≢true h)
  by_word k.OpenSquare h = absurd (false≢true h)
  by_word k.OpenBrace h = absurd (false≢true h)
  by_word _ h = refl

  whole_starts : Starts (spell.whole_literal ll) at_literal
  whole_starts = starts_bind ll _ at_literal begins

  lone_head : (a : Expr) (ts rest : List Token) → spell.lone a ts → not (begins_atom (head_kind (ts ++ rest))) ≡ true
  lone_head a ts rest l = rw (l.3, l.4.0) (word_passes (λ kind. not (begins_atom kind)) refl refl l.0)

  enclosed_starts : Starts (spell.enclosed L) (sees k.Open)
  enclosed_starts = starts_with k.Open _

  atom_read : (a : Expr) (ts rest : List Token) → spell.atom ll L a ts → length ts < suc size → read.atom lp p (ts ++ rest) ≡ Some (a, rest)
  unfolding read.atom
  atom_read a ts rest (inl l) lt = ap (λ (q : Parser Expr). q (ts ++ rest)) (by_word (head_kind (ts ++ rest)) (lone_head a ts rest l))
      ∙ (lone_again (suc size)).by a ts rest l lt refl
  atom_read a ts rest (inr (inl l)) lt = ap (λ (q : Parser Expr). q (ts ++ rest))
      (by_literal (head_kind (ts ++ rest)) (whole_starts.by a ts rest l)) ∙ whole_again.by a ts rest l lt refl
  atom_read a ts rest (inr (inr l)) lt = ap (λ kind. read.atom_by lp p kind (ts ++ rest)) (head_is k.Open enclosed_starts a ts rest l)
      ∙ (enclosed_again size p L nested).by a ts rest l lt refl

  atom_again : Again (suc size) (read.atom lp p) (spell.atom ll L) always
  atom_again = record { by = λ a ts rest l lt stop. atom_read a ts rest l lt }

  post_again : Again (suc size) (read.post lp p) (spell.post ll L) ends_post
  unfolding read.post
  post_again = again_bind (suc size) (read.atom lp p) _ (spell.atom ll L) _ always ends_post atom_again
      (λ operand. again_row (suc size) read.sees_postfix (read.postfix p) (spell.postfix L) always (postfix_items size p L nested)
      (postfix_again size p L nested) [] _ _ ends_post
      (λ more. again_pure (suc size) (read.post_of operand more) ends_post)
      (λ more. follows_pure _ ends_post ends_post (λ rest h. h)) (λ more. follows_always _ ends_post))
      (λ operand. follows_always _ ends_post)

  small_post : Again size (read.post lp p) (spell.post ll L) ends_post
  small_post = record { by = λ a us rest l lt stop. post_again.by a us rest l (omega arith) stop }

  said_ends : {B : Type 0} (x : Role) (M : Unit {0} → Grammar B) → Starts (s.◌>>=◌ (spell.said x) M) ends_post
  said_ends x M = record { by = λ b ts rest l. rw (l.3, l.4.1) (word_ends_post l.4.0) }

  flows_again : (first : Role) (found : Flow) → Again (suc size) (r.◌>>◌ r.skip (read.flows lp p found))
      (spell.flows ll L first found) ends_post
  unfolding read.flows
  flows_again first found = again_said first (λ _. read.flows lp p found) _ size ends_post (λ _.
      again_bind size (read.post lp p) _ (spell.post ll L) _ ends_post ends_post small_post
      (λ source. again_bind size (words.expect_word role.Before) _ (spell.said role.Before) _ always ends_post (again_word size role.Before)
      (λ _. again_bind size (read.post lp p) _ (spell.post ll L) _ ends_post ends_post small_post
      (λ sink. again_bind size (words.expect_word role.Under) _ (spell.said role.Under) _ always ends_post (again_word size role.Under)
      (λ _. again_map size (read.post lp p) (spell.post ll L) (read.dependence found source sink) ends_post small_post)
      (λ _. follows_always _ ends_post))
      (λ sink. follows_starts ends_post (said_ends role.Under _))) (λ _. follows_always _ ends_post))
      (λ source. follows_starts ends_post (said_ends role.Before _)))

  atom_starts : Starts (spell.atom ll L) (λ ts. begins_post (head_role ts))
  atom_starts = starts_either _ _ (λ ts. begins_post (head_role ts)) (record { by = λ a ts rest l. rw (l.3, l.4.0, l.4.1) refl })
      (starts_either _ _ (λ ts. begins_post (head_role ts))
      (starts_more _ at_literal (λ ts. begins_post (head_role ts)) whole_starts
      (λ ts h. rw (bracket_no_word ts (literal_begins_atom (head_kind ts) h)) refl))
      (starts_more _ (sees k.Open) (λ ts. begins_post (head_role ts)) enclosed_starts
      (λ ts h. rw (bracket_no_word ts (rw (is_kind_true (head_kind ts) k.Open h) refl)) refl)))

  post_starts : Starts (spell.post ll L) (λ ts. begins_post (head_role ts))
  post_starts = starts_bind (spell.atom ll L) _ (λ ts. begins_post (head_role ts)) atom_starts

  by_post : (x : Role) → begins_post x ≡ true → read.pre_by lp p x ≡ read.post lp p
  by_post role.Prefix h = absurd (false≢true h)
  by_post role.Any h = absurd (false≢true h)
  by_post role.Last h = absurd (false≢true h)
  by_post _ h = refl

  prefix_role : (w : Text) (o : Option Prefix) (found : Prefix) → o ≡ Some found → words.role_by o w ≡ role.Prefix
  prefix_role w None found h = absurd cc
  prefix_role w (Some x) found h = refl

  prefixed_head : (a : Expr) (ts rest : List Token) → spell.prefixed L a ts → head_role (ts ++ rest) ≡ role.Prefix
  prefixed_head a ts rest l = rw (l.3, l.4.1) (prefix_role l.4.0 (prefix_of l.4.0) l.0 l.4.2)

  flows_head : (first : Role) (found : Flow) (a : Expr) (ts rest : List Token) → spell.flows ll L first found a ts
      → head_role (ts ++ rest) ≡ first
  flows_head first found a ts rest l = rw (l.3, l.4.1) l.4.2

  level_read : (a : Expr) (ts rest : List Token) → spell.pre_level ll L a ts → length ts < suc size → ends_post rest ≡ true
      → read.pre_level lp p (ts ++ rest) ≡ Some (a, rest)
  unfolding read.pre_level
  level_read a ts rest (inl l) lt stop = ap (λ x. read.pre_by lp p x (ts ++ rest)) (prefixed_head a ts rest l)
      ∙ (prefixed_again size p L nested).by a ts rest l lt stop
  level_read a ts rest (inr (inl l)) lt stop = ap (λ x. read.pre_by lp p x (ts ++ rest)) (flows_head role.Any flow.Any a ts rest l)
      ∙ (flows_again role.Any flow.Any).by a ts rest l lt stop
  level_read a ts rest (inr (inr (inl l))) lt stop = ap (λ x. read.pre_by lp p x (ts ++ rest))
      (flows_head role.Last flow.Last a ts rest l) ∙ (flows_again role.Last flow.Last).by a ts rest l lt stop
  level_read a ts rest (inr (inr (inr l))) lt stop = ap (λ (q : Parser Expr). q (ts ++ rest))
      (by_post (head_role (ts ++ rest)) (post_starts.by a ts rest l)) ∙ post_again.by a ts rest l lt stop

  pub level_starts : Starts (spell.pre_level ll L) at_expr
  level_starts = record { by = starts }
    where
      starts : (a : Expr) (ts rest : List Token) → spell.pre_level ll L a ts → at_expr (ts ++ rest) ≡ true
      starts a ts rest (inl l) = ap begins_expr (prefixed_head a ts rest l)
      starts a ts rest (inr (inl l)) = ap begins_expr (flows_head role.Any flow.Any a ts rest l)
      starts a ts rest (inr (inr (inl l))) = ap begins_expr (flows_head role.Last flow.Last a ts rest l)
      starts a ts rest (inr (inr (inr l))) = post_begins_expr (head_role (ts ++ rest)) (post_starts.by a ts rest l)

  level_again : Again (suc size) (read.pre_level lp p) (spell.pre_level ll L) ends_post
  level_again = record { by = λ a ts rest l lt stop. level_read a ts rest l lt stop }

pub pre_again : (n depth : ℕ) → Again n (read.pre n) (spell.pre depth) ends_post
unfolding read.pre spell.pre
pre_again zero depth = record { by = λ a us rest l lt stop. absurd (omega arith) }
pre_again (suc n) zero = record { by = λ a us rest l lt stop. absurd l }
pre_again (suc n) (suc depth) =
    level_again n (literal (suc n)) (literal_grammar (suc depth)) (literal_again (suc n) (suc depth)) (literal_starts (suc depth))
    (read.pre n) (spell.pre depth) (pre_again n depth)

pub expression_again : (n depth : ℕ) → Again n (read.expression n) (spell.expression depth) ends_expr
expression_again n depth = expr_again n (read.pre n) (spell.pre depth) (pre_again n depth)

pre_starts : (n : ℕ) → Starts (spell.pre n) at_expr
unfolding spell.pre
pre_starts zero = record { by = λ a us rest l. absurd l }
pre_starts (suc n) = level_starts n (literal (suc n)) (literal_grammar (suc n)) (literal_again (suc n) (suc n)) (literal_starts (suc n))
    (read.pre n) (spell.pre n) (pre_again n n)

row_starts : (p : Precedence) (L : Grammar Expr) → Starts L at_expr → Starts (spell.rows p L) at_expr
row_starts p L h = starts_bind L _ at_expr h

pub expression_starts : (n : ℕ) → Starts (spell.expression n) at_expr
expression_starts n =
    row_starts Test (spell.univ (spell.pre n)) (row_starts Universal (spell.sum (spell.pre n)) (row_starts Sum (spell.prod (spell.pre n))
    (row_starts Product (spell.join (spell.pre n)) (row_starts Join (spell.pre n) (pre_starts n)))))

-- ---- a name is an expression

row_alone : (p : Precedence) (L : Grammar Expr) (a : Expr) (us : List Token) → L a us → spell.rows p L a us
row_alone p L a us l = (a, us, [], sym (append-nil us), l, ([], [], [], refl, refl, (refl, refl)))

name_alone : (w : Text) → role_of w ≡ role.Name → spell.pre 1 (e.Name w) (token.Word w ∷ [])
unfolding spell.pre
name_alone w is = inr (inr (inr (
  e.Name w,
  token.Word w ∷ [],
  [],
  refl,
  inl (w, token.Word w ∷ [], [], refl, (refl, is), (refl, refl)),
  ([], [], [], refl, refl, (refl, refl)),
)))

pub name_is_expression : (w : Text) → role_of w ≡ role.Name → spell.expression 1 (e.Name w) (token.Word w ∷ [])
name_is_expression w is =
    row_alone Test (spell.univ (spell.pre 1)) _ _
    (row_alone Universal (spell.sum (spell.pre 1)) _ _ (row_alone Sum (spell.prod (spell.pre 1)) _ _
    (row_alone Product (spell.join (spell.pre 1)) _ _ (row_alone Join (spell.pre 1) _ _ (name_alone w is)))))

-- ---- an expression has a token

literal_full : (n : ℕ) → Full (literal_grammar n)
literal_full n = record { by = some } where
  some : (a : Literal) (us : List Token) → literal_grammar n a us → 0 < length us
  some a [] l = absurd (false≢true ((literal_starts n).by a [] [] l))
  some a (t ∷ ts) l = omega arith

one_token : (us : List Token) (t : Token) → us ≡ t ∷ [] → 0 < length us
one_token us t h = omega (arith, ap length h)

pub variable_full : Full spell.variable
variable_full = record { by = λ a us l. one_token us (token.Word a) l.0 }

prefix_full : Full spell.prefix
prefix_full = record { by = λ a us l. one_token us (token.Word l.0) l.1 }

pub said_full : (x : Role) → Full (spell.said x)
said_full x = record { by = λ a us l. one_token us (token.Word l.0) l.1 }

level_full : (ll : Grammar Literal) → Full ll → (L : Grammar Expr) → Full (spell.pre_level ll L)
level_full ll some L =
    full_either _ _ (full_bind spell.prefix _ prefix_full)
    (full_either _ _ (full_bind (spell.said role.Any) _ (said_full role.Any))
    (full_either _ _ (full_bind (spell.said role.Last) _ (said_full role.Last))
    (full_bind (spell.atom ll L) _
    (full_either _ _ (full_bind spell.variable _ variable_full)
    (full_either _ _ (full_bind ll _ some) (full_bind (s.word k.Open) _ (full_word k.Open)))))))

pre_full : (n : ℕ) → Full (spell.pre n)
unfolding spell.pre
pre_full zero = record { by = λ a us l. absurd l }
pre_full (suc n) = level_full (literal_grammar (suc n)) (literal_full (suc n)) (spell.pre n)

row_full : (p : Precedence) (L : Grammar Expr) → Full L → Full (spell.rows p L)
row_full p L h = full_bind L _ h

pub expression_full : (n : ℕ) → Full (spell.expression n)
expression_full n =
    row_full Test (spell.univ (spell.pre n)) (row_full Universal (spell.sum (spell.pre n)) (row_full Sum (spell.prod (spell.pre n))
    (row_full Product (spell.join (spell.pre n)) (row_full Join (spell.pre n) (pre_full n)))))
