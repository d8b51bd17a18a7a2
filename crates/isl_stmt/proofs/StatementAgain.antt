-- What spells a statement is read again.
use Rattle.std.proofs.Common.{◌≡◌, ℕ, suc, ◌<◌, Bool, true, false, ◌&&◌, List, [], ◌∷◌, ◌++◌, length, Some, refl, sym, ap, ◌∙◌, inl, inr}
use Rattle.std.proofs.Common.{arith, length-append}
use Rattle.std.specs.Prelude.{nat_eq}
use Rattle.std.proofs.lemmas.List.{append-nil}
use Rattle.std.proofs.lemmas.Bool.{false≢true, false_from_ne_true, eqb-true}
use Rattle.isl_token.specs.TokenView.{Token}
use Rattle.isl_token.specs.TokenView as token
use Rattle.isl_token.specs.declared.token.Kind.TheVariants as k
use Rattle.isl_token.specs.Token.{Text, is_kind, kind_of}
use Rattle.isl_token.specs.Reading.{Parser, head_kind, second_kind, expect}
use Rattle.isl_token.specs.Reading as r
use Rattle.isl_token.proofs.Taking.{same_read, both_left, both_right, is_kind_true, is_kind_same}
use Rattle.isl_token.proofs.Again.{Stops, Again, Starts, Full, always, again_map, again_bind, again_after, follows_always, full_bind}
use Rattle.isl_token.proofs.Again.{starts_bind}
use Rattle.isl_tree.specs.declared.statement.Expr.{Expr}
use Rattle.isl_tree.specs.declared.statement.Expr.TheVariants as e
use Rattle.isl_tree.specs.declared.statement.Stmt.{Stmt}
use Rattle.isl_tree.specs.declared.statement.Stmt.TheVariants.{Bind, Show, Assume}
use Rattle.isl_text.specs.Pset.{pset}
use Rattle.isl_text.specs.PsetGrammar.{pset_grammar}
use Rattle.isl_text.proofs.PsetLaws.{pset_again}
use Rattle.isl_stmt.specs.declared.word.Role.{Role}
use Rattle.isl_stmt.specs.declared.word.Role.TheVariants as role
use Rattle.isl_stmt.specs.Word as words
use Rattle.isl_stmt.specs.Word.{is_role, head_role, token_role, role_of}
use Rattle.isl_stmt.specs.Expression.{expression}
use Rattle.isl_stmt.specs.ExpressionGrammar as exprs
use Rattle.isl_stmt.specs.Statement as read
use Rattle.isl_stmt.specs.StatementGrammar as spell
use Rattle.isl_stmt.proofs.Words.{is_role_true, is_role_same}
use Rattle.isl_stmt.proofs.ExpressionAgain.{closing_over, again_variable, again_said, begins_expr, at_expr, expression_again}
use Rattle.isl_stmt.proofs.ExpressionAgain.{expression_starts, expression_full, variable_full, said_full, name_is_expression}

-- nothing is left
abbrev pub over : Stops
over ts = nat_eq (length ts) 0

over_nil : (ts : List Token) → over ts ≡ true → ts ≡ []
over_nil [] h = refl
over_nil (t ∷ ts) h = let none : suc (length ts) ≡ 0 = eqb-true (suc (length ts)) 0 h in absurd (omega arith)

not_over : (ts : List Token) → 0 < length ts → over ts ≡ false
not_over ts lt = false_from_ne_true (over ts) (λ h. let none : length ts ≡ 0 = eqb-true (length ts) 0 h in absurd (omega arith))

module _ (n depth : ℕ) where
  -- what begins as a binding is no expression: its name alone is one, and `:=` does not go on with it
  name_first : (a : Expr) (w : Text) (t : Token) (ts : List Token) → exprs.expression depth a (token.Word w ∷ (t ∷ ts))
      → length (token.Word w ∷ (t ∷ ts)) < n
      → role_of w ≡ role.Name → kind_of t ≡ k.Assign → ⊥
  name_first a w t ts l lt is assign =
      let whole = (expression_again n depth).by a (token.Word w ∷ (t ∷ ts)) [] l lt refl in
      let first = (expression_again n 1).by (e.Name w) (token.Word w ∷ []) (t ∷ ts) (name_is_expression w is) (omega arith)
      (closing_over t ts (rw assign refl)) in
      let p = same_read (e.Name w) a (t ∷ ts) [] (sym first ∙ ap (expression n) (sym (append-nil (token.Word w ∷ (t ∷ ts)))) ∙ whole) in
      some_left t ts p.1
    where
      some_left : (t : Token) (ts : List Token) → t ∷ ts ≡ [] → ⊥
      some_left t ts h = cc

  no_binding : (a : Expr) (us : List Token) → exprs.expression depth a us → length us < n → read.sees_binding us ≡ true → ⊥
  no_binding a [] l lt h = false≢true h
  no_binding a (t ∷ []) l lt h = false≢true (sym (no_second (is_role (token_role t) role.Name)) ∙ h)
    where
      no_second : (b : Bool) → (b && false) ≡ false
      no_second true = refl
      no_second false = refl
  no_binding a (token.Word w ∷ (t ∷ ts)) l lt h =
      name_first a w t ts l lt (is_role_true (role_of w) role.Name (both_left _ (is_kind (kind_of t) k.Assign) h))
      (is_kind_true (kind_of t) k.Assign (both_right (is_role (role_of w) role.Name) _ h))
  no_binding a (token.Number d ∷ (t ∷ ts)) l lt h = false≢true h
  no_binding a (token.Sign g ∷ (t ∷ ts)) l lt h = false≢true h

  expr_over : Again n (expression n) (exprs.expression depth) over
  expr_over = record { by = λ a us rest l lt stop. (expression_again n depth).by a us rest l lt (rw (over_nil rest stop) refl) }

  bound_again : Again n (read.bound (expression n)) (spell.bound (exprs.expression depth)) over
  unfolding read.bound
  bound_again = again_bind n words.variable _ exprs.variable _ always over (again_variable n)
      (λ name. again_after n k.Assign _ _ over (λ _. again_map n (expression n) (exprs.expression depth) (Bind name) over expr_over))
      (λ name. follows_always _ over)

  shown_again : Again n (read.shown (expression n)) (spell.shown (exprs.expression depth)) over
  unfolding read.shown
  shown_again = again_map n (expression n) (exprs.expression depth) Show over expr_over

  printed_again : Again (suc n) (r.◌>>◌ r.skip (read.shown (expression n))) (spell.printed (exprs.expression depth)) over
  printed_again = again_said role.Print (λ _. read.shown (expression n)) _ n over (λ _. shown_again)

  set_over : Again n (pset n) (pset_grammar depth) over
  set_over = record { by = λ a us rest l lt stop. (pset_again n depth).by a us rest l lt refl }

  assumed_again : Again (suc n) (r.◌>>◌ r.skip (read.assumed (pset n))) (spell.assumed (pset_grammar depth)) over
  unfolding read.assumed
  assumed_again = again_said role.Assume (λ _. read.assumed (pset n)) _ n over (λ _. again_map n (pset n) (pset_grammar depth) Assume over set_over)

  -- ---- which form a text has

  bound_seen : (a : Stmt) (us rest : List Token) → spell.bound (exprs.expression depth) a us → read.sees_binding (us ++ rest) ≡ true
  bound_seen a us rest l = rw (
    l.3,
    l.4.0,
    l.5.3,
    l.5.4.1,
    is_role_same (role_of l.0) role.Name l.4.1,
    is_kind_same
        (kind_of l.5.4.0) k.Assign l.5.4.2,
  ) refl

  some_left : (us rest : List Token) → 0 < length us → over (us ++ rest) ≡ false
  some_left us rest lt = not_over (us ++ rest) (omega (arith, length-append us rest))

  -- a word before a statement is no name
  no_name : (x y : Role) → x ≡ y → is_role y role.Name ≡ false → (q : Bool) → (is_role x role.Name && q) ≡ false
  no_name x y h other q = rw (h, other) refl

  printed_role : (a : Stmt) (us rest : List Token) → spell.printed (exprs.expression depth) a us → head_role (us ++ rest) ≡ role.Print
  printed_role a us rest l = rw (l.3, l.4.1) l.4.2

  assumed_role : (a : Stmt) (us rest : List Token) → spell.assumed (pset_grammar depth) a us → head_role (us ++ rest) ≡ role.Assume
  assumed_role a us rest l = rw (l.3, l.4.1) l.4.2

  -- what begins an expression
  shown_by : (x : Role) → begins_expr x ≡ true → read.unbound_by (pset n) (expression n) x ≡ read.shown (expression n)
  shown_by role.Print h = absurd (false≢true h)
  shown_by role.Assume h = absurd (false≢true h)
  shown_by _ h = refl

  unbound_is : (x : Role) (ts : List Token) → head_role ts ≡ x
      → read.unbound (pset n) (expression n) ts ≡ read.unbound_by (pset n) (expression n) x ts
  unbound_is x ts h = rw h refl

  bound_full : Full (spell.bound (exprs.expression depth))
  bound_full = full_bind exprs.variable _ variable_full

  printed_full : Full (spell.printed (exprs.expression depth))
  printed_full = full_bind (exprs.said role.Print) _ (said_full role.Print)

  assumed_full : Full (spell.assumed (pset_grammar depth))
  assumed_full = full_bind (exprs.said role.Assume) _ (said_full role.Assume)

  shown_full : Full (spell.shown (exprs.expression depth))
  shown_full = full_bind (exprs.expression depth) _ (expression_full depth)

  shown_starts : Starts (spell.shown (exprs.expression depth)) at_expr
  shown_starts = starts_bind (exprs.expression depth) _ at_expr (expression_starts depth)

  read_again : (a : Stmt) (us rest : List Token) → spell.statement_with (pset_grammar depth) (exprs.expression depth) a us → length us < n
      → over rest ≡ true → read.statement_with (pset n) (expression n) (us ++ rest) ≡ Some (a, rest)
  unfolding read.statement_with
  read_again a us rest (inl l) lt stop = rw (l.1, stop, l.0) refl
  read_again a us rest (inr (inl l)) lt stop =
      rw (some_left us rest (bound_full.by a us l), bound_seen a us rest l) (bound_again.by a us rest l lt stop)
  read_again a us rest (inr (inr (inl l))) lt stop =
      let head = printed_role a us rest l in
      rw (
        some_left us rest (printed_full.by a us l),
        no_name (head_role (us ++ rest)) role.Print head refl (is_kind (second_kind (us ++ rest)) k.Assign),
      )
      (unbound_is role.Print (us ++ rest) head ∙ printed_again.by a us rest l (omega arith) stop)
  read_again a us rest (inr (inr (inr (inr l)))) lt stop =
      let head = assumed_role a us rest l in
      rw (
        some_left us rest (assumed_full.by a us l),
        no_name (head_role (us ++ rest)) role.Assume head refl (is_kind (second_kind (us ++ rest)) k.Assign),
      )
      (unbound_is role.Assume (us ++ rest) head ∙ assumed_again.by a us rest l (omega arith) stop)
  read_again a us rest (inr (inr (inr (inl l)))) lt stop =
      let begins = shown_by (head_role (us ++ rest)) (shown_starts.by a us rest l) in
      rw (some_left us rest (shown_full.by a us l), no_binding_after a us rest l lt stop)
      (ap (λ (p : Parser Stmt). p (us ++ rest)) begins ∙ shown_again.by a us rest l lt stop)
    where
      no_binding_after : (a : Stmt) (us rest : List Token) → spell.shown (exprs.expression depth) a us → length us < n → over rest ≡ true
          → read.sees_binding (us ++ rest) ≡ false
      no_binding_after a us rest l lt stop =
          let alone : us ≡ l.1 = l.3 ∙ ap (λ (x : List Token). l.1 ++ x) l.5.1 ∙ append-nil l.1 in
          let whole : us ++ rest ≡ l.1 = ap (λ (x : List Token). us ++ x) (over_nil rest stop) ∙ append-nil us ∙ alone in
          ap read.sees_binding whole ∙ false_from_ne_true (read.sees_binding l.1) (no_binding l.0 l.1 l.4 (omega (arith, ap length alone)))

  pub statement_reads : Again n (read.statement n) (spell.statement_grammar depth) over
  statement_reads = record { by = λ a us rest l lt stop. read_again a us rest l lt stop }

pub statement_again : (n depth : ℕ) → Again n (read.statement n) (spell.statement_grammar depth) over
statement_again n depth = statement_reads n depth
