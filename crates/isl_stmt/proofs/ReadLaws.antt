-- When each answer of reading a statement comes.
use Rattle.std.proofs.Common.{◌≡◌, ◌≢◌, ℕ, ℤ, ◌<◌, ◌≤◌, true, false, List, length, Some, None, Result, Ok, Err, refl, sym, ap, subst, ◌∙◌}
use Rattle.std.proofs.Common.{inl, inr, arith}
use Rattle.std.specs.Prelude.{◌⊎◌}
use Rattle.std.proofs.lemmas.Bool.{true≢false}
use Rattle.isl_token.specs.TokenView.{Token}
use Rattle.isl_token.specs.Token.{Text}
use Rattle.isl_token.specs.declared.fault.Fault.{Fault}
use Rattle.isl_token.specs.declared.fault.Fault.TheVariants as fault
use Rattle.isl_token.specs.Depth.{is_too_deep}
use Rattle.isl_token.specs.Lex.{tokens}
use Rattle.isl_token.specs.Reading.{Reads}
use Rattle.isl_token.specs.Spelling.{Spells, SpellsOne, Gives}
use Rattle.isl_token.proofs.Whole.{spells_one, found_whole, over_only, fails_only}
use Rattle.isl_refusal.specs.declared.refusal.Refusal.{Refusal}
use Rattle.isl_refusal.specs.declared.refusal.Refusal.TheVariants.{Syntax, TooDeep, NoMemory}
use Rattle.isl_token.specs.Fault.{of_fault}
use Rattle.isl_text.specs.Read as text
use Rattle.isl_tree.specs.declared.statement.Stmt.{Stmt}
use Rattle.isl_stmt.specs.Statement.{statement}
use Rattle.isl_stmt.specs.StatementGrammar.{statement_grammar}
use Rattle.isl_stmt.specs.Read.{NoStatement, IsWhole, judged, IsDueTo, IsDue, Answers}
use Rattle.isl_stmt.proofs.StatementTaken.{statement_taken}
use Rattle.isl_stmt.proofs.StatementAgain.{over, statement_again}

pub one_statement : SpellsOne statement_grammar
one_statement = spells_one statement statement_grammar over statement_taken statement_again refl

-- ---- all the tokens

not_given : (stmt : Stmt) → Gives (Err fault.Syntax) stmt → ⊥
not_given stmt (inl h) = cc
not_given stmt (inr h) = cc

module _ (ts cursor left : List Token) (n : ℕ) (same : cursor ≡ ts) (enough : length ts < n) where
  pub whole_found : (found : Stmt) (m : ℕ) → statement n cursor ≡ Some (found, left) → m ≡ length left → m ≤ 0
      → Spells statement_grammar found ts
  whole_found found m e count none = found_whole statement statement_grammar over statement_taken statement_again refl n cursor ts left
      same enough found e (omega arith)

  some_left : (m : ℕ) → m ≡ length left → 0 < m → length left ≢ 0
  some_left m count some h = let none : m ≡ 0 = count ∙ h in absurd (omega arith)

  pub whole_goes_on : (found : Stmt) (m : ℕ) → statement n cursor ≡ Some (found, left) → m ≡ length left → 0 < m → NoStatement ts
  whole_goes_on found m e count some = λ stmt spelled. not_given stmt
      (over_only statement statement_grammar over statement_taken statement_again refl n cursor ts left same enough stmt found e
      (some_left m count some) spelled)

  pub whole_fails : (f : Fault) → Reads (statement n cursor) (Err f) left → IsWhole ts (Err f)
  whole_fails fault.NoMemory e = tt
  whole_fails fault.Syntax e = λ stmt spelled. not_given stmt
      (fails_only statement statement_grammar over statement_taken statement_again refl n cursor ts left same enough stmt fault.Syntax e
      spelled)

-- ---- what is due

abbrev Unless : List Token → ℤ → Result Stmt Refusal → Type 0
Unless ts limit answer = (answer ≡ Err NoMemory) ⊎ IsDueTo ts limit answer

module _ (ts : List Token) (limit : ℤ) where
  pub due_deep : is_too_deep ts ≡ true → Unless ts limit (Err TooDeep)
  due_deep deep = inr (inl (deep, refl))

  pub due_fault : (f : Fault) (refusal : Refusal) → is_too_deep ts ≡ false → IsWhole ts (Err f) → refusal ≡ of_fault f
      → Unless ts limit (Err refusal)
  due_fault fault.NoMemory refusal flat none is = inl (ap (λ r. Err r) is)
  due_fault fault.Syntax refusal flat none is = inr (inr (inl (flat, none, ap (λ r. Err r) is)))

  pub due_judged : (found : Stmt) (answer : Result Stmt Refusal) (k : ℤ) → is_too_deep ts ≡ false → IsWhole ts (Ok found) → k ≡ limit
      → answer ≡ judged k ts found → Unless ts limit answer
  due_judged found answer k flat spelled back is = inr (inr (inr (flat, found, spelled, is ∙ ap (λ z. judged z ts found) back)))

  -- one answer is due
  due_once : (a b : Result Stmt Refusal) → IsDueTo ts limit a → IsDueTo ts limit b → a ≡ b
  due_once a b (inl x) (inl y) = x.1 ∙ sym y.1
  due_once a b (inl x) (inr (inl y)) = absurd (true≢false (sym x.0 ∙ y.0))
  due_once a b (inl x) (inr (inr y)) = absurd (true≢false (sym x.0 ∙ y.0))
  due_once a b (inr (inl x)) (inl y) = absurd (true≢false (sym y.0 ∙ x.0))
  due_once a b (inr (inl x)) (inr (inl y)) = x.2 ∙ sym y.2
  due_once a b (inr (inl x)) (inr (inr y)) = absurd (x.1 y.1 y.2)
  due_once a b (inr (inr x)) (inl y) = absurd (true≢false (sym y.0 ∙ x.0))
  due_once a b (inr (inr x)) (inr (inl y)) = absurd (y.1 x.1 x.2)
  due_once a b (inr (inr x)) (inr (inr y)) = x.3 ∙ ap (judged limit ts) (one_statement ts x.1 y.1 x.2 y.2) ∙ sym y.3

same_tokens : (bytes : Text) (ts us : List Token) → tokens bytes ≡ Some ts → tokens bytes ≡ Some us → ts ≡ us
same_tokens bytes ts us a b = cc

no_tokens : (bytes : Text) (ts : List Token) → tokens bytes ≡ None → tokens bytes ≡ Some ts → ⊥
no_tokens bytes ts a b = cc

pub one_due : (bytes : Text) (limit : ℤ) (a b : Result Stmt Refusal) → IsDue bytes limit a → IsDue bytes limit b → a ≡ b
one_due bytes limit a b (inl x) (inl y) = x.1 ∙ sym y.1
one_due bytes limit a b (inl x) (inr y) = absurd (no_tokens bytes y.0 x.0 y.1)
one_due bytes limit a b (inr x) (inl y) = absurd (no_tokens bytes x.0 y.0 x.1)
one_due bytes limit a b (inr x) (inr y) = due_once x.0 limit a b x.2
    (subst (λ (ts : List Token). IsDueTo ts limit b) (sym (same_tokens bytes x.0 y.0 x.1 y.1)) y.2)

-- ---- from bytes

module _ (bytes : Text) (limit : ℤ) where
  pub due_bytes : (ts : List Token) (answer : Result Stmt Refusal) (k : ℤ) → tokens bytes ≡ Some ts → k ≡ limit → Unless ts k answer
      → (answer ≡ Err NoMemory) ⊎ IsDue bytes limit answer
  due_bytes ts answer k read back (inl none) = inl none
  due_bytes ts answer k read back (inr due) = inr (inr (ts, read, subst (λ z. IsDueTo ts z answer) back due))

  pub due_refused : (refusal : Refusal) → text.Lexes (tokens bytes) (Err refusal)
      → (let answer : Result Stmt Refusal = Err refusal in (answer ≡ Err NoMemory) ⊎ IsDue bytes limit answer)
  due_refused Syntax none = inr (inl (none, refl))
  due_refused NoMemory none = inl refl
  due_refused _ none = absurd none

  pub exactly_due : (result : Result Stmt Refusal) → ((result ≡ Err NoMemory) ⊎ IsDue bytes limit result)
      → (answer : Result Stmt Refusal) → IsDue bytes limit answer → Answers result answer
  exactly_due result (inl none) answer due = inr none
  exactly_due result (inr is) answer due = inl (one_due bytes limit result answer is due)

pub ruleset wholes = (whole_fails)

pub ruleset dues = (due_deep, due_fault)
