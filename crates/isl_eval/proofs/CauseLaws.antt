-- Which causes the bytes of a statement have.
use Rattle.std.proofs.Common.{◌≡◌, ◌∙◌, ◌⊎◌, inl, inr, refl, sym, ap, subst, ℕ, ℤ, Bool, true, false, List, Some, None, Result, Ok, Err}
use Rattle.std.specs.Prelude.{MatchResult}
use Rattle.std.proofs.lemmas.Bool.{false≢true}
use Rattle.isl_meter.specs.Gauge.{Gauge, limit_of}
use Rattle.isl_token.specs.TokenView.{Token}
use Rattle.isl_token.specs.Lex.{tokens}
use Rattle.isl_token.specs.Depth.{is_too_deep}
use Rattle.isl_token.specs.Spelling.{Spells}
use Rattle.isl_refusal.specs.declared.refusal.Refusal.{Refusal}
use Rattle.isl_refusal.specs.declared.refusal.Refusal.TheVariants as r
use Rattle.isl_text.specs.Read.{has_wide_number}
use Rattle.isl_tree.specs.declared.statement.Stmt.{Stmt}
use Rattle.isl_stmt.specs.StatementGrammar.{statement_grammar}
use Rattle.isl_stmt.specs.Limits.{statement_is_within}
use Rattle.isl_stmt.specs.Read.{NoStatement, judged, IsDueTo, IsDue}
use Rattle.isl_stmt.proofs.ReadLaws.{one_statement}
use Rattle.isl_values.specs.State.{Moment}
use Rattle.isl_eval.specs.Spelled.{BytesSpell, OfTokens, OfStatement, SpellOne}
use Rattle.isl_eval.specs.Causes.{causes, IsThere, FirstGives}
use Rattle.isl_eval.specs.Evaluation.{IsRead, IsWhyNot}
use Rattle.isl_eval.proofs.SoundLaws.{spelled_sound}

-- ---- one list of tokens, one statement
some_same : (a b : List Token) → Some a ≡ Some b → a ≡ b
some_same a b e = cc

same_tokens : (bytes : List ℕ) (a b : List Token) → tokens bytes ≡ Some a → tokens bytes ≡ Some b → a ≡ b
same_tokens bytes a b x y = some_same a b (sym x ∙ y)

pub one : (bytes : List ℕ) → SpellOne bytes
one bytes a b x y =
    one_statement x.tokens a b x.spelled (subst (λ (ts : List Token). Spells statement_grammar b ts)
    (same_tokens bytes y.tokens x.tokens y.cut x.cut) y.spelled)

no_tokens : (bytes : List ℕ) (ts : List Token) → tokens bytes ≡ Some ts → ¬ (tokens bytes ≡ None)
no_tokens bytes ts cut none = let e : Some ts ≡ None = sym cut ∙ none in cc

pub of_tokens : (bytes : List ℕ) (ts : List Token) (P : List Token → Type 0) → tokens bytes ≡ Some ts → OfTokens bytes P → P ts
of_tokens bytes ts P cut h = subst P (same_tokens bytes h.0 ts h.1 cut) h.2

pub of_statement : (bytes : List ℕ) (stmt : Stmt) (P : Stmt → Type 0) → BytesSpell bytes stmt → OfStatement bytes P → P stmt
of_statement bytes stmt P spelled h = subst P (one bytes h.0 stmt h.1 spelled) h.2

pub is_not : (a : Bool) → a ≡ false → ¬ (a ≡ true)
is_not a not_so so = false≢true (sym not_so ∙ so)

pub is_so : (a : Bool) → a ≡ true → ¬ (a ≡ false)
is_so a so not_so = false≢true (sym not_so ∙ so)

-- ---- what limits make of a statement
data Judged (limit : ℤ) (ts : List Token) (found : Stmt) (answer : Result Stmt Refusal) : Type 0 where
  wide_tree : statement_is_within found ≡ false → answer ≡ Err r.TooWide → Judged limit ts found answer
  wide_token : statement_is_within found ≡ true → has_wide_number limit ts ≡ true → answer ≡ Err r.WideNumber → Judged limit ts found answer
  taken : statement_is_within found ≡ true → has_wide_number limit ts ≡ false → answer ≡ Ok found → Judged limit ts found answer

judged_as : (limit : ℤ) (ts : List Token) (found : Stmt) (answer : Result Stmt Refusal) → answer ≡ judged limit ts found
    → Judged limit ts found answer
judged_as limit ts found answer is = by (statement_is_within found) refl (has_wide_number limit ts) refl
  where
    by : (b : Bool) → statement_is_within found ≡ b → (c : Bool) → has_wide_number limit ts ≡ c → Judged limit ts found answer
    by false p c q = wide_tree p (is ∙ rw p refl)
    by true p true q = wide_token p q (is ∙ rw (p, q) refl)
    by true p false q = taken p q (is ∙ rw (p, q) refl)

module _ (before : Moment) (bytes : List ℕ) where
  -- ---- what reading refuses
  module _ (ts : List Token) (cut : tokens bytes ≡ Some ts) where
    deep_why : is_too_deep ts ≡ true → FirstGives (IsThere before bytes) causes r.TooDeep
    deep_why deep = inr (no_tokens bytes ts cut, inl ((ts, cut, deep), refl))

    shallow : is_too_deep ts ≡ false → ¬ OfTokens bytes (λ ts. is_too_deep ts ≡ true)
    shallow flat there = is_not (is_too_deep ts) flat (of_tokens bytes ts (λ ts. is_too_deep ts ≡ true) cut there)

    none_why : is_too_deep ts ≡ false → NoStatement ts → FirstGives (IsThere before bytes) causes r.Syntax
    none_why flat none = inr (no_tokens bytes ts cut, inr (shallow flat, inl ((ts, cut, none), refl)))

    module _ (flat : is_too_deep ts ≡ false) (stmt : Stmt) (spells : Spells statement_grammar stmt ts) where
      spelled : BytesSpell bytes stmt
      spelled = record { tokens = ts; cut = cut; spelled = spells }

      some_statement : ¬ OfTokens bytes NoStatement
      some_statement there = of_tokens bytes ts NoStatement cut there stmt spells

      wide_why : statement_is_within stmt ≡ false → FirstGives (IsThere before bytes) causes r.TooWide
      wide_why wide = inr (no_tokens bytes ts cut, inr (shallow flat, inr (some_statement, inl ((stmt, spelled, wide), refl))))

      narrow_tree : statement_is_within stmt ≡ true → ¬ OfStatement bytes (λ stmt. statement_is_within stmt ≡ false)
      narrow_tree within there = is_so (statement_is_within stmt) within
          (of_statement bytes stmt (λ stmt. statement_is_within stmt ≡ false) spelled there)

      number_why : statement_is_within stmt ≡ true → has_wide_number (limit_of before.meter) ts ≡ true
          → FirstGives (IsThere before bytes) causes r.WideNumber
      number_why within wide =
          inr (no_tokens bytes ts cut, inr (shallow flat, inr (some_statement, inr (narrow_tree within, inl ((ts, cut, wide), refl)))))

      narrow_tokens : has_wide_number (limit_of before.meter) ts ≡ false
          → ¬ OfTokens bytes (λ ts. has_wide_number (limit_of before.meter) ts ≡ true)
      narrow_tokens small there =
          is_not (has_wide_number (limit_of before.meter) ts) small
          (of_tokens bytes ts (λ ts. has_wide_number (limit_of before.meter) ts ≡ true) cut there)

      read : statement_is_within stmt ≡ true → has_wide_number (limit_of before.meter) ts ≡ false → IsRead before bytes stmt
      read within small = record {
        spelled = spelled;
        none = (no_tokens bytes ts cut, (shallow flat, (some_statement, (narrow_tree within, (narrow_tokens small, tt)))));
        sound = spelled_sound bytes stmt spelled within;
      }

      err_of : (refusal : Refusal) → Judged (limit_of before.meter) ts stmt (Err refusal) → FirstGives (IsThere before bytes) causes refusal
      err_of refusal (wide_tree within is) = let e : refusal ≡ r.TooWide = cc in subst (FirstGives (IsThere before bytes) causes) (sym e)
          (wide_why within)
      err_of refusal (wide_token within wide is) =
          let e : refusal ≡ r.WideNumber = cc in subst (FirstGives (IsThere before bytes) causes) (sym e) (number_why within wide)
      err_of refusal (taken within small is) = let e : Err refusal ≡ Ok stmt = is in cc

      ok_of : (found : Stmt) → Judged (limit_of before.meter) ts stmt (Ok found) → IsRead before bytes found
      ok_of found (wide_tree within is) = let e : Ok found ≡ Err r.TooWide = is in cc
      ok_of found (wide_token within wide is) = let e : Ok found ≡ Err r.WideNumber = is in cc
      ok_of found (taken within small is) = let e : found ≡ stmt = cc in subst (IsRead before bytes) (sym e) (read within small)

  pub due_refused : (refusal : Refusal) → IsDue bytes (limit_of before.meter) (Err refusal)
      → FirstGives (IsThere before bytes) causes refusal
  due_refused refusal (inl h) = let e : refusal ≡ r.Syntax = let w = h.1 in cc in inl (h.0, e)
  due_refused refusal (inr h) = by h.2
    where
      by : IsDueTo h.0 (limit_of before.meter) (Err refusal) → FirstGives (IsThere before bytes) causes refusal
      by (inl d) = let e : refusal ≡ r.TooDeep = let w = d.1 in cc in subst (FirstGives (IsThere before bytes) causes) (sym e)
          (deep_why h.0 h.1 d.0)
      by (inr (inl d)) = let e : refusal ≡ r.Syntax = let w = d.2 in cc in subst (FirstGives (IsThere before bytes) causes) (sym e)
          (none_why h.0 h.1 d.0 d.1)
      by (inr (inr d)) = err_of h.0 h.1 d.0 d.1 d.2 refusal (judged_as (limit_of before.meter) h.0 d.1 (Err refusal) d.3)

  pub due_read : (found : Stmt) → IsDue bytes (limit_of before.meter) (Ok found) → IsRead before bytes found
  due_read found (inl h) = let e = h.1 in cc
  due_read found (inr h) = by h.2
    where
      by : IsDueTo h.0 (limit_of before.meter) (Ok found) → IsRead before bytes found
      by (inl d) = let e = d.1 in cc
      by (inr (inl d)) = let e = d.2 in cc
      by (inr (inr d)) = ok_of h.0 h.1 d.0 d.1 d.2 found (judged_as (limit_of before.meter) h.0 d.1 (Ok found) d.3)

abbrev failed : Refusal → Result Stmt Refusal
failed refusal = Err refusal

-- ---- what reading answers, as its contract has it: what is due, or that memory ended
module _ (before : Moment) (bytes : List ℕ) (limit : ℤ) (meter : Gauge) (at : before.meter ≡ meter) (is : limit ≡ limit_of meter) where
  same : limit ≡ limit_of before.meter
  same = is ∙ ap limit_of (sym at)

  at_limit : (answer : Result Stmt Refusal) → IsDue bytes limit answer → IsDue bytes (limit_of before.meter) answer
  at_limit answer due = subst (λ (z : ℤ). IsDue bytes z answer) same due

  read_ok : (found : Stmt) → (Ok found ≡ Err r.NoMemory) ⊎ IsDue bytes limit (Ok found) → IsRead before bytes found
  read_ok found (inl e) = let f : Ok found ≡ Err r.NoMemory = e in cc
  read_ok found (inr due) = due_read before bytes found (at_limit (Ok found) due)

  read_err : (refusal : Refusal) → (failed refusal ≡ Err r.NoMemory) ⊎ IsDue bytes limit (failed refusal)
      → IsWhyNot before bytes refusal
  read_err refusal (inl e) = inl cc
  read_err refusal (inr due) = inr (due_refused before bytes refusal (at_limit (Err refusal) due))

  pub read_made : (answer : Result Stmt Refusal) → (answer ≡ Err r.NoMemory) ⊎ IsDue bytes limit answer
      → MatchResult answer (IsRead before bytes) (IsWhyNot before bytes)
  read_made (Ok found) due = read_ok found due
  read_made (Err refusal) due = read_err refusal due
