-- What spells a parameter set is read again.
use Rattle.std.proofs.Common.{◌≡◌, ℕ, suc, ◌<◌, true, false, not, List, [], ◌++◌, length, Option, Some, None, refl, inl, inr, arith}
use Rattle.std.proofs.lemmas.Bool.{false≢true, not-true}
use Rattle.isl_token.specs.TokenView.{Token}
use Rattle.isl_token.specs.declared.token.Kind.{Kind}
use Rattle.isl_token.specs.declared.token.Kind.TheVariants as k
use Rattle.isl_token.specs.Token.{is_kind}
use Rattle.isl_token.specs.Reading.{Parser, head_kind, sees}
use Rattle.isl_token.specs.Reading as r
use Rattle.isl_token.specs.Spelling.{Grammar}
use Rattle.isl_token.specs.Spelling as s
use Rattle.isl_token.proofs.Again.{Stops, Again, Starts, always, again_map, again_bind, again_skip, again_after, again_end, again_name}
use Rattle.isl_token.proofs.Again.{again_separated, starts_always, follows_starts, starts_bind, starts_word, starts_with, starts_name}
use Rattle.isl_tree.specs.declared.tree.Formula.{Formula}
use Rattle.isl_formula.specs.Formula as formulas
use Rattle.isl_formula.specs.FormulaGrammar as formula_spell
use Rattle.isl_formula.proofs.TermEnds.{at}
use Rattle.isl_formula.proofs.ChainAgain.{ends_formula}
use Rattle.isl_formula.proofs.FormulaAgain.{begins_formula, formula_again, formula_starts}
use Rattle.isl_text.specs.Piece as pieces
use Rattle.isl_text.specs.LiteralGrammar as spell
use Rattle.isl_text.proofs.Missing.{again_unless, again_given}
use Rattle.isl_text.specs.Pset as read
use Rattle.isl_text.specs.PsetGrammar as grammar

-- ---- parameters

close_no_comma : (kind : Kind) → is_kind kind k.CloseSquare ≡ true → is_kind kind k.Comma ≡ false
close_no_comma k.CloseSquare e = refl
close_no_comma _ e = absurd (false≢true e)

name_row_again : (size : ℕ) → Again size pieces.name_row spell.name_row (sees k.CloseSquare)
name_row_again size = again_separated size k.Comma r.name s.name always (again_name size) (starts_always _)
    (sees k.CloseSquare) (λ rest stop. (close_no_comma (head_kind rest) stop, refl))

names_again : (size : ℕ) → Again size pieces.names (s.◌∪◌ (s.pure []) spell.name_row) (sees k.CloseSquare)
names_again size = again_unless size k.CloseSquare pieces.name_row spell.name_row (name_row_again size)
    (starts_bind s.name _ (λ ts. not (sees k.CloseSquare ts)) (starts_name (λ kind. not (is_kind kind k.CloseSquare)) refl))

declared_again : (size : ℕ) → Again (suc size) (r.◌>>◌ r.skip pieces.declared) spell.declared always
unfolding pieces.declared
declared_again size = again_skip k.OpenSquare size (λ _. pieces.declared) _ always
    (λ _. again_bind size pieces.names _ (s.◌∪◌ (s.pure []) spell.name_row) _ (sees k.CloseSquare) always (names_again size)
    (λ found. again_after size k.CloseSquare _ _ always (λ _. again_end size k.Arrow found))
    (λ found. follows_starts always (starts_with k.CloseSquare _)))

-- what follows the parameters
abbrev no_square : Stops
no_square ts = not (sees k.OpenSquare ts)

parameters_again : (size : ℕ) → Again size pieces.parameters (s.◌∪◌ spell.declared (s.pure [])) no_square
parameters_again size = again_given size k.OpenSquare [] (r.◌>>◌ r.skip pieces.declared) spell.declared always
    (record { by = λ a us rest l lt stop. (declared_again size).by a us rest l (omega arith) stop }) (starts_with k.OpenSquare _) no_square
    (λ rest e. refl) (λ rest e. not-true _ e)

-- ---- formulas

piece_ends_formula : (kind : Kind) → pieces.ends_piece kind ≡ true → ends_formula kind ≡ true
piece_ends_formula k.Semicolon e = refl
piece_ends_formula k.CloseBrace e = refl
piece_ends_formula _ e = absurd (false≢true e)

formula_goes_on : (kind : Kind) → begins_formula kind ≡ true → pieces.ends_piece kind ≡ false
formula_goes_on k.Semicolon e = absurd (false≢true e)
formula_goes_on k.CloseBrace e = absurd (false≢true e)
formula_goes_on _ e = refl

brace_is : (kind : Kind) → is_kind kind k.CloseBrace ≡ true → (pieces.ends_piece kind ≡ true) × (is_kind kind k.Semicolon ≡ false)
brace_is k.CloseBrace e = (refl, refl)
brace_is _ e = absurd (false≢true e)

module _ (size : ℕ) (q : Parser Formula) (M : Grammar Formula) (formula : Again size q M (at ends_formula))
    (formula_begins : Starts M (at begins_formula)) where
  abbrev optional : Grammar (Option Formula)
  optional = s.◌∪◌ (s.pure None) (s.◌>>=◌ M (λ f. s.pure (Some f)))

  body_read : (a : Option Formula) (us rest : List Token) → optional a us → length us < size → at pieces.ends_piece rest ≡ true
      → pieces.body q (us ++ rest) ≡ Some (a, rest)
  body_read a us rest (inl l) lt stop = rw (l.1, stop, l.0) refl
  body_read a us rest (inr l) lt stop = rw (formula_goes_on (head_kind (us ++ rest)) (some_begins.by a us rest l))
      (some_again.by a us rest l lt (piece_ends_formula (head_kind rest) stop))
    where
      some_begins : Starts (s.◌>>=◌ M (λ f. s.pure (Some f))) (at begins_formula)
      some_begins = starts_bind M _ (at begins_formula) formula_begins

      some_again : Again size (r.◌>>=◌ q (λ f. r.pure (Some f))) (s.◌>>=◌ M (λ f. s.pure (Some f))) (at ends_formula)
      some_again = again_map size q M (λ f. Some f) (at ends_formula) formula

  body_again : Again size (pieces.body q) optional (at pieces.ends_piece)
  body_again = record { by = λ a us rest l lt stop. body_read a us rest l lt stop }

  condition_again : Again size (read.condition q) (grammar.condition M) (at pieces.ends_piece)
  unfolding read.condition
  condition_again = again_after size k.Colon _ _ (at pieces.ends_piece)
      (λ _. again_map size (pieces.body q) optional grammar.condition_of (at pieces.ends_piece) body_again)

  conditions_again : Again size (read.conditions q) (s.separated k.Semicolon (grammar.condition M)) (sees k.CloseBrace)
  conditions_again = again_separated size k.Semicolon (read.condition q) (grammar.condition M) (at pieces.ends_piece) condition_again
      (starts_bind (s.word k.Semicolon) _ (at pieces.ends_piece) (starts_word k.Semicolon pieces.ends_piece refl))
      (sees k.CloseBrace) (λ rest stop. ((brace_is (head_kind rest) stop).1, (brace_is (head_kind rest) stop).0))

  braces_again : Again size (read.braces q) (grammar.braces M) always
  unfolding read.braces
  braces_again = again_after size k.OpenBrace _ _ always
      (λ _. again_bind size (read.conditions q) _ (s.separated k.Semicolon (grammar.condition M)) _ (sees k.CloseBrace) always
      conditions_again (λ found. again_end size k.CloseBrace found) (λ found. follows_starts always (starts_with k.CloseBrace _)))

  outline_read : Again size (read.outline q) (grammar.outline M) always
  unfolding read.outline
  outline_read = again_bind size pieces.parameters _ (s.◌∪◌ spell.declared (s.pure [])) _ no_square always (parameters_again size)
      (λ params. again_map size (read.braces q) (grammar.braces M) (pieces.make_literal params) always braces_again)
      (λ params. follows_starts always (starts_bind (grammar.braces M) _ no_square
      (starts_bind (s.word k.OpenBrace) _ no_square (starts_word k.OpenBrace (λ kind. not (is_kind kind k.OpenSquare)) refl))))

pub outline_again : (n depth : ℕ) → Again n (read.outline (formulas.formula n)) (grammar.outline (formula_spell.formula depth)) always
outline_again n depth = outline_read n (formulas.formula n) (formula_spell.formula depth) (formula_again n depth) (formula_starts depth)
