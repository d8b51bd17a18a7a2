-- What spells a literal is read again.
use Rattle.std.proofs.Common.{◌≡◌, ℕ, suc, ◌<◌, true, false, not, List, [], ◌++◌, length, Option, Some}
use Rattle.std.proofs.Common.{None, refl, inl, inr, arith}
use Rattle.std.proofs.lemmas.Bool.{false≢true, not-true}
use Rattle.isl_token.specs.TokenView.{Token}
use Rattle.isl_token.specs.declared.token.Kind.{Kind}
use Rattle.isl_token.specs.declared.token.Kind.TheVariants as k
use Rattle.isl_token.specs.Token.{is_kind}
use Rattle.isl_token.specs.Reading.{Parser, head_kind, sees}
use Rattle.isl_token.specs.Reading as r
use Rattle.isl_token.specs.Spelling.{Grammar}
use Rattle.isl_token.specs.Spelling as s
use Rattle.isl_token.proofs.Again.{Stops, Again, Starts, Follows, always, again_map, again_bind, again_skip, again_after}
use Rattle.isl_token.proofs.Again.{again_end, again_name, again_separated, starts_always, follows_pure, follows_starts, follows_either}
use Rattle.isl_token.proofs.Again.{follows_always}
use Rattle.isl_token.proofs.Again.{follows_map, starts_bind, starts_more, starts_word, starts_with, starts_name}
use Rattle.isl_tree.specs.declared.tree.Formula.{Formula}
use Rattle.isl_tree.specs.declared.tree.Tuple.{Tuple}
use Rattle.isl_formula.specs.Formula as formulas
use Rattle.isl_formula.specs.FormulaGrammar as formula_spell
use Rattle.isl_formula.proofs.TermEnds.{at}
use Rattle.isl_formula.proofs.ChainAgain.{ends_formula}
use Rattle.isl_formula.proofs.FormulaAgain.{begins_formula, formula_again, formula_starts}
use Rattle.isl_text.specs.Tuple as tuples
use Rattle.isl_text.specs.Piece as read
use Rattle.isl_text.specs.LiteralGrammar as spell
use Rattle.isl_text.proofs.Missing.{again_unless, again_given}
use Rattle.isl_text.proofs.TupleAgain.{begins_tuple, tuple_again, tuple_starts}

-- ---- parameters

close_no_comma : (kind : Kind) → is_kind kind k.CloseSquare ≡ true → is_kind kind k.Comma ≡ false
close_no_comma k.CloseSquare e = refl
close_no_comma _ e = absurd (false≢true e)

name_row_again : (size : ℕ) → Again size read.name_row spell.name_row (sees k.CloseSquare)
name_row_again size = again_separated size k.Comma r.name s.name always (again_name size) (starts_always _)
    (sees k.CloseSquare) (λ rest stop. (close_no_comma (head_kind rest) stop, refl))

names_again : (size : ℕ) → Again size read.names (s.◌∪◌ (s.pure []) spell.name_row) (sees k.CloseSquare)
names_again size = again_unless size k.CloseSquare read.name_row spell.name_row (name_row_again size)
    (starts_bind s.name _ (λ ts. not (sees k.CloseSquare ts)) (starts_name (λ kind. not (is_kind kind k.CloseSquare)) refl))

declared_again : (size : ℕ) → Again (suc size) (r.◌>>◌ r.skip read.declared) spell.declared always
unfolding read.declared
declared_again size = again_skip k.OpenSquare size (λ _. read.declared) _ always
    (λ _. again_bind size read.names _ (s.◌∪◌ (s.pure []) spell.name_row) _ (sees k.CloseSquare) always (names_again size)
    (λ found. again_after size k.CloseSquare _ _ always (λ _. again_end size k.Arrow found))
    (λ found. follows_starts always (starts_with k.CloseSquare _)))

-- what follows the parameters
abbrev no_square : Stops
no_square ts = not (sees k.OpenSquare ts)

parameters_again : (size : ℕ) → Again size read.parameters (s.◌∪◌ spell.declared (s.pure [])) no_square
parameters_again size = again_given size k.OpenSquare [] (r.◌>>◌ r.skip read.declared) spell.declared always
    (record { by = λ a us rest l lt stop. (declared_again size).by a us rest l (omega arith) stop }) (starts_with k.OpenSquare _) no_square
    (λ rest e. refl) (λ rest e. not-true _ e)

-- ---- pieces

piece_ends_formula : (kind : Kind) → read.ends_piece kind ≡ true → ends_formula kind ≡ true
piece_ends_formula k.Semicolon e = refl
piece_ends_formula k.CloseBrace e = refl
piece_ends_formula _ e = absurd (false≢true e)

piece_no_colon : (kind : Kind) → read.ends_piece kind ≡ true → is_kind kind k.Colon ≡ false
piece_no_colon k.Semicolon e = refl
piece_no_colon k.CloseBrace e = refl
piece_no_colon _ e = absurd (false≢true e)

piece_no_arrow : (kind : Kind) → read.ends_piece kind ≡ true → not (is_kind kind k.Arrow) ≡ true
piece_no_arrow k.Semicolon e = refl
piece_no_arrow k.CloseBrace e = refl
piece_no_arrow _ e = absurd (false≢true e)

formula_goes_on : (kind : Kind) → begins_formula kind ≡ true → read.ends_piece kind ≡ false
formula_goes_on k.Semicolon e = absurd (false≢true e)
formula_goes_on k.CloseBrace e = absurd (false≢true e)
formula_goes_on _ e = refl

tuple_no_close : (kind : Kind) → begins_tuple kind ≡ true → not (is_kind kind k.CloseBrace) ≡ true
tuple_no_close k.CloseBrace e = absurd (false≢true e)
tuple_no_close _ e = refl

brace_is : (kind : Kind) → is_kind kind k.CloseBrace ≡ true → (read.ends_piece kind ≡ true) × (is_kind kind k.Semicolon ≡ false)
brace_is k.CloseBrace e = (refl, refl)
brace_is _ e = absurd (false≢true e)

abbrev no_arrow : Stops
no_arrow ts = not (sees k.Arrow ts)

module _ (size : ℕ) (p : Parser Tuple) (L : Grammar Tuple) (tuple : Again size p L always) (tuple_begins : Starts L (at begins_tuple))
    (q : Parser Formula) (M : Grammar Formula) (formula : Again size q M (at ends_formula))
    (formula_begins : Starts M (at begins_formula)) where
  next_tuple_again : Again size (read.next_tuple p) (s.◌>>◌ (s.word k.Arrow) L) always
  unfolding read.next_tuple
  next_tuple_again = record {
    by = λ a us rest l lt stop. (again_skip k.Arrow size (λ _. p) (λ _. L) always (λ _. tuple)).by a us rest l
        (omega arith) stop;
  }

  image_again : Again size (read.image p) (spell.image L M) no_arrow
  image_again = again_given size k.Arrow None _ _ always
      (again_map size (read.next_tuple p) (s.◌>>◌ (s.word k.Arrow) L) (λ t. Some t) always next_tuple_again)
      (starts_bind _ _ (sees k.Arrow) (starts_with k.Arrow _)) no_arrow (λ rest e. refl) (λ rest e. not-true _ e)

  abbrev optional : Grammar (Option Formula)
  optional = s.◌∪◌ (s.pure None) (s.◌>>=◌ M (λ f. s.pure (Some f)))

  body_read : (a : Option Formula) (us rest : List Token) → optional a us → length us < size → at read.ends_piece rest ≡ true
      → read.body q (us ++ rest) ≡ Some (a, rest)
  body_read a us rest (inl l) lt stop = rw (l.1, stop, l.0) refl
  body_read a us rest (inr l) lt stop = rw (formula_goes_on (head_kind (us ++ rest)) (some_begins.by a us rest l))
      (some_again.by a us rest l lt (piece_ends_formula (head_kind rest) stop))
    where
      some_begins : Starts (s.◌>>=◌ M (λ f. s.pure (Some f))) (at begins_formula)
      some_begins = starts_bind M _ (at begins_formula) formula_begins

      some_again : Again size (r.◌>>=◌ q (λ f. r.pure (Some f))) (s.◌>>=◌ M (λ f. s.pure (Some f))) (at ends_formula)
      some_again = again_map size q M (λ f. Some f) (at ends_formula) formula

  body_again : Again size (read.body q) optional (at read.ends_piece)
  body_again = record { by = λ a us rest l lt stop. body_read a us rest l lt stop }

  condition_again : Again size (read.condition q) (spell.condition L M) (at read.ends_piece)
  condition_again = again_given size k.Colon None (r.◌>>◌ r.skip (read.body q)) (s.◌>>◌ (s.word k.Colon) optional) (at read.ends_piece)
      (record {
        by = λ a us rest l lt stop. (again_skip k.Colon size (λ _. read.body q) (λ _. optional) (at read.ends_piece)
            (λ _. body_again)).by a us rest l (omega arith) stop;
      })
      (starts_with k.Colon _) (at read.ends_piece) (λ rest e. e) (λ rest e. piece_no_colon (head_kind rest) e)

  -- what follows the tuples
  condition_follows : Follows (spell.condition L M) (at read.ends_piece) no_arrow
  condition_follows = follows_either (follows_starts (at read.ends_piece)
      (starts_bind (s.word k.Colon) _ no_arrow (starts_word k.Colon (λ kind. not (is_kind kind k.Arrow)) refl)))
      (follows_pure None (at read.ends_piece) no_arrow (λ rest e. piece_no_arrow (head_kind rest) e))

  piece_again : Again size (read.piece p q) (spell.piece L M) (at read.ends_piece)
  unfolding read.piece
  piece_again = again_bind size p _ L _ always (at read.ends_piece) tuple
      (λ first. again_bind size (read.image p) _ (spell.image L M) _ no_arrow (at read.ends_piece) image_again
      (λ second. again_map size (read.condition q) (spell.condition L M) (read.make_piece first second) (at read.ends_piece)
      condition_again)
      (λ second. follows_map (spell.condition L M) (read.make_piece first second) (at read.ends_piece) no_arrow condition_follows))
      (λ first. follows_always _ (at read.ends_piece))

  piece_row_again : Again size (read.piece_row p q) (spell.piece_row L M) (sees k.CloseBrace)
  piece_row_again = again_separated size k.Semicolon (read.piece p q) (spell.piece L M) (at read.ends_piece) piece_again
      (starts_bind (s.word k.Semicolon) _ (at read.ends_piece) (starts_word k.Semicolon read.ends_piece refl))
      (sees k.CloseBrace) (λ rest stop. ((brace_is (head_kind rest) stop).1, (brace_is (head_kind rest) stop).0))

  pieces_again : Again size (read.pieces p q) (s.◌∪◌ (s.pure []) (spell.piece_row L M)) (sees k.CloseBrace)
  pieces_again = again_unless size k.CloseBrace (read.piece_row p q) (spell.piece_row L M) piece_row_again
      (starts_bind (spell.piece L M) _ (λ ts. not (sees k.CloseBrace ts)) (starts_bind L _ (λ ts. not (sees k.CloseBrace ts))
      (starts_more _ (at begins_tuple) (λ ts. not (sees k.CloseBrace ts)) tuple_begins (λ ts e. tuple_no_close (head_kind ts) e))))

  braces_again : Again size (read.braces p q) (spell.braces L M) always
  unfolding read.braces
  braces_again = again_after size k.OpenBrace _ _ always
      (λ _. again_bind size (read.pieces p q) _ (s.◌∪◌ (s.pure []) (spell.piece_row L M)) _ (sees k.CloseBrace) always pieces_again
      (λ found. again_end size k.CloseBrace found) (λ found. follows_starts always (starts_with k.CloseBrace _)))

  outline_read : Again size (read.outline p q) (spell.outline L M) always
  unfolding read.outline
  outline_read = again_bind size read.parameters _ (s.◌∪◌ spell.declared (s.pure [])) _ no_square always (parameters_again size)
      (λ params. again_map size (read.braces p q) (spell.braces L M) (read.make_literal params) always braces_again)
      (λ params. follows_starts always (starts_bind (spell.braces L M) _ no_square
      (starts_bind (s.word k.OpenBrace) _ no_square (starts_word k.OpenBrace (λ kind. not (is_kind kind k.OpenSquare)) refl))))

pub outline_again : (n depth : ℕ) → Again n (read.outline (tuples.tuple n) (formulas.formula n)) (spell.outline_of depth) always
outline_again n depth = outline_read n (tuples.tuple n) (spell.tuple depth) (tuple_again n depth) (tuple_starts depth) (formulas.formula n)
    (formula_spell.formula depth) (formula_again n depth) (formula_starts depth)
