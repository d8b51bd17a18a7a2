-- What spells a tuple is read again.
use Rattle.std.proofs.Common.{◌≡◌, ℕ, zero, suc, ◌<◌, Bool, true, false, not, ◌&&◌, List, [], ◌∷◌, ◌++◌, length, Option}
use Rattle.std.proofs.Common.{Some, None, refl, sym, ap, ◌∙◌, inl, inr, arith}
use Rattle.std.proofs.lemmas.Bool.{false≢true, true≢false, not-true}
use Rattle.std.proofs.lemmas.List.{append-nil}
use Rattle.isl_token.specs.TokenView.{Token}
use Rattle.isl_token.specs.TokenView as token
use Rattle.isl_token.specs.declared.token.Kind.{Kind}
use Rattle.isl_token.specs.declared.token.Kind.TheVariants as k
use Rattle.isl_token.specs.Token.{Text, is_kind, kind_of}
use Rattle.isl_token.specs.Reading.{Parser, head_kind, second_kind, sees}
use Rattle.isl_token.specs.Reading as r
use Rattle.isl_token.specs.Spelling.{Grammar}
use Rattle.isl_token.specs.Spelling as s
use Rattle.isl_token.proofs.Taking.{is_kind_same, is_kind_true}
use Rattle.isl_token.proofs.Again.{Again, Starts, always, again_map, again_bind, again_skip, again_after}
use Rattle.isl_token.proofs.Again.{again_end, again_name, again_separated, follows_starts, follows_always}
use Rattle.isl_token.proofs.Again.{starts_bind, starts_either, starts_more, starts_word}
use Rattle.isl_token.proofs.Again.{starts_with, starts_name, head_is}
use Rattle.isl_tree.specs.declared.tree.Signed.{Signed}
use Rattle.isl_tree.specs.declared.tree.Entry.{Entry}
use Rattle.isl_tree.specs.declared.tree.Entry.TheVariants.{Plain, Named}
use Rattle.isl_tree.specs.declared.tree.Tuple.{Tuple}
use Rattle.isl_tree.specs.declared.tree.Tuple.TheVariants.{Leaf, Pair}
use Rattle.isl_formula.specs.declared.ahead.Mark.TheVariants.{Formula, Arrow}
use Rattle.isl_formula.specs.Ahead.{mark_step, holds, begins}
use Rattle.isl_formula.specs.Term as terms
use Rattle.isl_formula.specs.TermGrammar as term_spell
use Rattle.isl_formula.proofs.TermEnds.{at, ends_term}
use Rattle.isl_formula.proofs.TermAgain.{term_again}
use Rattle.isl_formula.proofs.ChainAgain.{begins_term}
use Rattle.isl_formula.proofs.FormulaAgain.{term_starts}
use Rattle.isl_formula.proofs.Marks.{Clear, plain, plain_brackets, begins_brackets}
use Rattle.isl_formula.proofs.TermMarks.{term_clear}
use Rattle.isl_text.specs.Tuple as read
use Rattle.isl_text.specs.LiteralGrammar as spell
use Rattle.isl_text.proofs.Missing.{again_unless}
use Rattle.isl_text.proofs.TupleMarks.{Through, tuple_through, leaf_closes, inside_marked}

-- what follows an entry
abbrev pub ends_entry : Kind → Bool
ends_entry k.Comma = true
ends_entry k.CloseSquare = true
ends_entry _ = false

entry_ends_term : (kind : Kind) → ends_entry kind ≡ true → ends_term kind ≡ true
entry_ends_term k.Comma e = refl
entry_ends_term k.CloseSquare e = refl
entry_ends_term _ e = absurd (false≢true e)

entry_no_equal : (kind : Kind) → ends_entry kind ≡ true → is_kind kind k.Equal ≡ false
entry_no_equal k.Comma e = refl
entry_no_equal k.CloseSquare e = refl
entry_no_equal _ e = absurd (false≢true e)

term_no_close : (kind : Kind) → begins_term kind ≡ true → not (is_kind kind k.CloseSquare) ≡ true
term_no_close k.CloseSquare e = e
term_no_close _ e = refl

-- the bracket closes
close_is : (kind : Kind) → is_kind kind k.CloseSquare ≡ true → (ends_entry kind ≡ true) × (is_kind kind k.Comma ≡ false)
close_is k.CloseSquare e = (refl, refl)
close_is _ e = absurd (false≢true e)

no_both : (b : Bool) → (b && false) ≡ false
no_both true = refl
no_both false = refl

-- a name and `=` hold a mark of formulas, which no term does
name_equal : (a b : Kind) (level : ℕ) (rest : ℕ → Bool) → is_kind a k.Name ≡ true → is_kind b k.Equal ≡ true
    → mark_step Formula a level (λ l. mark_step Formula b l rest) ≡ true
name_equal a b level rest name equal =
    ap (λ x. mark_step Formula x level (λ l. mark_step Formula b l rest)) (is_kind_true a k.Name name)
    ∙ ap (λ x. mark_step Formula x level rest) (is_kind_true b k.Equal equal)

second_apart : (a b : Bool) → (a ≡ true → b ≡ true → ⊥) → (a && b) ≡ false
second_apart true true apart = absurd (apart refl refl)
second_apart true false apart = refl
second_apart false b apart = refl

not_named : (us rest : List Token) → holds Formula (us ++ []) 0 ≡ holds Formula [] 0 → begins_term (head_kind (us ++ [])) ≡ true
    → is_kind (head_kind rest) k.Equal ≡ false → read.sees_named (us ++ rest) ≡ false
unfolding holds
not_named [] rest clear starts stop = absurd (false≢true starts)
not_named (t ∷ []) rest clear starts stop = rw stop (no_both (is_kind (kind_of t) k.Name))
not_named (t ∷ u ∷ us) rest clear starts stop =
    second_apart (is_kind (kind_of t) k.Name) (is_kind (kind_of u) k.Equal)
    (λ name equal. true≢false (sym (name_equal (kind_of t) (kind_of u) 0 (holds Formula (us ++ [])) name equal) ∙ clear))

module _ (size : ℕ) (p : Parser (List Signed)) (L : Grammar (List Signed)) (term : Again size p L (at ends_term))
    (starts : Starts L (at begins_term)) (clear : Clear Formula L) where
  named_again : Again size (read.named_entry p) (spell.named_entry L) (at ends_term)
  unfolding read.named_entry
  named_again = again_bind size r.name _ s.name _ always (at ends_term) (again_name size)
      (λ new. again_after size k.Equal _ _ (at ends_term) (λ _. again_map size p L (Named new) (at ends_term) term))
      (λ new. follows_always _ (at ends_term))

  plain_again : Again size (read.plain_entry p) (spell.plain_entry L) (at ends_term)
  unfolding read.plain_entry
  plain_again = again_map size p L Plain (at ends_term) term

  named_seen : (a : Entry) (us rest : List Token) → spell.named_entry L a us → read.sees_named (us ++ rest) ≡ true
  named_seen a us rest l =
      let whole : us ++ rest ≡ token.Word l.0 ∷ (l.5.4.0 ∷ (l.5.2 ++ rest)) =
      ap (λ (x : List Token). x ++ rest)
      (l.3 ∙ ap (λ (x : List Token). x ++ l.2) l.4.0
      ∙ ap (λ (x : List Token). token.Word l.0 ∷ x) (l.5.3 ∙ ap (λ (x : List Token). x ++ l.5.2) l.5.4.1)) in
      rw (whole, is_kind_same (kind_of (token.Word l.0)) k.Name l.4.1, is_kind_same (kind_of l.5.4.0) k.Equal l.5.4.2) refl

  plain_seen : (a : Entry) (us rest : List Token) → spell.plain_entry L a us → is_kind (head_kind rest) k.Equal ≡ false
      → read.sees_named (us ++ rest) ≡ false
  plain_seen a us rest l stop =
      let same : us ≡ l.1 = l.3 ∙ ap (λ (x : List Token). l.1 ++ x) l.5.1 ∙ append-nil l.1 in
      rw same (not_named l.1 rest (clear.by l.0 l.1 [] 0 l.4) (starts.by l.0 l.1 [] l.4) stop)

  entry_read : (a : Entry) (us rest : List Token) → spell.entry L a us → length us < size → at ends_entry rest ≡ true
      → read.entry p (us ++ rest) ≡ Some (a, rest)
  entry_read a us rest (inl l) lt stop = rw (named_seen a us rest l) (named_again.by a us rest l lt (entry_ends_term (head_kind rest) stop))
  entry_read a us rest (inr l) lt stop = rw (plain_seen a us rest l (entry_no_equal (head_kind rest) stop))
      (plain_again.by a us rest l lt (entry_ends_term (head_kind rest) stop))

  entry_again : Again size (read.entry p) (spell.entry L) (at ends_entry)
  entry_again = record { by = λ a us rest l lt stop. entry_read a us rest l lt stop }

  entry_row_again : Again size (read.entry_row p) (spell.entry_row L) (sees k.CloseSquare)
  entry_row_again = again_separated size k.Comma (read.entry p) (spell.entry L) (at ends_entry) entry_again
      (starts_bind (s.word k.Comma) _ (at ends_entry) (starts_word k.Comma ends_entry refl))
      (sees k.CloseSquare) (λ rest stop. ((close_is (head_kind rest) stop).1, (close_is (head_kind rest) stop).0))

  entry_starts : Starts (spell.entry L) (at begins_term)
  entry_starts = starts_either _ _ (at begins_term) (starts_bind s.name _ (at begins_term) (starts_name begins_term refl))
      (starts_bind L _ (at begins_term) starts)

  entries_again : Again size (read.entries p) (s.◌∪◌ (s.pure []) (spell.entry_row L)) (sees k.CloseSquare)
  entries_again = again_unless size k.CloseSquare (read.entry_row p) (spell.entry_row L) entry_row_again
      (starts_bind (spell.entry L) _ (λ ts. not (sees k.CloseSquare ts))
      (starts_more _ (at begins_term) (λ ts. not (sees k.CloseSquare ts)) entry_starts (λ ts e. term_no_close (head_kind ts) e)))

  leaf_again : (title : Option Text) → Again size (read.leaf p title) (spell.leaf L title) always
  unfolding read.leaf
  leaf_again title = again_after size k.OpenSquare _ _ always
      (λ _. again_bind size (read.entries p) _ (s.◌∪◌ (s.pure []) (spell.entry_row L)) _ (sees k.CloseSquare) always entries_again
      (λ found. again_end size k.CloseSquare (Leaf title found)) (λ found. follows_starts always (starts_with k.CloseSquare _)))

  named_leaf_again : Again size (read.named_leaf p) (spell.named_leaf L) always
  unfolding read.named_leaf
  named_leaf_again = again_bind size r.name _ s.name _ always always (again_name size) (λ title. leaf_again (Some title))
      (λ title. follows_always _ always)

module _ (size : ℕ) (p : Parser (List Signed)) (L : Grammar (List Signed)) (term : Again (suc size) p L (at ends_term))
    (starts : Starts L (at begins_term)) (clear : Clear Formula L) (flat : Clear Arrow L)
    (q : Parser Tuple) (M : Grammar Tuple) (nested : Again size q M always) (through : Through M) where
  pair_again : Again (suc size) (r.◌>>◌ r.skip (read.pair p q)) (spell.pair L M) always
  unfolding read.pair
  pair_again = again_skip k.OpenSquare size (λ _. read.pair p q) _ always (λ _. again_bind size q _ M _ always always nested
      (λ first. again_after size k.Arrow _ _ always (λ _. again_bind size q _ M _ always always nested
      (λ second. again_end size k.CloseSquare (Pair first second)) (λ second. follows_always _ always)))
      (λ first. follows_always _ always))

  leaf_plain : Starts (spell.leaf L None) (plain Arrow k.OpenSquare)
  leaf_plain = plain_brackets Arrow k.OpenSquare k.OpenSquare (leaf_closes L flat None)

  pair_begins : Starts (spell.pair L M) (begins k.OpenSquare Arrow)
  pair_begins = begins_brackets Arrow k.OpenSquare (inside_marked L flat M through)

  named_starts : Starts (spell.named_leaf L) (sees k.Name)
  named_starts = starts_bind s.name _ (sees k.Name) (starts_name (λ kind. is_kind kind k.Name) refl)

  leaf_starts : Starts (spell.leaf L None) (sees k.OpenSquare)
  leaf_starts = starts_with k.OpenSquare _

  pair_starts : Starts (spell.pair L M) (sees k.OpenSquare)
  pair_starts = starts_with k.OpenSquare _

  no_name : (kind : Kind) → kind ≡ k.OpenSquare → is_kind kind k.Name ≡ false
  no_name kind e = ap (λ x. is_kind x k.Name) e

  level_read : (a : Tuple) (us rest : List Token) → spell.tuple_level L M a us → length us < suc size
      → read.tuple_level p q (us ++ rest) ≡ Some (a, rest)
  unfolding read.tuple_level
  level_read a us rest (inl l) lt = rw (named_starts.by a us rest l)
      ((named_leaf_again (suc size) p L term starts clear).by a us rest l lt refl)
  level_read a us rest (inr (inl l)) lt = rw (
    no_name (head_kind (us ++ rest)) (head_is k.OpenSquare leaf_starts a us rest l),
    not-true _ (leaf_plain.by a us rest l),
  ) ((leaf_again (suc size) p L term starts clear None).by a us rest l lt refl)
  level_read a us rest (inr (inr l)) lt = rw (
    no_name (head_kind (us ++ rest)) (head_is k.OpenSquare pair_starts a us rest l),
    pair_begins.by a us rest l,
  ) (pair_again.by a us rest l lt refl)

  level_again : Again (suc size) (read.tuple_level p q) (spell.tuple_level L M) always
  level_again = record { by = λ a us rest l lt stop. level_read a us rest l lt }

pub tuple_again : (n depth : ℕ) → Again n (read.tuple n) (spell.tuple depth) always
unfolding read.tuple spell.tuple
tuple_again zero depth = record { by = λ a us rest l lt stop. absurd (omega arith) }
tuple_again (suc n) zero = record { by = λ a us rest l lt stop. absurd l }
tuple_again (suc n) (suc depth) = level_again n (terms.term (suc n)) (term_spell.term (suc depth)) (term_again (suc n) (suc depth))
    (term_starts (suc depth)) (term_clear Formula (suc depth)) (term_clear Arrow (suc depth))
    (read.tuple n) (spell.tuple depth) (tuple_again n depth) (tuple_through depth)

-- ---- how a tuple begins

abbrev pub begins_tuple : Kind → Bool
begins_tuple k.Name = true
begins_tuple k.OpenSquare = true
begins_tuple _ = false

pub tuple_starts : (n : ℕ) → Starts (spell.tuple n) (at begins_tuple)
unfolding spell.tuple
tuple_starts zero = record { by = λ a us rest l. absurd l }
tuple_starts (suc n) = starts_either _ _ (at begins_tuple) (starts_bind s.name _ (at begins_tuple) (starts_name begins_tuple refl))
    (starts_either _ _ (at begins_tuple) (starts_bind (s.word k.OpenSquare) _ (at begins_tuple)
    (starts_word k.OpenSquare begins_tuple refl))
    (starts_bind (s.word k.OpenSquare) _ (at begins_tuple) (starts_word k.OpenSquare begins_tuple refl)))
