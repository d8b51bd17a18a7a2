-- What spells a formula is read again.
use Rattle.std.proofs.Common.{◌≡◌, ℕ, zero, suc, ◌<◌, Bool, true, false, not, List, ◌++◌, length, Some, refl, ap, ◌∙◌, inl, inr, arith}
use Rattle.std.proofs.lemmas.Bool.{false≢true, not-true}
use Rattle.isl_token.specs.TokenView.{Token}
use Rattle.isl_token.specs.declared.token.Kind.{Kind}
use Rattle.isl_token.specs.declared.token.Kind.TheVariants as k
use Rattle.isl_token.specs.Token.{is_kind}
use Rattle.isl_token.specs.Reading.{Parser, head_kind, sees}
use Rattle.isl_token.specs.Reading as r
use Rattle.isl_token.specs.Spelling.{Grammar}
use Rattle.isl_token.specs.Spelling as s
use Rattle.isl_token.proofs.Taking.{is_kind_true}
use Rattle.isl_token.proofs.Again.{Stops, Again, Starts, always, again_pure, again_map, again_weaker, again_bind, again_skip, again_after}
use Rattle.isl_token.proofs.Again.{again_end, follows_pure, follows_starts, follows_either, follows_word, starts_bind, starts_either}
use Rattle.isl_token.proofs.Again.{starts_more, starts_then, starts_word, starts_with, starts_name, starts_kind, head_is, head_of_word}
use Rattle.isl_tree.specs.declared.tree.Signed.{Signed}
use Rattle.isl_tree.specs.declared.tree.Formula.{Formula}
use Rattle.isl_tree.specs.declared.tree.Formula.TheVariants as f
use Rattle.isl_formula.specs.declared.ahead.Mark.TheVariants as mark
use Rattle.isl_formula.specs.Ahead as ahead
use Rattle.isl_formula.specs.Chain as chains
use Rattle.isl_formula.specs.Term as terms
use Rattle.isl_formula.specs.TermGrammar as term_spell
use Rattle.isl_formula.specs.Formula as read
use Rattle.isl_formula.specs.FormulaGrammar as spell
use Rattle.isl_formula.proofs.TermEnds.{at, ends_term, begins_product}
use Rattle.isl_formula.proofs.TermAgain.{term_again, product_starts}
use Rattle.isl_formula.proofs.RowsAgain.{rows_again}
use Rattle.isl_formula.proofs.ChainAgain.{ends_chain, ends_conj, ends_disj, ends_formula, right_of, left_of, begins_term, chain_again}
use Rattle.isl_formula.proofs.ChainAgain.{binders_again}
use Rattle.isl_formula.proofs.Marks.{Marked, marked_bind, plain, begins_brackets}
use Rattle.isl_formula.proofs.TermMarks.{term_plain}
use Rattle.isl_formula.proofs.FormulaMarks.{unary_marked, formula_marked}

-- ---- formulas

conj_ends_chain : (kind : Kind) → ends_conj kind ≡ true → ends_chain kind ≡ true
conj_ends_chain kind e = right_of (not (is_kind kind k.And)) (ends_chain kind) e

disj_ends_conj : (kind : Kind) → ends_disj kind ≡ true → ends_conj kind ≡ true
disj_ends_conj kind e = right_of (not (is_kind kind k.Or)) (ends_conj kind) e

formula_ends_disj : (kind : Kind) → ends_formula kind ≡ true → ends_disj kind ≡ true
formula_ends_disj kind e = right_of (not (is_kind kind k.Implies)) (ends_disj kind) e

conj_no_and : (kind : Kind) → ends_conj kind ≡ true → is_kind kind k.And ≡ false
conj_no_and kind e = not-true (is_kind kind k.And) (left_of (not (is_kind kind k.And)) (ends_chain kind) e)

disj_no_or : (kind : Kind) → ends_disj kind ≡ true → is_kind kind k.Or ≡ false
disj_no_or kind e = not-true (is_kind kind k.Or) (left_of (not (is_kind kind k.Or)) (ends_conj kind) e)

formula_no_implies : (kind : Kind) → ends_formula kind ≡ true → is_kind kind k.Implies ≡ false
formula_no_implies kind e = not-true (is_kind kind k.Implies) (left_of (not (is_kind kind k.Implies)) (ends_disj kind) e)

formula_ends_chain : (kind : Kind) → ends_formula kind ≡ true → ends_chain kind ≡ true
formula_ends_chain kind e = conj_ends_chain kind (disj_ends_conj kind (formula_ends_disj kind e))

module _ (size : ℕ) (p : Parser Formula) (L : Bool → Grammar Formula) (closed : Again size p (L false) (at ends_chain))
    (whole : Again size p (L true) (at ends_formula)) where
  conj_closed : Again size (read.conj p) (spell.conj L false) (at ends_conj)
  conj_closed = rows_again size k.And f.And p L false (at ends_chain) (at ends_conj) closed
      (again_weaker (at ends_chain) (at ends_conj) closed (λ rest e. conj_ends_chain (head_kind rest) e))
      (λ ts e. rw (is_kind_true (head_kind ts) k.And e) refl) (λ ts e. conj_no_and (head_kind ts) e)

  conj_whole : Again size (read.conj p) (spell.conj L true) (at ends_formula)
  conj_whole = rows_again size k.And f.And p L true (at ends_chain) (at ends_formula) closed whole
      (λ ts e. rw (is_kind_true (head_kind ts) k.And e) refl)
      (λ ts e. conj_no_and (head_kind ts) (disj_ends_conj (head_kind ts) (formula_ends_disj (head_kind ts) e)))

  disj_closed : Again size (read.disj p) (spell.disj L false) (at ends_disj)
  disj_closed = rows_again size k.Or f.Or (read.conj p) (spell.conj L) false (at ends_conj) (at ends_disj) conj_closed
      (again_weaker (at ends_conj) (at ends_disj) conj_closed (λ rest e. disj_ends_conj (head_kind rest) e))
      (λ ts e. rw (is_kind_true (head_kind ts) k.Or e) refl) (λ ts e. disj_no_or (head_kind ts) e)

  disj_whole : Again size (read.disj p) (spell.disj L true) (at ends_formula)
  disj_whole = rows_again size k.Or f.Or (read.conj p) (spell.conj L) true (at ends_conj) (at ends_formula) conj_closed conj_whole
      (λ ts e. rw (is_kind_true (head_kind ts) k.Or e) refl) (λ ts e. disj_no_or (head_kind ts) (formula_ends_disj (head_kind ts) e))

  formula_whole : Again size (read.formula_with p) (spell.formula_with L true) (at ends_formula)
  formula_whole = rows_again size k.Implies f.Implies (read.disj p) (spell.disj L) true (at ends_disj) (at ends_formula) disj_closed
      disj_whole
      (λ ts e. rw (is_kind_true (head_kind ts) k.Implies e) refl) (λ ts e. formula_no_implies (head_kind ts) e)

term_is_other : (tp : Parser (List Signed)) (p : Parser Formula) (kind : Kind) → begins_term kind ≡ true
    → read.unary_by tp p kind ≡ read.other tp p
term_is_other tp p k.Not e = absurd (false≢true e)
term_is_other tp p k.Exists e = absurd (false≢true e)
term_is_other tp p k.True e = absurd (false≢true e)
term_is_other tp p k.False e = absurd (false≢true e)
term_is_other tp p _ e = refl

product_begins_term : (kind : Kind) → begins_product kind ≡ true → begins_term kind ≡ true
product_begins_term k.Plus e = refl
product_begins_term k.Minus e = refl
product_begins_term _ e = e

pub term_starts : (n : ℕ) → Starts (term_spell.term n) (at begins_term)
term_starts n = starts_bind _ _ (at begins_term) (starts_then _ _ (at begins_term)
    (follows_either (follows_starts (at begins_term)
    (starts_either _ _ (at begins_term) (starts_bind _ _ (at begins_term) (starts_word k.Minus begins_term refl))
    (starts_bind _ _ (at begins_term) (starts_word k.Plus begins_term refl))))
    (follows_pure false (at begins_term) (at begins_term) (λ rest e. e)))
    (λ negative. starts_bind _ _ (at begins_term) (starts_more _ (at begins_product) (at begins_term) (product_starts n)
    (λ ts e. product_begins_term (head_kind ts) e))))

module _ (size : ℕ) (tp : Parser (List Signed)) (tl : Grammar (List Signed)) (term : Again (suc size) tp tl (at ends_term))
    (starts : Starts tl (at begins_term)) (flat : Starts tl (plain mark.Formula k.Open))
    (p : Parser Formula) (L : Bool → Grammar Formula) (closed : Again size p (L false) (at ends_chain))
    (whole : Again size p (L true) (at ends_formula)) (marked : (b : Bool) → Marked mark.Formula (L b)) where
  inner_again : Again size (read.formula_with p) (spell.formula_with L true) (at ends_formula)
  inner_again = formula_whole size p L closed whole

  group_again : Again (suc size) (r.◌>>◌ r.skip (read.group tp p)) (spell.group tl L) always
  unfolding read.group
  group_again = again_skip k.Open size (λ _. read.group tp p) _ always (λ _.
      again_bind size (read.formula_with p) _ (spell.formula_with L true) _ (at ends_formula) always inner_again
      (λ inner. again_end size k.Close inner) (λ inner. follows_word k.Close _ ends_formula always refl))

  small_term : Again size tp tl (at ends_term)
  small_term = record { by = λ a us rest l lt stop. term.by a us rest l (omega arith) stop }

  bound_again : Again size (read.bound tp p) (spell.bound tl L) (at ends_formula)
  unfolding read.bound
  bound_again = again_bind size (chains.binders tp) _ (spell.binders tl) _ (sees k.Colon) (at ends_formula)
      (binders_again size tp tl small_term)
      (λ names. again_after size k.Colon _ _ (at ends_formula)
      (λ _. again_map size (read.formula_with p) (spell.formula_with L true) (f.Exists names) (at ends_formula) inner_again))
      (λ names. follows_starts (at ends_formula) (starts_with k.Colon _))

  negated_again : (b : Bool) (stops : Stops) → Again size p (L b) stops
      → Again (suc size) (r.◌>>◌ r.skip (read.negated tp p)) (spell.negated tl L b) stops
  unfolding read.negated
  negated_again b stops h = again_skip k.Not size (λ _. read.negated tp p) _ stops (λ _.
      again_map size p (L b) f.Not stops h)

  lone_exists_again : Again (suc size) (r.◌>>◌ r.skip (read.exists tp p)) (spell.exists tl L) (at ends_formula)
  unfolding read.exists
  lone_exists_again = again_skip k.Exists size (λ _. read.exists tp p) _ (at ends_formula) (λ _. record {
    by = λ a us rest l lt stop.
        rw (no_open (head_kind (us ++ rest)) (head_is k.Name names_start a us rest l)) (bound_again.by a us rest l lt stop);
  }) where
    no_open : (kind : Kind) → kind ≡ k.Name → is_kind kind k.Open ≡ false
    no_open kind e = ap (λ x. is_kind x k.Open) e

    names_start : Starts (spell.bound tl L) (sees k.Name)
    names_start = starts_bind (spell.binders tl) _ (sees k.Name)
        (starts_bind (spell.binder tl) _ (sees k.Name)
        (starts_bind s.name _ (sees k.Name) (starts_name (λ kind. is_kind kind k.Name) refl)))

  brackets_again : Again (suc size) (r.◌>>◌ r.skip (read.exists tp p)) (spell.exists_in_brackets tl L) always
  unfolding read.exists read.bound_in_brackets
  brackets_again = again_skip k.Exists size (λ _. read.exists tp p) _ always (λ _. record {
    by = λ a us rest l lt stop.
        rw (open_starts.by a us rest l) ((again_skip k.Open size (λ _. read.bound_in_brackets tp p) _ always (λ _.
        again_bind size (read.bound tp p) _ (spell.bound tl L) _ (at ends_formula) always bound_again
        (λ inner. again_end size k.Close inner) (λ inner. follows_word k.Close _ ends_formula always refl))).by a us rest l (omega arith)
        refl);
  }) where
    open_starts : Starts (s.◌>>◌ (s.word k.Open) (s.◌>>=◌ (spell.bound tl L) (λ inner. s.◌>>◌ (s.word k.Close) (s.pure inner))))
        (sees k.Open)
    open_starts = starts_with k.Open _

  group_begins : Starts (spell.group tl L) (ahead.begins k.Open mark.Formula)
  group_begins = begins_brackets mark.Formula k.Open (marked_bind mark.Formula (formula_marked L marked true))

  word_again : (kind : Kind) (t : Formula) → Again (suc size) (r.◌>>◌ r.skip (r.pure t)) (s.◌>>◌ (s.word kind) (s.pure t)) always
  word_again kind t = again_skip kind size (λ _. r.pure t) _ always (λ _. again_pure size t always)

  chain_starts : (test : Stops) → Starts tl test → Starts (spell.chain tl) test
  chain_starts test h = starts_bind (spell.side tl) _ test (starts_bind tl _ test h)

  at_head : (kind : Kind) (a : Formula) (us rest : List Token) → head_kind (us ++ rest) ≡ kind
      → read.unary_by tp p kind (us ++ rest) ≡ Some (a, rest) → read.unary_level tp p (us ++ rest) ≡ Some (a, rest)
  unfolding read.unary_level
  at_head kind a us rest e h = ap (λ x. read.unary_by tp p x (us ++ rest)) e ∙ h

  by_head : (kind : Kind) (M : Unit {0} → Grammar Formula) (stops : Stops)
      → Again (suc size) (read.unary_by tp p kind) (s.◌>>=◌ (s.word kind) M) stops
      → (a : Formula) (us rest : List Token) → s.◌>>=◌ (s.word kind) M a us → length us < suc size → stops rest ≡ true
      → read.unary_level tp p (us ++ rest) ≡ Some (a, rest)
  by_head kind M stops h a us rest l lt stop = at_head kind a us rest (head_of_word kind M a us rest l) (h.by a us rest l lt stop)

  group_other : Again (suc size) (read.other tp p) (spell.group tl L) always
  group_other = record { by = λ a us rest l lt stop. rw (group_begins.by a us rest l) (group_again.by a us rest l lt refl) }

  closed_read : (b : Bool) (stops : Stops) → Again size p (L b) stops
      → ((rest : List Token) → stops rest ≡ true → at ends_chain rest ≡ true) → (a : Formula) (us rest : List Token)
      → spell.closed tl L b a us → length us < suc size → stops rest ≡ true
      → read.unary_level tp p (us ++ rest) ≡ Some (a, rest)
  closed_read b stops h w a us rest (inl l) lt stop = by_head k.Not _ stops (negated_again b stops h) a us rest l lt stop
  closed_read b stops h w a us rest (inr (inl l)) lt stop = by_head k.Open _ always group_other a us rest l lt refl
  closed_read b stops h w a us rest (inr (inr (inl (inl l)))) lt stop =
      by_head k.True _ always (word_again k.True f.True) a us rest l lt refl
  closed_read b stops h w a us rest (inr (inr (inl (inr l)))) lt stop =
      by_head k.False _ always (word_again k.False f.False) a us rest l lt refl
  closed_read b stops h w a us rest (inr (inr (inr (inl l)))) lt stop =
      let other = term_is_other tp p (head_kind (us ++ rest)) ((chain_starts (at begins_term) starts).by a us rest l) in
      at_head (head_kind (us ++ rest)) a us rest refl (ap (λ (q : Parser Formula). q (us ++ rest)) other
      ∙ rw (not-true (ahead.begins k.Open mark.Formula (us ++ rest)) ((chain_starts (plain mark.Formula k.Open) flat).by a us rest l))
      ((chain_again (suc size) tp tl term).by a us rest l lt (w rest stop)))
  closed_read b stops h w a us rest (inr (inr (inr (inr l)))) lt stop = by_head k.Exists _ always brackets_again a us rest l lt refl

  level_closed : Again (suc size) (read.unary_level tp p) (spell.unary_level tl L false) (at ends_chain)
  level_closed = record { by = λ a us rest l lt stop. closed_read false (at ends_chain) closed (λ rest e. e) a us rest l lt stop }

  level_whole : Again (suc size) (read.unary_level tp p) (spell.unary_level tl L true) (at ends_formula)
  level_whole = record {
    by = λ a us rest l lt stop. elim l [
      | inl x ↦ closed_read true (at ends_formula) whole (λ rest e. formula_ends_chain (head_kind rest) e) a us rest x lt stop
      | inr y ↦ by_head k.Exists _ (at ends_formula) lone_exists_again a us rest y lt stop
    ];
  }

pub unary_again : (n depth : ℕ) → Again n (read.unary n) (spell.unary depth false) (at ends_chain) × Again n (read.unary n)
    (spell.unary depth true) (at ends_formula)
unfolding read.unary spell.unary
unary_again zero depth = (
  record { by = λ a us rest l lt stop. absurd (omega arith) },
  record { by = λ a us rest l lt stop. absurd (omega arith) },
)
unary_again (suc n) zero = (record { by = λ a us rest l lt stop. absurd l }, record { by = λ a us rest l lt stop. absurd l })
unary_again (suc n) (suc depth) =
    let both = unary_again n depth in
    let term = term_again (suc n) (suc depth) in
    let starts = term_starts (suc depth) in
    let flat = term_plain mark.Formula (suc depth) in (
      level_closed n (terms.term (suc n)) (term_spell.term (suc depth)) term starts flat (read.unary n) (spell.unary depth) both.0 both.1
          (unary_marked depth),
      level_whole n (terms.term (suc n)) (term_spell.term (suc depth)) term starts flat (read.unary n) (spell.unary depth) both.0 both.1
          (unary_marked depth),
    )

pub formula_again : (n depth : ℕ) → Again n (read.formula n) (spell.formula depth) (at ends_formula)
formula_again n depth = let both = unary_again n depth in formula_whole n (read.unary n) (spell.unary depth) both.0 both.1

-- ---- how a formula begins

abbrev pub begins_formula : Kind → Bool
begins_formula k.Not = true
begins_formula k.Exists = true
begins_formula k.True = true
begins_formula k.False = true
begins_formula kind = begins_term kind

term_begins_formula : (kind : Kind) → begins_term kind ≡ true → begins_formula kind ≡ true
term_begins_formula k.Not e = refl
term_begins_formula k.Exists e = refl
term_begins_formula k.True e = refl
term_begins_formula k.False e = refl
term_begins_formula _ e = e

abbrev begins : Stops
begins = at begins_formula

rows_start : (sep : Kind) (make : List Formula → Formula) (L : Bool → Grammar Formula) → ((b : Bool) → Starts (L b) begins) → (b : Bool)
    → Starts (spell.rows sep make L b) begins
rows_start sep make L h b = starts_either _ _ begins (h b) (starts_bind (L false) _ begins (h false))

module _ (tl : Grammar (List Signed)) (starts : Starts tl begins) (L : Bool → Grammar Formula) where
  closed_starts : (b : Bool) → Starts (spell.closed tl L b) begins
  closed_starts b = starts_either _ _ begins (starts_kind k.Not begins_formula (starts_with k.Not _) refl)
      (starts_either _ _ begins (starts_kind k.Open begins_formula (starts_with k.Open _) refl)
      (starts_either _ _ begins (starts_either _ _ begins (starts_kind k.True begins_formula (starts_with k.True _) refl)
      (starts_kind k.False begins_formula (starts_with k.False _) refl))
      (starts_either _ _ begins (starts_bind (spell.side tl) _ begins (starts_bind tl _ begins starts))
      (starts_kind k.Exists begins_formula (starts_with k.Exists _) refl))))

  level_starts : (b : Bool) → Starts (spell.unary_level tl L b) begins
  level_starts false = closed_starts false
  level_starts true = starts_either _ _ begins (closed_starts true) (starts_kind k.Exists begins_formula (starts_with k.Exists _) refl)

unary_starts : (n : ℕ) (b : Bool) → Starts (spell.unary n b) begins
unfolding spell.unary
unary_starts zero b = record { by = λ a us rest l. absurd l }
unary_starts (suc n) b = level_starts (term_spell.term (suc n))
    (starts_more _ (at begins_term) begins (term_starts (suc n)) (λ ts e. term_begins_formula (head_kind ts) e)) (spell.unary n) b

pub formula_starts : (n : ℕ) → Starts (spell.formula n) (at begins_formula)
formula_starts n = rows_start k.Implies f.Implies (spell.disj (spell.unary n))
    (rows_start k.Or f.Or (spell.conj (spell.unary n)) (rows_start k.And f.And (spell.unary n) (unary_starts n))) true
