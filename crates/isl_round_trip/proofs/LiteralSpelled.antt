-- The tokens of rows and tuples spell their trees.
use Rattle.std.proofs.Common.{◌≡◌, ◌≢◌, ◌≤◌, ◌∙◌, ℕ, pos, zero, suc, Bool, true, false, List, [], ◌∷◌, ◌++◌, Option, Some, None, map, inl, inr, ap, sym, subst, refl, arith}
use Rattle.std.specs.Prelude.{codes, take, drop, unsigned_abs}
use Rattle.std.specs.List.{AllByRecursion}
use Rattle.std.proofs.lemmas.List.{append_assoc, append-nil}
use Rattle.isl_space.specs.Name.{Name, IsLiteralName}
use Rattle.isl_space.specs.Form.{Form, leaf, pair, width_of, leaves_of}
use Rattle.isl_piece.specs.declared.row.RowKind.{RowKind}
use Rattle.isl_piece.specs.declared.row.RowKind.TheVariants.{Zero, AtLeast, Divides, NotDivides}
use Rattle.isl_piece.specs.declared.row.Row.{Row}
use Rattle.isl_row_text.specs.declared.sum.Side.TheVariants.{Left, Right}
use Rattle.isl_print.specs.Joined.{Text}
use Rattle.isl_token.specs.TokenView.{Token}
use Rattle.isl_token.specs.TokenView as token
use Rattle.isl_token.specs.declared.token.Kind.{Kind}
use Rattle.isl_token.specs.declared.token.Kind.TheVariants as k
use Rattle.isl_token.specs.Token.{kind_of, word_kind, sign_kind}
use Rattle.isl_token.specs.Spelling as s
use Rattle.isl_tree.specs.declared.tree.Signed.{Signed, Signed'}
use Rattle.isl_tree.specs.declared.tree.Product.{Product', Some'}
use Rattle.isl_tree.specs.declared.tree.Factor.TheVariants as factor
use Rattle.isl_tree.specs.declared.tree.Compare.{Compare}
use Rattle.isl_tree.specs.declared.tree.Compare.TheVariants.{Equal, GreaterEqual, Differs}
use Rattle.isl_tree.specs.declared.tree.Formula.{Formula}
use Rattle.isl_tree.specs.declared.tree.Formula.TheVariants as formula
use Rattle.isl_tree.specs.declared.tree.Tuple.TheVariants as tuples
use Rattle.isl_formula.specs.TermGrammar as term
use Rattle.isl_formula.specs.FormulaGrammar as spell
use Rattle.isl_text.specs.LiteralGrammar as literal
use Rattle.isl_round_trip.specs.Tree.{number_tree, side_tree, comparison_tree, kind_tree, row_tree, conjunction_tree, name_entry, tuple_tree}
use Rattle.isl_round_trip.proofs.TokenLaws.{Tokens, sign, word, AreNamed, AreWritableRows, IsWritableRow, IsNamedForm, each_tokens, joined_tokens, side_tokens, relation_tokens, remainder_tokens, compared_tokens, kind_tokens, row_tokens, conjunction_tokens, names_tokens, tuple_tokens, named_take, named_drop, terms_writable, share_small}
use Rattle.isl_round_trip.proofs.TermSpelled.{name_spelled, side_spelled, bracket_term, zero_term, name_term}

-- ---- rows of items
-- each of the tokens spells its item
abbrev pub Spelled : {A : Type 0} → s.Grammar A → List A → List Tokens → Type 0
Spelled L [] [] = Unit {0}
Spelled L (x ∷ xs) (ts ∷ tss) = L x ts × Spelled L xs tss
Spelled L _ _ = ⊥

pub more_spelled : {A : Type 0} (L : s.Grammar A) (kind : Kind) (separator : Token) → kind_of separator ≡ kind → (xs : List A) (tss : List Tokens) → Spelled L xs tss → s.many (s.◌>>◌ (s.word kind) L) xs (each_tokens (separator ∷ []) tss)
more_spelled L kind separator is [] [] all = refl
more_spelled L kind separator is [] (ts ∷ tss) all = absurd all
more_spelled L kind separator is (x ∷ xs) [] all = absurd all
more_spelled L kind separator is (x ∷ xs) (ts ∷ tss) all =
    (separator ∷ ts, each_tokens (separator ∷ []) tss, refl, (tt, separator ∷ [], ts, refl, (separator, refl, is), all.0), more_spelled L kind separator is xs tss all.1)

sign_is : (text : Text) (kind : Kind) → sign_kind text ≡ kind → s.word kind tt (sign text ∷ [])
sign_is text kind is = (sign text, refl, is)

-- ---- rows of a piece
module _ (n : ℕ) where
  -- terms with brackets in them
  abbrev deep : s.Grammar (List Signed)
  deep = term.term (suc (suc n))

  one_side : (t : List Signed) (ts : Tokens) → deep t ts → spell.side deep (t ∷ []) ts
  one_side t ts h = (t, ts, [], sym (append-nil ts), h, ([], [], [], refl, refl, (refl, refl)))

  comparison_spelled : (left right : List Signed) (compare : Compare) (ls rs : Tokens) (c : Token) → deep left ls → deep right rs → spell.comparison compare (c ∷ []) → spell.chain deep (comparison_tree left compare right) (ls ++ (c ∷ rs))
  comparison_spelled left right compare ls rs c a b h = (
    left ∷ [],
    ls,
    c ∷ rs,
    refl,
    one_side left ls a,
    (
      (compare, right ∷ []),
      c ∷ rs,
      [],
      sym (append-nil (c ∷ rs)),
      (compare, c ∷ [], rs, refl, h, (right ∷ [], rs, [], sym (append-nil rs), one_side right rs b, (refl, refl))),
      ([], [], [], refl, refl, (refl, refl)),
    ),
  )

  equal_spelled : spell.comparison Equal (sign (codes "=") ∷ [])
  unfolding sign_kind
  equal_spelled = (sign (codes "="), refl, refl)

  at_least_spelled : spell.comparison GreaterEqual (sign (codes ">=") ∷ [])
  unfolding sign_kind
  at_least_spelled = (sign (codes ">="), refl, refl)

  differs_spelled : spell.comparison Differs (sign (codes "!=") ∷ [])
  unfolding sign_kind
  differs_spelled = (sign (codes "!="), refl, refl)

  module _ (names : List Name) (row : Row) (a : AreNamed names) (b : IsWritableRow row) (some : unsigned_abs row.k ≢ 0) where
    left_spelled : (m : ℕ) → term.term (suc m) (side_tree Left names row.coefs row.constant) (side_tokens Left names row.coefs row.constant)
    left_spelled m = side_spelled m Left names row.coefs row.constant (terms_writable Left names row.coefs a b.coefs) (share_small Left row.constant b.constant)

    right_spelled : (m : ℕ) → term.term (suc m) (side_tree Right names row.coefs row.constant) (side_tokens Right names row.coefs row.constant)
    right_spelled m = side_spelled m Right names row.coefs row.constant (terms_writable Right names row.coefs a b.coefs) (share_small Right row.constant b.constant)

    relation_spelled : (compare : Compare) (text : Text) → spell.comparison compare (sign text ∷ [])
        → spell.chain deep (comparison_tree (side_tree Left names row.coefs row.constant) compare (side_tree Right names row.coefs row.constant)) (relation_tokens text names row)
    relation_spelled compare text h =
        let ls = side_tokens Left names row.coefs row.constant in
        let rs = side_tokens Right names row.coefs row.constant in
        subst (λ (ts : Tokens). spell.chain deep (comparison_tree (side_tree Left names row.coefs row.constant) compare (side_tree Right names row.coefs row.constant)) ts) (sym (append_assoc ls (sign text ∷ []) rs))
        (comparison_spelled (side_tree Left names row.coefs row.constant) (side_tree Right names row.coefs row.constant) compare ls rs (sign text) (left_spelled (suc n)) (right_spelled (suc n)) h)

    remainder_spelled : (compare : Compare) (text : Text) → spell.comparison compare (sign text ∷ [])
        → spell.chain deep (comparison_tree (Signed' false (Product' [] (Some' (factor.Inner (side_tree Left names row.coefs row.constant)) (pos (unsigned_abs row.k) ∷ []))) ∷ []) compare (number_tree 0 ∷ [])) (compared_tokens text names row)
    remainder_spelled compare text h =
        comparison_spelled (Signed' false (Product' [] (Some' (factor.Inner (side_tree Left names row.coefs row.constant)) (pos (unsigned_abs row.k) ∷ []))) ∷ []) (number_tree 0 ∷ []) compare
        (remainder_tokens names row) (token.Number (codes "0") ∷ []) (sign text)
        (bracket_term n (side_tree Left names row.coefs row.constant) (side_tokens Left names row.coefs row.constant) (left_spelled n) (unsigned_abs row.k) b.k some) (zero_term (suc n)) h

    kind_spelled : (kind : RowKind) → spell.chain deep (kind_tree kind names row) (kind_tokens kind names row)
    kind_spelled Zero = relation_spelled Equal (codes "=") equal_spelled
    kind_spelled AtLeast = relation_spelled GreaterEqual (codes ">=") at_least_spelled
    kind_spelled Divides = remainder_spelled Equal (codes "=") equal_spelled
    kind_spelled NotDivides = remainder_spelled Differs (codes "!=") differs_spelled

  -- a chain is an operand, whether it is the last one or not
  operand : (f : Formula) (ts : Tokens) → spell.chain deep f ts → (last : Bool) → spell.unary (suc (suc n)) last f ts
  unfolding spell.unary
  operand f ts h false = inr (inr (inr (inl h)))
  operand f ts h true = inl (inr (inr (inr (inl h))))

  -- each of the tokens spells a chain
  abbrev Chains : List Formula → List Tokens → Type 0
  Chains fs tss = Spelled (spell.chain deep) fs tss

  -- the last of several operands, and those before it
  record Lasts (fs : List Formula) (ts : Tokens) : Type 0 where
    middle : List Formula
    final : Formula
    before : Tokens
    after : Tokens
    formulas : fs ≡ middle ++ final ∷ []
    tokens : ts ≡ before ++ after
    spelled : s.many (s.◌>>◌ (s.word k.And) (spell.unary (suc (suc n)) false)) middle before
    last : s.◌>>◌ (s.word k.And) (spell.unary (suc (suc n)) true) final after

  and_is : kind_of (word (codes "and")) ≡ k.And
  unfolding word_kind
  and_is = refl

  and_then : (f : Formula) (ts : Tokens) (last : Bool) → spell.chain deep f ts → s.◌>>◌ (s.word k.And) (spell.unary (suc (suc n)) last) f (word (codes "and") ∷ ts)
  and_then f ts last h = (tt, word (codes "and") ∷ [], ts, refl, (word (codes "and"), refl, and_is), operand f ts h last)

  lasts : (f : Formula) (fs : List Formula) (ts : Tokens) (tss : List Tokens) → Chains (f ∷ fs) (ts ∷ tss) → Lasts (f ∷ fs) (each_tokens (word (codes "and") ∷ []) (ts ∷ tss))
  lasts f [] ts [] all = record {
    middle = [];
    final = f;
    before = [];
    after = word (codes "and") ∷ ts;
    formulas = refl;
    tokens = append-nil (word (codes "and") ∷ ts);
    spelled = refl;
    last = and_then f ts true all.0;
  }
  lasts f [] ts (us ∷ tss) all = absurd all.1
  lasts f (g ∷ fs) ts [] all = absurd all.1
  lasts f (g ∷ fs) ts (us ∷ tss) all =
      let rest = lasts g fs us tss all.1 in
      record {
        middle = f ∷ rest.middle;
        final = rest.final;
        before = (word (codes "and") ∷ ts) ++ rest.before;
        after = rest.after;
        formulas = ap (λ l. f ∷ l) rest.formulas;
        tokens = ap (λ l. (word (codes "and") ∷ ts) ++ l) rest.tokens ∙ sym (append_assoc (word (codes "and") ∷ ts) rest.before rest.after);
        spelled = (word (codes "and") ∷ ts, rest.before, refl, and_then f ts false all.0, rest.spelled);
        last = rest.last;
      }

  body_spelled : (f : Formula) (fs : List Formula) (ts : Tokens) (tss : List Tokens) → Chains (f ∷ fs) (ts ∷ tss)
      → (body : Formula) × (conjunction_tree (f ∷ fs) ≡ Some body) × spell.formula (suc (suc n)) body (joined_tokens (word (codes "and") ∷ []) (ts ∷ tss))
  body_spelled f [] ts [] all = (f, refl, inl (inl (inl (subst (λ (l : Tokens). spell.unary (suc (suc n)) true f l) (sym (append-nil ts)) (operand f ts all.0 true)))))
  body_spelled f [] ts (us ∷ tss) all = absurd all.1
  body_spelled f (g ∷ fs) ts [] all = absurd all.1
  body_spelled f (g ∷ fs) ts (us ∷ tss) all =
      let l = lasts g fs us tss all.1 in
      let rest = each_tokens (word (codes "and") ∷ []) (us ∷ tss) in
      let whole : formula.And (f ∷ (g ∷ fs)) ≡ formula.And (f ∷ (l.middle ++ l.final ∷ [])) = ap (λ x. formula.And (f ∷ x)) l.formulas in (
        formula.And (f ∷ (g ∷ fs)),
        refl,
        inl (inl (inr (f, ts, rest, refl, operand f ts all.0 false, (l.middle, l.before, l.after, l.tokens, l.spelled, (l.final, l.after, [], sym (append-nil l.after), l.last, (whole, refl)))))),
      )

  colon_is : kind_of (sign (codes ":")) ≡ k.Colon
  unfolding sign_kind
  colon_is = refl

  pub condition_spelled : (fs : List Formula) (tss : List Tokens) → Chains fs tss → literal.condition (literal.tuple (suc (suc n))) (spell.formula (suc (suc n))) (conjunction_tree fs) (conjunction_tokens tss)
  condition_spelled [] [] all = inr (refl, refl)
  condition_spelled [] (ts ∷ tss) all = absurd all
  condition_spelled (f ∷ fs) [] all = absurd all
  condition_spelled (f ∷ fs) (ts ∷ tss) all =
      let body = body_spelled f fs ts tss all in
      let inside = joined_tokens (word (codes "and") ∷ []) (ts ∷ tss) in
      inl (tt, sign (codes ":") ∷ [], inside, refl, (sign (codes ":"), refl, colon_is), inr (body.0, inside, [], sym (append-nil inside), body.2, (body.1, refl)))

  -- what a row's divisor is
  abbrev pub HasSomeDivisor : Row → Type 0
  HasSomeDivisor row = unsigned_abs row.k ≢ 0

  pub rows_spelled : (names : List Name) (rows : List Row) → AreNamed names → AreWritableRows rows → AllByRecursion HasSomeDivisor rows → Chains (map (row_tree names) rows) (map (row_tokens names) rows)
  rows_spelled names [] a b some = tt
  rows_spelled names (row ∷ rows) a b some = (kind_spelled names row a b.0 some.0 row.kind, rows_spelled names rows a b.1 some.1)

-- ---- tuples
pub comma_is : kind_of (sign (codes ",")) ≡ k.Comma
unfolding sign_kind
comma_is = refl

pub open_is : kind_of (sign (codes "[")) ≡ k.OpenSquare
unfolding sign_kind
open_is = refl

pub close_is : kind_of (sign (codes "]")) ≡ k.CloseSquare
unfolding sign_kind
close_is = refl

pub arrow_is : kind_of (sign (codes "->")) ≡ k.Arrow
unfolding sign_kind
arrow_is = refl

entry_spelled : (m : ℕ) (name : Name) → IsLiteralName name → literal.entry (term.term (suc m)) (name_entry name) (word name ∷ [])
entry_spelled m name h = inr (Signed' false (Product' [] (Some' (factor.Name name) [])) ∷ [], word name ∷ [], [], refl, name_term m name h, (refl, refl))

entries_spelled : (m : ℕ) (names : List Name) → AreNamed names → Spelled (literal.entry (term.term (suc m))) (map name_entry names) (map (λ name. word name ∷ []) names)
entries_spelled m [] all = tt
entries_spelled m (name ∷ names) all = (entry_spelled m name all.0, entries_spelled m names all.1)

entry_list : (m : ℕ) (names : List Name) → AreNamed names → s.◌∪◌ (s.pure []) (literal.entry_row (term.term (suc m))) (map name_entry names) (names_tokens names)
entry_list m [] all = inl (refl, refl)
entry_list m (name ∷ names) all =
    let rest = each_tokens (sign (codes ",") ∷ []) (map (λ n. word n ∷ []) names) in
    inr (
      name_entry name,
      word name ∷ [],
      rest,
      refl,
      entry_spelled m name all.0,
      (
        map name_entry names,
        rest,
        [],
        sym (append-nil rest),
        more_spelled (literal.entry (term.term (suc m))) k.Comma (sign (codes ",")) comma_is (map name_entry names) (map (λ n. word n ∷ []) names) (entries_spelled m names all.1),
        (refl, refl),
      ),
    )

-- the brackets and what stands in them
leaf_spelled : (m : ℕ) (title : Option Name) (names : List Name) → AreNamed names → literal.leaf (term.term (suc m)) title (tuples.Leaf title (map name_entry names)) (sign (codes "[") ∷ (names_tokens names ++ sign (codes "]") ∷ []))
leaf_spelled m title names all = (
  tt,
  sign (codes "[") ∷ [],
  names_tokens names ++ sign (codes "]") ∷ [],
  refl,
  (sign (codes "["), refl, open_is),
  (map name_entry names, names_tokens names, sign (codes "]") ∷ [], refl, entry_list m names all, (tt, sign (codes "]") ∷ [], [], refl, (sign (codes "]"), refl, close_is), (refl, refl))),
)

some_leaf : (form : Form) → 1 ≤ leaves_of form
some_leaf (leaf name width) = omega arith
some_leaf (pair left right) = let a = some_leaf left in omega arith

pub tuple_spelled : (form : Form) (names : List Name) (m : ℕ) → leaves_of form ≤ m → IsNamedForm form → AreNamed names → literal.tuple m (tuple_tree form names) (tuple_tokens form names)
unfolding literal.tuple
tuple_spelled (leaf name width) names zero low h all = absurd (omega (arith, low))
tuple_spelled (leaf None width) names (suc m) low h all = inr (inl (leaf_spelled m None (take width names) (named_take width names all)))
tuple_spelled (leaf (Some name) width) names (suc m) low h all =
    let inside = sign (codes "[") ∷ (names_tokens (take width names) ++ sign (codes "]") ∷ []) in
    inl (name, word name ∷ [], inside, refl, name_spelled name h, leaf_spelled m (Some name) (take width names) (named_take width names all))
tuple_spelled (pair left right) names zero low h all = let a = some_leaf left in absurd (omega (arith, low))
tuple_spelled (pair left right) names (suc m) low h all =
    let rest = drop (width_of left) names in
    let a = some_leaf left in
    let b = some_leaf right in
    let ls = tuple_tokens left names in
    let rs = tuple_tokens right rest in
    let close = sign (codes "]") ∷ [] in
    let grouped : sign (codes "[") ∷ [] ++ ls ++ sign (codes "->") ∷ [] ++ rs ++ close ≡ sign (codes "[") ∷ (ls ++ (sign (codes "->") ∷ (rs ++ close))) =
    ap (λ l. sign (codes "[") ∷ (l ++ close)) (append_assoc ls (sign (codes "->") ∷ []) rs) ∙ ap (λ l. sign (codes "[") ∷ l) (append_assoc ls (sign (codes "->") ∷ rs) close) in
    inr (inr (
      tt,
      sign (codes "[") ∷ [],
      ls ++ (sign (codes "->") ∷ (rs ++ close)),
      grouped,
      (sign (codes "["), refl, open_is),
      (
        tuple_tree left names,
        ls,
        sign (codes "->") ∷ (rs ++ close),
        refl,
        tuple_spelled left names m (omega (arith, low)) h.0 all,
        (
          tt,
          sign (codes "->") ∷ [],
          rs ++ close,
          refl,
          (sign (codes "->"), refl, arrow_is),
          (
            tuple_tree right rest,
            rs,
            close,
            refl,
            tuple_spelled right rest m (omega (arith, low)) h.1 (named_drop (width_of left) names all),
            (tt, close, [], refl, (sign (codes "]"), refl, close_is), (refl, refl)),
          ),
        ),
      ),
    ))
