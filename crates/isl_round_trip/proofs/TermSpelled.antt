-- The tokens of a printed sum spell its tree.
use Rattle.std.proofs.Common.{◌≡◌, ◌≢◌, ◌∙◌, ℕ, ℤ, pos, suc, Bool, true, false, List, [], ◌∷◌, ◌++◌, Some, None, map, inl, inr, ap, sym, subst, refl, arith, lit<}
use Rattle.std.specs.Prelude.{codes, if◌then◌else◌, ◌==◌, ◌||◌, not}
use Rattle.std.specs.Fmt.{decimal}
use Rattle.std.specs.List.{list_any}
use Rattle.std.specs.Str.{bytes_eq}
use Rattle.std.proofs.lemmas.Bool.{and_parts, false≢true, false_from_ne_true, not-true}
use Rattle.std.proofs.lemmas.Fmt.{decimal_digit}
use Rattle.std.proofs.lemmas.List.{append_assoc, append-nil}
use Rattle.std.proofs.lemmas.Slice.Eq.{bytes_eq-Decides}
use Rattle.isl_space.specs.Name.{Name, is_identifier, is_reserved, IsLiteralName}
use Rattle.isl_row_text.specs.declared.sum.Side.{Side}
use Rattle.isl_print.specs.Joined.{Text}
use Rattle.isl_print.specs.Sum.{Term, share, terms_of}
use Rattle.isl_token.specs.TokenView.{Token}
use Rattle.isl_token.specs.TokenView as token
use Rattle.isl_token.specs.declared.token.Kind.{Kind}
use Rattle.isl_token.specs.declared.token.Kind.TheVariants as k
use Rattle.isl_token.specs.Token.{kind_of, kind_in, word_kind, word_kinds, sign_kind}
use Rattle.isl_token.specs.Number.{number_of}
use Rattle.isl_token.specs.Spelling as s
use Rattle.isl_token.proofs.Prints.{number_of-decimal}
use Rattle.isl_tree.specs.declared.tree.Signed as signed
use Rattle.isl_tree.specs.declared.tree.Product as product
use Rattle.isl_tree.specs.declared.tree.Signed.{Signed, Signed'}
use Rattle.isl_tree.specs.declared.tree.Product.{Product, Product', None', Some'}
use Rattle.isl_tree.specs.declared.tree.Factor.{Factor}
use Rattle.isl_tree.specs.declared.tree.Factor.TheVariants as f
use Rattle.isl_formula.specs.Term.{make_modded, make_product, make_signed}
use Rattle.isl_formula.specs.TermGrammar as spell
use Rattle.isl_round_trip.specs.Tree.{term_tree, number_tree, constant_trees, sum_tree, side_tree}
use Rattle.isl_round_trip.proofs.TokenLaws.{Tokens, sign, word, number, IsSmall, IsWritable, AreWritable, term_tokens, constant_tokens, each_tokens, sum_tokens, side_tokens}

-- ---- at the constructors of the code
part_is : (numbers : List ℤ) (inside : Factor) (moduli : List ℤ) → Signed' false (Product' numbers (Some' inside moduli)) ≡ make_signed false (make_product numbers (Some (make_modded inside moduli)))
unfolding signed.roll-Signed product.roll-Product denote.Hole.Carrier.roll
part_is numbers inside moduli = refl

number_is : (numbers : List ℤ) → Signed' false (Product' numbers None') ≡ make_signed false (make_product numbers None)
unfolding signed.roll-Signed product.roll-Product denote.Hole.Carrier.roll
number_is numbers = refl

-- ---- names and numbers
other_kind : (name : Name) (table : List (Text × Kind)) → list_any (bytes_eq name) (map (λ entry. entry.0) table) ≡ false → kind_in table name k.Name ≡ k.Name
other_kind name [] none = refl
other_kind name (entry ∷ table) none = by (bytes_eq name entry.0) refl none (other_kind name table)
  where
    by : (q : Bool) → bytes_eq name entry.0 ≡ q → (q || list_any (bytes_eq name) (map (λ e. e.0) table)) ≡ false
        → (list_any (bytes_eq name) (map (λ e. e.0) table) ≡ false → kind_in table name k.Name ≡ k.Name) → kind_in (entry ∷ table) name k.Name ≡ k.Name
    by true is h again = absurd (false≢true (sym h))
    by false is h again =
        let other : bytes_eq entry.0 name ≡ false = false_from_ne_true _ (λ e. false≢true (sym is ∙ (bytes_eq-Decides name entry.0).1 (sym ((bytes_eq-Decides entry.0 name).0 e)))) in
        ap (λ (q : Bool). if q then entry.1 else kind_in table name k.Name) other ∙ again h

-- a name that may stand in a literal is no word of its own
pub name_kind : (name : Name) → IsLiteralName name → kind_of (token.Word name) ≡ k.Name
unfolding word_kind
name_kind name h = other_kind name word_kinds (not-true (is_reserved name) (and_parts (is_identifier name) (not (is_reserved name)) h).1)

pub name_spelled : (name : Name) → IsLiteralName name → s.name name (word name ∷ [])
name_spelled name h = (refl, name_kind name h)

number_spelled : (n : ℕ) → IsSmall n → s.number (pos n) (number n ∷ [])
number_spelled n small = (decimal n, refl, sym (number_of-decimal n small))

-- ---- with brackets nested to any depth but the least
module _ (n : ℕ) where
  abbrev factor_at : s.Grammar Product
  factor_at = spell.product n

  lone_spelled : (name : Name) → IsLiteralName name → spell.lone (spell.product n) (f.Name name) (word name ∷ [])
  lone_spelled name h = (name, word name ∷ [], [], refl, name_spelled name h, (refl, refl))

  modded_spelled : (name : Name) → IsLiteralName name → spell.modded (spell.product n) (make_modded (f.Name name) []) (word name ∷ [])
  modded_spelled name h = (f.Name name, word name ∷ [], [], refl, inl (lone_spelled name h), ([], [], [], refl, refl, (refl, refl)))

  -- a term, whose coefficient 1 is not written
  pub term_product : (term : Term) → IsWritable term → spell.product (suc n) (make_product (if term.0 == 1 then [] else pos term.0 ∷ []) (Some (make_modded (f.Name term.1) []))) (term_tokens term)
  unfolding spell.product
  term_product term h = by (term.0 == 1)
    where
      by : (q : Bool) → spell.product_level (spell.product n) (make_product (if q then [] else pos term.0 ∷ []) (Some (make_modded (f.Name term.1) []))) (if q then word term.1 ∷ [] else number term.0 ∷ word term.1 ∷ [])
      by true = inr (make_modded (f.Name term.1) [], word term.1 ∷ [], [], refl, modded_spelled term.1 h.1, ([], [], [], refl, refl, (refl, refl)))
      by false = inl (
        pos term.0,
        number term.0 ∷ [],
        word term.1 ∷ [],
        refl,
        number_spelled term.0 h.0,
        (
          [],
          [],
          word term.1 ∷ [],
          refl,
          refl,
          (
            Some (make_modded (f.Name term.1) []),
            word term.1 ∷ [],
            [],
            refl,
            inr (tt, [], word term.1 ∷ [], refl, inr refl, (make_modded (f.Name term.1) [], word term.1 ∷ [], [], refl, modded_spelled term.1 h.1, (refl, refl))),
            (refl, refl),
          ),
        ),
      )

  -- a number alone
  pub number_product : (z : ℤ) (t : Token) → s.number z (t ∷ []) → spell.product (suc n) (make_product (z ∷ []) None) (t ∷ [])
  unfolding spell.product
  number_product z t h = inl (z, t ∷ [], [], refl, h, ([], [], [], refl, refl, (None, [], [], refl, inl (refl, refl), (refl, refl))))

  -- a product with no sign, and behind `+`
  pub unsigned : (p : Product) (ts : Tokens) → spell.product (suc n) p ts → spell.signed_by (spell.product (suc n)) (s.◌∪◌ spell.plus_or_minus (s.pure false)) (make_signed false p) ts
  unsigned p ts h = (false, [], ts, refl, inr (refl, refl), (p, ts, [], sym (append-nil ts), h, (refl, refl)))

  plus_spelled : spell.plus_or_minus false (sign (codes "+") ∷ [])
  unfolding sign_kind
  plus_spelled = inr (tt, sign (codes "+") ∷ [], [], refl, (sign (codes "+"), refl, refl), (refl, refl))

  pub added : (p : Product) (ts : Tokens) → spell.product (suc n) p ts → spell.signed_by (spell.product (suc n)) spell.plus_or_minus (make_signed false p) (sign (codes "+") ∷ ts)
  added p ts h = (false, sign (codes "+") ∷ [], ts, refl, plus_spelled, (p, ts, [], sym (append-nil ts), h, (refl, refl)))

  -- ---- sums
  -- each part spells its product
  abbrev Parts : List Signed → List Tokens → Type 0
  Parts [] [] = Unit {0}
  Parts (part ∷ parts) (ts ∷ tss) = ((p : Product) × (part ≡ make_signed false p) × spell.product (suc n) p ts) × Parts parts tss
  Parts _ _ = ⊥

  parts-append : (xs ys : List Signed) (us vs : List Tokens) → Parts xs us → Parts ys vs → Parts (xs ++ ys) (us ++ vs)
  parts-append [] ys [] vs a b = b
  parts-append [] ys (u ∷ us) vs a b = absurd a
  parts-append (x ∷ xs) ys [] vs a b = absurd a
  parts-append (x ∷ xs) ys (u ∷ us) vs a b = (a.0, parts-append xs ys us vs a.1 b)

  terms_parts : (terms : List Term) → AreWritable terms → Parts (map term_tree terms) (map term_tokens terms)
  terms_parts [] all = tt
  terms_parts (term ∷ terms) all = ((make_product (if term.0 == 1 then [] else pos term.0 ∷ []) (Some (make_modded (f.Name term.1) [])), part_is (if term.0 == 1 then [] else pos term.0 ∷ []) (f.Name term.1) [], term_product term all.0), terms_parts terms all.1)

  constant_parts : (c : ℕ) → IsSmall c → Parts (constant_trees c) (constant_tokens c)
  constant_parts c small = by (c == 0)
    where
      by : (q : Bool) → Parts (if q then [] else number_tree c ∷ []) (if q then [] else (number c ∷ []) ∷ [])
      by true = tt
      by false = ((make_product (pos c ∷ []) None, number_is (pos c ∷ []), number_product (pos c) (number c) (number_spelled c small)), tt)

  others_spelled : (parts : List Signed) (tss : List Tokens) → Parts parts tss → s.many (spell.signed_by (spell.product (suc n)) spell.plus_or_minus) parts (each_tokens (sign (codes "+") ∷ []) tss)
  others_spelled [] [] all = refl
  others_spelled [] (ts ∷ tss) all = absurd all
  others_spelled (part ∷ parts) [] all = absurd all
  others_spelled (part ∷ parts) (ts ∷ tss) all = (
    sign (codes "+") ∷ ts,
    each_tokens (sign (codes "+") ∷ []) tss,
    refl,
    subst (λ (x : Signed). spell.signed_by (spell.product (suc n)) spell.plus_or_minus x (sign (codes "+") ∷ ts)) (sym all.0.1) (added all.0.0 ts all.0.2),
    others_spelled parts tss all.1,
  )

  zero_spelled : s.number (pos 0) (token.Number (codes "0") ∷ [])
  zero_spelled = (codes "0", refl, zero_of)
    where
      zero_of : pos 0 ≡ number_of (codes "0")
      zero_of = sym (ap number_of (sym (decimal_digit 0 (omega arith))) ∙ number_of-decimal 0 (lit< tt))

  pub zero_term : spell.term (suc n) (number_tree 0 ∷ []) (token.Number (codes "0") ∷ [])
  zero_term = (
    number_tree 0,
    token.Number (codes "0") ∷ [],
    [],
    refl,
    subst (λ (x : Signed). spell.signed_by (spell.product (suc n)) (s.◌∪◌ spell.plus_or_minus (s.pure false)) x (token.Number (codes "0") ∷ [])) (sym (number_is (pos 0 ∷ [])))
        (unsigned (make_product (pos 0 ∷ []) None) (token.Number (codes "0") ∷ []) (number_product (pos 0) (token.Number (codes "0")) zero_spelled)),
    ([], [], [], refl, refl, (refl, refl)),
  )

  sum_spelled : (parts : List Signed) (tss : List Tokens) → Parts parts tss → spell.term (suc n) (sum_tree parts) (sum_tokens tss)
  sum_spelled [] [] all = zero_term
  sum_spelled [] (ts ∷ tss) all = absurd all
  sum_spelled (part ∷ parts) [] all = absurd all
  sum_spelled (part ∷ parts) (ts ∷ tss) all =
      let others = each_tokens (sign (codes "+") ∷ []) tss in (
        part,
        ts,
        others,
        refl,
        subst (λ (x : Signed). spell.signed_by (spell.product (suc n)) (s.◌∪◌ spell.plus_or_minus (s.pure false)) x ts) (sym all.0.1) (unsigned all.0.0 ts all.0.2),
        (parts, others, [], sym (append-nil others), others_spelled parts tss all.1, (refl, refl)),
      )

  pub side_spelled : (side : Side) (names : List Name) (numbers : List ℤ) (constant : ℤ) → AreWritable (terms_of side names numbers) → IsSmall (share side constant)
      → spell.term (suc n) (side_tree side names numbers constant) (side_tokens side names numbers constant)
  side_spelled side names numbers constant terms last =
      sum_spelled (map term_tree (terms_of side names numbers) ++ constant_trees (share side constant)) (map term_tokens (terms_of side names numbers) ++ constant_tokens (share side constant))
      (parts-append (map term_tree (terms_of side names numbers)) (constant_trees (share side constant)) (map term_tokens (terms_of side names numbers)) (constant_tokens (share side constant))
      (terms_parts (terms_of side names numbers) terms) (constant_parts (share side constant) last))

-- one product alone
lone_product : (n : ℕ) (part : Signed) (p : Product) (ts : Tokens) → part ≡ make_signed false p → spell.product (suc n) p ts → spell.term (suc n) (part ∷ []) ts
lone_product n part p ts is h = (
  part,
  ts,
  [],
  sym (append-nil ts),
  subst (λ (x : Signed). spell.signed_by (spell.product (suc n)) (s.◌∪◌ spell.plus_or_minus (s.pure false)) x ts) (sym is) (unsigned n p ts h),
  ([], [], [], refl, refl, (refl, refl)),
)

-- a name alone
pub name_term : (n : ℕ) (name : Name) → IsLiteralName name → spell.term (suc n) (Signed' false (Product' [] (Some' (f.Name name) [])) ∷ []) (word name ∷ [])
unfolding spell.product
name_term n name h =
    let alone : spell.product (suc n) (make_product [] (Some (make_modded (f.Name name) []))) (word name ∷ []) =
    inr (make_modded (f.Name name) [], word name ∷ [], [], refl, modded_spelled n name h, ([], [], [], refl, refl, (refl, refl))) in
    lone_product n (Signed' false (Product' [] (Some' (f.Name name) []))) (make_product [] (Some (make_modded (f.Name name) []))) (word name ∷ []) (part_is [] (f.Name name) []) alone

-- ---- the remainder of a sum in brackets
module _ (n : ℕ) (inner : List Signed) (ts : Tokens) (inside : spell.term (suc n) inner ts) (divisor : ℕ) (small : IsSmall divisor) (some : divisor ≢ 0) where
  abbrev bracket_tokens : Tokens
  bracket_tokens = sign (codes "(") ∷ [] ++ ts ++ (sign (codes ")") ∷ word (codes "mod") ∷ []) ++ number divisor ∷ []

  enclosed_spelled : spell.enclosed (spell.product (suc n)) (f.Inner inner) (sign (codes "(") ∷ (ts ++ sign (codes ")") ∷ []))
  unfolding sign_kind
  enclosed_spelled = (
    tt,
    sign (codes "(") ∷ [],
    ts ++ sign (codes ")") ∷ [],
    refl,
    (sign (codes "("), refl, refl),
    (inner, ts, sign (codes ")") ∷ [], refl, inside, (tt, sign (codes ")") ∷ [], [], refl, (sign (codes ")"), refl, refl), (refl, refl))),
  )

  moduli_spelled : s.many (s.◌>>◌ (s.word k.Mod) s.positive) (pos divisor ∷ []) (word (codes "mod") ∷ number divisor ∷ [])
  unfolding word_kind
  moduli_spelled = (
    word (codes "mod") ∷ number divisor ∷ [],
    [],
    refl,
    (tt, word (codes "mod") ∷ [], number divisor ∷ [], refl, (word (codes "mod"), refl, refl), (number_spelled divisor small, λ e. some (pos_is e))),
    refl,
  )
    where
      pos_is : pos divisor ≡ pos 0 → divisor ≡ 0
      pos_is e = cc

  pub bracket_term : spell.term (suc (suc n)) (Signed' false (Product' [] (Some' (f.Inner inner) (pos divisor ∷ []))) ∷ []) bracket_tokens
  unfolding spell.product
  bracket_term =
      let opened = sign (codes "(") ∷ (ts ++ sign (codes ")") ∷ []) in
      let divided = word (codes "mod") ∷ number divisor ∷ [] in
      let whole : bracket_tokens ≡ opened ++ divided = ap (λ l. sign (codes "(") ∷ l) (append_assoc ts (sign (codes ")") ∷ word (codes "mod") ∷ []) (number divisor ∷ []) ∙ sym (append_assoc ts (sign (codes ")") ∷ []) divided)) in
      let held : spell.modded (spell.product (suc n)) (make_modded (f.Inner inner) (pos divisor ∷ [])) (opened ++ divided) =
      (f.Inner inner, opened, divided, refl, inr (inl enclosed_spelled), (pos divisor ∷ [], divided, [], refl, moduli_spelled, (refl, refl))) in
      let alone : spell.product (suc (suc n)) (make_product [] (Some (make_modded (f.Inner inner) (pos divisor ∷ [])))) (opened ++ divided) =
      inr (make_modded (f.Inner inner) (pos divisor ∷ []), opened ++ divided, [], sym (append-nil (opened ++ divided)), held, ([], [], [], refl, refl, (refl, refl))) in
      subst (λ (l : Tokens). spell.term (suc (suc n)) (Signed' false (Product' [] (Some' (f.Inner inner) (pos divisor ∷ []))) ∷ []) l) (sym whole)
      (lone_product (suc n) (Signed' false (Product' [] (Some' (f.Inner inner) (pos divisor ∷ [])))) (make_product [] (Some (make_modded (f.Inner inner) (pos divisor ∷ [])))) (opened ++ divided) (part_is [] (f.Inner inner) (pos divisor ∷ [])) alone)
