-- Tables of words.
use Rattle.std.proofs.Common.{◌≡◌, ℕ, ◌<◌, ◌≤◌, Bool, true, false, cond, List, [], ◌∷◌, ◌++◌, length, map, refl, sym, ap, subst, arith}
use Rattle.std.proofs.Common.{◌∙◌, Option, Some, None}
use Rattle.std.specs.Prelude.{◌||◌, nat_lt, codes, is_some}
use Rattle.std.specs.List.{list_any, list_all}
use Rattle.std.specs.Str.{bytes_eq}
use Rattle.std.proofs.lemmas.Bool.{and_parts, ltb-true, false≢true}
use Rattle.std.proofs.lemmas.List.Folds.{list_any-append}
use Rattle.std.proofs.lemmas.Slice.Eq.{bytes_eq-Decides}
use Rattle.isl_tree.specs.declared.statement.Prefix.{Prefix}
use Rattle.isl_tree.specs.Words.{spellings, look_up, prefix_of}
use Rattle.isl_token.specs.declared.token.Kind.{Kind}
use Rattle.isl_token.specs.declared.token.Kind.TheVariants as kind
use Rattle.isl_token.specs.Token.{Text, kind_in, word_kinds, word_kind}
use Rattle.isl_token.specs.Depth.{is_stacking_word, stacking_words}

-- a claim on the entries of a table
abbrev pub Each : (Text → Kind → Type 0) → List (Text × Kind) → Type 0
Each P [] = Unit {0}
Each P (e ∷ es) = P e.0 e.1 × Each P es

pub found : (P : Text → Kind → Type 0) (es : List (Text × Kind)) (text : Text) (other : Kind) → Each P es → P text other → P text
    (kind_in es text other)
found P [] text other each last = last
found P (e ∷ es) text other each last = by_test (bytes_eq e.0 text) refl (found P es text other each.1 last)
  where
    by_test : (q : Bool) → bytes_eq e.0 text ≡ q → P text (kind_in es text other) → P text (cond q e.1 (kind_in es text other))
    by_test true is rest = subst (λ (t : Text). P t e.1) ((bytes_eq-Decides e.0 text).0 is) each.0
    by_test false is rest = rest

pub one_letter : (word : Text) → length word < 2 → kind.Name ≡ word_kind word
unfolding word_kind
one_letter word short = sym (found (λ text k. length text < 2 → k ≡ kind.Name) word_kinds word kind.Name each (λ _. refl) short)
  where
    each : Each (λ text k. length text < 2 → k ≡ kind.Name) word_kinds
    each = (
      λ h. absurd (omega (arith, h)),
      (
        λ h. absurd (omega (arith, h)),
        (
          λ h. absurd (omega (arith, h)),
          (
            λ h. absurd (omega (arith, h)),
            (
              λ h. absurd (omega (arith, h)),
              (
                λ h. absurd (omega (arith, h)),
                (
                  λ h. absurd (omega (arith, h)),
                  (
                    λ h. absurd (omega (arith, h)),
                    (
                      λ h. absurd (omega (arith, h)),
                      (λ h. absurd (omega (arith, h)), (λ h. absurd (omega (arith, h)), (λ h. absurd (omega (arith, h)), tt))),
                    ),
                  ),
                ),
              ),
            ),
          ),
        ),
      ),
    )

-- no text of a list is as short
too_short : (least : ℕ) (texts : List Text) (text : Text) → list_all (λ t. nat_lt least (length t)) texts ≡ true → length text ≤ least
    → list_any (bytes_eq text) texts ≡ false
too_short least [] text all short = refl
too_short least (t ∷ texts) text all short =
    let parts = and_parts (nat_lt least (length t)) (list_all (λ t. nat_lt least (length t)) texts) all in
    by_test (bytes_eq text t) refl parts.0 (too_short least texts text parts.1 short)
  where
    by_test : (q : Bool) → bytes_eq text t ≡ q → nat_lt least (length t) ≡ true → list_any (bytes_eq text) texts ≡ false
        → (q || list_any (bytes_eq text) texts) ≡ false
    by_test true is long rest = let same : length text ≡ length t = ap length
        ((bytes_eq-Decides text t).0 is) in let above : least < length t = ltb-true least (length t) long in absurd
        (omega (arith, same, above, short))
    by_test false is long rest = rest

pub two_letters : (word : Text) → length word ≤ 2 → false ≡ is_stacking_word word
unfolding stacking_words
two_letters word short = sym (too_short 2 stacking_words word refl short)

-- ---- a word stacks where the table has it, or it is one of four

same_word : (a b : Text) → bytes_eq a b ≡ bytes_eq b a
same_word a b = by (bytes_eq a b) (bytes_eq b a) refl refl
  where
    by : (p q : Bool) → bytes_eq a b ≡ p → bytes_eq b a ≡ q → p ≡ q
    by true true one two = refl
    by false false one two = refl
    by true false one two = absurd (false≢true (sym two ∙ (bytes_eq-Decides b a).1 (sym ((bytes_eq-Decides a b).0 one))))
    by false true one two = absurd (false≢true (sym one ∙ (bytes_eq-Decides a b).1 (sym ((bytes_eq-Decides b a).0 two))))

-- a table has an entry for a text that is one of its texts
has_entry : {A : Type 0} (table : List (Text × A)) (text : Text)
    → is_some (look_up table text) ≡ list_any (bytes_eq text) (map (λ e. e.0) table)
has_entry [] text = refl
has_entry (entry ∷ entries) text = by (bytes_eq entry.0 text) (bytes_eq text entry.0) (same_word entry.0 text) (has_entry entries text)
  where
    by : (p q : Bool) → p ≡ q → is_some (look_up entries text) ≡ list_any (bytes_eq text) (map (λ e. e.0) entries)
        → is_some (cond p (Some entry.1) (look_up entries text)) ≡ (q || list_any (bytes_eq text) (map (λ e. e.0) entries))
    by true true one rest = refl
    by false false one rest = rest
    by true false one rest = absurd (false≢true (sym one))
    by false true one rest = absurd (false≢true one)

-- two texts in front of others and two behind them
around : (test : Text → Bool) (a b c d : Text) (texts : List Text) (p : Bool) → p ≡ list_any test texts
    → (p || list_any test (a ∷ b ∷ c ∷ d ∷ [])) ≡ list_any test (a ∷ b ∷ (texts ++ c ∷ d ∷ []))
around test a b c d texts p is =
    by p (test a) (test b) (list_any test (c ∷ d ∷ [])) ∙ ap (λ q. test a || (test b || q))
    (ap (λ q. q || list_any test (c ∷ d ∷ [])) is ∙ sym (list_any-append test texts (c ∷ d ∷ [])))
  where
    by : (p a b rest : Bool) → (p || (a || (b || rest))) ≡ (a || (b || (p || rest)))
    by true true b rest = refl
    by true false true rest = refl
    by true false false rest = refl
    by false a b rest = refl

all_listed : (word : Text)
    → (is_some (prefix_of word) || list_any (bytes_eq word) (codes "not" ∷ codes "exists" ∷ codes "any" ∷ codes "last" ∷ []))
    ≡ is_stacking_word word
unfolding stacking_words prefix_of
all_listed word =
    around (bytes_eq word) (codes "not") (codes "exists") (codes "any") (codes "last") (map (λ e. e.0) spellings) _
    (has_entry spellings word)

pub in_table : (word : Text) (found : Prefix) → Some found ≡ prefix_of word → true ≡ is_stacking_word word
in_table word found is =
    ap (λ o. is_some o || list_any (bytes_eq word) (codes "not" ∷ codes "exists" ∷ codes "any" ∷ codes "last" ∷ [])) is ∙ all_listed word

abbrev no_prefix : Option Prefix
no_prefix = None

pub not_in_table : (word : Text) (other : Bool) → no_prefix ≡ prefix_of word
    → other ≡ list_any (bytes_eq word) (codes "not" ∷ codes "exists" ∷ codes "any" ∷ codes "last" ∷ []) → other ≡ is_stacking_word word
not_in_table word other is of_other =
    of_other
    ∙ ap (λ o. is_some o || list_any (bytes_eq word) (codes "not" ∷ codes "exists" ∷ codes "any" ∷ codes "last" ∷ [])) is ∙ all_listed word

pub ruleset listed = (in_table, not_in_table)
