-- Summands of a side: their texts are words, between which ` + ` stands, and they tell what they are of.
use Rattle.std.proofs.Common.{◌≡◌, ◌≢◌, ◌<◌, ◌∙◌, ◌^◌, ◌==◌, ℕ, Bool, true, false, List, [], ◌∷◌, ◌++◌, length, map}
use Rattle.std.proofs.Common.{slice_index, ap, ap₂, sym, refl, arith}
use Rattle.std.specs.Prelude.{codes, if◌then◌else◌}
use Rattle.std.specs.Char.{is_ascii_digit}
use Rattle.std.specs.Fmt.{decimal}
use Rattle.std.specs.List.{AllByRecursion}
use Rattle.std.proofs.lemmas.Bool.{false≢true, eqb-true}
use Rattle.std.proofs.lemmas.List.{append_assoc, append-nil, append_cancel_left}
use Rattle.isl_space.specs.Name.{Name, begins_name}
use Rattle.isl_row_text.specs.Joined.{Text, each_after}
use Rattle.isl_row_text.specs.Sum.{Term, term_text, constant_texts, sum_of}
use Rattle.isl_loop_law.proofs.WordLaws.{in_word, IsWord, StopsAt, words, differ, decimal_word, decimal_first}
use Rattle.isl_loop_law.proofs.WordLaws.{decimals, decimal_same, IsNaming, begin_no_digit}

-- ---- texts between ` + `
-- what ends a sum: no word, and not ` + `
pub record EndsSum (z : Text) : Type 0 where
  pub stops : StopsAt in_word z
  pub other : slice_index z 1 == 43 ≡ false

abbrev pub AreWords : List Text → Type 0
AreWords texts = AllByRecursion IsWord texts

each_stops : (ts : List Text) (z : Text) → EndsSum z → StopsAt in_word (each_after (codes " + ") ts ++ z)
each_stops [] z ends = ends.stops
each_stops (t ∷ ts) z ends = refl

same_cons : (t u : Text) (ts us : List Text) → t ≡ u → ts ≡ us → t ∷ ts ≡ u ∷ us
same_cons t u ts us a b = ap₂ (λ x xs. x ∷ xs) a b

plus_clash : {A : Type 0} (z y : Text) → EndsSum z → slice_index y 1 == 43 ≡ true → z ≡ y → A
plus_clash z y ends is same = absurd (false≢true (sym ends.other ∙ ap (λ l. slice_index l 1 == 43) same ∙ is))

each_splits : (ts us : List Text) (z y : Text) → AreWords ts → AreWords us → EndsSum z → EndsSum y
    → each_after (codes " + ") ts ++ z ≡ each_after (codes " + ") us ++ y → (ts ≡ us) × (z ≡ y)
each_splits [] [] z y a b p q same = (refl, same)
each_splits [] (u ∷ us) z y a b p q same = plus_clash z (each_after (codes " + ") (u ∷ us) ++ y) p refl same
each_splits (t ∷ ts) [] z y a b p q same = plus_clash y (each_after (codes " + ") (t ∷ ts) ++ z) q refl (sym same)
each_splits (t ∷ ts) (u ∷ us) z y a b p q same =
    let first = each_after (codes " + ") ts ++ z in
    let second = each_after (codes " + ") us ++ y in
    let one = words t u first second a.0 b.0 (each_stops ts z p) (each_stops us y q)
    (sym (append_assoc t (each_after (codes " + ") ts) z)
    ∙ append_cancel_left (codes " + ") ((t ++ each_after (codes " + ") ts) ++ z) ((u ++ each_after (codes " + ") us) ++ y) same
    ∙ append_assoc u (each_after (codes " + ") us) y) in
    let rest = each_splits ts us z y a.1 b.1 p q one.1 in
    (same_cons t u ts us one.0 rest.0, rest.1)

-- a sum of none is `0`
abbrev shown : List Text → List Text
shown [] = codes "0" ∷ []
shown (t ∷ ts) = t ∷ ts

shown_words : (ts : List Text) → AreWords ts → AreWords (shown ts)
shown_words [] all = ((refl, tt), tt)
shown_words (t ∷ ts) all = all

some_splits : (t u : Text) (ts us : List Text) (z y : Text) → IsWord t → IsWord u → AreWords ts → AreWords us → EndsSum z → EndsSum y
    → (t ++ each_after (codes " + ") ts) ++ z ≡ (u ++ each_after (codes " + ") us) ++ y → (t ∷ ts ≡ u ∷ us) × (z ≡ y)
some_splits t u ts us z y a b all every p q same =
    let first = each_after (codes " + ") ts ++ z in
    let second = each_after (codes " + ") us ++ y in
    let one = words t u first second a b (each_stops ts z p) (each_stops us y q)
    (sym (append_assoc t (each_after (codes " + ") ts) z) ∙ same ∙ append_assoc u (each_after (codes " + ") us) y) in
    let rest = each_splits ts us z y all every p q one.1 in
    (same_cons t u ts us one.0 rest.0, rest.1)

pub shown_splits : (ts us : List Text) (z y : Text) → AreWords ts → AreWords us → EndsSum z → EndsSum y
    → sum_of ts ++ z ≡ sum_of us ++ y → (shown ts ≡ shown us) × (z ≡ y)
shown_splits [] [] z y a b p q same = some_splits (codes "0") (codes "0") [] [] z y (refl, tt) (refl, tt) tt tt p q same
shown_splits [] (u ∷ us) z y a b p q same = some_splits (codes "0") u [] us z y (refl, tt) b.0 tt b.1 p q same
shown_splits (t ∷ ts) [] z y a b p q same = some_splits t (codes "0") ts [] z y a.0 (refl, tt) a.1 tt p q same
shown_splits (t ∷ ts) (u ∷ us) z y a b p q same = some_splits t u ts us z y a.0 b.0 a.1 b.1 p q same

abbrev pub IsNoZero : List Text → Type 0
IsNoZero ts = codes "0" ∷ [] ≢ ts

pub shown_same : (ts us : List Text) → IsNoZero ts → IsNoZero us → shown ts ≡ shown us → ts ≡ us
shown_same [] [] a b same = refl
shown_same [] (u ∷ us) a b same = absurd (b same)
shown_same (t ∷ ts) [] a b same = absurd (a (sym same))
shown_same (t ∷ ts) (u ∷ us) a b same = same

-- ---- terms
pub record IsTerm (term : Term) : Type 0 where
  pub small : term.0 < 10 ^ 64
  pub named : IsNaming term.1

words_append : (w v : Text) → IsWord w → IsWord v → IsWord (w ++ v)
words_append [] v a b = b
words_append (c ∷ w) v a b = (a.0, words_append w v a.1 b)

term_word : (term : Term) → IsTerm term → IsWord (term_text term)
term_word term is = by (term.0 == 1)
  where
    by : (q : Bool) → IsWord (if q then term.1 else decimal term.0 ++ term.1)
    by true = is.named.word
    by false = words_append (decimal term.0) term.1 (decimal_word term.0 is.small) is.named.word

pub terms_words : (terms : List Term) → AllByRecursion IsTerm terms → AreWords (map term_text terms)
terms_words [] all = tt
terms_words (term ∷ terms) all = (term_word term all.0, terms_words terms all.1)

-- a term is no number
pub no_number : {A : Type 0} (term : Term) (c : ℕ) → IsTerm term → c < 10 ^ 64 → term_text term ≡ decimal c → A
no_number {A} term c is small same = by (term.0 == 1) same
  where
    unnamed : (name : Name) → begins_name (slice_index name 0) ≡ true → name ≡ [] → A
    unnamed name begins none = absurd (false≢true (ap (λ l. begins_name (slice_index l 0)) (sym none) ∙ begins))

    by : (q : Bool) → (if q then term.1 else decimal term.0 ++ term.1) ≡ decimal c → A
    by true same =
        differ is_ascii_digit (decimal c ++ []) term.1 (decimal_first c [] small) (begin_no_digit (slice_index term.1 0) is.named.begins)
        (append-nil (decimal c) ∙ sym same)
    by false same =
        let parts = decimals term.0 c term.1 [] is.small small (begin_no_digit (slice_index term.1 0) is.named.begins) refl
        (same ∙ sym (append-nil (decimal c))) in
        unnamed term.1 is.named.begins parts.1

pair_same : (s t : Term) → s.0 ≡ t.0 → s.1 ≡ t.1 → s ≡ t
pair_same s t a b = ap₂ (λ (n : ℕ) (name : Name). (n, name)) a b

pub term_same : (s t : Term) → IsTerm s → IsTerm t → term_text s ≡ term_text t → s ≡ t
term_same s t is it same = by (s.0 == 1) (t.0 == 1) refl refl same
  where
    by : (p q : Bool) → (s.0 == 1) ≡ p → (t.0 == 1) ≡ q
        → (if p then s.1 else decimal s.0 ++ s.1) ≡ (if q then t.1 else decimal t.0 ++ t.1) → s ≡ t
    by true true d e same = pair_same s t (eqb-true s.0 1 d ∙ sym (eqb-true t.0 1 e)) same
    by true false d e same =
        differ is_ascii_digit (decimal t.0 ++ t.1) s.1 (decimal_first t.0 t.1 it.small)
        (begin_no_digit (slice_index s.1 0) is.named.begins) (sym same)
    by false true d e same =
        differ is_ascii_digit (decimal s.0 ++ s.1) t.1 (decimal_first s.0 s.1 is.small)
        (begin_no_digit (slice_index t.1 0) it.named.begins) same
    by false false d e same =
        let parts = decimals s.0 t.0 s.1 t.1 is.small it.small (begin_no_digit (slice_index s.1 0) is.named.begins)
        (begin_no_digit (slice_index t.1 0) it.named.begins) same in
        pair_same s t parts.0 parts.1

-- ---- the constant
pub constants_words : (c : ℕ) → c < 10 ^ 64 → AreWords (constant_texts c)
constants_words c small = by (c == 0)
  where
    by : (q : Bool) → AreWords (if q then [] else decimal c ∷ [])
    by true = tt
    by false = (decimal_word c small, tt)

pub first_of : (t u : Text) (ts us : List Text) → t ∷ ts ≡ u ∷ us → t ≡ u
first_of t u ts us same = cc

pub rest_of : (t u : Text) (ts us : List Text) → t ∷ ts ≡ u ∷ us → ts ≡ us
rest_of t u ts us same = cc

pub constants_same : (c d : ℕ) → c < 10 ^ 64 → d < 10 ^ 64 → constant_texts c ≡ constant_texts d → c ≡ d
constants_same c d low high same = by (c == 0) (d == 0) refl refl same
  where
    none : {A : Type 0} (t : Text) (ts : List Text) → [] ≡ t ∷ ts → A
    none t ts e = absurd (omega (arith, ap (λ (l : List Text). length l) e))

    by : (p q : Bool) → (c == 0) ≡ p → (d == 0) ≡ q → (if p then [] else decimal c ∷ []) ≡ (if q then [] else decimal d ∷ []) → c ≡ d
    by true true a b same = eqb-true c 0 a ∙ sym (eqb-true d 0 b)
    by true false a b same = none (decimal d) [] same
    by false true a b same = none (decimal c) [] (sym same)
    by false false a b same = decimal_same c d low high (first_of (decimal c) (decimal d) [] [] same)

pub no_constant : {A : Type 0} (term : Term) (texts : List Text) (c : ℕ) → IsTerm term → c < 10 ^ 64 → term_text term ∷ texts
    ≡ constant_texts c → A
no_constant {A} term texts c is small same = by (c == 0) same
  where
    by : (q : Bool) → term_text term ∷ texts ≡ (if q then [] else decimal c ∷ []) → A
    by true same = absurd (omega (arith, ap (λ (l : List Text). length l) same))
    by false same = no_number term c is small (first_of (term_text term) (decimal c) texts [] same)
