-- Sums on a side with one text, before what cannot go on with it, have one share of each number.
use Rattle.std.proofs.Common.{◌≡◌, ◌<◌, ◌∙◌, ◌^◌, ◌==◌, ℕ, Bool, true, false, List, [], ◌∷◌, ◌++◌, length, map}
use Rattle.std.proofs.Common.{slice_index, ap, ap₂, sym, refl, arith, ℤ}
use Rattle.std.specs.Prelude.{codes, if◌then◌else◌}
use Rattle.std.specs.Fmt.{decimal}
use Rattle.std.specs.List.{AllByRecursion}
use Rattle.std.proofs.lemmas.Bool.{false≢true, eqb-true}
use Rattle.std.proofs.lemmas.Fmt.{decimal_digit}
use Rattle.std.proofs.lemmas.List.{append_assoc}
use Rattle.isl_space.specs.Name.{Name}
use Rattle.isl_space.proofs.DistinctLaws.{Differs, Distinct}
use Rattle.isl_row_text.specs.declared.sum.Side.{Side}
use Rattle.isl_row_text.specs.Joined.{Text, each_after}
use Rattle.isl_row_text.specs.Sum.{share, Term, terms_of, term_text, constant_texts, summands, sum_of, side_text}
use Rattle.isl_loop_law.proofs.WordLaws.{in_word, IsWord, StopsAt, words, differ}
use Rattle.isl_loop_law.proofs.WordLaws.{decimal_same, IsNaming}
use Rattle.isl_loop_law.proofs.TermLaws.{EndsSum, AreWords, shown_splits, IsNoZero, shown_same, IsTerm, terms_words, no_number, term_same}
use Rattle.isl_loop_law.proofs.TermLaws.{constants_words, first_of, rest_of, constants_same, no_constant}

-- ---- a side
zero_text : decimal 0 ≡ codes "0"
zero_text = decimal_digit 0 (omega arith)

zero_small : 0 < 10 ^ 64
zero_small = omega arith

no_zero : (terms : List Term) (c : ℕ) → AllByRecursion IsTerm terms → c < 10 ^ 64 → IsNoZero (map term_text terms ++ constant_texts c)
no_zero [] c all small same = by (c == 0) refl same
  where
    by : (q : Bool) → (c == 0) ≡ q → codes "0" ∷ [] ≡ (if q then [] else decimal c ∷ []) → ⊥
    by true e same = absurd (omega (arith, ap (λ (l : List Text). length l) same))
    by false e same =
        let none : 0 ≡ c = decimal_same 0 c zero_small small (zero_text ∙ first_of (codes "0") (decimal c) [] [] same) in
        absurd (false≢true (sym e ∙ ap (λ (n : ℕ). n == 0) (sym none)))
no_zero (term ∷ terms) c all small same =
    no_number term 0 all.0 zero_small (sym (zero_text
    ∙ first_of (codes "0") (term_text term) [] (map term_text terms ++ constant_texts c) same))

summands_same : (ss ts : List Term) (c d : ℕ) → AllByRecursion IsTerm ss → AllByRecursion IsTerm ts → c < 10 ^ 64 → d < 10 ^ 64
    → map term_text ss ++ constant_texts c ≡ map term_text ts ++ constant_texts d → (ss ≡ ts) × (c ≡ d)
summands_same [] [] c d a b low high same = (refl, constants_same c d low high same)
summands_same [] (t ∷ ts) c d a b low high same = no_constant t (map term_text ts ++ constant_texts d) c b.0 low (sym same)
summands_same (s ∷ ss) [] c d a b low high same = no_constant s (map term_text ss ++ constant_texts c) d a.0 high same
summands_same (s ∷ ss) (t ∷ ts) c d a b low high same =
    let first = map term_text ss ++ constant_texts c in
    let second = map term_text ts ++ constant_texts d in
    let rest = summands_same ss ts c d a.1 b.1 low high (rest_of (term_text s) (term_text t) first second same) in (
      ap₂ (λ (x : Term) (xs : List Term). x ∷ xs) (term_same s t a.0 b.0 (first_of (term_text s) (term_text t) first second same)) rest.0,
      rest.1,
    )

all_words : (ts us : List Text) → AreWords ts → AreWords us → AreWords (ts ++ us)
all_words [] us a b = b
all_words (t ∷ ts) us a b = (a.0, all_words ts us a.1 b)

-- ---- the shares
abbrev pub AreSmall : Side → List ℤ → Type 0
AreSmall side xs = AllByRecursion (λ x. share side x < 10 ^ 64) xs

terms_are : (side : Side) (names : List Name) (xs : List ℤ) → AllByRecursion IsNaming names → AreSmall side xs
    → AllByRecursion IsTerm (terms_of side names xs)
terms_are side [] xs all small = tt
terms_are side (name ∷ names) [] all small = tt
terms_are side (name ∷ names) (x ∷ xs) all small = by (share side x == 0) (terms_are side names xs all.1 small.1)
  where
    by : (q : Bool) → AllByRecursion IsTerm (terms_of side names xs)
        → AllByRecursion IsTerm (if q then terms_of side names xs else (share side x, name) ∷ terms_of side names xs)
    by true rest = rest
    by false rest = (record { small = small.0; named = all.0 }, rest)

pair_names : (s t : Term) (ss ts : List Term) → s ∷ ss ≡ t ∷ ts → s.1 ≡ t.1
pair_names s t ss ts same = let first : s ≡ t = cc in ap (λ (p : Term). p.1) first

pair_numbers : (s t : Term) (ss ts : List Term) → s ∷ ss ≡ t ∷ ts → s.0 ≡ t.0
pair_numbers s t ss ts same = let first : s ≡ t = cc in ap (λ (p : Term). p.0) first

terms_rest : (s t : Term) (ss ts : List Term) → s ∷ ss ≡ t ∷ ts → ss ≡ ts
terms_rest s t ss ts same = cc

-- a name that is none of them begins no list of their terms
not_first : {A : Type 0} (side : Side) (names : List Name) (xs : List ℤ) (term : Term) (terms : List Term) → Differs term.1 names
    → terms_of side names xs ≡ term ∷ terms → A
not_first side [] xs term terms other same = absurd (omega (arith, ap (λ (l : List Term). length l) same))
not_first side (name ∷ names) [] term terms other same = absurd (omega (arith, ap (λ (l : List Term). length l) same))
not_first {A} side (name ∷ names) (x ∷ xs) term terms other same =
    by (share side x == 0) same (not_first side names xs term terms other.1)
  where
    by : (q : Bool) → (if q then terms_of side names xs else (share side x, name) ∷ terms_of side names xs) ≡ term ∷ terms
        → (terms_of side names xs ≡ term ∷ terms → A) → A
    by true same again = again same
    by false same again = absurd (other.0 (sym (pair_names (share side x, name) term (terms_of side names xs) terms same)))

abbrev pub shares : Side → List ℤ → List ℕ
shares side xs = map (share side) xs

shares_same : (side : Side) (names : List Name) (xs ys : List ℤ) → Distinct names → length xs ≡ length names → length ys ≡ length names
    → terms_of side names xs ≡ terms_of side names ys → shares side xs ≡ shares side ys
shares_same side [] [] [] distinct a b same = refl
shares_same side [] (x ∷ xs) ys distinct a b same = absurd (omega (arith, a))
shares_same side [] [] (y ∷ ys) distinct a b same = absurd (omega (arith, b))
shares_same side (name ∷ names) [] ys distinct a b same = absurd (omega (arith, a))
shares_same side (name ∷ names) (x ∷ xs) [] distinct a b same = absurd (omega (arith, b))
shares_same side (name ∷ names) (x ∷ xs) (y ∷ ys) distinct a b same =
    by (share side x == 0) (share side y == 0) refl refl same
    (shares_same side names xs ys distinct.1 (omega (arith, a)) (omega (arith, b)))
  where
    first : List Term
    first = terms_of side names xs

    second : List Term
    second = terms_of side names ys

    by : (p q : Bool) → (share side x == 0) ≡ p → (share side y == 0) ≡ q
        → (if p then terms_of side names xs else (share side x, name) ∷ terms_of side names xs)
        ≡ (if q then terms_of side names ys else (share side y, name) ∷ terms_of side names ys)
        → (terms_of side names xs ≡ terms_of side names ys → shares side xs ≡ shares side ys) → shares side (x ∷ xs) ≡ shares side (y ∷ ys)
    by true true d e same again =
        ap₂ (λ (n : ℕ) (ns : List ℕ). n ∷ ns) (eqb-true (share side x) 0 d ∙ sym (eqb-true (share side y) 0 e)) (again same)
    by true false d e same again = not_first side names xs (share side y, name) (terms_of side names ys) distinct.0 same
    by false true d e same again = not_first side names ys (share side x, name) (terms_of side names xs) distinct.0 (sym same)
    by false false d e same again =
        ap₂ (λ (n : ℕ) (ns : List ℕ). n ∷ ns)
        (pair_numbers (share side x, name) (share side y, name) (terms_of side names xs) (terms_of side names ys) same)
        (again (terms_rest (share side x, name) (share side y, name) (terms_of side names xs) (terms_of side names ys) same))

module _ (names : List Name) (distinct : Distinct names) (named : AllByRecursion IsNaming names) (side : Side) where
  pub side_words : (xs : List ℤ) (c : ℤ) → AreSmall side xs → share side c < 10 ^ 64 → AreWords (summands side names xs c)
  side_words xs c small low =
      all_words (map term_text (terms_of side names xs)) (constant_texts (share side c))
      (terms_words (terms_of side names xs) (terms_are side names xs named small)) (constants_words (share side c) low)

  pub side_splits : (xs ys : List ℤ) (c d : ℤ) (z y : Text) → length xs ≡ length names → length ys ≡ length names
      → AreSmall side xs → AreSmall side ys → share side c < 10 ^ 64 → share side d < 10 ^ 64 → EndsSum z → EndsSum y
      → side_text side names xs c ++ z ≡ side_text side names ys d ++ y
      → (shares side xs ≡ shares side ys) × (share side c ≡ share side d) × (z ≡ y)
  side_splits xs ys c d z y a b small less low high p q same =
      let first = terms_are side names xs named small in
      let second = terms_are side names ys named less in
      let texts = shown_splits (summands side names xs c) (summands side names ys d) z y (side_words xs c small low)
      (side_words ys d less high) p q same in
      let sums = shown_same (summands side names xs c) (summands side names ys d)
      (no_zero (terms_of side names xs) (share side c) first low)
      (no_zero (terms_of side names ys) (share side d) second high) texts.0 in
      let parts = summands_same (terms_of side names xs) (terms_of side names ys) (share side c) (share side d) first second low high sums
      in
      (shares_same side names xs ys distinct a b parts.0, parts.1, texts.1)

-- what a sum ends with is no bracket that opens, and no other byte
sum_head : {A : Type 0} (ts : List Text) (z : Text) (y : Text) → AreWords ts → slice_index z 0 == 32 ≡ true → StopsAt in_word z
    → StopsAt in_word y
    → slice_index y 0 == 32 ≡ false → (v : Text) → IsWord v → sum_of ts ++ z ≡ v ++ y → A
sum_head {A} [] z y all blank p q other v w same =
    let parts = words (codes "0") v z y (refl, tt) w p q same in differ (λ b. b == 32) z y blank other parts.1
sum_head {A} (t ∷ ts) z y all blank p q other v w same =
    let rest = each_after (codes " + ") ts ++ z in
    let stop = stopping ts in
    let parts = words t v rest y all.0 w stop q (sym (append_assoc t (each_after (codes " + ") ts) z) ∙ same) in
    differ (λ b. b == 32) rest y (blanks ts) other parts.1
  where
    stopping : (ts : List Text) → StopsAt in_word (each_after (codes " + ") ts ++ z)
    stopping [] = p
    stopping (t ∷ ts) = refl

    blanks : (ts : List Text) → slice_index (each_after (codes " + ") ts ++ z) 0 == 32 ≡ true
    blanks [] = blank
    blanks (t ∷ ts) = refl

pub side_head : {A : Type 0} (side : Side) (names : List Name) (xs : List ℤ) (c : ℤ) (v z y : Text) → AllByRecursion IsNaming names
    → AreSmall side xs → share side c < 10 ^ 64 → slice_index z 0 == 32 ≡ true → StopsAt in_word z → StopsAt in_word y
    → slice_index y 0 == 32 ≡ false
    → IsWord v → side_text side names xs c ++ z ≡ v ++ y → A
side_head side names xs c v z y named small low blank p q other w same =
    sum_head (summands side names xs c) z y
    (all_words (map term_text (terms_of side names xs)) (constant_texts (share side c))
    (terms_words (terms_of side names xs) (terms_are side names xs named small)) (constants_words (share side c) low))
    blank p q other v w same
