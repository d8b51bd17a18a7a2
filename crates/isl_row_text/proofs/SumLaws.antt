-- Sums, written from the left.
use Rattle.std.proofs.Common.{◌≡◌, ◌≢◌, ◌<◌, ◌≤◌, ◌+◌, ℕ, zero, suc, ℤ, Bool, true, false, List, [], ◌∷◌, ◌++◌, drop, length, map, refl}
use Rattle.std.proofs.Common.{sym, ap, ◌∙◌, arith}
use Rattle.std.specs.Prelude.{◌==◌, ◌&&◌, if◌then◌else◌, codes, get_or, min}
use Rattle.std.specs.Fmt.{decimal}
use Rattle.std.proofs.lemmas.Fmt.{decimal_digit}
use Rattle.std.proofs.lemmas.List.{append_assoc, append-nil, drop_all, drop_more}
use Rattle.std.proofs.lemmas.Bool.{eq-eqb, ne_eqb}
use Rattle.isl_space.specs.Name.{Name}
use Rattle.isl_row_text.specs.declared.sum.Side.{Side}
use Rattle.isl_row_text.specs.Joined.{Text}
use Rattle.isl_row_text.specs.Sum.{share, terms_of, term_text, constant_texts, summands, sum_of, lead_text, rest_of_sum}

-- the summands of a constant
no_constant_text : (c : ℕ) → c ≡ 0 → constant_texts c ≡ []
no_constant_text c is = ap (λ (q : Bool). if q then [] else decimal c ∷ []) (eq-eqb c 0 is)

constant_text : (c : ℕ) → c ≢ 0 → constant_texts c ≡ decimal c ∷ []
constant_text c differs = ap (λ (q : Bool). if q then [] else decimal c ∷ []) (ne_eqb c 0 differs)

lone_constant : (c : ℕ) → sum_of (constant_texts c) ≡ decimal c
lone_constant zero = ap sum_of (no_constant_text 0 refl) ∙ sym (decimal_digit 0 (omega arith))
lone_constant (suc c) = ap sum_of (constant_text (suc c) (λ e. absurd (omega (arith, e)))) ∙ append-nil (decimal (suc c))

-- a sum of a constant alone is its digits, also for 0
pub first_constant : (is_first : Bool) (c : ℕ) → is_first ≡ true → rest_of_sum is_first (constant_texts c) ≡ decimal c
first_constant is_first c first = ap (λ b. rest_of_sum b (constant_texts c)) first ∙ lone_constant c

-- behind a term, 0 is not written
pub no_constant : (is_first : Bool) (c : ℕ) → is_first ≡ false → c ≡ 0 → rest_of_sum is_first (constant_texts c) ≡ []
no_constant is_first c first is = ap (λ b. rest_of_sum b (constant_texts c)) first ∙ ap (λ ts. rest_of_sum false ts) (no_constant_text c is)

pub added_constant : (is_first : Bool) (c : ℕ) → is_first ≡ false → c ≢ 0
    → rest_of_sum is_first (constant_texts c) ≡ codes " + " ++ decimal c
added_constant is_first c first differs =
    ap (λ b. rest_of_sum b (constant_texts c)) first ∙ ap (λ ts. rest_of_sum false ts) (constant_text c differs)
    ∙ append-nil (codes " + " ++ decimal c)

pub after_plus : (is_first : Bool) (c : ℕ) (old between new : Text) → is_first ≡ false → c ≢ 0 → between ≡ old ++ codes " + "
    → new ≡ between ++ decimal c
    → new ≡ old ++ rest_of_sum is_first (constant_texts c)
after_plus is_first c old between new first differs plus digits =
    digits ∙ ap (λ t. t ++ decimal c) plus ∙ append_assoc old (codes " + ") (decimal c)
    ∙ ap (λ t. old ++ t) (sym (added_constant is_first c first differs))

pub ruleset constants = (first_constant, no_constant, added_constant)

-- what is left of a sum at a column
terms_at : (side : Side) (name : Name) (names : List Name) (number : ℤ) (numbers : List ℤ) (constant : ℤ) (is_first next : Bool) (q : Bool)
    → q ≡ (share side number == 0) → next ≡ (is_first && q)
    → rest_of_sum is_first (summands side (name ∷ names) (number ∷ numbers) constant)
    ≡ (if q then [] else lead_text is_first ++ term_text (share side number, name)) ++ rest_of_sum next (summands side names numbers constant)
terms_at side name names number numbers constant is_first next q is goes =
    let rest = summands side names numbers constant in
    let here : summands side (name ∷ names) (number ∷ numbers) constant ≡ (if q then rest else term_text (share side number, name) ∷ rest) = rw (← is) (by_test q) in
    ap (rest_of_sum is_first) here ∙ split q is_first next rest goes
  where
    by_test : (q : Bool)
        → map term_text (if q then terms_of side names numbers else (share side number, name) ∷ terms_of side names numbers) ++ constant_texts (share side constant)
        ≡ (if q then summands side names numbers constant else term_text (share side number, name) ∷ summands side names numbers constant)
    by_test true = refl
    by_test false = refl

    split : (q is_first next : Bool) (rest : List Text) → next ≡ (is_first && q)
        → rest_of_sum is_first (if q then rest else term_text (share side number, name) ∷ rest) ≡ (if q then [] else lead_text is_first ++ term_text (share side number, name)) ++ rest_of_sum next rest
    split true true next rest goes = ap (λ b. rest_of_sum b rest) (sym goes)
    split true false next rest goes = ap (λ b. rest_of_sum b rest) (sym goes)
    split false true next rest goes = ap (λ b. term_text (share side number, name) ++ rest_of_sum b rest) (sym goes)
    split false false next rest goes = ap (λ b. codes " + " ++ term_text (share side number, name) ++ rest_of_sum b rest) (sym goes)

-- a loop's step: the term at a column is written
pub sum_more : (side : Side) (names : List Name) (numbers : List ℤ) (constant : ℤ) (i : ℕ) (is_first next : Bool) (name : Name) (number : ℤ) (before after whole : Text)
    → i < length names → i < length numbers → name ≡ get_or names i name → number ≡ get_or numbers i number
    → after ≡ before ++ (if share side number == 0 then [] else lead_text is_first ++ term_text (share side number, name))
    → next ≡ (is_first && share side number == 0)
    → before ++ rest_of_sum is_first (summands side (drop i names) (drop i numbers) constant) ≡ whole
    → after ++ rest_of_sum next (summands side (drop (i + 1) names) (drop (i + 1) numbers) constant) ≡ whole
sum_more side names numbers constant i is_first next name number before after whole low lower at here written goes so_far =
    let more_names : drop i names ≡ name ∷ drop (i + 1) names = drop_more names i name low ∙ ap (λ n. n ∷ drop (i + 1) names) (sym at) in
    let more_numbers : drop i numbers ≡ number ∷ drop (i + 1) numbers = drop_more numbers i number lower ∙ ap (λ n. n ∷ drop (i + 1) numbers) (sym here) in
    let text = if share side number == 0 then [] else lead_text is_first ++ term_text (share side number, name) in
    let rest = rest_of_sum next (summands side (drop (i + 1) names) (drop (i + 1) numbers) constant) in
    let both : rest_of_sum is_first (summands side (drop i names) (drop i numbers) constant) ≡ text ++ rest =
    rw (more_names, more_numbers) (terms_at side name (drop (i + 1) names) number (drop (i + 1) numbers) constant is_first next _ refl goes) in
    ap (λ t. t ++ rest) written ∙ append_assoc before text rest ∙ ap (λ t. before ++ t) (sym both) ∙ so_far

no_terms : (side : Side) (names : List Name) → terms_of side names [] ≡ []
no_terms side [] = refl
no_terms side (name ∷ names) = refl

-- there is no term where the names end, nor where the numbers do
pub terms_end : (side : Side) (names : List Name) (numbers : List ℤ) (i : ℕ) → min (length numbers) (length names) ≤ i
    → terms_of side (drop i names) (drop i numbers) ≡ []
terms_end side [] numbers i over = ap (λ (ns : List Name). terms_of side ns (drop i numbers)) (drop_all i [] (omega arith))
terms_end side (name ∷ names) [] i over =
    ap (λ (zs : List ℤ). terms_of side (drop i (name ∷ names)) zs) (drop_all i [] (omega arith)) ∙ no_terms side (drop i (name ∷ names))
terms_end side (name ∷ names) (number ∷ numbers) zero over = absurd (omega (arith, over))
terms_end side (name ∷ names) (number ∷ numbers) (suc i) over = terms_end side names numbers i (omega (arith, over))

-- behind the last column only the constant is left
pub sum_end : (side : Side) (names : List Name) (numbers : List ℤ) (constant : ℤ) (i : ℕ) (is_first : Bool) (before after whole : Text)
    → min (length numbers) (length names) ≤ i
    → after ≡ before ++ rest_of_sum is_first (constant_texts (share side constant))
    → before ++ rest_of_sum is_first (summands side (drop i names) (drop i numbers) constant) ≡ whole
    → after ≡ whole
sum_end side names numbers constant i is_first before after whole over written so_far =
    let none = terms_end side names numbers i over in
    written ∙ ap (λ ts. before ++ rest_of_sum is_first (map term_text ts ++ constant_texts (share side constant))) (sym none) ∙ so_far

pub ruleset sum_steps = (sum_more, sum_end)
