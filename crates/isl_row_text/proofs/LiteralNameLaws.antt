-- The names of coordinates may stand inside a literal.
use Rattle.std.proofs.Common.{◌≡◌, ◌<◌, ◌≤◌, ◌+◌, ◌-◌, ◌∙◌, ◌^◌, ℕ, zero, suc, Bool, true, false, cond, not, List, [], ◌∷◌, ◌++◌, length}
use Rattle.std.proofs.Common.{drop, replicate, slice_index, ap, sym, subst, refl, arith, All, lit<}
use Rattle.std.specs.Prelude.{codes, if◌then◌else◌}
use Rattle.std.specs.Char.{digit_value, is_ascii_digit}
use Rattle.std.specs.Fmt.{decimal}
use Rattle.std.specs.List.{list_all, prefix_len, sum_by, AllByRecursion}
use Rattle.std.specs.Str.{bytes_eq}
use Rattle.std.specs.Str.Parse.{AllDigits}
use Rattle.std.proofs.lemmas.Bool.{false≢true, false_from_ne_true, and_from, and_parts}
use Rattle.std.proofs.lemmas.Fmt.{decimal_is_IsNumeral_wide}
use Rattle.std.proofs.lemmas.List.{append_assoc, append-nil}
use Rattle.std.proofs.lemmas.List.Elements.{All-from_recursion, All-append}
use Rattle.std.proofs.lemmas.List.Folds.{list_any_none}
use Rattle.std.proofs.lemmas.Slice.Eq.{bytes_eq-Decides}
use Rattle.isl_space.specs.Name.{Name, begins_name, goes_on_name, is_prime, is_identifier, reserved_words, is_reserved, IsLiteralName}
use Rattle.isl_space.specs.Names.{is_among}
use Rattle.isl_space.specs.Form.{width_of}
use Rattle.isl_space.specs.SpaceForm.{SpaceForm, set_of, map_of, coordinates_of}
use Rattle.isl_row_text.specs.Naming.{primed, free_name, numbered, coordinate_names, column_names}

-- ---- primes behind a name
primed_is : (most : ℕ) (others : List Name) (name : Name) → (k : ℕ) × (primed most others name ≡ name ++ replicate k 39)
primed_is zero others name = (0, sym (append-nil name))
primed_is (suc most) others name = by (is_among others name) (primed_is most others (name ++ codes "'"))
  where
    by : (q : Bool) → (k : ℕ) × (primed most others (name ++ codes "'") ≡ (name ++ codes "'") ++ replicate k 39)
        → (k : ℕ) × ((if q then primed most others (name ++ codes "'") else name) ≡ name ++ replicate k 39)
    by true again = (suc again.0, again.1 ∙ append_assoc name (codes "'") (replicate again.0 39))
    by false again = (0, sym (append-nil name))

all_primes : (k : ℕ) → list_all is_prime (replicate k 39) ≡ true
all_primes zero = refl
all_primes (suc k) = all_primes k

-- what is left of a name behind its letters and digits
primes_left : (w : Name) (k : ℕ) → list_all goes_on_name w ≡ true
    → drop (prefix_len goes_on_name (w ++ replicate k 39)) (w ++ replicate k 39) ≡ replicate k 39
primes_left [] zero all = refl
primes_left [] (suc k) all = refl
primes_left (b ∷ w) k all =
    let parts = and_parts (goes_on_name b) (list_all goes_on_name w) all in
    let l = w ++ replicate k 39 in
    let one : 1 + prefix_len goes_on_name l ≡ suc (prefix_len goes_on_name l) = omega arith in
    ap (λ (q : Bool). drop (cond q (1 + prefix_len goes_on_name l) 0) (b ∷ l)) parts.0 ∙ ap (λ n. drop n (b ∷ l)) one
    ∙ primes_left w k parts.1

digit_goes_on : (d : ℕ) → digit_value d < 10 → goes_on_name d ≡ true
digit_goes_on d digit = grind arith

digits_go_on : (ds : List ℕ) → AllDigits 10 ds → list_all goes_on_name ds ≡ true
digits_go_on [] all = refl
digits_go_on (d ∷ ds) all = and_from (goes_on_name d) (list_all goes_on_name ds) (digit_goes_on d all.0) (digits_go_on ds all.1)

-- ---- a letter, a number, and primes
narrow : (n : ℕ) → n < 2 ^ 64 → n < 10 ^ 64
narrow n small = let more : 2 ^ 64 < 10 ^ 64 = lit< tt in omega (arith, small, more)

identifier_is : (letter : ℕ) (n k : ℕ) → begins_name letter ≡ true → goes_on_name letter ≡ true → n < 2 ^ 64
    → is_identifier (letter ∷ decimal n ++ replicate k 39) ≡ true
identifier_is letter n k begins goes small =
    let digits = digits_go_on (decimal n) (decimal_is_IsNumeral_wide n (narrow n small)).0.1 in
    let whole : list_all goes_on_name (letter ∷ decimal n) ≡ true = and_from (goes_on_name letter) (list_all goes_on_name (decimal n)) goes digits in
    let left : drop (prefix_len goes_on_name (letter ∷ decimal n ++ replicate k 39)) (letter ∷ decimal n ++ replicate k 39) ≡ replicate k 39 = primes_left (letter ∷ decimal n) k whole in
    and_from (begins_name letter) _ begins (ap (list_all is_prime) left ∙ all_primes k)

digit_byte : (d : ℕ) → digit_value d < 10 → is_ascii_digit d ≡ true
digit_byte d digit = grind arith

-- no word has a digit behind its first letter
abbrev HasNoDigit : Name → Type 0
HasNoDigit w = is_ascii_digit (slice_index w 1) ≡ false

words_have_none : AllByRecursion HasNoDigit reserved_words
words_have_none = (refl, (refl, (refl, (refl, (refl, (refl, (refl, (refl, (refl, (refl, (refl, (refl, tt))))))))))))

not_reserved : (z : Name) → is_ascii_digit (slice_index z 1) ≡ true → is_reserved z ≡ false
not_reserved z digit =
    list_any_none (bytes_eq z) reserved_words
    (λ k d low. false_from_ne_true _ (λ e. absurd (false≢true (sym (All-from_recursion HasNoDigit reserved_words words_have_none k d low) ∙ ap (λ w. is_ascii_digit (slice_index w 1)) (sym ((bytes_eq-Decides z _).0 e)) ∙ digit))))

second_byte : (letter : ℕ) (ds rest : List ℕ) → AllDigits 10 ds → 0 < length ds
    → is_ascii_digit (slice_index (letter ∷ ds ++ rest) 1) ≡ true
second_byte letter [] rest all some = absurd (omega (arith, some))
second_byte letter (d ∷ ds) rest all some = digit_byte d all.0

numbered_name : (letter : ℕ) (n k : ℕ) → begins_name letter ≡ true → goes_on_name letter ≡ true → n < 2 ^ 64
    → IsLiteralName (letter ∷ decimal n ++ replicate k 39)
numbered_name letter n k begins goes small =
    let numeral = (decimal_is_IsNumeral_wide n (narrow n small)).0 in
    let name = letter ∷ decimal n ++ replicate k 39 in
    let other : is_reserved name ≡ false = not_reserved name (second_byte letter (decimal n) (replicate k 39) numeral.1 numeral.0) in
    and_from (is_identifier name) (not (is_reserved name)) (identifier_is letter n k begins goes small) (ap not other)

pub free_name_named : (params : List Name) (letter : ℕ) (n : ℕ) → begins_name letter ≡ true → goes_on_name letter ≡ true → n < 2 ^ 64
    → IsLiteralName (free_name params (letter ∷ decimal n))
free_name_named params letter n begins goes small =
    let form = primed_is (sum_by length params + 1 - length (letter ∷ decimal n)) params (letter ∷ decimal n) in
    subst IsLiteralName (sym form.1) (numbered_name letter n form.0 begins goes small)

numbered_named : (params : List Name) (letter : ℕ) (first count : ℕ) → begins_name letter ≡ true → goes_on_name letter ≡ true
    → first + count ≤ 2 ^ 64 → AllByRecursion IsLiteralName (numbered params (letter ∷ []) first count)
numbered_named params letter first zero begins goes small = tt
numbered_named params letter first (suc count) begins goes small = (free_name_named params letter first begins goes (omega arith), numbered_named params letter (first + 1) count begins goes (omega arith))

pub coordinates_named : (params : List Name) (space : SpaceForm) → coordinates_of space ≤ 2 ^ 32
    → All IsLiteralName (coordinate_names params space)
coordinates_named params (set_of form) small = All-from_recursion IsLiteralName (numbered params (codes "i") 0 (width_of form)) (numbered_named params 105 0 (width_of form) refl refl (omega arith))
coordinates_named params (map_of from to) small =
    let inputs = numbered params (codes "i") 0 (width_of from) in
    let outputs = numbered params (codes "o") 0 (width_of to) in
    All-append IsLiteralName inputs outputs (All-from_recursion IsLiteralName inputs (numbered_named params 105 0 (width_of from) refl refl (omega arith))) (All-from_recursion IsLiteralName outputs (numbered_named params 111 0 (width_of to) refl refl (omega arith)))

pub columns_named : (params : List Name) (space : SpaceForm) → All IsLiteralName params → coordinates_of space ≤ 2 ^ 32
    → All IsLiteralName (column_names params space)
columns_named params space named small =
    All-append IsLiteralName params (coordinate_names params space) named (coordinates_named params space small)
