-- Words and numbers at the front of a text: they end where a byte comes that they cannot have.
use Rattle.std.proofs.Common.{◌≡◌, ◌<◌, ◌≤◌, ◌+◌, ◌∙◌, ◌^◌, ℕ, suc, Bool, true, false, cond, not, ◌||◌, List, [], ◌∷◌}
use Rattle.std.proofs.Common.{◌++◌, length}
use Rattle.std.proofs.Common.{drop, slice_index, ap, ap₂, sym, subst, refl, arith, lit<, pow_mono, ℤ, pos, negsuc, ◌<ℤ◌}
use Rattle.std.specs.Prelude.{unsigned_abs, int_lt}
use Rattle.std.specs.Char.{digit_value, is_ascii_digit}
use Rattle.std.specs.Fmt.{decimal}
use Rattle.std.specs.List.{list_all, prefix_len, AllByRecursion}
use Rattle.std.specs.Str.Parse.{AllDigits, digits_value}
use Rattle.std.proofs.lemmas.Bool.{false≢true, and_parts}
use Rattle.std.proofs.lemmas.Fmt.{decimal_is_IsNumeral_wide}
use Rattle.isl_meter.specs.Gauge.{Gauge, IsWithin}
use Rattle.isl_space.specs.Name.{Name, begins_name, goes_on_name, is_prime, is_identifier, is_reserved, IsLiteralName}
use Rattle.isl_row_text.specs.Joined.{Text}

pub heads : (a b : ℕ) (x y : Text) → a ∷ x ≡ b ∷ y → a ≡ b
heads a b x y same = cc

pub tails : (a b : ℕ) (x y : Text) → a ∷ x ≡ b ∷ y → x ≡ y
tails a b x y same = cc

-- the bytes of names and numbers
abbrev pub in_word : ℕ → Bool
in_word b = goes_on_name b || is_prime b

abbrev pub AreIn : (ℕ → Bool) → Text → Type 0
AreIn test text = AllByRecursion (λ b. test b ≡ true) text

abbrev pub IsWord : Text → Type 0
IsWord text = AreIn in_word text

abbrev pub StopsAt : (ℕ → Bool) → Text → Type 0
StopsAt test text = test (slice_index text 0) ≡ false

apart : {A : Type 0} (test : ℕ → Bool) (z y : Text) → test (slice_index z 0) ≡ true → test (slice_index y 0) ≡ false → z ≡ y → A
apart test z y is other same = absurd (false≢true (sym other ∙ ap (λ l. test (slice_index l 0)) (sym same) ∙ is))

-- what passes a test ends where a byte does not
pub runs : (test : ℕ → Bool) (w v z y : Text) → AreIn test w → AreIn test v → StopsAt test z → StopsAt test y
    → w ++ z ≡ v ++ y → (w ≡ v) × (z ≡ y)
runs test [] [] z y a b s t same = (refl, same)
runs test [] (c ∷ v) z y a b s t same = apart test (c ∷ v ++ y) z b.0 s (sym same)
runs test (c ∷ w) [] z y a b s t same = apart test (c ∷ w ++ z) y a.0 t same
runs test (c ∷ w) (d ∷ v) z y a b s t same =
    let rest = runs test w v z y a.1 b.1 s t (tails c d (w ++ z) (v ++ y) same) in
    (ap₂ (λ e l. e ∷ l) (heads c d (w ++ z) (v ++ y) same) rest.0, rest.1)

pub words : (w v z y : Text) → IsWord w → IsWord v → StopsAt in_word z → StopsAt in_word y → w ++ z ≡ v ++ y → (w ≡ v) × (z ≡ y)
words = runs in_word

pub differ : {A : Type 0} (test : ℕ → Bool) (z y : Text) → test (slice_index z 0) ≡ true → test (slice_index y 0) ≡ false → z ≡ y → A
differ = apart

-- ---- numbers
digit_byte : (d : ℕ) → digit_value d < 10 → is_ascii_digit d ≡ true
digit_byte d digit = grind arith

digit_in_word : (d : ℕ) → digit_value d < 10 → in_word d ≡ true
digit_in_word d digit = grind arith

are_digits : (ds : List ℕ) → AllDigits 10 ds → AreIn is_ascii_digit ds
are_digits [] all = tt
are_digits (d ∷ ds) all = (digit_byte d all.0, are_digits ds all.1)

are_word : (ds : List ℕ) → AllDigits 10 ds → IsWord ds
are_word [] all = tt
are_word (d ∷ ds) all = (digit_in_word d all.0, are_word ds all.1)

pub decimal_digits : (n : ℕ) → n < 10 ^ 64 → AreIn is_ascii_digit (decimal n)
decimal_digits n small = are_digits (decimal n) (decimal_is_IsNumeral_wide n small).0.1

pub decimal_word : (n : ℕ) → n < 10 ^ 64 → IsWord (decimal n)
decimal_word n small = are_word (decimal n) (decimal_is_IsNumeral_wide n small).0.1

first_in : (test : ℕ → Bool) (w z : Text) → AreIn test w → 0 < length w → test (slice_index (w ++ z) 0) ≡ true
first_in test [] z all some = absurd (omega (arith, some))
first_in test (b ∷ w) z all some = all.0

pub decimal_first : (n : ℕ) (z : Text) → n < 10 ^ 64 → is_ascii_digit (slice_index (decimal n ++ z) 0) ≡ true
decimal_first n z small =
    let numeral = (decimal_is_IsNumeral_wide n small).0 in
    first_in is_ascii_digit (decimal n) z (are_digits (decimal n) numeral.1) numeral.0

pub decimal_same : (m n : ℕ) → m < 10 ^ 64 → n < 10 ^ 64 → decimal m ≡ decimal n → m ≡ n
decimal_same m n low high same =
    sym (decimal_is_IsNumeral_wide m low).1 ∙ ap (digits_value 10) same ∙ (decimal_is_IsNumeral_wide n high).1

-- a number ends where no digit comes
pub decimals : (m n : ℕ) (z y : Text) → m < 10 ^ 64 → n < 10 ^ 64 → StopsAt is_ascii_digit z → StopsAt is_ascii_digit y
    → decimal m ++ z ≡ decimal n ++ y → (m ≡ n) × (z ≡ y)
decimals m n z y low high s t same =
    let parts = runs is_ascii_digit (decimal m) (decimal n) z y (decimal_digits m low) (decimal_digits n high) s t same in
    (decimal_same m n low high parts.0, parts.1)

-- ---- names
goes_in_word : (b : ℕ) → goes_on_name b ≡ true → in_word b ≡ true
goes_in_word b goes = ap (λ (q : Bool). q || is_prime b) goes

prime_in_word : (b : ℕ) → is_prime b ≡ true → in_word b ≡ true
prime_in_word b prime = by (goes_on_name b)
  where
    by : (q : Bool) → (q || is_prime b) ≡ true
    by true = refl
    by false = prime

primes_word : (w : Text) → list_all is_prime w ≡ true → IsWord w
primes_word [] all = tt
primes_word (b ∷ w) all =
    let parts = and_parts (is_prime b) (list_all is_prime w) all in (prime_in_word b parts.0, primes_word w parts.1)

left_word : (w : Text) → list_all is_prime (drop (prefix_len goes_on_name w) w) ≡ true → IsWord w
left_word [] all = tt
left_word (b ∷ w) all = by (goes_on_name b) refl all (left_word w)
  where
    by : (q : Bool) → goes_on_name b ≡ q → list_all is_prime (drop (cond q (1 + prefix_len goes_on_name w) 0) (b ∷ w)) ≡ true
        → (list_all is_prime (drop (prefix_len goes_on_name w) w) ≡ true → IsWord w) → IsWord (b ∷ w)
    by true goes all again =
        let one : 1 + prefix_len goes_on_name w ≡ suc (prefix_len goes_on_name w) = omega arith in
        (goes_in_word b goes, again (subst (λ (n : ℕ). list_all is_prime (drop n (b ∷ w)) ≡ true) one all))
    by false goes all again = primes_word (b ∷ w) all

-- what may be the name of a column or a call
pub record IsNaming (name : Name) : Type 0 where
  pub word : IsWord name
  pub begins : begins_name (slice_index name 0) ≡ true

pub naming : (name : Name) → IsLiteralName name → IsNaming name
naming name literal =
    let identifier = (and_parts (is_identifier name) (not (is_reserved name)) literal).0 in
    let parts = and_parts (begins_name (slice_index name 0)) (list_all is_prime (drop (prefix_len goes_on_name name) name)) identifier in
    record { word = left_word name parts.1; begins = parts.0 }

pub begin_no_digit : (b : ℕ) → begins_name b ≡ true → is_ascii_digit b ≡ false
begin_no_digit b begins = grind arith

pub digit_no_begin : (b : ℕ) → is_ascii_digit b ≡ true → begins_name b ≡ false
digit_no_begin b digit = grind arith

pub name_first : (name : Name) (z : Text) → IsNaming name → begins_name (slice_index (name ++ z) 0) ≡ true
name_first [] z is = absurd (false≢true is.begins)
name_first (b ∷ name) z is = is.begins

-- ---- numbers within a limit
pub wide : (g : Gauge) (z : ℤ) → g.bits ≤ 127 → IsWithin g z → unsigned_abs z < 10 ^ 64
wide g z bits within = by (pow_up g.bits bits)
  where
    more : 2 ^ 127 < 10 ^ 64
    more = lit< tt

    pow_up : (k : ℕ) → k ≤ 127 → 2 ^ k ≤ 2 ^ 127
    pow_up k low = pow_mono low

    by : 2 ^ g.bits ≤ 2 ^ 127 → unsigned_abs z < 10 ^ 64
    by up = omega (arith, within, up, more)

not_less : (m : ℕ) → int_lt (pos m) (pos 0) ≡ false
not_less m = grind arith

pub same_sign : (a b : ℤ) → int_lt a (pos 0) ≡ int_lt b (pos 0) → unsigned_abs a ≡ unsigned_abs b → a ≡ b
same_sign (pos m) (pos n) sign size = ap pos size
same_sign (pos m) (negsuc n) sign size = absurd (false≢true (sym (not_less m) ∙ sign))
same_sign (negsuc m) (pos n) sign size = absurd (false≢true (sym (not_less n) ∙ sym sign))
same_sign (negsuc m) (negsuc n) sign size = let less : m ≡ n = omega (arith, size) in ap negsuc less

pub positive_same : (a b : ℤ) → pos 0 <ℤ a → pos 0 <ℤ b → unsigned_abs a ≡ unsigned_abs b → a ≡ b
positive_same a b p q same = grind arith
