-- The signs, coefficients and constants of sums: what they begin with, and where they end.
use Rattle.std.proofs.Common.{◌≡◌, ◌<◌, ◌∙◌, ◌^◌, ◌==◌, ◌⊎◌, inl, inr, ℕ, Bool, true, false, ◌&&◌, ◌||◌, []}
use Rattle.std.proofs.Common.{◌∷◌, ◌++◌}
use Rattle.std.proofs.Common.{slice_index, ap, sym, subst, refl, arith, ℤ, pos}
use Rattle.std.specs.Prelude.{codes, unsigned_abs, int_lt, if◌then◌else◌}
use Rattle.std.specs.Char.{is_ascii_digit}
use Rattle.std.specs.Fmt.{decimal}
use Rattle.std.proofs.lemmas.Bool.{false≢true, eqb-true, eq-eqb}
use Rattle.std.proofs.lemmas.List.{append_assoc, append_cancel_left}
use Rattle.isl_space.specs.Name.{begins_name}
use Rattle.isl_row_text.specs.Joined.{Text}
use Rattle.isl_loop_text.specs.ExprText.{sign_text, times_text, constant_text}
use Rattle.isl_loop_law.proofs.WordLaws.{in_word, tails, differ, decimals, decimal_first}
use Rattle.isl_loop_law.proofs.WordLaws.{begin_no_digit, same_sign}

-- ---- first bytes
-- what ends an expression: `,`, `)` or `;`
abbrev pub is_end : ℕ → Bool
is_end b = b == 44 || (b == 41 || b == 59)

-- what comes behind an atom
abbrev pub is_after : ℕ → Bool
is_after b = b == 32 || is_end b

-- what an atom or a number begins with
abbrev pub starts : ℕ → Bool
starts b = begins_name b || is_ascii_digit b

abbrev pub starts_expr : ℕ → Bool
starts_expr b = b == 45 || starts b

abbrev pub Begins : (ℕ → Bool) → Text → Type 0
Begins test text = test (slice_index text 0) ≡ true

end_no_blank : (b : ℕ) → is_end b ≡ true → b == 32 ≡ false
end_no_blank b is = grind arith

end_no_times : (b : ℕ) → is_end b ≡ true → b == 42 ≡ false
end_no_times b is = grind arith

end_no_digit : (b : ℕ) → is_end b ≡ true → is_ascii_digit b ≡ false
end_no_digit b is = grind arith

pub end_no_start : (b : ℕ) → is_end b ≡ true → starts_expr b ≡ false
end_no_start b is = grind arith

pub end_after : (b : ℕ) → is_end b ≡ true → is_after b ≡ true
end_after b is = grind arith

pub after_no_open : (b : ℕ) → is_after b ≡ true → b == 40 ≡ false
after_no_open b is = grind arith

pub after_no_word : (b : ℕ) → is_after b ≡ true → in_word b ≡ false
after_no_word b is = by (b == 32) (b == 44) (b == 41) (b == 59) refl refl refl refl is
  where
    at : (c : ℕ) → (b == c) ≡ true → in_word c ≡ false → in_word b ≡ false
    at c e outside = subst (λ (d : ℕ). in_word d ≡ false) (sym (eqb-true b c e)) outside

    by : (p q r s : Bool) → (b == 32) ≡ p → (b == 44) ≡ q → (b == 41) ≡ r → (b == 59) ≡ s → (p || (q || (r || s))) ≡ true → in_word b
        ≡ false
    by true q r s e f g h is = at 32 e refl
    by false true r s e f g h is = at 44 f refl
    by false false true s e f g h is = at 41 g refl
    by false false false true e f g h is = at 59 h refl
    by false false false false e f g h is = absurd (false≢true is)

begin_starts : (b : ℕ) → begins_name b ≡ true → starts b ≡ true
begin_starts b is = grind arith

digit_starts : (b : ℕ) → is_ascii_digit b ≡ true → starts b ≡ true
digit_starts b is = grind arith

start_expr : (b : ℕ) → starts b ≡ true → starts_expr b ≡ true
start_expr b is = grind arith

start_no_minus : (b : ℕ) → starts b ≡ true → b == 45 ≡ false
start_no_minus b is = grind arith

-- two texts with other bytes at a place
pub clash : {A : Type 0} (i : ℕ) (z y : Text) → slice_index z i == slice_index y i ≡ false → z ≡ y → A
clash i z y other same = absurd (false≢true (sym other ∙ eq-eqb (slice_index z i) (slice_index y i) (ap (λ l. slice_index l i) same)))

-- ---- signs and numbers
pub sign_splits : (f a b : Bool) (x y : Text) → Begins starts x → Begins starts y → sign_text f a ++ x ≡ sign_text f b ++ y → (a ≡ b)
    × (x ≡ y)
sign_splits true true true x y p q same = (refl, tails 45 45 x y same)
sign_splits true false false x y p q same = (refl, same)
sign_splits true true false x y p q same = differ (λ b. b == 45) (45 ∷ x) y refl (start_no_minus (slice_index y 0) q) same
sign_splits true false true x y p q same = differ (λ b. b == 45) (45 ∷ y) x refl (start_no_minus (slice_index x 0) p) (sym same)
sign_splits false true true x y p q same = (refl, append_cancel_left (codes " - ") x y same)
sign_splits false false false x y p q same = (refl, append_cancel_left (codes " + ") x y same)
sign_splits false true false x y p q same = clash 1 (codes " - " ++ x) (codes " + " ++ y) refl same
sign_splits false false true x y p q same = clash 1 (codes " + " ++ x) (codes " - " ++ y) refl same

sign_blank : (a : Bool) (x : Text) → slice_index (sign_text false a ++ x) 0 == 32 ≡ true
sign_blank true x = refl
sign_blank false x = refl

pub sign_first : (a : Bool) (x : Text) → Begins starts x → Begins starts_expr (sign_text true a ++ x)
sign_first true x p = refl
sign_first false x p = start_expr (slice_index x 0) p

pub times_splits : (m n : ℕ) (x y : Text) → m < 10 ^ 64 → n < 10 ^ 64 → Begins begins_name x → Begins begins_name y
    → times_text m ++ x ≡ times_text n ++ y → (m ≡ n) × (x ≡ y)
times_splits m n x y low high p q same = by (m == 1) (n == 1) refl refl same
  where
    by : (a b : Bool) → (m == 1) ≡ a → (n == 1) ≡ b
        → (if a then [] else decimal m ++ codes "*") ++ x ≡ (if b then [] else decimal n ++ codes "*") ++ y → (m ≡ n) × (x ≡ y)
    by true true d e same = (eqb-true m 1 d ∙ sym (eqb-true n 1 e), same)
    by true false d e same =
        differ is_ascii_digit (decimal n ++ (42 ∷ y)) x (decimal_first n (42 ∷ y) high) (begin_no_digit (slice_index x 0) p)
        (sym (append_assoc (decimal n) (codes "*") y) ∙ sym same)
    by false true d e same =
        differ is_ascii_digit (decimal m ++ (42 ∷ x)) y (decimal_first m (42 ∷ x) low) (begin_no_digit (slice_index y 0) q)
        (sym (append_assoc (decimal m) (codes "*") x) ∙ same)
    by false false d e same =
        let parts = decimals m n (42 ∷ x) (42 ∷ y) low high refl refl
        (sym (append_assoc (decimal m) (codes "*") x) ∙ same ∙ append_assoc (decimal n) (codes "*") y) in
        (parts.0, tails 42 42 x y parts.1)

pub times_first : (n : ℕ) (x : Text) → n < 10 ^ 64 → Begins begins_name x → Begins starts (times_text n ++ x)
times_first n x small p = by (n == 1)
  where
    by : (a : Bool) → Begins starts ((if a then [] else decimal n ++ codes "*") ++ x)
    by true = begin_starts (slice_index x 0) p
    by false =
        subst (Begins starts) (sym (append_assoc (decimal n) (codes "*") x))
        (digit_starts (slice_index (decimal n ++ (42 ∷ x)) 0) (decimal_first n (42 ∷ x) small))

-- a constant is no coefficient
no_times : {A : Type 0} (m n : ℕ) (z x : Text) → m < 10 ^ 64 → n < 10 ^ 64 → Begins is_end z → Begins begins_name x
    → decimal m ++ z ≡ times_text n ++ x → A
no_times {A} m n z x low high e p same = by (n == 1) same
  where
    by : (a : Bool) → decimal m ++ z ≡ (if a then [] else decimal n ++ codes "*") ++ x → A
    by true same = differ is_ascii_digit (decimal m ++ z) x (decimal_first m z low) (begin_no_digit (slice_index x 0) p) same
    by false same =
        let parts = decimals m n z (42 ∷ x) low high (end_no_digit (slice_index z 0) e) refl
        (same ∙ append_assoc (decimal n) (codes "*") x) in
        differ (λ b. b == 42) (42 ∷ x) z refl (end_no_times (slice_index z 0) e) (sym parts.1)

-- ---- constants
abbrev pub IsUnwritten : Bool → ℤ → Type 0
IsUnwritten f c = (f ≡ false) × (c ≡ pos 0) × (constant_text f c ≡ [])

abbrev pub IsWritten : Bool → ℤ → Type 0
IsWritten f c = constant_text f c ≡ sign_text f (int_lt c (pos 0)) ++ decimal (unsigned_abs c)

none_of : (c : ℤ) → unsigned_abs c ≡ 0 → c ≡ pos 0
none_of c is = grind arith

pub view : (f : Bool) (c : ℤ) → IsUnwritten f c ⊎ IsWritten f c
view f c = by f (unsigned_abs c == 0) refl
  where
    by : (f b : Bool) → (unsigned_abs c == 0) ≡ b → IsUnwritten f c ⊎ IsWritten f c
    by true true e = inr (ap (λ (q : Bool). if q && false then [] else sign_text true (int_lt c (pos 0)) ++ decimal (unsigned_abs c)) e)
    by true false e = inr (ap (λ (q : Bool). if q && false then [] else sign_text true (int_lt c (pos 0)) ++ decimal (unsigned_abs c)) e)
    by false true e = inl (
      refl,
      none_of c (eqb-true (unsigned_abs c) 0 e),
      ap (λ (q : Bool). if q && true then [] else sign_text false (int_lt c (pos 0)) ++ decimal (unsigned_abs c)) e,
    )
    by false false e = inr (ap (λ (q : Bool). if q && true then [] else sign_text false (int_lt c (pos 0)) ++ decimal (unsigned_abs c)) e)

pub written : (f : Bool) (c : ℤ) (z : Text) → IsWritten f c
    → constant_text f c ++ z ≡ sign_text f (int_lt c (pos 0)) ++ (decimal (unsigned_abs c) ++ z)
written f c z is = ap (λ t. t ++ z) is ∙ append_assoc (sign_text f (int_lt c (pos 0))) (decimal (unsigned_abs c)) z

pub number_first : (n : ℕ) (z : Text) → n < 10 ^ 64 → Begins starts (decimal n ++ z)
number_first n z small = digit_starts (slice_index (decimal n ++ z) 0) (decimal_first n z small)

-- an end is no sum that goes on
no_more : {A : Type 0} (a : Bool) (z x : Text) → Begins is_end z → z ≡ sign_text false a ++ x → A
no_more a z x e same = differ (λ b. b == 32) (sign_text false a ++ x) z (sign_blank a x) (end_no_blank (slice_index z 0) e) (sym same)

pub constant_splits : (f : Bool) (c d : ℤ) (z y : Text) → unsigned_abs c < 10 ^ 64 → unsigned_abs d < 10 ^ 64 → Begins is_end z
    → Begins is_end y
    → constant_text f c ++ z ≡ constant_text f d ++ y → (c ≡ d) × (z ≡ y)
constant_splits f c d z y low high p q same = by f (view f c) (view f d) same
  where
    by : (f : Bool) → IsUnwritten f c ⊎ IsWritten f c → IsUnwritten f d ⊎ IsWritten f d
        → constant_text f c ++ z ≡ constant_text f d ++ y → (c ≡ d) × (z ≡ y)
    by f (inl u) (inl v) same = (u.1 ∙ sym v.1, sym (ap (λ t. t ++ z) u.2) ∙ same ∙ ap (λ t. t ++ y) v.2)
    by true (inl u) (inr v) same = absurd (false≢true (sym u.0))
    by false (inl u) (inr v) same =
        no_more (int_lt d (pos 0)) z (decimal (unsigned_abs d) ++ y) p (sym (ap (λ t. t ++ z) u.2) ∙ same ∙ written false d y v)
    by true (inr u) (inl v) same = absurd (false≢true (sym v.0))
    by false (inr u) (inl v) same =
        no_more (int_lt c (pos 0)) y (decimal (unsigned_abs c) ++ z) q (sym (ap (λ t. t ++ y) v.2) ∙ sym same ∙ written false c z u)
    by f (inr u) (inr v) same =
        let signs = sign_splits f (int_lt c (pos 0)) (int_lt d (pos 0)) (decimal (unsigned_abs c) ++ z) (decimal (unsigned_abs d) ++ y)
        (number_first (unsigned_abs c) z low) (number_first (unsigned_abs d) y high) (sym (written f c z u) ∙ same ∙ written f d y v) in
        let parts = decimals (unsigned_abs c) (unsigned_abs d) z y low high (end_no_digit (slice_index z 0) p)
        (end_no_digit (slice_index y 0) q) signs.1 in
        (same_sign c d signs.0 parts.0, parts.1)

-- a constant ends the sum
pub no_summand : {A : Type 0} (f : Bool) (c x : ℤ) (z w : Text) → unsigned_abs c < 10 ^ 64 → unsigned_abs x < 10 ^ 64 → Begins is_end z
    → Begins begins_name w
    → constant_text f c ++ z ≡ sign_text f (int_lt x (pos 0)) ++ (times_text (unsigned_abs x) ++ w) → A
no_summand {A} f c x z w low high p q same = by f (view f c) same
  where
    by : (f : Bool) → IsUnwritten f c ⊎ IsWritten f c
        → constant_text f c ++ z ≡ sign_text f (int_lt x (pos 0)) ++ (times_text (unsigned_abs x) ++ w) → A
    by true (inl u) same = absurd (false≢true (sym u.0))
    by false (inl u) same = no_more (int_lt x (pos 0)) z (times_text (unsigned_abs x) ++ w) p (sym (ap (λ t. t ++ z) u.2) ∙ same)
    by f (inr u) same =
        let signs = sign_splits f (int_lt c (pos 0)) (int_lt x (pos 0)) (decimal (unsigned_abs c) ++ z) (times_text (unsigned_abs x) ++ w)
        (number_first (unsigned_abs c) z low) (times_first (unsigned_abs x) w high q) (sym (written f c z u) ∙ same) in
        no_times (unsigned_abs c) (unsigned_abs x) z w low high p q signs.1

pub five : (s t a r z : Text) → (((s ++ t) ++ a) ++ r) ++ z ≡ s ++ (t ++ (a ++ (r ++ z)))
five s t a r z = simp append_assoc

pub divided : (b c d k z : Text) → (((b ++ c) ++ d) ++ k) ++ z ≡ b ++ (c ++ (d ++ (k ++ z)))
divided b c d k z = simp append_assoc
