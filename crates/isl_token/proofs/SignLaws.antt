-- Signs are found by their first bytes, and words that are too short are in no table.
use Rattle.std.proofs.Common.{◌≡◌, ℕ, ◌≤◌, Bool, true, false, cond, List, [], ◌∷◌, ◌++◌, length, drop, slice_index, refl, sym, ap, subst}
use Rattle.std.proofs.Common.{◌∙◌, arith}
use Rattle.std.specs.Prelude.{max, eqb, nat_eq, ◌||◌}
use Rattle.std.specs.List.{list_any, list_all, starts_with}
use Rattle.std.specs.Str.{bytes_eq}
use Rattle.std.proofs.lemmas.Bool.{eqb-true, eq-eqb, false≢true, and_parts}
use Rattle.std.proofs.lemmas.Slice.Eq.{bytes_eq-Decides}
use Rattle.std.proofs.lemmas.Slice.Eq.{starts_is}
use Rattle.std.proofs.lemmas.Bool.Decides.{Decides-eqb}
use Rattle.std.proofs.lemmas.List.{length-append}
use Rattle.isl_token.specs.Token.{Text, is_kind, signs, sign_kind}
use Rattle.isl_token.specs.Lex.{longest, sign_len}
use Rattle.isl_token.proofs.Taking.{is_kind_true}
use Rattle.isl_token.specs.Signs.{sign_by}

eqb_sym : (a n : ℕ) → eqb a n ≡ false → eqb n a ≡ false
eqb_sym a n is = by_test (eqb n a) refl
  where
    by_test : (q : Bool) → eqb n a ≡ q → eqb n a ≡ false
    by_test true same = absurd (false≢true (sym is ∙ eq-eqb a n (sym (eqb-true n a same))))
    by_test false other = other

-- one byte, or another
split : (P : ℕ → Type 0) (a n : ℕ) → P n → (eqb a n ≡ false → eqb n a ≡ false → P a) → P a
split P a n same other = by_test (eqb a n) refl
  where
    by_test : (q : Bool) → eqb a n ≡ q → P a
    by_test true is = subst P (sym (eqb-true a n is)) same
    by_test false is = other is (eqb_sym a n is)

abbrev Is : Text → Type 0
Is z = (sign_by (slice_index z 0) (slice_index z 1) (slice_index z 2)).1 ≡ longest signs z

by_dash : (w : Text) → Is (45 ∷ w)
unfolding signs
by_dash [] = refl
by_dash (b ∷ []) = split (λ b. Is (45 ∷ b ∷ [])) b 62 refl (λ o p. rw (o, p) refl)
by_dash (b ∷ c ∷ v) =
    split (λ b. Is (45 ∷ b ∷ c ∷ v)) b 62
    (split (λ c. Is (45 ∷ 62 ∷ c ∷ v)) c 45 refl (λ o p. split (λ c. Is (45 ∷ 62 ∷ c ∷ v)) c 42 refl (λ q r. rw (o, p, q, r) refl)))
    (λ o p. rw (o, p) refl)

by_less : (w : Text) → Is (60 ∷ w)
unfolding signs
by_less [] = refl
by_less (b ∷ []) = split (λ b. Is (60 ∷ b ∷ [])) b 60 refl (λ o p. split (λ b. Is (60 ∷ b ∷ [])) b 61 refl (λ q r. rw (o, p, q, r) refl))
by_less (b ∷ c ∷ v) =
    split (λ b. Is (60 ∷ b ∷ c ∷ v)) b 60
    (split (λ c. Is (60 ∷ 60 ∷ c ∷ v)) c 61 refl (λ o p. rw (o, p) refl))
    (λ o p. split (λ b. Is (60 ∷ b ∷ c ∷ v)) b 61 refl (λ q r. rw (o, p, q, r) refl))

by_greater : (w : Text) → Is (62 ∷ w)
unfolding signs
by_greater [] = refl
by_greater (b ∷ []) = split (λ b. Is (62 ∷ b ∷ [])) b 62 refl (λ o p. split (λ b. Is (62 ∷ b ∷ [])) b 61 refl (λ q r. rw (o, p, q, r) refl))
by_greater (b ∷ c ∷ v) =
    split (λ b. Is (62 ∷ b ∷ c ∷ v)) b 62
    (split (λ c. Is (62 ∷ 62 ∷ c ∷ v)) c 61 refl (λ o p. rw (o, p) refl))
    (λ o p. split (λ b. Is (62 ∷ b ∷ c ∷ v)) b 61 refl (λ q r. rw (o, p, q, r) refl))

by_colon : (w : Text) → Is (58 ∷ w)
unfolding signs
by_colon [] = refl
by_colon (b ∷ v) = split (λ b. Is (58 ∷ b ∷ v)) b 61 refl (λ o p. rw (o, p) refl)

by_equal : (w : Text) → Is (61 ∷ w)
unfolding signs
by_equal [] = refl
by_equal (b ∷ v) = split (λ b. Is (61 ∷ b ∷ v)) b 61 refl (λ o p. rw (o, p) refl)

by_not : (w : Text) → Is (33 ∷ w)
unfolding signs
by_not [] = refl
by_not (b ∷ v) = split (λ b. Is (33 ∷ b ∷ v)) b 61 refl (λ o p. rw (o, p) refl)

by_and : (w : Text) → Is (38 ∷ w)
unfolding signs
by_and [] = refl
by_and (b ∷ v) = split (λ b. Is (38 ∷ b ∷ v)) b 38 refl (λ o p. rw (o, p) refl)

by_or : (w : Text) → Is (124 ∷ w)
unfolding signs
by_or [] = refl
by_or (b ∷ v) = split (λ b. Is (124 ∷ b ∷ v)) b 124 refl (λ o p. rw (o, p) refl)

by_power : (w : Text) → Is (94 ∷ w)
unfolding signs
by_power [] = refl
by_power (b ∷ []) = split (λ b. Is (94 ∷ b ∷ [])) b 45 refl (λ o p. rw (o, p) refl)
by_power (b ∷ c ∷ v) =
    split (λ b. Is (94 ∷ b ∷ c ∷ v)) b 45
    (split (λ c. Is (94 ∷ 45 ∷ c ∷ v)) c 49 refl (λ o p. rw (o, p) refl))
    (λ o p. rw (o, p) refl)

-- the sign that the first bytes tell is the longest
pub first_bytes : (z : Text) → (sign_by (slice_index z 0) (slice_index z 1) (slice_index z 2)).1 ≡ sign_len z
unfolding signs
first_bytes [] = refl
first_bytes (a ∷ w) =
    let P : ℕ → Type 0 = λ a. Is (a ∷ w) in
    split P a 45 (by_dash w) (λ o45 p45. split P a 60 (by_less w)
    (λ o60 p60. split P a 62 (by_greater w) (λ o62 p62. split P a 58 (by_colon w) (λ o58 p58. split P a 61 (by_equal w) (λ o61 p61.
    split P a 33 (by_not w) (λ o33 p33. split P a 38 (by_and w)
    (λ o38 p38. split P a 124 (by_or w) (λ o124 p124. split P a 94 (by_power w) (λ o94 p94. split P a 44 refl (λ o44 p44.
    split P a 59 refl (λ o59 p59. split P a 40 refl
    (λ o40 p40. split P a 41 refl (λ o41 p41. split P a 91 refl (λ o91 p91. split P a 93 refl (λ o93 p93.
    split P a 123 refl (λ o123 p123. split P a 125 refl
    (λ o125 p125. split P a 43 refl (λ o43 p43. split P a 42 refl (λ o42 p42. split P a 46 refl (λ o46 p46.
    split P a 47 refl (λ o47 p47. split P a 37 refl (λ o37 p37.
    rw (
      o45,
      p45,
      o60,
      p60,
      o62,
      p62,
      o58,
      p58,
      o61,
      p61,
      o33,
      p33,
      o38,
      p38,
      o124,
      p124,
      o94,
      p94,
      o44,
      p44,
      o59,
      p59,
      o40,
      p40,
      o41,
      p41,
      o91,
      p91,
      o93,
      p93,
      o123,
      p123,
      o125,
      p125,
      o43,
      p43,
      o42,
      p42,
      o46,
      p46,
      o47,
      p47,
      o37,
      p37,
    ) refl))))))))))))))))))))))

pub longest_within : (ss : List Text) (z : Text) → longest ss z ≤ length z
longest_within [] z = omega arith
longest_within (s ∷ ss) z = by_test (starts_with nat_eq z s) refl (longest_within ss z)
  where
    by_test : (q : Bool) → starts_with nat_eq z s ≡ q → longest ss z ≤ length z → max (cond q (length s) 0) (longest ss z) ≤ length z
    by_test true is rest =
        let whole : z ≡ s ++ drop (length s) z = (starts_is Decides-eqb z s _ refl).0 is in
        omega (arith, ap length whole, length-append s (drop (length s) z), rest)
    by_test false is rest = omega (arith, rest)

pub sign_within : (z : Text) (n : ℕ) → n ≡ sign_len z → n ≤ length z
sign_within z n is = rw is (longest_within signs z)

-- ---- kinds

-- the first bytes of a sign tell its kind
told : Text → Bool
told text = is_kind (sign_kind text) (sign_by (slice_index text 0) (slice_index text 1) (slice_index text 2)).0

all_told : list_all told signs ≡ true
unfolding told signs sign_kind
all_told = refl

each_told : (ss : List Text) (text : Text) → list_all told ss ≡ true → list_any (bytes_eq text) ss ≡ true → told text ≡ true
each_told [] text all one = absurd (false≢true one)
each_told (s ∷ ss) text all one = by_test (bytes_eq text s) refl one
    (λ rest. each_told ss text (and_parts (told s) (list_all told ss) all).1 rest)
  where
    by_test : (q : Bool) → bytes_eq text s ≡ q → (q || list_any (bytes_eq text) ss) ≡ true
        → (list_any (bytes_eq text) ss ≡ true → told text ≡ true) → told text ≡ true
    by_test true is one rest = subst (λ (t : Text). told t ≡ true) (sym ((bytes_eq-Decides text s).0 is))
        (and_parts (told s) (list_all told ss) all).0
    by_test false is one rest = rest one

pub kind_told : (text : Text) → list_any (bytes_eq text) signs ≡ true
    → (sign_by (slice_index text 0) (slice_index text 1) (slice_index text 2)).0 ≡ sign_kind text
unfolding told
kind_told text one = sym (is_kind_true (sign_kind text) (sign_by (slice_index text 0) (slice_index text 1) (slice_index text 2)).0
    (each_told signs text all_told one))
