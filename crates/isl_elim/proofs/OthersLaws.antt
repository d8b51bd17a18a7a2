-- The other columns, once one was taken out, and points without them.
use Rattle.std.proofs.Common.{◌≡◌, ◌≢◌, ◌⊎◌, inl, inr, ◌∙◌, refl, sym, ap, arith, Bool, true, false, cond, ℕ, zero, suc, ◌+◌, ◌-◌, ◌<◌, ◌≤◌, ℤ, List, [], ◌∷◌, ◌++◌, length, get_or, take}
use Rattle.std.specs.Prelude.{nat_eq, nat_lt, ◌||◌, AllPairs}
use Rattle.std.specs.List.{All, insert, list_any}
use Rattle.std.proofs.lemmas.List.{take_more, append-nil}
use Rattle.std.proofs.lemmas.List.Elements.{All-nil, All-cons, All-head, All-tail}
use Rattle.std.proofs.lemmas.List.Kept.{AllPairs-cons}
use Rattle.isl_elim.specs.Elimination.{without_from, without}
use Rattle.isl_elim.specs.Others.{lowered, others_of}

-- the column is one of these
abbrev pub among : ℕ → List ℕ → Bool
among i cols = list_any (λ c. nat_eq c i) cols

order : (a b : ℕ) → (a ≡ b) ⊎ ((a < b) ⊎ (b < a))
order a b = grind arith

same_test : (a i b j : ℕ) → (a ≡ i → b ≡ j) → (b ≡ j → a ≡ i) → nat_eq a i ≡ nat_eq b j
same_test a i b j f g = elim (order a i) [
  | inl e ↦ let h = f e in let t : nat_eq a i ≡ true = grind arith in let u : nat_eq b j ≡ true = grind arith in t ∙ sym u
  | inr n ↦
      let no : b ≢ j = λ h. let e = g h in elim n [ inl l ↦ absurd (omega (arith, e, l)) | inr l ↦ absurd (omega (arith, e, l)) ] in
      let t : nat_eq a i ≡ false = elim n [ inl l ↦ grind arith | inr l ↦ grind arith ] in
      let u : nat_eq b j ≡ false = grind arith in
      t ∙ sym u
]

-- ---- where a column stands then
lowered_below : (col c : ℕ) → c < col → lowered col c ≡ c
lowered_below col c l = let m : nat_lt col c ≡ false = grind arith in rw m refl

lowered_above : (col c : ℕ) → col < c → lowered col c ≡ c - 1
lowered_above col c l = let m : nat_lt col c ≡ true = grind arith in rw m refl

-- a column other than this one, by its side
by_side : (P : Type 0) (col c : ℕ) → c ≢ col → (c < col → P) → (col < c → P) → P
by_side P col c n f g = elim (order c col) [ inl e ↦ absurd (n e) | inr s ↦ elim s [ inl l ↦ f l | inr l ↦ g l ] ]

pub others_same : (col c : ℕ) (cols : List ℕ) → c ≡ col → others_of col (c ∷ cols) ≡ others_of col cols
others_same col c cols e = let m : nat_eq c col ≡ true = grind arith in rw m refl

others_other : (col c : ℕ) (cols : List ℕ) → c ≢ col → others_of col (c ∷ cols) ≡ lowered col c ∷ others_of col cols
others_other col c cols n = let m : nat_eq c col ≡ false = grind arith in rw m refl

dec : (a b : ℕ) → (a ≡ b) ⊎ (a ≢ b)
dec a b = elim (order a b) [ inl e ↦ inl e | inr s ↦ inr (λ e. elim s [ inl l ↦ omega (arith, e, l) | inr l ↦ omega (arith, e, l) ]) ]

-- ---- which columns those are
among_before : (col i : ℕ) (cols : List ℕ) → i < col → among i (others_of col cols) ≡ among i cols
among_before col i [] l = refl
among_before col i (c ∷ cols) l =
    let rest = among_before col i cols l in
    elim (dec c col) [
      | inl e ↦ let no : nat_eq c i ≡ false = grind arith in rw (others_same col c cols e, no) rest
      | inr n ↦
          let test = same_test (lowered col c) i c i
          (λ h. by_side (c ≡ i) col c n (λ s. sym (lowered_below col c s) ∙ h) (λ s. let m = lowered_above col c s in absurd (omega (arith, h, m, s, l))))
          (λ h. by_side (lowered col c ≡ i) col c n (λ s. lowered_below col c s ∙ h) (λ s. absurd (omega (arith, h, s, l)))) in
          rw (others_other col c cols n, test, rest) refl
    ]

among_after : (col i : ℕ) (cols : List ℕ) → col ≤ i → among i (others_of col cols) ≡ among (suc i) cols
among_after col i [] l = refl
among_after col i (c ∷ cols) l =
    let rest = among_after col i cols l in
    elim (dec c col) [
      | inl e ↦ let no : nat_eq c (suc i) ≡ false = grind arith in rw (others_same col c cols e, no) rest
      | inr n ↦
          let test = same_test (lowered col c) i c (suc i)
          (λ h. by_side (c ≡ suc i) col c n (λ s. let m = lowered_below col c s in absurd (omega (arith, h, m, s, l))) (λ s. let m = lowered_above col c s in omega (arith, h, m, s)))
          (λ h. by_side (lowered col c ≡ i) col c n (λ s. absurd (omega (arith, h, s, l))) (λ s. let m = lowered_above col c s in omega (arith, h, m, s))) in
          rw (others_other col c cols n, test, rest) refl
    ]

-- ---- a point without them
shifted : (i : ℕ) (cols others : List ℕ) (xs : List ℤ) → ((j : ℕ) → i ≤ j → among j others ≡ among (suc j) cols) → without_from (suc i) cols xs ≡ without_from i others xs
shifted i cols others [] f = refl
shifted i cols others (x ∷ xs) f =
    let rest = shifted (suc i) cols others xs (λ j l. f j (omega arith)) in
    let here = f i (omega arith) in
    rw (here, rest) refl

without_inserted : (i col : ℕ) (cols others : List ℕ) (xs : List ℤ) (x : ℤ) → among (i + col) cols ≡ true → ((j : ℕ) → j < i + col → among j others ≡ among j cols) → ((j : ℕ) → i + col ≤ j → among j others ≡ among (suc j) cols)
    → col ≤ length xs → without_from i cols (insert xs col x) ≡ without_from i others xs
without_inserted i zero cols others xs x a f g l =
    let here : among i cols ≡ true = ap (λ (j : ℕ). among j cols) (omega arith) ∙ a in
    first xs ∙ (rw here (shifted i cols others xs (λ j m. g j (omega arith))))
  where
    first : (ys : List ℤ) → without_from i cols (insert ys zero x) ≡ cond (among i cols) (without_from (suc i) cols ys) (x ∷ without_from (suc i) cols ys)
    first [] = refl
    first (y ∷ ys) = refl
without_inserted i (suc col) cols others [] x a f g l = absurd (omega arith)
without_inserted i (suc col) cols others (y ∷ xs) x a f g l =
    let rest = without_inserted (suc i) col cols others xs x (ap (λ (j : ℕ). among j cols) (omega arith) ∙ a) (λ j m. f j (omega arith)) (λ j m. g j (omega arith)) (omega arith) in
    let here = f i (omega arith) in
    rw (here, rest) refl

pub without_insert : (cols : List ℕ) (col : ℕ) (xs : List ℤ) (x : ℤ) → among col cols ≡ true → col ≤ length xs → without cols (insert xs col x) ≡ without (others_of col cols) xs
without_insert cols col xs x a l = without_inserted 0 col cols (others_of col cols) xs x (ap (λ (j : ℕ). among j cols) (omega arith) ∙ a) (λ j m. among_before col j cols (omega arith)) (λ j m. among_after col j cols (omega arith)) l

-- nothing is left out where there is no column
pub without_none : (i : ℕ) (xs : List ℤ) → without_from i [] xs ≡ xs
without_none i [] = refl
without_none i (x ∷ xs) = ap (λ (ys : List ℤ). x ∷ ys) (without_none (suc i) xs)

-- ---- how many there are
pub not_among : (c : ℕ) (cols : List ℕ) → All (λ d. c ≢ d) cols → among c cols ≡ false
not_among c [] h = refl
not_among c (d ∷ cols) h =
    let rest = not_among c cols (All-tail (λ d. c ≢ d) d cols h) in
    let n = All-head (λ d. c ≢ d) d cols h in
    let no : nat_eq d c ≡ false = grind arith in
    rw (no, rest) refl

absent : (col : ℕ) (cols : List ℕ) → among col cols ≡ false → length (others_of col cols) ≡ length cols
absent col [] a = refl
absent col (c ∷ cols) a = elim (dec c col) [
  | inl e ↦ let yes : nat_eq c col ≡ true = grind arith in absurd (true-false (sym (rw yes at a)))
  | inr n ↦ let no : nat_eq c col ≡ false = grind arith in let rest = absent col cols (rw no at a) in rw (others_other col c cols n) (ap suc rest)
]
  where
    true-false : false ≡ true → ⊥
    true-false e = grind arith

pub others_count : (col : ℕ) (cols : List ℕ) → AllPairs (λ a b. a ≢ b) cols → among col cols ≡ true → length (others_of col cols) + 1 ≡ length cols
others_count col [] d a = grind arith
others_count col (c ∷ cols) d a = elim (dec c col) [
  | inl e ↦
      let apart : All (λ x. c ≢ x) cols = λ k z i. d 0 (suc k) z (omega arith) (omega arith) in
      let no = rw e at (not_among c cols apart) in
      let n = absent col cols no in
      rw (others_same col c cols e) (omega (arith, n))
  | inr n ↦
      let no : nat_eq c col ≡ false = grind arith in
      let rest = others_count col cols (λ i j z l m. d (suc i) (suc j) z (omega arith) (omega arith)) (rw no at a) in
      rw (others_other col c cols n) (omega (arith, rest))
]

-- ---- they differ, and are columns
apart_lowered : (col c d : ℕ) → c ≢ col → d ≢ col → c ≢ d → lowered col c ≢ lowered col d
apart_lowered col c d n m h = λ e. by_side ⊥ col c n
    (λ s. by_side ⊥ col d m (λ t. h (sym (lowered_below col c s) ∙ e ∙ lowered_below col d t)) (λ t. let p = lowered_below col c s in let q = lowered_above col d t in omega (arith, e, p, q, s, t)))
    (λ s. by_side ⊥ col d m (λ t. let p = lowered_above col c s in let q = lowered_below col d t in omega (arith, e, p, q, s, t)) (λ t. let p = lowered_above col c s in let q = lowered_above col d t in h (omega (arith, e, p, q, s, t))))

apart_others : (col c : ℕ) (cols : List ℕ) → c ≢ col → All (λ d. c ≢ d) cols → All (λ d. lowered col c ≢ d) (others_of col cols)
apart_others col c [] n h = All-nil (λ d. lowered col c ≢ d)
apart_others col c (d ∷ cols) n h =
    let rest = apart_others col c cols n (All-tail (λ d. c ≢ d) d cols h) in
    elim (dec d col) [
      | inl e ↦ rw (others_same col d cols e) rest
      | inr m ↦ rw (others_other col d cols m) (All-cons (λ d. lowered col c ≢ d) (lowered col d) (others_of col cols) (apart_lowered col c d n m (All-head (λ d. c ≢ d) d cols h)) rest)
    ]

pub others_distinct : (col : ℕ) (cols : List ℕ) → AllPairs (λ a b. a ≢ b) cols → AllPairs (λ a b. a ≢ b) (others_of col cols)
others_distinct col [] d = d
others_distinct col (c ∷ cols) d =
    let apart : All (λ x. c ≢ x) cols = λ k z i. d 0 (suc k) z (omega arith) (omega arith) in
    let rest = others_distinct col cols (λ i j z l m. d (suc i) (suc j) z (omega arith) (omega arith)) in
    elim (dec c col) [
      | inl e ↦ rw (others_same col c cols e) rest
      | inr n ↦ rw (others_other col c cols n) (AllPairs-cons (λ a b. a ≢ b) (lowered col c) (others_of col cols) (apart_others col c cols n apart) rest)
    ]

lowered_inside : (n col c : ℕ) → c ≢ col → c < n → col < n → lowered col c < n - 1
lowered_inside n col c m i j = by_side (lowered col c < n - 1) col c m (λ s. let p = lowered_below col c s in omega (arith, p, s, j)) (λ s. let p = lowered_above col c s in omega (arith, p, s, i))

pub others_inside : (n col : ℕ) (cols : List ℕ) → col < n → All (λ c. c < n) cols → All (λ c. c < n - 1) (others_of col cols)
others_inside n col [] j h = All-nil (λ c. c < n - 1)
others_inside n col (c ∷ cols) j h =
    let rest = others_inside n col cols j (All-tail (λ c. c < n) c cols h) in
    elim (dec c col) [
      | inl e ↦ rw (others_same col c cols e) rest
      | inr m ↦ rw (others_other col c cols m) (All-cons (λ c. c < n - 1) (lowered col c) (others_of col cols) (lowered_inside n col c m (All-head (λ c. c < n) c cols h) j) rest)
    ]

-- ---- a column of the list
pub among_at : (cols : List ℕ) (i : ℕ) → i < length cols → among (get_or cols i 0) cols ≡ true
among_at [] i l = absurd (omega arith)
among_at (c ∷ cols) zero l = let yes : nat_eq c c ≡ true = grind arith in rw yes refl
among_at (c ∷ cols) (suc i) l = let rest = among_at cols i (omega arith) in rw rest (by (nat_eq c (get_or cols i 0)))
  where
    by : (a : Bool) → (a || true) ≡ true
    by true = refl
    by false = refl

-- ---- one more
others_append : (col : ℕ) (xs : List ℕ) (c : ℕ) → others_of col (xs ++ c ∷ []) ≡ others_of col xs ++ others_of col (c ∷ [])
others_append col [] c = refl
others_append col (x ∷ xs) c =
    let rest = others_append col xs c in
    elim (dec x col) [
      | inl e ↦ rw (others_same col x (xs ++ c ∷ []) e, others_same col x xs e) rest
      | inr n ↦ rw (others_other col x (xs ++ c ∷ []) n, others_other col x xs n, rest) refl
    ]

pub others_below : (col : ℕ) (cols : List ℕ) (i : ℕ) → i < length cols → get_or cols i 0 < col → others_of col (take (i + 1) cols) ≡ others_of col (take i cols) ++ get_or cols i 0 ∷ []
others_below col cols i l s =
    let c = get_or cols i 0 in
    let one = others_other col c [] (λ e. omega (arith, e, s)) in
    rw (take_more cols i 0 l, others_append col (take i cols) c, one, lowered_below col c s) refl

pub others_above : (col : ℕ) (cols : List ℕ) (i : ℕ) → i < length cols → col < get_or cols i 0 → others_of col (take (i + 1) cols) ≡ others_of col (take i cols) ++ (get_or cols i 0 - 1) ∷ []
others_above col cols i l s =
    let c = get_or cols i 0 in
    let one = others_other col c [] (λ e. omega (arith, e, s)) in
    rw (take_more cols i 0 l, others_append col (take i cols) c, one, lowered_above col c s) refl

pub others_at : (col : ℕ) (cols : List ℕ) (i : ℕ) → i < length cols → get_or cols i 0 ≡ col → others_of col (take (i + 1) cols) ≡ others_of col (take i cols)
others_at col cols i l s =
    let c = get_or cols i 0 in
    rw (take_more cols i 0 l, others_append col (take i cols) c, others_same col c [] s) (append-nil (others_of col (take i cols)))

pub ruleset others_steps = (others_below, others_above, others_at)
