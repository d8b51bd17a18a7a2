-- Lists of coefficients that compare two columns: their negatives, sums in which a column cancels, and what is left without a column.
use Rattle.std.proofs.Common.{◌≡◌, ◌≢◌, ◌⊎◌, inl, inr, refl, sym, ap, ◌∙◌, arith}
use Rattle.std.proofs.Common.{ℕ, zero, suc, ◌+◌, ◌-◌, ◌<◌, ◌≤◌, ℤ, pos, negsuc, neg_ℤ, ◌<ℤ◌, ◌+ℤ◌, ◌-ℤ◌, ◌*ℤ◌, unsigned_abs}
use Rattle.std.proofs.Common.{List, [], ◌∷◌, length, get_or, Bool, true, false, if◌then◌else◌, nat_eq}
use Rattle.std.specs.List.{remove}
use Rattle.std.proofs.lemmas.List.{ext_get_or}
use Rattle.std.proofs.lemmas.List.Edits.{length-remove, get_or-remove_below, get_or-remove_above}
use Rattle.isl_math.specs.Dot.{scaled, weighted_sum}
use Rattle.isl_math.proofs.ColumnLaws.{length-weighted_sum, get_or-weighted_sum}
use Rattle.isl_math.proofs.Ring.{linear}
use Rattle.isl_ledger.specs.Difference.{one_at, IsComparison}

-- ---- one column
pub one_here : (i k : ℕ) → k ≡ i → one_at i k ≡ pos 1
one_here i k e = by (nat_eq k i) (λ f. grind arith)
  where
    by : (b : Bool) → (b ≡ false → ⊥) → (if b then pos 1 else pos 0) ≡ pos 1
    by true n = refl
    by false n = absurd (n refl)

pub one_apart : (i k : ℕ) → k ≢ i → one_at i k ≡ pos 0
one_apart i k n = by (nat_eq k i) (λ f. grind arith)
  where
    by : (b : Bool) → (b ≡ true → ⊥) → (if b then pos 1 else pos 0) ≡ pos 0
    by true m = absurd (m refl)
    by false m = refl

same_or_apart : (i k : ℕ) → (k ≡ i) ⊎ (k ≢ i)
same_or_apart i k = grind arith

pub one_cases : (i k : ℕ) → ((k ≡ i) × (one_at i k ≡ pos 1)) ⊎ ((k ≢ i) × (one_at i k ≡ pos 0))
one_cases i k = elim (same_or_apart i k) [ inl e ↦ inl (e, one_here i k e) | inr n ↦ inr (n, one_apart i k n) ]

-- columns that are at the same places among so many have the same coefficients there
pub one_same : (i j k : ℕ) → ((k ≡ i) → (k ≡ j)) → ((k ≡ j) → (k ≡ i)) → one_at i k ≡ one_at j k
one_same i j k forth back = elim (one_cases i k) [
  | inl a ↦ a.1 ∙ sym (one_here j k (forth a.0))
  | inr a ↦ a.1 ∙ sym (one_apart j k (λ e. a.0 (back e)))
]

-- ---- the coefficient at a column
-- it is 1 at the first, -1 at the second, and 0 elsewhere
pub coefficient_cases : (cs : List ℤ) (i j x : ℕ) → IsComparison cs i j → x < length cs
    → ((x ≡ i) × (get_or cs x (pos 0) ≡ pos 1)) ⊎ (((x ≡ j) × (get_or cs x (pos 0) ≡ negsuc 0)) ⊎ (get_or cs x (pos 0) ≡ pos 0))
coefficient_cases cs i j x is inside = let e = is.at x inside in elim (one_cases i x) [
  | inl a ↦ elim (one_cases j x) [
    | inl b ↦ inr (inr (let u = a.1 in let v = b.1 in omega (arith, linear)))
    | inr b ↦ inl (a.0, (let u = a.1 in let v = b.1 in omega (arith, linear)))
  ]
  | inr a ↦ elim (one_cases j x) [
    | inl b ↦ inr (inl (b.0, (let u = a.1 in let v = b.1 in omega (arith, linear))))
    | inr b ↦ inr (inr (let u = a.1 in let v = b.1 in omega (arith, linear)))
  ]
]

pub coefficient_small : (cs : List ℤ) (i j x : ℕ) → IsComparison cs i j → x < length cs → unsigned_abs (get_or cs x (pos 0)) ≤ 1
coefficient_small cs i j x is inside = elim (coefficient_cases cs i j x is inside) [
  | inl a ↦ let e = a.1 in omega (arith, linear)
  | inr b ↦ elim b [ inl a ↦ let e = a.1 in omega (arith, linear) | inr e ↦ omega (arith, linear) ]
]

pub lower_first : (cs : List ℤ) (i j x : ℕ) → IsComparison cs i j → x < length cs → pos 0 <ℤ get_or cs x (pos 0) → x ≡ i
lower_first cs i j x is inside large = elim (coefficient_cases cs i j x is inside) [
  | inl a ↦ a.0
  | inr b ↦ elim b [ inl a ↦ absurd (let e = a.1 in omega (arith, linear)) | inr e ↦ absurd (omega (arith, linear)) ]
]

pub upper_second : (cs : List ℤ) (i j x : ℕ) → IsComparison cs i j → x < length cs → get_or cs x (pos 0) <ℤ pos 0 → x ≡ j
upper_second cs i j x is inside low = elim (coefficient_cases cs i j x is inside) [
  | inl a ↦ absurd (let e = a.1 in omega (arith, linear))
  | inr b ↦ elim b [ inl a ↦ a.0 | inr e ↦ absurd (omega (arith, linear)) ]
]

-- lists that compare the same columns are the same
pub same_comparison : (xs ys : List ℤ) (i j : ℕ) → IsComparison xs i j → IsComparison ys i j → length xs ≡ length ys → xs ≡ ys
same_comparison xs ys i j p q long = ext_get_or (pos 0) xs ys long (λ k l. p.at k l ∙ sym (q.at k (omega (arith, l, long))))

-- ---- times 1, 0 or -1
pub get_or-scaled : (s : ℤ) (xs : List ℤ) (k : ℕ) → get_or (scaled s xs) k (pos 0) ≡ s *ℤ get_or xs k (pos 0)
get_or-scaled s [] k = omega (arith, linear)
get_or-scaled s (x ∷ xs) zero = refl
get_or-scaled s (x ∷ xs) (suc k) = get_or-scaled s xs k

length-scaled : (s : ℤ) (xs : List ℤ) → length (scaled s xs) ≡ length xs
length-scaled s [] = refl
length-scaled s (x ∷ xs) = omega (arith, length-scaled s xs)

pub comparison_opposite : (cs : List ℤ) (i j : ℕ) → IsComparison cs i j → IsComparison (scaled (negsuc 0) cs) j i
comparison_opposite cs i j is = record {
  at = λ k l.
      let e = is.at k (omega (arith, length-scaled (negsuc 0) cs)) in
      let f = get_or-scaled (negsuc 0) cs k in
      omega (arith, linear);
}

pub comparison_itself : (cs : List ℤ) (i j : ℕ) → IsComparison cs i j → IsComparison (scaled (pos 1) cs) i j
comparison_itself cs i j is = record {
  at = λ k l.
      let e = is.at k (omega (arith, length-scaled (pos 1) cs)) in
      let f = get_or-scaled (pos 1) cs k in
      omega (arith, linear);
}

pub comparison_zero : (cs : List ℤ) → IsComparison (scaled (pos 0) cs) 0 0
comparison_zero cs = record { at = λ k l. let f = get_or-scaled (pos 0) cs k in omega (arith, linear) }

-- ---- a sum in which a column cancels
-- m times a list and n times another one, with the numbers that these are
compares_sum : (xs ys : List ℤ) (m n s t : ℤ) (k l : ℕ) → length xs ≡ length ys → m ≡ s → n ≡ t
    → ((c : ℕ) → c < length xs → s *ℤ get_or xs c (pos 0) +ℤ t *ℤ get_or ys c (pos 0) ≡ one_at k c -ℤ one_at l c)
    → IsComparison (weighted_sum m xs n ys) k l
compares_sum xs ys m n s t k l long e f at = rw (e, f) (record {
  at = λ c inside.
      let within : c < length xs = omega (arith, length-weighted_sum s xs t ys long) in
      get_or-weighted_sum s xs t ys c long within ∙ at c within;
})

-- two lists that compare columns, and what is left of their sum where both have the column x, or the first has it not
module _ (xs ys : List ℤ) (i j p q x : ℕ) (first : IsComparison xs i j) (second : IsComparison ys p q) (long : length xs ≡ length ys) where
  abbrev pub Adds : ℤ → ℕ → ℕ → Type 0
  Adds t k l = (c : ℕ) → c < length xs → pos 1 *ℤ get_or xs c (pos 0) +ℤ t *ℤ get_or ys c (pos 0) ≡ one_at k c -ℤ one_at l c

  adds_none : Adds (pos 0) i j
  adds_none c l = let e = first.at c l in omega (arith, linear)

  adds_firsts : x ≡ i → x ≡ p → Adds (negsuc 0) q j
  adds_firsts u v c l =
      let e = first.at c l in
      let f = second.at c (omega (arith, l, long)) in
      let same : one_at i c ≡ one_at p c = ap (λ w. one_at w c) (sym u ∙ v) in
      omega (arith, linear)

  adds_second_first : x ≡ j → x ≡ p → Adds (pos 1) i q
  adds_second_first u v c l =
      let e = first.at c l in
      let f = second.at c (omega (arith, l, long)) in
      let same : one_at j c ≡ one_at p c = ap (λ w. one_at w c) (sym u ∙ v) in
      omega (arith, linear)

  adds_first_second : x ≡ i → x ≡ q → Adds (pos 1) p j
  adds_first_second u v c l =
      let e = first.at c l in
      let f = second.at c (omega (arith, l, long)) in
      let same : one_at i c ≡ one_at q c = ap (λ w. one_at w c) (sym u ∙ v) in
      omega (arith, linear)

  adds_seconds : x ≡ j → x ≡ q → Adds (negsuc 0) i p
  adds_seconds u v c l =
      let e = first.at c l in
      let f = second.at c (omega (arith, l, long)) in
      let same : one_at j c ≡ one_at q c = ap (λ w. one_at w c) (sym u ∙ v) in
      omega (arith, linear)

-- how often the second list is taken, where its coefficient is 1, or -1
taken_first : (m n u v w : ℤ) → m ≡ pos 1 → u ≡ w → v ≡ pos 1 → m *ℤ u +ℤ n *ℤ v ≡ pos 0 → n ≡ neg_ℤ w
taken_first m n u v w e f g cancels = let c = rw (e, f, g) at cancels in omega (arith, linear)

taken_second : (m n u v w : ℤ) → m ≡ pos 1 → u ≡ w → v ≡ negsuc 0 → m *ℤ u +ℤ n *ℤ v ≡ pos 0 → n ≡ w
taken_second m n u v w e f g cancels = let c = rw (e, f, g) at cancels in omega (arith, linear)

-- a list, and another one in which the column x occurs, make one that compares two columns, where x cancels
pub comparison_cancelled : (xs ys : List ℤ) (i j p q x : ℕ) (m n : ℤ) → IsComparison xs i j → IsComparison ys p q → length xs ≡ length ys
    → x < length xs → get_or ys x (pos 0) ≢ pos 0 → m ≡ pos 1 → m *ℤ get_or xs x (pos 0) +ℤ n *ℤ get_or ys x (pos 0) ≡ pos 0
    → (k : ℕ) × (l : ℕ) × IsComparison (weighted_sum m xs n ys) k l
comparison_cancelled xs ys i j p q x m n first second long inside there one cancels =
    elim (coefficient_cases ys p q x second (omega arith)) [
      | inl b ↦ elim (coefficient_cases xs i j x first inside) [
        | inl a ↦ sum (negsuc 0) q j (with_first (pos 1) a.1 b.1) (adds_firsts xs ys i j p q x first second long a.0 b.0)
        | inr c ↦ elim c [
          | inl a ↦ sum (pos 1) i q (with_first (negsuc 0) a.1 b.1) (adds_second_first xs ys i j p q x first second long a.0 b.0)
          | inr a ↦ sum (pos 0) i j (with_first (pos 0) a b.1) (adds_none xs ys i j p q x first second long)
        ]
      ]
      | inr d ↦ elim d [
        | inl b ↦ elim (coefficient_cases xs i j x first inside) [
          | inl a ↦ sum (pos 1) p j (with_second (pos 1) a.1 b.1) (adds_first_second xs ys i j p q x first second long a.0 b.0)
          | inr c ↦ elim c [
            | inl a ↦ sum (negsuc 0) i p (with_second (negsuc 0) a.1 b.1) (adds_seconds xs ys i j p q x first second long a.0 b.0)
            | inr a ↦ sum (pos 0) i j (with_second (pos 0) a b.1) (adds_none xs ys i j p q x first second long)
          ]
        ]
        | inr b ↦ absurd (there b)
      ]
    ]
  where
    sum : (t : ℤ) (k l : ℕ) → n ≡ t → Adds xs ys i j p q x first second long t k l
        → (k : ℕ) × (l : ℕ) × IsComparison (weighted_sum m xs n ys) k l
    sum t k l e adds = (k, l, compares_sum xs ys m n (pos 1) t k l long one e adds)

    with_first : (w : ℤ) → get_or xs x (pos 0) ≡ w → get_or ys x (pos 0) ≡ pos 1 → n ≡ neg_ℤ w
    with_first w f g = taken_first m n (get_or xs x (pos 0)) (get_or ys x (pos 0)) w one f g cancels

    with_second : (w : ℤ) → get_or xs x (pos 0) ≡ w → get_or ys x (pos 0) ≡ negsuc 0 → n ≡ w
    with_second w f g = taken_second m n (get_or xs x (pos 0)) (get_or ys x (pos 0)) w one f g cancels

-- ---- without a column
-- where a column stands among those that are left: those behind move down by one, and the column itself goes behind all
one_left : (n col i : ℕ) → (k : ℕ) × ((c : ℕ) → c + 1 < n → (c < col → one_at i c ≡ one_at k c) × (col ≤ c → one_at i (c + 1) ≡ one_at k c))
one_left n col i = elim (cases_place) [
  | inl below ↦ (i, λ c l. ((λ low. refl), (λ high. one_apart i (c + 1) (λ e. omega arith) ∙ sym (one_apart i c (λ e. omega arith)))))
  | inr rest ↦ elim rest [
    | inl here ↦ (
      n,
      λ c l. (
        (λ low. one_apart i c (λ e. omega arith) ∙ sym (one_apart n c (λ e. omega arith))),
        (λ high. one_apart i (c + 1) (λ e. omega arith) ∙ sym (one_apart n c (λ e. omega arith))),
      ),
    )
    | inr above ↦ (
      i - 1,
      λ c l. (
        (λ low. one_apart i c (λ e. omega arith) ∙ sym (one_apart (i - 1) c (λ e. omega arith))),
        (λ high. elim (same_or_apart i (c + 1)) [
          | inl e ↦ one_here i (c + 1) e ∙ sym (one_here (i - 1) c (omega arith))
          | inr n ↦ one_apart i (c + 1) n ∙ sym (one_apart (i - 1) c (λ e. n (omega arith)))
        ]),
      ),
    )
  ]
]
  where
    cases_place : (i < col) ⊎ ((i ≡ col) ⊎ (col < i))
    cases_place = grind arith

pub comparison_left : (cs : List ℤ) (i j col : ℕ) → IsComparison cs i j → col < length cs
    → (k : ℕ) × (l : ℕ) × IsComparison (remove cs col) k l
comparison_left cs i j col is inside =
    let first = one_left (length cs) col i in
    let second = one_left (length cs) col j in (
      first.0,
      second.0,
      record {
        at = λ c l.
            let long = length-remove cs col inside in
            let within : c + 1 < length cs = omega arith in
            elim (before_or_behind c) [
              | inl low ↦
                  let e = get_or-remove_below cs col (pos 0) c low inside in
                  let f = is.at c (omega arith) in
                  let u = (first.1 c within).0 low in
                  let v = (second.1 c within).0 low in
                  omega (arith, linear)
              | inr high ↦
                  let e = get_or-remove_above cs col (pos 0) c high inside in
                  let f = is.at (c + 1) within in
                  let u = (first.1 c within).1 high in
                  let v = (second.1 c within).1 high in
                  omega (arith, linear)
            ];
      },
    )
  where
    before_or_behind : (c : ℕ) → (c < col) ⊎ (col ≤ c)
    before_or_behind c = grind arith
