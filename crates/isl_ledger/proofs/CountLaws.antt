-- How many difference constraints have forms of their own: at most c (c + 1) over c columns, and at most c of them bound one column from
-- the same side.
use Rattle.std.proofs.Common.{◌≡◌, ◌≢◌, ◌⊎◌, inl, inr, refl, sym, ap, ◌∙◌, subst, arith, ℕ, suc, ◌+◌, ◌-◌, ◌*◌, ◌<◌, ◌≤◌, ℤ, pos, ◌<ℤ◌}
use Rattle.std.proofs.Common.{List, length, get_or}
use Rattle.std.specs.List.{All, AllPairs}
use Rattle.std.proofs.Math.Nat.{mul-le-mul_right}
use Rattle.std.proofs.lemmas.Nat.{mul-add-lt}
use Rattle.std.proofs.lemmas.List.{get_or_default}
use Rattle.isl_math.specs.Gcd.{content}
use Rattle.isl_math.proofs.Ring.{linear}
use Rattle.isl_piece.specs.declared.row.Row.{Row}
use Rattle.isl_piece.specs.Row.{coef_at}
use Rattle.isl_ledger.specs.Difference.{one_at, IsComparison, IsDifferenceRow}
use Rattle.isl_ledger.specs.Work.{form_limit}
use Rattle.isl_ledger.proofs.ComparisonLaws.{one_apart, same_comparison, lower_first, upper_second}
use Rattle.isl_ledger.proofs.NormalDifferences.{zeros_content}
use Rattle.isl_ledger.proofs.NumberLists.{few_by_numbers}

-- ---- a number for each form
-- the place b among those that are not a
abbrev pub SkipsTo : ℕ → ℕ → ℕ → Type 0
SkipsTo a b rest = ((b < a) × (rest ≡ b)) ⊎ ((a < b) × (rest + 1 ≡ b))

skipped_same : (a b d rest : ℕ) → SkipsTo a b rest → SkipsTo a d rest → b ≡ d
skipped_same a b d rest (inl h) (inl g) = let x = h.1 in let y = g.1 in omega arith
skipped_same a b d rest (inl h) (inr g) = let x = h.0 in let y = h.1 in let z = g.0 in let w = g.1 in omega arith
skipped_same a b d rest (inr h) (inl g) = let x = h.0 in let y = h.1 in let z = g.0 in let w = g.1 in omega arith
skipped_same a b d rest (inr h) (inr g) = let x = h.1 in let y = g.1 in omega arith

skip : (c a b : ℕ) → a ≤ c → b ≤ c → a ≢ b → (rest : ℕ) × (rest < c) × SkipsTo a b rest
skip c a b low high n = elim (cases_lt a b n) [
  | inl l ↦ (b - 1, omega arith, inr (l, omega arith))
  | inr l ↦ (b, omega arith, inl (l, refl))
]
  where
    cases_lt : (a b : ℕ) → a ≢ b → (a < b) ⊎ (b < a)
    cases_lt a b n = grind arith

-- a place behind c columns is as good as the one right behind them
at_end : (c i : ℕ) → (a : ℕ) × (a ≤ c) × ((k : ℕ) → k < c → one_at i k ≡ one_at a k)
at_end c i = elim (cases_le i) [
  | inl low ↦ (i, low, λ k l. refl)
  | inr high ↦ (c, omega arith, λ k l. one_apart i k (λ e. omega arith) ∙ sym (one_apart c k (λ e. omega arith)))
]
  where
    cases_le : (i : ℕ) → (i ≤ c) ⊎ (c < i)
    cases_le i = grind arith

at_ends : (c : ℕ) (cs : List ℤ) (i j a b : ℕ) → length cs ≡ c → ((k : ℕ) → k < c → one_at i k ≡ one_at a k)
    → ((k : ℕ) → k < c → one_at j k ≡ one_at b k) → IsComparison cs i j → IsComparison cs a b
at_ends c cs i j a b long f g is = record {
  at = λ k l. let e = is.at k l in let u = f k (omega arith) in let v = g k (omega arith) in omega (arith, linear);
}

-- a column less itself is nothing
itself_zeros : (cs : List ℤ) (a : ℕ) → IsComparison cs a a → content cs ≡ pos 0
itself_zeros cs a is = zeros_content cs (λ k d l.
    let e = is.at k l in let f = get_or_default cs k d (pos 0) l in omega (arith, linear))

pub record HasFormNumber (c : ℕ) (cs : List ℤ) (m : ℕ) : Type 0 where
  pub first : ℕ
  pub second : ℕ
  pub rest : ℕ
  pub compares : IsComparison cs first second
  pub skips : SkipsTo first second rest
  pub small : rest < c
  pub number : m ≡ first * c + rest

form_number : (c : ℕ) (cs : List ℤ) (i j : ℕ) → length cs ≡ c → IsComparison cs i j → content cs ≢ pos 0
    → (m : ℕ) × (m < form_limit c) × HasFormNumber c cs m
form_number c cs i j long is n =
    let first = at_end c i in
    let second = at_end c j in
    let ends = at_ends c cs i j first.0 second.0 long first.2 second.2 is in
    let apart : first.0 ≢ second.0 = λ e. n (itself_zeros cs first.0 (subst (IsComparison cs first.0) (sym e) ends)) in
    let rest = skip c first.0 second.0 first.1 second.1 apart in (
      first.0 * c + rest.0,
      mul-add-lt first.0 c rest.0 (c + 1) (let l = first.1 in omega arith) rest.1,
      record {
        first = first.0;
        second = second.0;
        rest = rest.0;
        compares = ends;
        skips = rest.2;
        small = rest.1;
        number = refl;
      },
    )

quotient_same : (a d r s c : ℕ) → r < c → s < c → a * c + r ≡ d * c + s → (a ≡ d) × (r ≡ s)
quotient_same a d r s c l m e = elim (cases_order a d) [
  | inl same ↦ (same, (let f = ap (λ w. w * c) same in omega arith))
  | inr apart ↦ elim apart [
    | inl low ↦ absurd (let t = mul-le-mul_right {m = suc a} {n = d} c (omega arith) in omega arith)
    | inr high ↦ absurd (let t = mul-le-mul_right {m = suc d} {n = a} c (omega arith) in omega arith)
  ]
]
  where
    cases_order : (a d : ℕ) → (a ≡ d) ⊎ ((a < d) ⊎ (d < a))
    cases_order a d = grind arith

form_determined : (c : ℕ) (xs ys : List ℤ) (m : ℕ) → length xs ≡ length ys → HasFormNumber c xs m → HasFormNumber c ys m → xs ≡ ys
form_determined c xs ys m long p q =
    let same = quotient_same p.first q.first p.rest q.rest c p.small q.small (sym p.number ∙ q.number) in
    let skips : SkipsTo p.first q.second p.rest = rw (same.0, same.1) q.skips in
    let second = skipped_same p.first p.second q.second p.rest p.skips skips in
    let compares : IsComparison ys p.first p.second = rw (same.0, second) q.compares in
    same_comparison xs ys p.first p.second p.compares compares long

-- ---- rows of different forms
-- so many coefficients
abbrev pub AreWide : ℕ → List Row → Type 0
AreWide c rows = All (λ r. length r.coefs ≡ c) rows

-- no two have the same form
abbrev pub HaveOwnForms : List Row → Type 0
HaveOwnForms rows = AllPairs (λ r s. r.coefs ≢ s.coefs) rows

pub forms_few : (b c : ℕ) (rows : List Row) → AreWide c rows → All (IsDifferenceRow b) rows → All (λ r. content r.coefs ≢ pos 0) rows
    → HaveOwnForms rows → length rows ≤ form_limit c
forms_few b c rows wide differences some apart = few_by_numbers (λ (r : Row) m. HasFormNumber c r.coefs m) (form_limit c) rows
    (λ k d l. let h = differences k d l in form_number c (get_or rows k d).coefs h.first h.second (wide k d l) h.compares (some k d l))
    (λ i j d l k m p q. apart i j d l k (form_determined c (get_or rows i d).coefs (get_or rows j d).coefs m
    (wide i d (omega arith) ∙ sym (wide j d k)) p q))

-- ---- one column's bounds
-- rows that each compare the column x with another one, on the same side
module _ (c x : ℕ) (inside : x < c) (Compares : List ℤ → ℕ → Type 0)
    (determined : (xs ys : List ℤ) (a : ℕ) → Compares xs a → Compares ys a → length xs ≡ length ys → xs ≡ ys) where
  record HasOtherNumber (cs : List ℤ) (m : ℕ) : Type 0 where
    pub other : ℕ
    pub compares : Compares cs other
    pub skips : SkipsTo x other m

  other_determined : (xs ys : List ℤ) (m : ℕ) → length xs ≡ length ys → HasOtherNumber xs m → HasOtherNumber ys m → xs ≡ ys
  other_determined xs ys m long p q =
      let same = skipped_same x p.other q.other m p.skips q.skips in
      determined xs ys p.other p.compares (subst (Compares ys) (sym same) q.compares) long

  side_few : (rows : List Row) → AreWide c rows → HaveOwnForms rows
      → All (λ r. (a : ℕ) × (a ≤ c) × (x ≢ a) × Compares r.coefs a) rows → length rows ≤ c
  side_few rows wide apart others = few_by_numbers (λ (r : Row) m. HasOtherNumber r.coefs m) c rows
      (λ k d l.
      let own = others k d l in
      let rest = skip c x own.0 (omega arith) own.1 own.2 in
      (rest.0, rest.1, record { other = own.0; compares = own.3; skips = rest.2 }))
      (λ i j d l k m p q. apart i j d l k (other_determined (get_or rows i d).coefs (get_or rows j d).coefs m
      (wide i d (omega arith) ∙ sym (wide j d k)) p q))

-- a column that occurs is not compared with itself
not_itself : (cs : List ℤ) (x a : ℕ) → x < length cs → IsComparison cs x a → get_or cs x (pos 0) ≢ pos 0 → x ≢ a
not_itself cs x a inside is n e = n (by x (subst (IsComparison cs x) (sym e) is) inside)
  where
    by : (x : ℕ) → IsComparison cs x x → x < length cs → get_or cs x (pos 0) ≡ pos 0
    by x is inside = let f = is.at x inside in omega (arith, linear)

not_itself_back : (cs : List ℤ) (x a : ℕ) → x < length cs → IsComparison cs a x → get_or cs x (pos 0) ≢ pos 0 → x ≢ a
not_itself_back cs x a inside is n e = n (by x (subst (λ w. IsComparison cs w x) (sym e) is) inside)
  where
    by : (x : ℕ) → IsComparison cs x x → x < length cs → get_or cs x (pos 0) ≡ pos 0
    by x is inside = let f = is.at x inside in omega (arith, linear)

-- at most as many lower bounds on a column as there are columns
pub lowers_few : (b c x : ℕ) (rows : List Row) → x < c → AreWide c rows → All (IsDifferenceRow b) rows → HaveOwnForms rows
    → All (λ r. pos 0 <ℤ coef_at r x) rows → length rows ≤ c
lowers_few b c x rows inside wide differences apart lower =
    side_few c x inside (λ cs a. IsComparison cs x a) (λ xs ys a p q long. same_comparison xs ys x a p q long) rows wide apart (λ k d l.
    let r = get_or rows k d in
    let h = differences k d l in
    let within : x < length r.coefs = rw (wide k d l) inside in
    let above = lower k d l in
    let first = lower_first r.coefs h.first h.second x h.compares within above in
    let here : IsComparison r.coefs x h.second = subst (λ w. IsComparison r.coefs w h.second) (sym first) h.compares in
    let last = at_end c h.second in
    let ends = at_ends c r.coefs x h.second x last.0 (wide k d l) (λ t m. refl) last.2 here in
    (last.0, last.1, not_itself r.coefs x last.0 within ends (λ e. omega (arith, linear)), ends))

-- and as many upper bounds
pub uppers_few : (b c x : ℕ) (rows : List Row) → x < c → AreWide c rows → All (IsDifferenceRow b) rows → HaveOwnForms rows
    → All (λ r. coef_at r x <ℤ pos 0) rows → length rows ≤ c
uppers_few b c x rows inside wide differences apart upper =
    side_few c x inside (λ cs a. IsComparison cs a x) (λ xs ys a p q long. same_comparison xs ys a x p q long) rows wide apart (λ k d l.
    let r = get_or rows k d in
    let h = differences k d l in
    let within : x < length r.coefs = rw (wide k d l) inside in
    let under = upper k d l in
    let second = upper_second r.coefs h.first h.second x h.compares within under in
    let here : IsComparison r.coefs h.first x = subst (λ w. IsComparison r.coefs h.first w) (sym second) h.compares in
    let last = at_end c h.first in
    let ends = at_ends c r.coefs h.first x last.0 x (wide k d l) last.2 (λ t m. refl) here in
    (last.0, last.1, not_itself_back r.coefs x last.0 within ends (λ e. omega (arith, linear)), ends))
