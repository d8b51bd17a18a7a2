-- The greatest number of one case, and of several.
use Rattle.std.proofs.Common.{◌≡◌, ◌⊎◌, ◌↔◌, inl, inr, refl, sym, ap, ◌∙◌, subst, arith, ℕ, ◌+◌, ◌<◌, ℤ, pos, neg_ℤ, ◌<ℤ◌, ◌≤ℤ◌, ◌+ℤ◌, ◌-ℤ◌, ◌*ℤ◌}
use Rattle.std.proofs.Common.{List, [], ◌∷◌, ◌++◌, length, take, get_or, Option, Some, None}
use Rattle.std.specs.List.{Any}
use Rattle.std.proofs.lemmas.List.{take_more}
use Rattle.isl_math.proofs.ListLaws.{Any-left, Any-one, Any-first, Any-parts, Any-right}
use Rattle.isl_math.proofs.OrderLaws.{cases_ℤ}
use Rattle.isl_math.proofs.DivideLaws.{floor_split, floor_mod_bounds}
use Rattle.isl_math.specs.Divide.{floor_div, floor_mod}
use Rattle.isl_math.proofs.Ring.{expand, linear}
use Rattle.isl_greatest_law.specs.Front.{IsBest, IsGreatestOf}

-- ---- one case
-- the number fails, and no other one is above it: none is above the next one below
pub next_below : (T : ℤ → Type 0) (c : ℤ) → ((z : ℤ) → T z → z ≤ℤ c) → ¬ T c → (z : ℤ) → T z → z ≤ℤ (c -ℤ pos 1)
next_below T c high fails z is = elim (cases_ℤ z c) [
  | inl below ↦ omega (arith, linear, below)
  | inr other ↦ elim other [
    | inl same ↦ absurd (fails (subst T same is))
    | inr above ↦ let l = high z is in absurd (omega (arith, linear, l, above))
  ]
]

-- what holds at a number holds at those that are r more or less: if it fails at r numbers in a row, it fails at all
pub tried_all : (C : ℤ → Type 0) (r c z : ℤ) → pos 0 <ℤ r → ((u k : ℤ) → C u → C (u +ℤ r *ℤ k))
    → ((u : ℤ) → c ≤ℤ u → u <ℤ (c +ℤ r) → ¬ C u) → ¬ C z
tried_all C r c z p period fails is =
    by (floor_div (z -ℤ c) r) (floor_mod (z -ℤ c) r) (floor_split (z -ℤ c) r p) (floor_mod_bounds (z -ℤ c) r p)
  where
    by : (q m : ℤ) → r *ℤ q +ℤ m ≡ z -ℤ c → (pos 0 ≤ℤ m) × (m <ℤ r) → ⊥
    by q m split bounds =
        let split' = simp expand at split in
        let u : z +ℤ r *ℤ neg_ℤ q ≡ c +ℤ m = simp expand (omega (arith, linear, split')) in
        let b = bounds.0 in
        let d = bounds.1 in
        fails (c +ℤ m) (omega (arith, linear, b)) (omega (arith, linear, d)) (subst C u (period z (neg_ℤ q) is))

-- ---- several cases
-- the same numbers
pub best_same : (T R : ℤ → Type 0) (b : Option ℤ) → ((z : ℤ) → T z ↔ R z) → IsBest T b → IsBest R b
best_same T R None same none = λ z is. none z ((same z).1 is)
best_same T R (Some b) same best = record { is = (same b).0 best.is; greatest = λ u is. best.greatest u ((same u).1 is) }

-- the cases before one, and that one
pub one_more : {X : Type 0} (P : X → Type 0) (xs : List X) (i : ℕ) (x : X) → i < length xs → x ≡ get_or xs i x
    → (Any P (take i xs) ⊎ P x) ↔ Any P (take (i + 1) xs)
one_more {X = X} P xs i x l is =
    let whole : take (i + 1) xs ≡ take i xs ++ x ∷ [] = take_more xs i x l ∙ ap (λ (y : X). take i xs ++ y ∷ []) (sym is) in (
      (λ h. subst (Any P) (sym whole) (elim h [
        | inl before ↦ Any-left P (take i xs) (x ∷ []) before
        | inr here ↦ Any-right P (take i xs) (x ∷ []) (Any-first P x [] here)
      ])),
      (λ h. elim (Any-parts P (take i xs) (x ∷ []) (subst (Any P) whole h)) [
        | inl before ↦ inl before
        | inr here ↦ inr (Any-one P x here)
      ]),
    )

-- the best before and that of one more: the greater one
pub best_before : (T R : ℤ → Type 0) (b c : ℤ) → IsGreatestOf T b → IsGreatestOf R c → c ≤ℤ b → IsGreatestOf (λ z. T z ⊎ R z) b
best_before T R b c p q l = record {
  is = inl p.is;
  greatest = λ u is. elim is [
    | inl t ↦ p.greatest u t
    | inr r ↦ let m = q.greatest u r in omega (arith, linear, l, m)
  ];
}

pub best_later : (T R : ℤ → Type 0) (b c : ℤ) → IsGreatestOf T b → IsGreatestOf R c → b <ℤ c → IsGreatestOf (λ z. T z ⊎ R z) c
best_later T R b c p q l = record {
  is = inr q.is;
  greatest = λ u is. elim is [
    | inl t ↦ let m = p.greatest u t in omega (arith, linear, l, m)
    | inr r ↦ q.greatest u r
  ];
}

pub best_first : (T R : ℤ → Type 0) (c : ℤ) → ((z : ℤ) → ¬ T z) → IsGreatestOf R c → IsGreatestOf (λ z. T z ⊎ R z) c
best_first T R c none q = record {
  is = inr q.is;
  greatest = λ u is. elim is [
    | inl t ↦ absurd (none u t)
    | inr r ↦ q.greatest u r
  ];
}

-- one more has none
pub best_kept : (T R : ℤ → Type 0) (b : Option ℤ) → IsBest T b → ((z : ℤ) → ¬ R z) → IsBest (λ z. T z ⊎ R z) b
best_kept T R None p none = λ z is. elim is [
  | inl t ↦ p z t
  | inr r ↦ none z r
]
best_kept T R (Some b) p none = record {
  is = inl p.is;
  greatest = λ u is. elim is [
    | inl t ↦ p.greatest u t
    | inr r ↦ absurd (none u r)
  ];
}
