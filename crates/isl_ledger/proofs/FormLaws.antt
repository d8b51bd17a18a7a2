-- A list of coefficients compares two columns exactly where at most one is 1, at most one is -1, and all others are 0.
use Rattle.std.proofs.Common.{◌≡◌, ◌≢◌, ◌↔◌, ◌⊎◌, inl, inr, sym, ap, ◌∙◌, arith, ℕ, ◌<◌, ◌≤◌, ℤ, pos, negsuc, ◌-ℤ◌, unsigned_abs}
use Rattle.std.proofs.Common.{List, length, get_or}
use Rattle.std.proofs.lemmas.List.{get_or_read, get_or_default}
use Rattle.isl_math.proofs.ListLaws.{all_or_any}
use Rattle.isl_math.proofs.Ring.{linear}
use Rattle.isl_piece.proofs.ContentLaws.{zero_cases}
use Rattle.isl_ledger.specs.Difference.{IsComparison, AtMostOnce, AreUnitsAtMostOnce}
use Rattle.isl_ledger.proofs.ComparisonLaws.{one_here, one_apart, coefficient_cases, coefficient_small}

same_number : (c z : ℤ) → (c ≡ z) ⊎ (c ≢ z)
same_number c z = elim (zero_cases (c -ℤ z)) [
  | inl e ↦ inl (omega (arith, linear))
  | inr n ↦ inr (λ e. n (omega (arith, linear)))
]

-- the place of a number that stands at most once, or behind all where it does not
located : (z : ℤ) (cs : List ℤ) → AtMostOnce z cs → (i : ℕ) × ((k : ℕ) → k < length cs → (k ≡ i) ↔ (get_or cs k (pos 0) ≡ z))
located z cs once = elim (all_or_any (λ c. c ≢ z) (λ c. c ≡ z) cs (λ k d l. swap (get_or cs k d))) [
  | inl none ↦ (length cs, λ k l. ((λ e. absurd (omega arith)), (λ e. absurd (none k (pos 0) l e))))
  | inr some ↦
      let here : get_or cs some.0 (pos 0) ≡ z = sym (get_or_read cs some.0 some.1 some.2 (sym some.3) (pos 0)) ∙ some.4 in
      (some.0, λ k l. ((λ e. ap (λ w. get_or cs w (pos 0)) e ∙ here), (λ e. once k some.0 l some.2 e here)))
]
  where
    swap : (c : ℤ) → (c ≢ z) ⊎ (c ≡ z)
    swap c = elim (same_number c z) [ inl e ↦ inr e | inr n ↦ inl n ]

small_cases : (c : ℤ) → unsigned_abs c ≤ 1 → (c ≡ pos 1) ⊎ ((c ≡ negsuc 0) ⊎ (c ≡ pos 0))
small_cases c small = grind (arith, linear)

pub comparison_from_units : (cs : List ℤ) → AreUnitsAtMostOnce cs → (i : ℕ) × (j : ℕ) × IsComparison cs i j
comparison_from_units cs h =
    let first = located (pos 1) cs h.one in
    let second = located (negsuc 0) cs h.minus_one in (
      first.0,
      second.0,
      record {
        at = λ k l. let c = get_or cs k (pos 0) in elim (small_cases c (h.small k (pos 0) l)) [
          | inl e ↦
              let u = one_here first.0 k ((first.1 k l).1 e) in
              let v = one_apart second.0 k (λ f. let g = (second.1 k l).0 f in omega (arith, linear)) in
              omega (arith, linear)
          | inr rest ↦ elim rest [
            | inl e ↦
                let u = one_apart first.0 k (λ f. let g = (first.1 k l).0 f in omega (arith, linear)) in
                let v = one_here second.0 k ((second.1 k l).1 e) in
                omega (arith, linear)
            | inr e ↦
                let u = one_apart first.0 k (λ f. let g = (first.1 k l).0 f in omega (arith, linear)) in
                let v = one_apart second.0 k (λ f. let g = (second.1 k l).0 f in omega (arith, linear)) in
                omega (arith, linear)
          ]
        ];
      },
    )

pub units_from_comparison : (cs : List ℤ) (i j : ℕ) → IsComparison cs i j → AreUnitsAtMostOnce cs
units_from_comparison cs i j is = record {
  small = λ k d l. rw (get_or_default cs k d (pos 0) l) (coefficient_small cs i j k is l);
  one = λ k m l n e f. at_first k l e ∙ sym (at_first m n f);
  minus_one = λ k m l n e f. at_second k l e ∙ sym (at_second m n f);
}
  where
    at_first : (k : ℕ) → k < length cs → get_or cs k (pos 0) ≡ pos 1 → k ≡ i
    at_first k l e = elim (coefficient_cases cs i j k is l) [
      | inl a ↦ a.0
      | inr b ↦ elim b [ inl a ↦ absurd (let f = a.1 in omega (arith, linear)) | inr f ↦ absurd (omega (arith, linear)) ]
    ]

    at_second : (k : ℕ) → k < length cs → get_or cs k (pos 0) ≡ negsuc 0 → k ≡ j
    at_second k l e = elim (coefficient_cases cs i j k is l) [
      | inl a ↦ absurd (let f = a.1 in omega (arith, linear))
      | inr b ↦ elim b [ inl a ↦ a.0 | inr f ↦ absurd (omega (arith, linear)) ]
    ]
