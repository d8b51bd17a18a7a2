-- The negation of a row.
use Rattle.std.proofs.Common.{◌≡◌, ◌≢◌, ◌↔◌, ◌⊎◌, inl, inr, refl, ◌∙◌, arith, ℕ, ℤ, pos, negsuc, neg_ℤ, ◌+ℤ◌, ◌-ℤ◌, ◌*ℤ◌, ◌≤ℤ◌, List, [], ◌∷◌, length, Result, MatchResult, IfOk}
use Rattle.std.specs.List.{All, Any}
use Rattle.std.proofs.lemmas.List.Elements.{All-nil, All-cons, All-head, All-tail}
use Rattle.std.proofs.lemmas.Result.{MatchResult-weaker}
use Rattle.isl_math.specs.Dot.{dot, scaled}
use Rattle.isl_math.proofs.ListLaws.{Any-none, Any-first, Any-later, Any-cases}
use Rattle.isl_math.proofs.Ring.{linear}
use Rattle.isl_math.proofs.DotLaws.{dot-scaled}
use Rattle.isl_meter.specs.declared.Cut.{Cut}
use Rattle.isl_meter.specs.Gauge.{Gauge, IsWithin}
use Rattle.isl_piece.specs.declared.row.RowKind.{RowKind}
use Rattle.isl_piece.specs.declared.row.RowKind.TheVariants.{Zero, AtLeast, Divides, NotDivides}
use Rattle.isl_piece.specs.declared.row.Row.{Row}
use Rattle.isl_piece.specs.Row.{HoldsRow, HoldsValue, HasModulus, IsRowWithin, IsWellFormed}
use Rattle.isl_piece.specs.Normal.{bound}
use Rattle.isl_piece.specs.Cut.{IsCutFor}
use Rattle.isl_piece.specs.Negation.{above, below, negated_form, negation_of, ConstantPassesLimit}
use Rattle.isl_piece.proofs.ContentLaws.{length-scaled}
use Rattle.isl_piece.proofs.NormalCases.{divides_cases}

-- ---- constants that pass the limit
pub above_passes : (g : Gauge) (r : Row) → r.kind ≡ Zero → ¬ IsWithin g (r.constant -ℤ pos 1) → ConstantPassesLimit g (negation_of r)
above_passes g r is n = rw is (Any-first (λ s. ¬ IsWithin g s.constant) (above r.coefs r.constant) (below r.coefs r.constant ∷ []) n)

pub below_passes : (g : Gauge) (r : Row) → (r.kind ≡ Zero) ⊎ (r.kind ≡ AtLeast) → ¬ IsWithin g (neg_ℤ r.constant -ℤ pos 1) → ConstantPassesLimit g (negation_of r)
below_passes g r (inl is) n = rw is (Any-later (λ s. ¬ IsWithin g s.constant) (above r.coefs r.constant) (below r.coefs r.constant ∷ []) (Any-first (λ s. ¬ IsWithin g s.constant) (below r.coefs r.constant) [] n))
below_passes g r (inr is) n = rw is (Any-first (λ s. ¬ IsWithin g s.constant) (below r.coefs r.constant) [] n)

pub ruleset passes = (above_passes, below_passes)

-- ---- the negation holds where the row does not
apart_from_zero : (z : ℤ) → z ≢ pos 0 → (pos 1 ≤ℤ z) ⊎ (z ≤ℤ negsuc 0)
apart_from_zero z n = grind (arith, linear)

value_above : (cs : List ℤ) (c : ℤ) (xs : List ℤ) → pos 0 ≤ℤ (dot cs xs +ℤ (c -ℤ pos 1)) ↔ (pos 1 ≤ℤ (dot cs xs +ℤ c))
value_above cs c xs = ((λ h. omega (arith, linear)), (λ h. omega (arith, linear)))

value_below : (cs : List ℤ) (c : ℤ) (xs : List ℤ) → pos 0 ≤ℤ (dot (scaled (negsuc 0) cs) xs +ℤ (neg_ℤ c -ℤ pos 1)) ↔ ((dot cs xs +ℤ c) ≤ℤ negsuc 0)
value_below cs c xs = let e = dot-scaled (negsuc 0) cs xs in ((λ h. omega (arith, linear)), (λ h. omega (arith, linear)))

negated_holds : (kind : RowKind) (cs : List ℤ) (c k : ℤ) (xs : List ℤ) → HasModulus kind k → Any (λ r. HoldsRow r xs) (negated_form kind cs c k) ↔ (¬ HoldsValue kind k (dot cs xs +ℤ c))
negated_holds Zero cs c k xs h = (
  (λ a e. elim (Any-cases (λ r. HoldsRow r xs) (above cs c) (below cs c ∷ []) a) [
    | inl p ↦ let q = (value_above cs c xs).0 p in omega (arith, linear)
    | inr b ↦ elim (Any-cases (λ r. HoldsRow r xs) (below cs c) [] b) [
      | inl p ↦ let q = (value_below cs c xs).0 p in omega (arith, linear)
      | inr d ↦ Any-none (λ r. HoldsRow r xs) d
    ]
  ]),
  (λ n. elim (apart_from_zero (dot cs xs +ℤ c) n) [
    | inl p ↦ Any-first (λ r. HoldsRow r xs) (above cs c) (below cs c ∷ []) ((value_above cs c xs).1 p)
    | inr p ↦ Any-later (λ r. HoldsRow r xs) (above cs c) (below cs c ∷ []) (Any-first (λ r. HoldsRow r xs) (below cs c) [] ((value_below cs c xs).1 p))
  ]),
)
negated_holds AtLeast cs c k xs h = (
  (λ a e. elim (Any-cases (λ r. HoldsRow r xs) (below cs c) [] a) [
    | inl p ↦ let q = (value_below cs c xs).0 p in omega (arith, linear)
    | inr d ↦ Any-none (λ r. HoldsRow r xs) d
  ]),
  (λ n. Any-first (λ r. HoldsRow r xs) (below cs c) [] ((value_below cs c xs).1 (omega (arith, linear)))),
)
negated_holds Divides cs c k xs h =
    let r : Row = record { kind = NotDivides; coefs = cs; constant = c; k = k } in (
      (λ a. elim (Any-cases (λ s. HoldsRow s xs) r [] a) [ inl p ↦ p | inr d ↦ absurd (Any-none (λ s. HoldsRow s xs) d) ]),
      (λ n. Any-first (λ s. HoldsRow s xs) r [] n),
    )
negated_holds NotDivides cs c k xs h =
    let r : Row = record { kind = Divides; coefs = cs; constant = c; k = k } in (
      (λ a n. elim (Any-cases (λ s. HoldsRow s xs) r [] a) [ inl p ↦ n p | inr d ↦ Any-none (λ s. HoldsRow s xs) d ]),
      (λ n. elim (divides_cases k (dot cs xs +ℤ c) h) [ inl d ↦ Any-first (λ s. HoldsRow s xs) r [] d | inr m ↦ absurd (n m) ]),
    )

pub negation_holds : (r : Row) (xs : List ℤ) → HasModulus r.kind r.k → Any (λ s. HoldsRow s xs) (negation_of r) ↔ (¬ HoldsRow r xs)
negation_holds r xs h = negated_holds r.kind r.coefs r.constant r.k xs h

-- ---- the negation's rows
negative_within : (g : Gauge) (cs : List ℤ) → All (IsWithin g) cs → All (IsWithin g) (scaled (negsuc 0) cs)
negative_within g [] h = All-nil (IsWithin g)
negative_within g (c ∷ cs) h = All-cons (IsWithin g) (negsuc 0 *ℤ c) (scaled (negsuc 0) cs) (by c (All-head (IsWithin g) c cs h)) (negative_within g cs (All-tail (IsWithin g) c cs h))
  where
    by : (c : ℤ) → IsWithin g c → IsWithin g (negsuc 0 *ℤ c)
    by (pos c) h = omega (arith, linear)
    by (negsuc c) h = omega (arith, linear)

bound_within : (g : Gauge) (cs : List ℤ) (c k : ℤ) → k ≡ pos 1 → IsWithin g k → All (IsWithin g) cs → IsWithin g c → IsRowWithin g (bound cs c)
bound_within g cs c k e h all w = record { coefs = all; constant = w; k = rw e at h }

negated_within : (g : Gauge) (kind : RowKind) (cs : List ℤ) (c k : ℤ) → HasModulus kind k → All (IsWithin g) cs → IsWithin g c → IsWithin g k → All (λ r. IsWithin g r.constant) (negated_form kind cs c k) → All (IsRowWithin g) (negated_form kind cs c k)
negated_within g Zero cs c k d h w l a =
    All-cons (IsRowWithin g) (above cs c) (below cs c ∷ []) (bound_within g cs (c -ℤ pos 1) k d l h (All-head (λ r. IsWithin g r.constant) (above cs c) (below cs c ∷ []) a))
    (All-cons (IsRowWithin g) (below cs c) [] (bound_within g (scaled (negsuc 0) cs) (neg_ℤ c -ℤ pos 1) k d l (negative_within g cs h) (All-head (λ r. IsWithin g r.constant) (below cs c) [] (All-tail (λ r. IsWithin g r.constant) (above cs c) (below cs c ∷ []) a))) (All-nil (IsRowWithin g)))
negated_within g AtLeast cs c k d h w l a =
    All-cons (IsRowWithin g) (below cs c) [] (bound_within g (scaled (negsuc 0) cs) (neg_ℤ c -ℤ pos 1) k d l (negative_within g cs h) (All-head (λ r. IsWithin g r.constant) (below cs c) [] a)) (All-nil (IsRowWithin g))
negated_within g Divides cs c k d h w l a = let r : Row = record { kind = NotDivides; coefs = cs; constant = c; k = k } in All-cons (IsRowWithin g) r [] (record { coefs = h; constant = w; k = l }) (All-nil (IsRowWithin g))
negated_within g NotDivides cs c k d h w l a = let r : Row = record { kind = Divides; coefs = cs; constant = c; k = k } in All-cons (IsRowWithin g) r [] (record { coefs = h; constant = w; k = l }) (All-nil (IsRowWithin g))

negated_shape : (n : ℕ) (kind : RowKind) (cs : List ℤ) (c k : ℤ) → HasModulus kind k → length cs ≡ n → All (IsWellFormed n) (negated_form kind cs c k)
negated_shape n Zero cs c k d e =
    All-cons (IsWellFormed n) (above cs c) (below cs c ∷ []) (record { width = e; modulus = refl })
    (All-cons (IsWellFormed n) (below cs c) [] (record { width = length-scaled (negsuc 0) cs ∙ e; modulus = refl }) (All-nil (IsWellFormed n)))
negated_shape n AtLeast cs c k d e = All-cons (IsWellFormed n) (below cs c) [] (record { width = length-scaled (negsuc 0) cs ∙ e; modulus = refl }) (All-nil (IsWellFormed n))
negated_shape n Divides cs c k d e = let r : Row = record { kind = NotDivides; coefs = cs; constant = c; k = k } in All-cons (IsWellFormed n) r [] (record { width = e; modulus = d }) (All-nil (IsWellFormed n))
negated_shape n NotDivides cs c k d e = let r : Row = record { kind = Divides; coefs = cs; constant = c; k = k } in All-cons (IsWellFormed n) r [] (record { width = e; modulus = d }) (All-nil (IsWellFormed n))

-- ---- what was answered
module _ (g h : Gauge) (r : Row) (result : Result (List Row) Cut)
    (exact : MatchResult result (λ rows. (rows ≡ negation_of r) × All (λ s. IsWithin g s.constant) rows × (h ≡ g)) (λ cut. IsCutFor (ConstantPassesLimit g (negation_of r)) g h cut)) where
  pub negation_points : HasModulus r.kind r.k → IfOk result (λ rows. (xs : List ℤ) → Any (λ s. HoldsRow s xs) rows ↔ (¬ HoldsRow r xs))
  negation_points d = MatchResult-weaker result exact (λ rows e xs. rw e.0 (negation_holds r xs d)) (λ cut e. tt)

  pub negation_within : HasModulus r.kind r.k → IsRowWithin g r → IfOk result (All (IsRowWithin g))
  negation_within d w = MatchResult-weaker result exact (λ rows e. rw e.0 (negated_within g r.kind r.coefs r.constant r.k d w.coefs w.constant w.k (rw e.0 at e.1))) (λ cut e. tt)

  pub negation_shape : HasModulus r.kind r.k → (n : ℕ) → length r.coefs ≡ n → IfOk result (All (IsWellFormed n))
  negation_shape d n e = MatchResult-weaker result exact (λ rows f. rw f.0 (negated_shape n r.kind r.coefs r.constant r.k d e)) (λ cut f. tt)
