-- Difference constraints in normal form are such: the content of a comparison is 1, or 0 where no column is left.
use Rattle.std.proofs.Common.{◌≡◌, ◌≢◌, ◌⊎◌, inl, inr, refl, sym, ap, ◌∙◌, subst, arith, ℕ, zero, suc, ◌+◌, ◌<◌, ◌≤◌, ◌^◌, pow_mono}
use Rattle.std.proofs.Common.{ℤ, pos, negsuc, neg_ℤ, ◌≤ℤ◌, ◌*ℤ◌, unsigned_abs, List, ◌∷◌, get_or, IfSome}
use Rattle.std.specs.List.{All}
use Rattle.std.proofs.Math.Nat.{pow-suc}
use Rattle.std.proofs.lemmas.List.{get_or_read}
use Rattle.isl_math.specs.Divide.{Divides, floor_div}
use Rattle.isl_math.specs.Dot.{scaled}
use Rattle.isl_math.specs.Gcd.{content}
use Rattle.isl_math.specs.Order.{sign_of}
use Rattle.isl_math.proofs.Ring.{linear}
use Rattle.isl_math.proofs.DivideLaws.{Divides-neg_ℤ, Divides-same, Divides-zero, le_from_Divides}
use Rattle.isl_math.proofs.GcdLaws.{IsContentOf-content}
use Rattle.isl_math.proofs.ListLaws.{all_or_any}
use Rattle.isl_piece.specs.declared.row.RowKind.TheVariants as kinds
use Rattle.isl_piece.specs.declared.row.RowKind.TheVariants.{Zero}
use Rattle.isl_piece.specs.declared.row.Row.{Row}
use Rattle.isl_piece.specs.Normal.{bound, upright, normal_zero, normal_at_least, normal_divides, normal_form, normal_row, normal_rows}
use Rattle.isl_piece.specs.Numbers.{divided, lead, reduced}
use Rattle.isl_piece.proofs.ContentLaws.{zero_cases}
use Rattle.isl_piece.proofs.NormalCases.{common_part, common_part-positive, normal_zero_by, normal_at_least_by, normal_divides_by}
use Rattle.isl_piece.proofs.NormalLaws.{normal_rows_all}
use Rattle.isl_piece.proofs.NumberLaws.{divided_one, quotient_one}
use Rattle.isl_piece.proofs.ShapeLaws.{IfKept}
use Rattle.isl_ledger.specs.Difference.{IsComparison, IsDifferenceRow}
use Rattle.isl_ledger.proofs.ComparisonLaws.{coefficient_cases, comparison_opposite, comparison_itself, comparison_zero}

-- ---- bits
-- one bit more holds twice as much
pub one_more : (b : ℕ) → 2 ^ (b + 1) ≡ 2 ^ b + 2 ^ b
one_more b = let e : b + 1 ≡ suc b = omega arith in ap (λ n. 2 ^ n) e ∙ pow-suc 2 b ∙ omega arith

pub difference_wider : (few more : ℕ) (r : Row) → few ≤ more → IsDifferenceRow few r → IsDifferenceRow more r
difference_wider few more r room h = record {
  kind = h.kind;
  modulus = h.modulus;
  first = h.first;
  second = h.second;
  compares = h.compares;
  constant = let c = h.constant in let m = pow_mono room in omega arith;
}

-- ---- the content of a comparison
-- only zeros have the content 0
pub zeros_content : (cs : List ℤ) → All (λ c. c ≡ pos 0) cs → content cs ≡ pos 0
zeros_content cs h = by (content cs) ((IsContentOf-content cs).greatest (pos 0) (λ k d l.
    subst (Divides (pos 0)) (sym (h k d l)) (Divides-zero (pos 0))))
  where
    by : (z : ℤ) → Divides (pos 0) z → z ≡ pos 0
    by z d = let e = d.is in omega (arith, linear)

divides_one : (g c : ℤ) → pos 0 ≤ℤ g → Divides g c → (c ≡ pos 1) ⊎ (c ≡ negsuc 0) → g ≡ pos 1
divides_one g c low d h = elim h [
  | inl e ↦ by g low (Divides-same g c (pos 1) e d)
  | inr e ↦ by g low (Divides-same g (neg_ℤ c) (pos 1) (ap neg_ℤ e) (Divides-neg_ℤ g c d))
]
  where
    by : (g : ℤ) → pos 0 ≤ℤ g → Divides g (pos 1) → g ≡ pos 1
    by g low d =
        let most = le_from_Divides g (pos 1) (omega (arith, linear)) d in
        elim (zero_cases g) [
          | inl e ↦ absurd (none g d e)
          | inr n ↦ omega (arith, linear)
        ]
      where
        none : (g : ℤ) → Divides g (pos 1) → g ≡ pos 0 → ⊥
        none g d e = let i = d.is in let f = ap (λ w. w *ℤ d.quotient) e in omega (arith, linear)

pub comparison_content : (cs : List ℤ) (i j : ℕ) → IsComparison cs i j → content cs ≢ pos 0 → content cs ≡ pos 1
comparison_content cs i j is n =
    elim (all_or_any (λ c. c ≡ pos 0) (λ c. c ≢ pos 0) cs (λ k d l. zero_cases (get_or cs k d))) [
      | inl zeros ↦ absurd (n (zeros_content cs zeros))
      | inr some ↦
          let c = some.1 in
          let here : c ≡ get_or cs some.0 (pos 0) = get_or_read cs some.0 c some.2 (sym some.3) (pos 0) in
          let common = IsContentOf-content cs in
          let own = common.common some.0 (pos 0) some.2 in
          let part : Divides (content cs) c = Divides-same (content cs) (get_or cs some.0 (pos 0)) c (sym here) own in
          divides_one (content cs) c common.not_negative part (elim (coefficient_cases cs i j some.0 is some.2) [
            | inl a ↦ inl (here ∙ a.1)
            | inr b ↦ elim b [ inl a ↦ inr (here ∙ a.1) | inr e ↦ absurd (some.4 (here ∙ e)) ]
          ])
    ]

-- ---- normal form
equality_difference : (b : ℕ) (cs : List ℤ) (c : ℤ) (i j : ℕ) → IsComparison cs i j → unsigned_abs c < 2 ^ b
    → IsDifferenceRow b (record { kind = Zero; coefs = cs; constant = c; k = pos 1 })
equality_difference b cs c i j is small =
    record { kind = inl refl; modulus = refl; first = i; second = j; compares = is; constant = small }

-- the form with its first coefficient made positive
signed_difference : (b : ℕ) (cs : List ℤ) (c z : ℤ) (i j : ℕ) → IsComparison cs i j → unsigned_abs c < 2 ^ b
    → IsDifferenceRow b (record { kind = Zero; coefs = scaled (sign_of z) cs; constant = sign_of z *ℤ c; k = pos 1 })
signed_difference b cs c (pos zero) i j is small =
    equality_difference b (scaled (pos 0) cs) (pos 0 *ℤ c) 0 0 (comparison_zero cs) (omega (arith, linear))
signed_difference b cs c (pos (suc z)) i j is small =
    equality_difference b (scaled (pos 1) cs) (pos 1 *ℤ c) i j (comparison_itself cs i j is) (omega (arith, linear))
signed_difference b cs c (negsuc z) i j is small =
    equality_difference b (scaled (negsuc 0) cs) (negsuc 0 *ℤ c) j i (comparison_opposite cs i j is) (omega (arith, linear))

pub bound_difference : (b : ℕ) (cs : List ℤ) (c : ℤ) (i j : ℕ) → IsComparison cs i j → unsigned_abs c < 2 ^ b
    → IsDifferenceRow b (bound cs c)
bound_difference b cs c i j is small =
    record { kind = inr refl; modulus = refl; first = i; second = j; compares = is; constant = small }

zero_kept : (b : ℕ) (cs : List ℤ) (c : ℤ) (i j : ℕ) → IsComparison cs i j → unsigned_abs c < 2 ^ b
    → IfKept (IsDifferenceRow b) (normal_zero cs c)
zero_kept b cs c i j is small = normal_zero_by (IfKept (IsDifferenceRow b)) cs c (λ e f. tt) (λ e f. tt) (λ e f. tt)
    (λ n d. by (content cs) (comparison_content cs i j is n))
  where
    by : (g : ℤ) → g ≡ pos 1 → IsDifferenceRow b (upright (divided g cs) (floor_div c g))
    by g e = rw (e, divided_one cs, quotient_one c) (signed_difference b cs c (lead cs) i j is small)

at_least_kept : (b : ℕ) (cs : List ℤ) (c : ℤ) (i j : ℕ) → IsComparison cs i j → unsigned_abs c < 2 ^ b
    → IfKept (IsDifferenceRow b) (normal_at_least cs c)
at_least_kept b cs c i j is small = normal_at_least_by (IfKept (IsDifferenceRow b)) cs c (λ e f. tt) (λ e f. tt)
    (λ n. by (content cs) (comparison_content cs i j is n))
  where
    by : (g : ℤ) → g ≡ pos 1 → IsDifferenceRow b (bound (divided g cs) (floor_div c g))
    by g e = rw (e, divided_one cs, quotient_one c) (bound_difference b cs c i j is small)

pub normal_difference : (b : ℕ) (r : Row) → IsDifferenceRow b r → IfKept (IsDifferenceRow b) (normal_row r)
normal_difference b r h = elim h.kind [
  | inl e ↦ subst (λ kind. IfKept (IsDifferenceRow b) (normal_form kind r.coefs r.constant r.k)) (sym e)
      (zero_kept b r.coefs r.constant h.first h.second h.compares h.constant)
  | inr e ↦ subst (λ kind. IfKept (IsDifferenceRow b) (normal_form kind r.coefs r.constant r.k)) (sym e)
      (at_least_kept b r.coefs r.constant h.first h.second h.compares h.constant)
]

-- what 1 divides: such a row always holds
pub record IsTrivial (r : Row) : Type 0 where
  pub kind : r.kind ≡ kinds.Divides
  pub modulus : r.k ≡ pos 1

trivial_kept : (b : ℕ) (cs : List ℤ) (c : ℤ) → IfKept (IsDifferenceRow b) (normal_divides cs c (pos 1))
trivial_kept b cs c = normal_divides_by (IfKept (IsDifferenceRow b)) cs c (pos 1) (omega (arith, linear)) (λ m. tt) (λ d e. tt)
    (λ d m. absurd (m whole))
  where
    common : common_part cs (pos 1) ≡ pos 1
    common =
        let low = common_part-positive cs (pos 1) (omega (arith, linear)) in
        let part = (IsContentOf-content (pos 1 ∷ reduced (pos 1) cs)).common 0 (pos 0) (omega arith) in
        divides_one (common_part cs (pos 1)) (pos 1) (omega (arith, linear)) part (inl refl)

    whole : floor_div (pos 1) (common_part cs (pos 1)) ≡ pos 1
    whole = ap (floor_div (pos 1)) common ∙ quotient_one (pos 1)

-- the normal rows of difference constraints, and rows that always hold, are difference constraints
pub normal_differences : (b : ℕ) (rows : List Row) → All (λ r. IsDifferenceRow b r ⊎ IsTrivial r) rows
    → IfSome (normal_rows rows) (All (IsDifferenceRow b))
normal_differences b rows h = normal_rows_all (λ r. IsDifferenceRow b r ⊎ IsTrivial r) (IsDifferenceRow b) each rows h
  where
    each : (r : Row) → IsDifferenceRow b r ⊎ IsTrivial r → IfKept (IsDifferenceRow b) (normal_row r)
    each r (inl d) = normal_difference b r d
    each r (inr t) = rw (t.kind, t.modulus) (trivial_kept b r.coefs r.constant)
