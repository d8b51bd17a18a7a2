-- What is least is the negative of what is greatest.
use Rattle.std.proofs.Common.{◌≡◌, ◌⊎◌, ◌↔◌, inl, inr, refl, sym, ap, ◌∙◌, subst, arith, ℕ, zero, suc, ◌+◌, ℤ, pos, neg_ℤ, ◌<ℤ◌, ◌+ℤ◌, ◌*ℤ◌}
use Rattle.std.proofs.Common.{List, [], ◌∷◌, ◌++◌, length, map, Option, Some, None}
use Rattle.std.specs.Prelude.{option_map}
use Rattle.isl_math.specs.Dot.{dot}
use Rattle.isl_math.specs.Order.{IsBefore}
use Rattle.isl_math.proofs.Ring.{expand, linear}
use Rattle.isl_piece.specs.declared.row.Row.{Row}
use Rattle.isl_piece.specs.Row.{value_at, HoldsRow, HoldsValue}
use Rattle.isl_greatest_law.specs.Front.{GivesGreatest, IsGreatest}
use Rattle.isl_pip_law.specs.Least.{GivesLeast, IsLeast}
use Rattle.isl_pip_law.specs.Mirror.{mirrored, mirrored_row}

-- ---- rows
negated_dot : (cs us : List ℤ) → dot (map neg_ℤ cs) us ≡ dot cs (map neg_ℤ us)
negated_dot [] us = refl
negated_dot (c ∷ cs) [] = refl
negated_dot (c ∷ cs) (u ∷ us) = by c u (dot (map neg_ℤ cs) us) (dot cs (map neg_ℤ us)) (negated_dot cs us)
  where
    by : (c u a b : ℤ) → a ≡ b → neg_ℤ c *ℤ u +ℤ a ≡ c *ℤ neg_ℤ u +ℤ b
    by c u a b e = simp expand (omega (arith, linear, e))

mirrored_dot : (n : ℕ) (cs v us : List ℤ) → length v ≡ n → dot (mirrored n cs) (v ++ us) ≡ dot cs (v ++ map neg_ℤ us)
mirrored_dot zero cs [] us e = negated_dot cs us
mirrored_dot zero cs (x ∷ v) us e = absurd (omega (arith, e))
mirrored_dot (suc n) [] v us e = refl
mirrored_dot (suc n) (c ∷ cs) [] us e = absurd (omega (arith, e))
mirrored_dot (suc n) (c ∷ cs) (x ∷ v) us e = ap (λ z. c *ℤ x +ℤ z) (mirrored_dot n cs v us (omega (arith, e)))

pub mirrored_holds : (n : ℕ) (r : Row) (v us : List ℤ) → length v ≡ n → HoldsRow (mirrored_row n r) (v ++ us) ↔ HoldsRow r (v ++ map neg_ℤ us)
mirrored_holds n r v us e =
    let same = ap (λ z. z +ℤ r.constant) (mirrored_dot n r.coefs v us e) in
    (subst (HoldsValue r.kind r.k) same, subst (HoldsValue r.kind r.k) (sym same))

-- ---- order
negated_before : (a b : List ℤ) → IsBefore a b → IsBefore (map neg_ℤ b) (map neg_ℤ a)
negated_before [] b h = absurd h
negated_before (x ∷ a) [] h = absurd h
negated_before (x ∷ a) (y ∷ b) (inl l) = inl (omega (arith, linear, l))
negated_before (x ∷ a) (y ∷ b) (inr r) = inr (ap neg_ℤ (sym r.0), negated_before a b r.1)

twice : (xs : List ℤ) → map neg_ℤ (map neg_ℤ xs) ≡ xs
twice [] = refl
twice (x ∷ xs) = by (neg_ℤ (neg_ℤ x)) x (omega (arith, linear)) (map neg_ℤ (map neg_ℤ xs)) xs (twice xs)
  where
    by : (a b : ℤ) → a ≡ b → (us vs : List ℤ) → us ≡ vs → (a ∷ us) ≡ (b ∷ vs)
    by a b e us vs f = cc

pub least_from : (P Q : List ℤ → Type 0) → ((us : List ℤ) → Q us ↔ P (map neg_ℤ us)) → (r : Option (List ℤ))
    → GivesGreatest Q (option_map (map neg_ℤ) r) → GivesLeast P r
least_from P Q same None none = λ ys is. none (map neg_ℤ ys) ((same (map neg_ℤ ys)).1 (subst P (sym (twice ys)) is))
least_from P Q same (Some ys) most = (
  subst P (twice ys) ((same (map neg_ℤ ys)).0 most.0),
  λ zs is before. most.1 (map neg_ℤ zs) ((same (map neg_ℤ zs)).1 (subst P (sym (twice zs)) is)) (negated_before zs ys before),
)

pub greatest_from : (P Q : List ℤ → Type 0) → ((us : List ℤ) → Q us ↔ P (map neg_ℤ us)) → (ys : List ℤ) → IsLeast P ys → IsGreatest Q (map neg_ℤ ys)
greatest_from P Q same ys least = (
  (same (map neg_ℤ ys)).1 (subst P (sym (twice ys)) least.0),
  λ zs is before. least.1 (map neg_ℤ zs) ((same zs).0 is)
      (subst (λ l. IsBefore (map neg_ℤ zs) l) (twice ys) (negated_before (map neg_ℤ ys) zs before)),
)
