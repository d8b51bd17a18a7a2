-- Congruences as steps.
use Rattle.std.proofs.Common.{◌≡◌, ◌↔◌, refl, sym, ap, ◌∙◌, subst, arith, ℕ, zero, suc, ◌+◌, ◌<◌, ◌-◌, ℤ, pos, neg_ℤ, ◌+ℤ◌, ◌-ℤ◌}
use Rattle.std.proofs.Common.{◌*ℤ◌}
use Rattle.std.proofs.Common.{List, [], ◌∷◌, ◌++◌, length, length-append, get_or, take}
use Rattle.std.specs.List.{All, AllZip}
use Rattle.std.proofs.lemmas.List.{get_or-append_right, length-take-le, take_more}
use Rattle.std.proofs.lemmas.List.Elements.{All-append, All-cons, All-nil}
use Rattle.isl_math.specs.Divide as divide
use Rattle.isl_math.specs.Divide.{floor_div, floor_mod, IsCongruent, IsGcdOf, IsInverse}
use Rattle.isl_math.specs.Dot.{dot}
use Rattle.isl_math.proofs.DivideLaws.{Divides-*ℤ, Divides-+ℤ, Divides-minus, Divides-same}
use Rattle.isl_math.proofs.ListLaws.{AllZip-more}
use Rattle.isl_math.proofs.Ring.{expand, linear}
use Rattle.isl_meter.specs.Gauge.{Gauge, IsWithin}
use Rattle.isl_piece.specs.declared.row.RowKind.{RowKind}
use Rattle.isl_piece.specs.declared.row.RowKind.TheVariants.{Divides}
use Rattle.isl_piece.specs.declared.row.Row.{Row}
use Rattle.isl_piece.specs.Row.{coef_at, HasModulus, HoldsValue, IsRowWithin, IsWellFormed}
use Rattle.isl_bounds.specs.Step.{IsStepOf}

-- ---- one number
-- what is left, as the code has it
pub left_modulo : (number by k q product p left : ℤ) → product ≡ by *ℤ (number -ℤ k *ℤ q) → left ≡ product -ℤ k *ℤ p
    → IsCongruent k left (by *ℤ number)
left_modulo number by k q product p left e f = record {
  quotient = neg_ℤ (by *ℤ q +ℤ p);
  is = rw (f, e) (simp expand (omega
      (arith, linear)));
}

pub missing_modulo : (k left z missing : ℤ) → IsCongruent k left z → missing ≡ k -ℤ left → IsCongruent k (neg_ℤ missing) z
missing_modulo k left z missing h e =
    let q = h.is in
    record { quotient = h.quotient -ℤ pos 1; is = rw e (simp expand (omega (arith, linear, simp expand at q))) }

-- one more coefficient
pub congruent_more : (k by : ℤ) (cs : List ℤ) (i : ℕ) (ds : List ℤ) (c d : ℤ) (pushed : List ℤ) → i < length cs → c ≡ get_or cs i (pos 0)
    → AllZip (λ c d. IsCongruent k d (by *ℤ c)) (take i cs) ds → IsCongruent k d (by *ℤ c) → pushed ≡ ds ++ d ∷ []
    → AllZip (λ c d. IsCongruent k d (by *ℤ c)) (take (i + 1) cs) pushed
congruent_more k by cs i ds c d pushed low read zip near is =
    let R : ℤ → ℤ → Type 0 = λ c d. IsCongruent k d (by *ℤ c) in
    subst (AllZip R (take (i + 1) cs)) (sym is)
    (subst (λ (xs : List ℤ). AllZip R xs (ds ++ d ∷ [])) (sym (take_more cs i (pos 0) low ∙ ap (λ z. take i cs ++ z ∷ []) (sym read)))
    (AllZip-more R (take i cs) ds c d zip near))

pub all_within_more : (g : Gauge) (ds : List ℤ) (d : ℤ) (pushed : List ℤ) → All (IsWithin g) ds → IsWithin g d → pushed ≡ ds ++ d ∷ []
    → All (IsWithin g) pushed
all_within_more g ds d pushed all one is = rw is (All-append (IsWithin g) ds (d ∷ []) all (All-cons (IsWithin g) d [] one (All-nil
    (IsWithin g))))

-- ---- forms
-- each coefficient is congruent to a multiple of another one's
dot_congruent : (k by : ℤ) (cs ds xs : List ℤ) → AllZip (λ c d. IsCongruent k d (by *ℤ c)) cs ds
    → divide.Divides k (dot ds xs -ℤ by *ℤ dot cs xs)
dot_congruent k by [] [] xs z = record { quotient = pos 0; is = omega (arith, linear) }
dot_congruent k by [] (d ∷ ds) xs z = absurd z
dot_congruent k by (c ∷ cs) [] xs z = absurd z
dot_congruent k by (c ∷ cs) (d ∷ ds) [] z = record { quotient = pos 0; is = omega (arith, linear) }
dot_congruent k by (c ∷ cs) (d ∷ ds) (x ∷ xs) z =
    let more = dot_congruent k by cs ds xs z.1 in
    Divides-same k ((d -ℤ by *ℤ c) *ℤ x +ℤ (dot ds xs -ℤ by *ℤ dot cs xs)) (d *ℤ x +ℤ dot ds xs -ℤ by *ℤ (c *ℤ x +ℤ dot cs xs))
    (simp expand (omega (arith, linear)))
    (Divides-+ℤ k ((d -ℤ by *ℤ c) *ℤ x) (dot ds xs -ℤ by *ℤ dot cs xs) (Divides-*ℤ k (d -ℤ by *ℤ c) x z.0) more)

-- where v is congruent to a multiple of z by what has an inverse, k divides both or none
same_divided : (k c by z v : ℤ) → IsGcdOf c k (pos 1) → divide.Divides k (c *ℤ by -ℤ pos 1) → divide.Divides k (v -ℤ by *ℤ z)
    → divide.Divides k v ↔ divide.Divides k z
same_divided k c by z v coprime inverse near = (
  (λ h.
      let m : divide.Divides k (by *ℤ z) = Divides-same k (v -ℤ (v -ℤ by *ℤ z)) (by *ℤ z) (omega (arith, linear)) (Divides-minus k v
      (v -ℤ by *ℤ z) h near) in
      let n : divide.Divides k (by *ℤ z *ℤ c) = Divides-*ℤ k (by *ℤ z) c m in
      let u : divide.Divides k ((c *ℤ by -ℤ pos 1) *ℤ z) = Divides-*ℤ k (c *ℤ by -ℤ pos 1) z inverse in
      Divides-same k (by *ℤ z *ℤ c -ℤ (c *ℤ by -ℤ pos 1) *ℤ z) z (simp expand (omega (arith, linear))) (Divides-minus k (by *ℤ z *ℤ c)
      ((c *ℤ by -ℤ pos 1) *ℤ z) n u)),
  (λ h.
      let m : divide.Divides k (z *ℤ by) = Divides-*ℤ k z by h in
      Divides-same k (v -ℤ by *ℤ z +ℤ z *ℤ by) v (simp expand (omega (arith, linear))) (Divides-+ℤ k (v -ℤ by *ℤ z) (z *ℤ by) near m)),
)

zip_long : {A B : Type 0} (R : A → B → Type 0) (xs : List A) (ys : List B) → AllZip R xs ys → length ys ≡ length xs
zip_long R [] [] z = refl
zip_long R [] (y ∷ ys) z = absurd z
zip_long R (x ∷ xs) [] z = absurd z
zip_long R (x ∷ xs) (y ∷ ys) z = ap suc (zip_long R xs ys z.1)

-- the last of a list stands behind the first ones
first_and_last : (cs : List ℤ) (n : ℕ) → length cs ≡ n + 1 → cs ≡ take n cs ++ get_or cs n (pos 0) ∷ []
first_and_last [] n e = absurd (omega (arith, e))
first_and_last (c ∷ []) zero e = refl
first_and_last (c ∷ d ∷ cs) zero e = absurd (omega (arith, e))
first_and_last (c ∷ cs) (suc n) e = ap (λ (ds : List ℤ). c ∷ ds) (first_and_last cs n (omega (arith, e)))

module _ (g : Gauge) (variables : ℕ) (row : Row) (formed : IsWellFormed (variables + 1) row) (kind : row.kind ≡ Divides)
    (within : IsRowWithin g row) (coprime : IsGcdOf (coef_at row variables) row.k (pos 1)) (by : ℤ)
    (inverse : IsInverse (coef_at row variables) row.k by) (coefs : List ℤ)
    (zip : AllZip (λ c d. IsCongruent row.k d (by *ℤ c)) (take variables row.coefs) coefs) (all : All (IsWithin g) coefs)
    (one : IsWithin g (pos 1))
    (constant : ℤ) (near : IsCongruent row.k constant (by *ℤ row.constant)) (constant_within : IsWithin g constant) where
  last : ℤ
  last = coef_at row variables

  whole : List ℤ
  whole = coefs ++ pos 1 ∷ []

  whole_zip : AllZip (λ c d. IsCongruent row.k d (by *ℤ c)) row.coefs whole
  unfolding last whole
  whole_zip = subst (λ (cs : List ℤ). AllZip (λ c d. IsCongruent row.k d (by *ℤ c)) cs (coefs ++ pos 1 ∷ []))
      (sym (first_and_last row.coefs variables formed.width))
      (AllZip-more (λ c d. IsCongruent row.k d (by *ℤ c)) (take variables row.coefs) coefs (coef_at row variables) (pos 1) zip
      (turned (coef_at row variables) by row.k inverse.inverse))
    where
      turned : (c by k : ℤ) → IsCongruent k (c *ℤ by) (pos 1) → IsCongruent k (pos 1) (by *ℤ c)
      turned c by k h = let q = h.is in record { quotient = neg_ℤ h.quotient; is = simp expand (omega (arith, linear, simp expand at q)) }

  coefs_long : length coefs ≡ variables
  coefs_long =
      let wide = formed.width in
      zip_long (λ c d. IsCongruent row.k d (by *ℤ c)) (take variables row.coefs) coefs zip
      ∙ length-take-le variables row.coefs (omega (arith, wide))

  pub step_is : (step : Row) → step ≡ record { kind = Divides; coefs = coefs ++ pos 1 ∷ []; constant = constant; k = row.k }
      → IsStepOf g variables row step
  unfolding last whole
  step_is step is = rw is (record {
    is = record {
      formed = record {
        width = length-append coefs (pos 1 ∷ []) ∙ ap (λ n. n + 1) coefs_long;
        modulus = subst (λ (kind : RowKind). HasModulus kind row.k) kind formed.modulus;
      };
      within = record {
        coefs = All-append (IsWithin g) coefs (pos 1 ∷ []) all (All-cons (IsWithin g) (pos 1) [] one (All-nil (IsWithin g)));
        constant = constant_within;
        k = within.k;
      };
      kind = refl;
      last = get_or-append_right coefs (pos 1 ∷ []) variables variables (pos 0) coefs_long (omega arith) ∙ first variables;
    };
    points = λ point.
        let own = dot (coefs ++ pos 1 ∷ []) point in
        let theirs = dot row.coefs point in
        let n : divide.Divides row.k (own +ℤ constant -ℤ by *ℤ (theirs +ℤ row.constant)) =
        Divides-same row.k (own -ℤ by *ℤ theirs +ℤ (constant -ℤ by *ℤ row.constant)) (own +ℤ constant -ℤ by *ℤ (theirs +ℤ row.constant))
        (together own theirs constant row.constant by)
        (Divides-+ℤ row.k (own -ℤ by *ℤ theirs) (constant -ℤ by *ℤ row.constant)
        (dot_congruent row.k by row.coefs (coefs ++ pos 1 ∷ []) point whole_zip) near) in
        let told = same_divided row.k (coef_at row variables) by (theirs +ℤ row.constant) (own +ℤ constant) coprime inverse.inverse n in
        moved row.kind row.k (own +ℤ constant) (theirs +ℤ row.constant) kind told;
  })
    where
      first : (n : ℕ) → get_or (pos 1 ∷ []) (n - n) (pos 0) ≡ pos 1
      first n = ap (λ m. get_or (pos 1 ∷ []) m (pos 0)) (none n)
        where
          none : (n : ℕ) → n - n ≡ 0
          none n = omega arith

      together : (own theirs c d by : ℤ) → own -ℤ by *ℤ theirs +ℤ (c -ℤ by *ℤ d) ≡ own +ℤ c -ℤ by *ℤ (theirs +ℤ d)
      together own theirs c d by = simp expand (omega (arith, linear))

      moved : (kind : RowKind) (k v w : ℤ) → kind ≡ Divides → divide.Divides k v ↔ divide.Divides k w
          → HoldsValue Divides k v ↔ HoldsValue kind k w
      moved kind k v w e told = rw e told
