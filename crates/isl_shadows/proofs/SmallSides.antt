-- The sides of rows with small numbers and at most one congruence on the column.
use Rattle.std.proofs.Common.{◌≡◌, ◌≢◌, refl, arith, Bool, true, false, not, cond, Decides, ℕ, zero, suc, ◌<◌, ◌≤◌, ℤ, pos, negsuc, ◌<ℤ◌, List, [], ◌∷◌, length}
use Rattle.std.specs.List.{All, filter}
use Rattle.std.proofs.lemmas.List.Elements.{All-head, All-tail, All-filter}
use Rattle.std.specs.Ordering.{int_eq}
use Rattle.std.proofs.lemmas.Bool.Decides.{Decides-int_eq}
use Rattle.isl_math.specs.Divide.{floor_mod}
use Rattle.isl_math.proofs.DivideLaws.{mod-from_Divides}
use Rattle.isl_math.proofs.Ring.{linear}
use Rattle.isl_piece.specs.declared.row.RowKind.{RowKind}
use Rattle.isl_piece.specs.declared.row.RowKind.TheVariants as kind
use Rattle.isl_piece.specs.declared.row.Row.{Row}
use Rattle.isl_piece.specs.Row.{IsRowUpTo, IsWellFormed, HasModulus, coef_at}
use Rattle.isl_omega.specs.Magnitude.{AreSidesUpTo}
use Rattle.isl_shadows.specs.Magnitude.{has_congruence, congruences_on}
use Rattle.isl_omega.specs.Sides.{AreSidesOf, is_same, side_of, side_of_kind, unless_multiple}
use Rattle.isl_omega.specs.declared.sides.Side.{Side}
use Rattle.isl_omega.specs.declared.sides.Side.TheVariants.{Lower, Upper, Divides, NotDivides, Free}
use Rattle.isl_omega.specs.declared.sides.Sides.{Sides}

pub sides_up_to : (b col : ℕ) (rows : List Row) (sides : Sides) → AreSidesOf rows col sides → All (IsRowUpTo b) rows → AreSidesUpTo b sides
sides_up_to b col rows sides are h = record {
  lowers = rw (are.lowers) (All-filter (λ r. is_same Lower (side_of col r)) (IsRowUpTo b) rows h);
  uppers = rw (are.uppers) (All-filter (λ r. is_same Upper (side_of col r)) (IsRowUpTo b) rows h);
  divides = rw (are.divides) (All-filter (λ r. is_same Divides (side_of col r)) (IsRowUpTo b) rows h);
  not_divides = rw (are.not_divides) (All-filter (λ r. is_same NotDivides (side_of col r)) (IsRowUpTo b) rows h);
  free = rw (are.free) (All-filter (λ r. is_same Free (side_of col r)) (IsRowUpTo b) rows h);
}

-- a test that asks more keeps no more elements
filter_fewer : {X : Type 0} (P : X → Type 0) (p q : X → Bool) → ((x : X) → P x → p x ≡ true → q x ≡ true) → (xs : List X) → All P xs → length (filter p xs) ≤ length (filter q xs)
filter_fewer P p q f [] h = omega arith
filter_fewer P p q f (x ∷ xs) h = by (p x) (q x) (f x (All-head P x xs h)) (filter_fewer P p q f xs (All-tail P x xs h))
  where
    by : (b d : Bool) → (b ≡ true → d ≡ true) → length (filter p xs) ≤ length (filter q xs) → length (cond b (x ∷ filter p xs) (filter p xs)) ≤ length (cond d (x ∷ filter q xs) (filter q xs))
    by true true f h = omega arith
    by true false f h = absurd (let e = f refl in cc)
    by false true f h = omega arith
    by false false f h = omega arith

not_zero : (c : ℤ) → c ≢ pos 0 → not (int_eq c (pos 0)) ≡ true
not_zero c n = by (int_eq c (pos 0)) (Decides-int_eq c (pos 0))
  where
    by : (b : Bool) → Decides b (c ≡ pos 0) → not b ≡ true
    by true d = absurd (n (d.0 refl))
    by false d = refl

no_rest : (k : ℤ) → pos 0 <ℤ k → floor_mod (pos 0) k ≡ pos 0
no_rest k p = mod-from_Divides k (pos 0) p (record { quotient = pos 0; is = omega (arith, linear) })

free_at_none : (side : Side) (k : ℤ) → pos 0 <ℤ k → unless_multiple side (floor_mod (pos 0) k) ≡ Free
free_at_none side k p = rw (no_rest k p) refl

divides_has : (kind : RowKind) (k c : ℤ) → HasModulus kind k → is_same Divides (side_of_kind kind k c) ≡ true → has_congruence kind c ≡ true
divides_has kind.Zero k c d h = absurd (cc)
divides_has kind.AtLeast k (pos zero) d h = absurd (cc)
divides_has kind.AtLeast k (pos (suc n)) d h = absurd (cc)
divides_has kind.AtLeast k (negsuc n) d h = absurd (cc)
divides_has kind.Divides k (pos zero) d h = absurd (let e = rw (free_at_none Divides k d) at h in cc)
divides_has kind.Divides k (pos (suc n)) d h = not_zero (pos (suc n)) (λ e. cc)
divides_has kind.Divides k (negsuc n) d h = not_zero (negsuc n) (λ e. cc)
divides_has kind.NotDivides k (pos zero) d h = absurd (let e = rw (free_at_none NotDivides k d) at h in cc)
divides_has kind.NotDivides k (pos (suc n)) d h = not_zero (pos (suc n)) (λ e. cc)
divides_has kind.NotDivides k (negsuc n) d h = not_zero (negsuc n) (λ e. cc)

not_divides_has : (kind : RowKind) (k c : ℤ) → HasModulus kind k → is_same NotDivides (side_of_kind kind k c) ≡ true → has_congruence kind c ≡ true
not_divides_has kind.Zero k c d h = absurd (cc)
not_divides_has kind.AtLeast k (pos zero) d h = absurd (cc)
not_divides_has kind.AtLeast k (pos (suc n)) d h = absurd (cc)
not_divides_has kind.AtLeast k (negsuc n) d h = absurd (cc)
not_divides_has kind.Divides k (pos zero) d h = absurd (let e = rw (free_at_none Divides k d) at h in cc)
not_divides_has kind.Divides k (pos (suc n)) d h = not_zero (pos (suc n)) (λ e. cc)
not_divides_has kind.Divides k (negsuc n) d h = not_zero (negsuc n) (λ e. cc)
not_divides_has kind.NotDivides k (pos zero) d h = absurd (let e = rw (free_at_none NotDivides k d) at h in cc)
not_divides_has kind.NotDivides k (pos (suc n)) d h = not_zero (pos (suc n)) (λ e. cc)
not_divides_has kind.NotDivides k (negsuc n) d h = not_zero (negsuc n) (λ e. cc)

pub sides_few : (columns col : ℕ) (rows : List Row) (sides : Sides) → AreSidesOf rows col sides → All (IsWellFormed columns) rows → length (congruences_on col rows) ≤ 1 → (length sides.divides < 2) × (length sides.not_divides < 2)
sides_few columns col rows sides are h few =
    let divides = filter_fewer (IsWellFormed columns) (λ r. is_same Divides (side_of col r)) (λ r. has_congruence r.kind (coef_at r col)) (λ r f e. divides_has r.kind r.k (coef_at r col) f.modulus e) rows h in
    let not_divides = filter_fewer (IsWellFormed columns) (λ r. is_same NotDivides (side_of col r)) (λ r. has_congruence r.kind (coef_at r col)) (λ r f e. not_divides_has r.kind r.k (coef_at r col) f.modulus e) rows h in
    (rw (are.divides) (omega arith), rw (are.not_divides) (omega arith))
