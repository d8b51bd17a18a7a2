-- How large the numbers become in the congruence step.
use Rattle.std.proofs.Common.{◌≡◌, arith, lit≤, ℕ, ◌^◌, ◌<◌, ◌≤◌, ℤ, pos, ◌-ℤ◌, ◌*ℤ◌, ◌<ℤ◌, List, [], ◌∷◌, length, set, map, unsigned_abs}
use Rattle.std.specs.List.{All, AllZip}
use Rattle.std.proofs.lemmas.List.Elements.{All-nil, All-cons, All-head, All-weaker, All-set, All-append, All-map, All-filter}
use Rattle.isl_math.specs.Divide as divide
use Rattle.isl_math.specs.Dot.{weighted_sum}
use Rattle.isl_math.proofs.DivideLaws.{le_from_Divides}
use Rattle.isl_math.proofs.Ring.{linear}
use Rattle.isl_meter.specs.Gauge.{Gauge}
use Rattle.isl_piece.specs.declared.row.Row.{Row}
use Rattle.isl_piece.specs.Row.{IsRowUpTo, coef_at}
use Rattle.isl_omega.specs.Congruence.{AreMergedTo}
use Rattle.isl_math.specs.Divide.{IsRemainder}
use Rattle.isl_math.proofs.MagnitudeLaws.{up_to-floor_mod}
use Rattle.isl_piece.proofs.NumberLaws.{IsUpTo-reduced}
use Rattle.isl_piece.proofs.RowMagnitudes.{rows_more, row_more}
use Rattle.isl_omega.specs.Magnitude.{AreSidesUpTo}
use Rattle.isl_omega.specs.Sides.{is_same, side_of}
use Rattle.isl_omega.specs.Step.{IsSubstitutionOf, within_scale}
use Rattle.isl_omega.specs.Substitution.{offsets_of, substituted, IsMovedBound}
use Rattle.isl_omega.specs.declared.sides.Side.TheVariants.{NotDivides, Free}
use Rattle.isl_omega.specs.declared.sides.Sides.{Sides}
use Rattle.isl_math.proofs.ListLaws.{All-zipped}
use Rattle.isl_omega.proofs.SmallLemmas.{coef_up_to}
use Rattle.isl_piece.proofs.CombineLaws.{combination_up_to}

-- ---- the substitution
pub scale_up_to : (b : ℕ) (scale k : ℤ) → pos 0 <ℤ scale → pos 0 <ℤ k → divide.Divides scale k → unsigned_abs k ≤ b → (unsigned_abs scale ≤ b) × (unsigned_abs (k -ℤ scale) ≤ b)
scale_up_to b scale k p q d h = let l = le_from_Divides scale k q d in (omega (arith, linear), omega (arith, linear))

pub offsets_up_to : (b : ℕ) (factor : ℤ) (one row : Row) (col : ℕ) (z : ℤ) (coefs : List ℤ) → pos 0 <ℤ one.k → unsigned_abs one.k ≤ b → unsigned_abs z ≤ b → row ≡ offsets_of factor one → coefs ≡ set row.coefs col z
    → IsRowUpTo b (record { kind = row.kind; coefs = coefs; constant = row.constant; k = row.k })
offsets_up_to b factor one row col z coefs p h hz e f = rw (f, e) (record {
  coefs = All-set (λ c. unsigned_abs c ≤ b) _ col z hz (IsUpTo-reduced b one.k (weighted_sum factor one.coefs (pos 0) one.coefs) p h);
  constant = up_to-floor_mod b (factor *ℤ one.constant) one.k p h;
  k = omega (arith, linear);
})

-- ---- one congruence
remainder_up_to : (b : ℕ) (k x : ℤ) → unsigned_abs k ≤ b → IsRemainder k x → unsigned_abs x ≤ b
remainder_up_to b k x h r = let l = r.not_negative in let s = r.small in omega (arith, linear)

pub one_up_to : (g : Gauge) (columns col b : ℕ) (rows : List Row) (one : Row) (others : List Row) → 0 < length rows → length rows < 2 → All (IsRowUpTo b) rows → AreMergedTo g columns col rows one others → IsRowUpTo b one
one_up_to g columns col b [] one others some few h m = absurd (omega arith)
one_up_to g columns col b (r ∷ s ∷ rows) one others some few h m = absurd (omega arith)
one_up_to g columns col b (r ∷ []) one others some few h m =
    let own = (All-head (IsRowUpTo b) r [] h).k in
    let small = m.small in
    let positive = m.positive in
    let k : unsigned_abs one.k ≤ b = omega (arith, linear) in
    record {
      coefs = All-weaker (IsRemainder one.k) (λ c. unsigned_abs c ≤ b) (λ x p. remainder_up_to b one.k x k p) one.coefs m.is_reduced.coefs;
      constant = remainder_up_to b one.k one.constant k m.is_reduced.constant;
      k = k;
    }

-- ---- the sides
substituted_up_to : (scale : ℤ) (offsets : Row) (col : ℕ) (r : Row) → unsigned_abs scale ≤ 2 ^ 30 → IsRowUpTo (2 ^ 30) offsets → IsRowUpTo (2 ^ 30) r → IsRowUpTo (2 ^ 61) (substituted scale offsets col r)
substituted_up_to scale offsets col r s o h = combination_up_to (2 ^ 30) (2 ^ 30) (2 ^ 30) (2 ^ 30) (2 ^ 61) scale r (coef_at r col) offsets s (coef_up_to (2 ^ 30) r col h) h o (lit≤ tt) (lit≤ tt)

bounds_up_to : (columns col : ℕ) (scale : ℤ) (offsets : Row) (old new : List Row) → unsigned_abs scale ≤ 2 ^ 30 → IsRowUpTo (2 ^ 30) offsets → All (IsRowUpTo (2 ^ 30)) old → AllZip (IsMovedBound columns col scale offsets) old new → All (IsRowUpTo (2 ^ 61)) new
bounds_up_to columns col scale offsets old new s o h z =
    All-zipped (IsMovedBound columns col scale offsets) (IsRowUpTo (2 ^ 30)) (IsRowUpTo (2 ^ 61)) (λ r t m p. m.up_to (2 ^ 61) (substituted_up_to scale offsets col r s o p)) old new z h

pub moved_up_to : (g : Gauge) (columns col : ℕ) (one : Row) (others : List Row) (scale : ℤ) (offsets : Row) (old new : Sides) → IsSubstitutionOf g columns col one others scale offsets old new
    → IsRowUpTo (2 ^ 30) one → others ≡ [] → unsigned_abs scale ≤ 2 ^ 30 → IsRowUpTo (2 ^ 30) offsets → AreSidesUpTo (2 ^ 30) old → AreSidesUpTo (2 ^ 61) new
moved_up_to g columns col one others scale offsets old new m h none s o up =
    let moved : All (IsRowUpTo (2 ^ 61)) (map (substituted scale offsets col) old.not_divides) =
    All-map (IsRowUpTo (2 ^ 61)) (substituted scale offsets col) old.not_divides (All-weaker (IsRowUpTo (2 ^ 30)) (λ r. IsRowUpTo (2 ^ 61) (substituted scale offsets col r)) (λ r p. substituted_up_to scale offsets col r s o p) old.not_divides up.not_divides) in
    let last : IsRowUpTo (2 ^ 30) (within_scale one scale) = record { coefs = h.coefs; constant = h.constant; k = s } in
    let nothing : All (IsRowUpTo (2 ^ 61)) others = rw none (All-nil (IsRowUpTo (2 ^ 61))) in
    record {
      lowers = bounds_up_to columns col scale offsets old.lowers new.lowers s o up.lowers m.lowers;
      uppers = bounds_up_to columns col scale offsets old.uppers new.uppers s o up.uppers m.uppers;
      divides = rw (m.divides) (All-nil (IsRowUpTo (2 ^ 61)));
      not_divides = rw (m.not_divides) (All-filter (λ r. is_same NotDivides (side_of col r)) (IsRowUpTo (2 ^ 61)) _ moved);
      free = rw (m.free) (All-append (IsRowUpTo (2 ^ 61)) _ _
          (All-append (IsRowUpTo (2 ^ 61)) _ _ (All-append (IsRowUpTo (2 ^ 61)) _ _ (All-filter (λ r. is_same Free (side_of col r)) (IsRowUpTo (2 ^ 61)) _ moved) nothing) (rows_more (2 ^ 30) (2 ^ 61) old.free (lit≤ tt) up.free))
          (All-cons (IsRowUpTo (2 ^ 61)) (within_scale one scale) [] (row_more (2 ^ 30) (2 ^ 61) (within_scale one scale) (lit≤ tt) last) (All-nil (IsRowUpTo (2 ^ 61)))));
    }

pub sides_more : (sides : Sides) → AreSidesUpTo (2 ^ 30) sides → AreSidesUpTo (2 ^ 61) sides
sides_more sides h = record {
  lowers = rows_more (2 ^ 30) (2 ^ 61) sides.lowers (lit≤ tt) h.lowers;
  uppers = rows_more (2 ^ 30) (2 ^ 61) sides.uppers (lit≤ tt) h.uppers;
  divides = rows_more (2 ^ 30) (2 ^ 61) sides.divides (lit≤ tt) h.divides;
  not_divides = rows_more (2 ^ 30) (2 ^ 61) sides.not_divides (lit≤ tt) h.not_divides;
  free = rows_more (2 ^ 30) (2 ^ 61) sides.free (lit≤ tt) h.free;
}
