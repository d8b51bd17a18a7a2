-- Where the sum of a pair is constant, it caps the value of the lower bound.
use Rattle.std.proofs.Common.{◌≡◌, ◌⊎◌, ◌∙◌, refl, ap, inl, inr, arith, ℕ, ◌-◌, ◌<◌, ℤ, pos, negsuc, neg_ℤ, ◌+ℤ◌, ◌*ℤ◌, ◌≤ℤ◌, ◌<ℤ◌, List, [], ◌∷◌, ◌++◌, length, Option, Some, None, IfSome, MatchOption}
use Rattle.std.specs.List.{All, AllZip, insert}
use Rattle.std.proofs.lemmas.List.Elements.{All-nil, All-cons, All-head, All-tail}
use Rattle.isl_math.specs.Divide.{floor_div, IsGcdOf}
use Rattle.isl_math.specs.Dot.{dot}
use Rattle.isl_math.proofs.Ring.{expand, linear}
use Rattle.isl_math.proofs.OrderLaws.{≤ℤ-from_*ℤ, <ℤ-from_*ℤ, positive_not_zero}
use Rattle.isl_math.proofs.DivideLaws.{at_most_floor, exact_quotient, gcd_positive}
use Rattle.isl_math.proofs.ListLaws.{All-last}
use Rattle.isl_meter.proofs.LimitLemmas.{within_kept}
use Rattle.isl_meter.specs.Gauge.{Gauge, IsWithin}
use Rattle.isl_piece.specs.declared.row.Row.{Row}
use Rattle.isl_piece.specs.Row.{HoldsRow, value_at, coef_at}
use Rattle.isl_omega.specs.Column.{rest_at}
use Rattle.isl_omega.specs.Shadow.{Bound, IsPositive, MeetsUpper, together, lower_at, upper_at, IsRealRow, IsCap, AreNeverMet, IsCapped, neighbour_splinters, IsShadowOf, AreSplintersOf, IsShadow}
use Rattle.isl_omega.specs.declared.shadow.Splinters.{Splinters}
use Rattle.isl_omega.proofs.Splinters.{splinters_not_negative}
use Rattle.isl_omega.specs.Sides.{IsLower, IsUpper}
use Rattle.isl_omega.proofs.PairLemmas.{together_is, holds_at_least}
use Rattle.isl_omega.proofs.ShadowLemmas.{splinter_capped}
use Rattle.isl_omega.proofs.ShadowRows.{upper_meets, lower_value}

-- ---- one pair
dot_nought : (cs xs : List ℤ) → All (λ c. c ≡ pos 0) cs → dot cs xs ≡ pos 0
dot_nought [] xs h = refl
dot_nought (c ∷ cs) [] h = refl
dot_nought (c ∷ cs) (x ∷ xs) h =
    let e = ap (λ w. w *ℤ x) (All-head (λ c. c ≡ pos 0) c cs h) in
    let r = dot_nought cs xs (All-tail (λ c. c ≡ pos 0) c cs h) in
    omega (arith, linear)

-- the upper bound's factor b is d n, and the pair has d w together
capped_divided : (x d n w : ℤ) (l u : Bound) → IsPositive l → IsPositive u → MeetsUpper x u → pos 0 <ℤ d → d *ℤ n ≡ u.factor → together l u ≡ d *ℤ w → (l.factor *ℤ x +ℤ l.rest) ≤ℤ floor_div w n
capped_divided x d n w l u p q k r e t =
    let whole = (at_most_floor (d *ℤ w) u.factor (l.factor *ℤ x +ℤ l.rest) q).0 (splinter_capped x (d *ℤ w) l u p q k (omega (arith, linear))) in
    by (l.factor *ℤ x +ℤ l.rest) d n w u.factor q r e whole
  where
    by : (v d n w b : ℤ) → pos 0 <ℤ b → pos 0 <ℤ d → d *ℤ n ≡ b → (b *ℤ v) ≤ℤ (d *ℤ w) → v ≤ℤ floor_div w n
    by v d n w b q r e h =
        let above = <ℤ-from_*ℤ d (pos 0) n (omega (arith, linear)) (omega (arith, linear)) in
        let e' = simp expand at (ap (λ z. v *ℤ z) e) in
        let h' = simp expand at h in
        (at_most_floor w n v above).1 (≤ℤ-from_*ℤ d (n *ℤ v) w r (simp expand (omega (arith, linear))))

-- what the lower bound is multiplied by in the real row
pub cap_factor : (g : Gauge) (columns col : ℕ) (lower upper : Row) (d n : ℤ) → IsLower g columns col lower → IsUpper g columns col upper → IsGcdOf (coef_at lower col) (neg_ℤ (coef_at upper col)) d → n ≡ floor_div (neg_ℤ (coef_at upper col)) d
    → (d *ℤ n ≡ neg_ℤ (coef_at upper col)) × (pos 0 <ℤ n)
cap_factor g columns col lower upper d n hl hu h e =
    let above = gcd_positive (coef_at lower col) (neg_ℤ (coef_at upper col)) d (positive_not_zero (coef_at lower col) hl.factor) h in
    let whole = ap (λ w. d *ℤ w) e ∙ exact_quotient d (neg_ℤ (coef_at upper col)) above h.second in
    (whole, <ℤ-from_*ℤ d (pos 0) n (omega (arith, linear)) (let f = hu.factor in omega (arith, linear)))

pub cap_is : (g : Gauge) (columns col : ℕ) (lower upper : Row) (d n : ℤ) (real : Row) (cap : ℤ) → IsLower g columns col lower → IsUpper g columns col upper → col < columns → IsRealRow columns col lower upper d real → d *ℤ n ≡ neg_ℤ (coef_at upper col)
    → All (λ c. c ≡ pos 0) real.coefs → cap ≡ floor_div real.constant n → IsCap columns col lower (upper ∷ []) cap
cap_is g columns col lower upper d n real cap hl hu l r e z f point x w low ups =
    let xs = insert point col x in
    let up = All-head (λ u. HoldsRow u xs) upper [] ups in
    let meets = (upper_meets g columns col upper point x hu l w).0 up in
    let value = lower_value g columns col lower point x hl l w in
    let nought = dot_nought real.coefs xs z in
    let constant : value_at real xs ≡ real.constant = omega (arith, linear) in
    let pair = together_is g columns col lower upper point x hl hu l w ∙ r.value xs ∙ ap (λ v. d *ℤ v) constant in
    let top = capped_divided x d n real.constant (lower_at col point lower) (upper_at col point upper) hl.factor (let p = hu.factor in omega (arith, linear)) meets r.positive e pair in
    by (value_at lower xs) (coef_at lower col *ℤ x +ℤ rest_at lower col point) cap (floor_div real.constant n) value f top
  where
    by : (v u c t : ℤ) → v ≡ u → c ≡ t → u ≤ℤ t → v ≤ℤ c
    by v u c t e f h = omega (arith, linear)

-- ---- all upper bounds
pub either_cap : (P : ℤ → Type 0) (a b r : Option ℤ) → (r ≡ a) ⊎ (r ≡ b) → IfSome a P → IfSome b P → IfSome r P
either_cap P a b r (inl e) p q = rw e p
either_cap P a b r (inr e) p q = rw e q

pub cap_kept : (columns col : ℕ) (lower : Row) (uppers : List Row) (u : Row) (cap : Option ℤ) → IfSome cap (IsCap columns col lower uppers) → IfSome cap (IsCap columns col lower (uppers ++ u ∷ []))
cap_kept columns col lower uppers u None h = tt
cap_kept columns col lower uppers u (Some c) h = λ point x w low ups. h point x w low (All-last (λ u. HoldsRow u (insert point col x)) uppers u ups).0

pub cap_last : (columns col : ℕ) (lower : Row) (uppers : List Row) (u : Row) (cap : Option ℤ) → IfSome cap (IsCap columns col lower (u ∷ [])) → IfSome cap (IsCap columns col lower (uppers ++ u ∷ []))
cap_last columns col lower uppers u None h = tt
cap_last columns col lower uppers u (Some c) h = λ point x w low ups.
    let H : Row → Type 0 = λ u. HoldsRow u (insert point col x) in
    h point x w low (All-cons H u [] (All-last H uppers u ups).1 (All-nil H))

pub shadow_capped : (g : Gauge) (columns col : ℕ) (lower : Row) (uppers old new : List Row) (cap : Option ℤ) (last capped : ℤ) → IfSome cap (IsCap columns col lower uppers) → IsCapped cap last capped → IsShadowOf g columns col lower uppers old new last → IsShadowOf g columns col lower uppers old new capped
shadow_capped g columns col lower uppers old new cap last capped h c s = record {
  rows = s.rows;
  pushed = s.pushed;
  proper = s.proper;
  free = s.free;
  dark = s.dark;
  covered = λ point x n low ups. elim (s.covered point x n low ups) [
    | inl a ↦ inl a
    | inr v ↦ inr (c.covers (value_at lower (insert point col x)) v (at cap h point x n low ups))
  ];
  not_below = c.not_below s.not_below;
  few = λ m p a. let f = s.few m p a in let b = c.small s.not_below in omega (arith, linear);
}
  where
    at : (cap : Option ℤ) → IfSome cap (IsCap columns col lower uppers) → (point : List ℤ) (x : ℤ) → length point ≡ columns - 1 → HoldsRow lower (insert point col x) → All (λ u. HoldsRow u (insert point col x)) uppers → IfSome cap (λ c. value_at lower (insert point col x) ≤ℤ c)
    at None h point x n low ups = tt
    at (Some c) h point x n low ups = h point x n low ups

-- ---- bounds that are met nowhere
pub never_met : (g : Gauge) (columns col : ℕ) (lower : Row) (uppers : List Row) (cap : Option ℤ) → IsLower g columns col lower → IfSome cap (IsCap columns col lower uppers) → MatchOption cap ⊥ (λ c. c <ℤ pos 0) → AreNeverMet columns col (lower ∷ []) uppers
never_met g columns col lower uppers None hl h n = absurd n
never_met g columns col lower uppers (Some c) hl h n = λ point x w lows ups.
    let low = All-head (λ r. HoldsRow r (insert point col x)) lower [] lows in
    let top = h point x w low ups in
    let least = (holds_at_least lower.kind lower.k (value_at lower (insert point col x)) hl.kind).0 low in
    absurd (omega (arith, linear))

pub never_kept : (columns col : ℕ) (lowers : List Row) (l : Row) (uppers : List Row) → AreNeverMet columns col lowers uppers → AreNeverMet columns col (lowers ++ l ∷ []) uppers
never_kept columns col lowers l uppers h = λ point x w lows ups. h point x w (All-last (λ r. HoldsRow r (insert point col x)) lowers l lows).0 ups

pub never_last : (columns col : ℕ) (lowers : List Row) (l : Row) (uppers : List Row) → AreNeverMet columns col (l ∷ []) uppers → AreNeverMet columns col (lowers ++ l ∷ []) uppers
never_last columns col lowers l uppers h = λ point x w lows ups.
    let H : Row → Type 0 = λ r. HoldsRow r (insert point col x) in
    h point x w (All-cons H l [] (All-last H lowers l lows).1 (All-nil H)) ups

-- a tail that goes no further than it must
pub least_splinters : (g : Gauge) (columns col : ℕ) (neighbours : ℤ) (lower : Row) (tail : Splinters) (none : ℤ) → IsLower g columns col lower → tail.lower ≡ lower → none ≡ negsuc 0 → tail.last ≡ none +ℤ neighbour_splinters neighbours (coef_at lower col) → IsWithin g tail.last
    → (uppers : List Row) → AreSplintersOf g col neighbours uppers lower tail
least_splinters g columns col neighbours lower tail none hl same e value within uppers = record {
  same = same;
  within = within;
  not_below = omega (arith, linear);
  few = λ m p a. let t = splinters_not_negative (coef_at lower col) m hl.factor p in omega (arith, linear);
}

pub shadow_empty : (g : Gauge) (columns col : ℕ) (neighbours : ℤ) (lowers uppers rows : List Row) (tails least : List Splinters) → IsShadow g columns col neighbours lowers uppers rows tails → AreNeverMet columns col lowers uppers → AllZip (AreSplintersOf g col neighbours uppers) lowers least
    → IsShadow g columns col neighbours lowers uppers rows least
shadow_empty g columns col neighbours lowers uppers rows tails least s never z = record {
  proper = s.proper;
  free = s.free;
  dark = s.dark;
  covered = λ point x n h k. absurd (never point x n h k);
  tails_are = z;
}

pub least_kept : (g h : Gauge) (col : ℕ) (neighbours : ℤ) (uppers lowers : List Row) (tails : List Splinters) → h.bits ≡ g.bits → AllZip (AreSplintersOf h col neighbours uppers) lowers tails → AllZip (AreSplintersOf g col neighbours uppers) lowers tails
least_kept g h col neighbours uppers [] [] e z = tt
least_kept g h col neighbours uppers [] (t ∷ tails) e z = absurd z
least_kept g h col neighbours uppers (l ∷ lowers) [] e z = absurd z
least_kept g h col neighbours uppers (l ∷ lowers) (t ∷ tails) e z =
    let s = z.0 in (
      record { same = s.same; within = within_kept g h t.last e s.within; not_below = s.not_below; few = s.few },
      least_kept g h col neighbours uppers lowers tails e z.1,
    )
