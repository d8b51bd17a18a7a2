-- How large the numbers of shadows, tails and branches become.
use Rattle.std.proofs.Common.{◌≡◌, arith, lit<, lit≤, ℕ, ◌+◌, ◌*◌, ◌^◌, ◌<◌, ◌≤◌, ℤ, pos, neg_ℤ, ◌+ℤ◌, ◌-ℤ◌, ◌*ℤ◌, ◌≤ℤ◌, ◌<ℤ◌, List, map, unsigned_abs}
use Rattle.std.specs.List.{All}
use Rattle.std.proofs.lemmas.List.Elements.{All-weaker, All-append, All-map}
use Rattle.isl_math.proofs.Ring.{linear}
use Rattle.isl_meter.specs.Gauge.{Gauge}
use Rattle.isl_piece.specs.declared.row.Row.{Row}
use Rattle.isl_piece.specs.Row.{IsRowUpTo, coef_at}
use Rattle.isl_shadows.specs.Splinters.{rows_of, shifted_row, AreShadowsOf}
use Rattle.isl_omega.specs.Magnitude.{AreSidesUpTo}
use Rattle.isl_shadows.specs.Magnitude.{AreSmallSplinters}
use Rattle.isl_omega.specs.Shadow.{splinters, AreSplintersOf, IsShadow}
use Rattle.isl_omega.specs.Sides.{IsLower, AreSided}
use Rattle.isl_omega.specs.declared.shadow.Splinters.{Splinters}
use Rattle.isl_omega.specs.declared.sides.Sides.{Sides}
use Rattle.isl_math.proofs.ListLaws.{All-zipped}
use Rattle.isl_math.proofs.MagnitudeLaws.{up_to-difference, up_to-neg, up_to-product}
use Rattle.isl_omega.proofs.SmallLemmas.{at_most, coef_up_to}
use Rattle.isl_shadows.proofs.SplinterLemmas.{lowered_by}
use Rattle.isl_omega.proofs.SmallPairs.{splinters_few, factors_up_to}

-- at most one neighbour
pub neighbours_up_to : (b : ℕ) (neighbours a : ℤ) → unsigned_abs neighbours ≤ 1 → unsigned_abs a ≤ b → unsigned_abs (neighbours *ℤ a) ≤ b
neighbours_up_to b neighbours a one h = by b (unsigned_abs (neighbours *ℤ a)) (up_to-product 1 b neighbours a one h)
  where
    by : (b n : ℕ) → n ≤ 1 * b → n ≤ b
    by b n h = omega arith

tail_small : (g : Gauge) (columns col : ℕ) (neighbours : ℤ) (uppers : List Row) (lower : Row) (tail : Splinters) → unsigned_abs neighbours ≤ 1
    → All (IsRowUpTo (2 ^ 62)) uppers → AreSplintersOf g col neighbours uppers lower tail
    → IsLower g columns col lower × IsRowUpTo (2 ^ 61) lower → AreSmallSplinters tail
tail_small g columns col neighbours uppers lower tail one k t l =
    let positive : pos 0 <ℤ pos (2 ^ 62) = record { lt = tt } in
    let small = coef_up_to (2 ^ 61) lower col l.1 in
    record {
      lower = rw (t.same) (l.1);
      last = by (neighbours *ℤ coef_at lower col) (coef_at lower col) (splinters (coef_at lower col) (pos (2 ^ 62))) (2 ^ 61) (2 ^ 62) tail.last
          (splinters_few (coef_at lower col) (pos (2 ^ 62)) l.0.factor positive) (neighbours_up_to (2 ^ 61) neighbours (coef_at lower col) one small) small (lit< tt) (lit≤ tt) t.not_below
          (t.few (pos (2 ^ 62)) positive (factors_up_to (2 ^ 62) col uppers k));
    }
  where
    by : (more a s : ℤ) (b c : ℕ) (last : ℤ) → s ≤ℤ a → unsigned_abs more ≤ b → unsigned_abs a ≤ b → 0 < b → b + b ≤ c → (more -ℤ pos 1) ≤ℤ last
        → (last +ℤ pos 1) ≤ℤ (s +ℤ more) → unsigned_abs last ≤ c
    by more a s b c last le own h some room low high = omega (arith, linear)

tails_small : (g : Gauge) (columns col : ℕ) (neighbours : ℤ) (lowers uppers rows : List Row) (tails : List Splinters) → unsigned_abs neighbours ≤ 1
    → All (IsLower g columns col) lowers → All (IsRowUpTo (2 ^ 61)) lowers → All (IsRowUpTo (2 ^ 62)) uppers
    → IsShadow g columns col neighbours lowers uppers rows tails → All AreSmallSplinters tails
tails_small g columns col neighbours lowers uppers rows tails one l h k s =
    All-zipped (AreSplintersOf g col neighbours uppers) (λ r. IsLower g columns col r × IsRowUpTo (2 ^ 61) r) AreSmallSplinters (λ r t z p. tail_small g columns col neighbours uppers r t one k z p) lowers tails s.tails_are (λ i d in'. (l i d in', h i d in'))

-- ---- branches
shifted_up_to : (neighbours : ℤ) (col : ℕ) (u : Row) → unsigned_abs neighbours ≤ 1 → IsRowUpTo (2 ^ 61) u
    → IsRowUpTo (2 ^ 62) (shifted_row neighbours col u)
shifted_up_to neighbours col u one h = record {
  coefs = All-weaker (λ z. unsigned_abs z ≤ 2 ^ 61) (λ z. unsigned_abs z ≤ 2 ^ 62) (λ z p. omega arith) u.coefs h.coefs;
  constant = up_to-difference (2 ^ 61) (2 ^ 61) u.constant (neighbours *ℤ neg_ℤ (coef_at u col)) h.constant
      (neighbours_up_to (2 ^ 61) neighbours (neg_ℤ (coef_at u col)) one (up_to-neg (2 ^ 61) (coef_at u col) (coef_up_to (2 ^ 61) u col h)));
  k = (let p = h.k in omega arith);
}

pub all_shifted : (neighbours : ℤ) (col : ℕ) (uppers : List Row) → unsigned_abs neighbours ≤ 1 → All (IsRowUpTo (2 ^ 61)) uppers
    → All (IsRowUpTo (2 ^ 62)) (map (shifted_row neighbours col) uppers)
all_shifted neighbours col uppers one h = All-map (IsRowUpTo (2 ^ 62)) (shifted_row neighbours col) uppers (All-weaker (IsRowUpTo (2 ^ 61)) (λ u. IsRowUpTo (2 ^ 62) (shifted_row neighbours col u)) (λ u p. shifted_up_to neighbours col u one p) uppers h)

pub rows_small : (b : ℕ) (sides : Sides) → AreSidesUpTo b sides → All (IsRowUpTo b) (rows_of sides)
rows_small b sides h = All-append (IsRowUpTo b) _ _ (All-append (IsRowUpTo b) _ _ (All-append (IsRowUpTo b) _ _ h.lowers h.uppers) h.not_divides) h.free

pub lowered_up_to : (bound fixed : Row) (i : ℤ) → IsRowUpTo (2 ^ 61) bound → unsigned_abs i ≤ 2 ^ 62 → fixed ≡ lowered_by bound i → IsRowUpTo (2 ^ 63) fixed
lowered_up_to bound fixed i h k e = rw e (record {
  coefs = All-weaker (λ z. unsigned_abs z ≤ 2 ^ 61) (λ z. unsigned_abs z ≤ 2 ^ 63) (λ z p. at_most (unsigned_abs z) (2 ^ 61) (2 ^ 63) p (lit≤ tt)) bound.coefs h.coefs;
  constant = at_most _ (2 ^ 61 + 2 ^ 62) (2 ^ 63) (up_to-difference (2 ^ 61) (2 ^ 62) bound.constant i h.constant k) (lit≤ tt);
  k = at_most _ (2 ^ 61) (2 ^ 63) h.k (lit≤ tt);
})

pub shadows_small : (g : Gauge) (columns col : ℕ) (neighbours : ℤ) (sides : Sides) (rows : List Row) (tails : List Splinters)
    → unsigned_abs neighbours ≤ 1 → AreSided g columns col sides → AreSidesUpTo (2 ^ 61) sides
    → AreShadowsOf g columns col neighbours sides rows tails → All AreSmallSplinters tails
shadows_small g columns col neighbours sides rows tails one s h w =
    tails_small g columns col neighbours sides.lowers (map (shifted_row neighbours col) sides.uppers) rows tails one s.lowers h.lowers (all_shifted neighbours col sides.uppers one h.uppers) w.shadow
