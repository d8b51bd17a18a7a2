-- The rows and tails that the code makes of all bounds, one lower bound after another.
use Rattle.std.proofs.Common.{◌≡◌, inl, inr, arith, ℕ, ℤ, ◌+ℤ◌, ◌≤ℤ◌, List, [], ◌∷◌, ◌++◌, get_or}
use Rattle.std.specs.List.{All, insert}
use Rattle.std.proofs.lemmas.List.Elements.{All-nil, All-push, All-append}
use Rattle.std.proofs.lemmas.List.Quantifiers.{Any-push}
use Rattle.isl_math.proofs.Ring.{linear}
use Rattle.isl_meter.specs.Gauge.{Gauge, IsWithin}
use Rattle.isl_piece.specs.declared.row.Row.{Row}
use Rattle.isl_piece.specs.Row.{HoldsRow, value_at, coef_at}
use Rattle.isl_omega.specs.Column.{IsFree, IsProper}
use Rattle.isl_omega.specs.Shadow.{IsDark, lower_at, upper_at, neighbour_splinters, IsShadowOf, AreSplintersOf, LeavesSplinters, IsShadow}
use Rattle.isl_omega.specs.declared.shadow.Splinters.{Splinters}
use Rattle.isl_math.proofs.ListLaws.{All-parts, All-last, AllZip-more, Any-left}
use Rattle.isl_omega.proofs.SideLemmas.{proper_kept}
use Rattle.isl_meter.proofs.LimitLemmas.{within_kept}

pub shadow_none : (g : Gauge) (columns col : ℕ) (neighbours : ℤ) (uppers : List Row) → IsShadow g columns col neighbours [] uppers [] []
shadow_none g columns col neighbours uppers = record {
  proper = All-nil (IsProper g columns);
  free = All-nil (IsFree col);
  dark = λ point x n h. All-nil (λ l. All (λ u. IsDark (lower_at col point l) (upper_at col point u)) uppers);
  covered = λ point x n h k. inl (All-nil (λ r. HoldsRow r (insert point col x)));
  tails_are = tt;
}

-- what is said of a bound does not depend on what the meter counted
pub shadow_of_kept : (g h : Gauge) (columns col : ℕ) (lower : Row) (uppers old new : List Row) (last : ℤ) → h.bits ≡ g.bits → IsShadowOf h columns col lower uppers old new last → IsShadowOf g columns col lower uppers old new last
shadow_of_kept g h columns col lower uppers old new last e s = record {
  rows = s.rows;
  pushed = s.pushed;
  proper = λ k d i. proper_kept g h columns (get_or s.rows k d) e (s.proper k d i);
  free = s.free;
  dark = s.dark;
  covered = s.covered;
  not_below = s.not_below;
  few = s.few;
}

pub tail_kept : (g h : Gauge) (columns col : ℕ) (neighbours : ℤ) (lower : Row) (uppers old new : List Row) (tail : Splinters) → h.bits ≡ g.bits → LeavesSplinters h columns col neighbours lower uppers old new tail → LeavesSplinters g columns col neighbours lower uppers old new tail
tail_kept g h columns col neighbours lower uppers old new tail e t = record {
  last = t.last;
  shadow = shadow_of_kept g h columns col lower uppers old new t.last e t.shadow;
  same = t.same;
  value = t.value;
  within = within_kept g h tail.last e t.within;
}

-- one lower bound more
shadow_with : (g : Gauge) (columns col : ℕ) (neighbours : ℤ) (lowers : List Row) (l : Row) (uppers rows newer : List Row) (tails : List Splinters) (tail : Splinters) (last : ℤ) → IsShadow g columns col neighbours lowers uppers rows tails → IsShadowOf g columns col l uppers rows newer last
    → tail.lower ≡ l → tail.last ≡ last +ℤ neighbour_splinters neighbours (coef_at l col) → IsWithin g tail.last → IsShadow g columns col neighbours (lowers ++ l ∷ []) uppers newer (tails ++ tail ∷ [])
shadow_with g columns col neighbours lowers l uppers rows newer tails tail last s o same value within = record {
  proper = rw o.pushed (All-append (IsProper g columns) rows o.rows s.proper o.proper);
  free = rw o.pushed (All-append (IsFree col) rows o.rows s.free o.free);
  dark = λ point x n h.
      let parts = All-parts (λ r. HoldsRow r (insert point col x)) rows o.rows (rw o.pushed at h) in
      All-push (λ m. All (λ u. IsDark (lower_at col point m) (upper_at col point u)) uppers) lowers l (s.dark point x n parts.0) (o.dark point x n parts.1);
  covered = λ point x n h k.
      let parts = All-last (λ r. HoldsRow r (insert point col x)) lowers l h in
      elim (s.covered point x n parts.0 k) [
        | inr a ↦ inr (Any-left (λ t. (value_at t.lower (insert point col x) +ℤ neighbour_splinters neighbours (coef_at t.lower col)) ≤ℤ t.last) tails (tail ∷ []) a)
        | inl first ↦ elim (o.covered point x n parts.1 k) [
          | inl second ↦ inl (rw o.pushed (All-append (λ r. HoldsRow r (insert point col x)) rows o.rows first second))
          | inr v ↦ inr (Any-push (λ t. (value_at t.lower (insert point col x) +ℤ neighbour_splinters neighbours (coef_at t.lower col)) ≤ℤ t.last) tails tail (rw same (by (value_at l (insert point col x)) last (neighbour_splinters neighbours (coef_at l col)) tail.last v value)))
        ]
      ];
  tails_are = AllZip-more (AreSplintersOf g col neighbours uppers) lowers tails l tail s.tails_are (record {
    same = same;
    within = within;
    not_below = let h = o.not_below in omega (arith, linear);
    few = λ m p a. let h = o.few m p a in omega (arith, linear);
  });
}
  where
    by : (v last e value : ℤ) → v ≤ℤ last → value ≡ last +ℤ e → (v +ℤ e) ≤ℤ value
    by v last e value h f = omega (arith, linear)

pub shadow_more : (g : Gauge) (columns col : ℕ) (neighbours : ℤ) (lowers : List Row) (l : Row) (uppers rows newer : List Row) (tails : List Splinters) (tail : Splinters) → IsShadow g columns col neighbours lowers uppers rows tails → LeavesSplinters g columns col neighbours l uppers rows newer tail
    → IsShadow g columns col neighbours (lowers ++ l ∷ []) uppers newer (tails ++ tail ∷ [])
shadow_more g columns col neighbours lowers l uppers rows newer tails tail s t = shadow_with g columns col neighbours lowers l uppers rows newer tails tail t.last s t.shadow t.same t.value t.within
