-- Rows as bounds, and the rows that the code makes of a lower bound with all upper bounds.
use Rattle.std.proofs.Common.{◌≡◌, ◌≢◌, ◌↔◌, ◌⊎◌, inl, inr, ◌∙◌, sym, ap, arith, ℕ, ◌-◌, ◌<◌, ℤ, pos, negsuc, neg_ℤ, ◌+ℤ◌, ◌*ℤ◌, ◌≤ℤ◌, ◌<ℤ◌, List, [], ◌∷◌, ◌++◌, append_assoc, length, get_or}
use Rattle.std.specs.List.{All, insert}
use Rattle.std.proofs.lemmas.List.{append-nil}
use Rattle.std.proofs.lemmas.List.Elements.{All-nil, All-push}
use Rattle.isl_math.proofs.Ring.{expand, linear}
use Rattle.isl_math.proofs.OrderLaws.{cases_ℤ, positive_not_zero}
use Rattle.isl_meter.specs.Gauge.{Gauge}
use Rattle.isl_piece.specs.declared.row.Row.{Row}
use Rattle.isl_piece.specs.Row.{HoldsRow, IsRowWithin, value_at, coef_at}
use Rattle.isl_omega.specs.Column.{IsFree, rest_at, IsProper}
use Rattle.isl_omega.specs.Shadow.{MeetsLower, MeetsUpper, IsDark, lower_at, upper_at, last_splinter, IsDarkRow, IsExact, IsShadowSoFar, IsShadowOf}
use Rattle.isl_omega.specs.Sides.{IsLower, IsUpper}
use Rattle.isl_omega.proofs.ColumnLemmas.{value_at-insert}
use Rattle.isl_math.proofs.ListLaws.{All-last, all_or_any, Any-element}
use Rattle.isl_omega.proofs.PairLemmas.{holds_at_least}
use Rattle.isl_omega.proofs.ShadowLemmas.{real_pair, splinter, splinter_covered}
use Rattle.isl_omega.proofs.Splinters.{splinters_rise, splinters_not_negative}

-- ---- rows as bounds
pub lower_meets : (g : Gauge) (columns col : ℕ) (r : Row) (point : List ℤ) (x : ℤ) → IsLower g columns col r → col < columns → length point ≡ columns - 1 → HoldsRow r (insert point col x) ↔ MeetsLower x (lower_at col point r)
lower_meets g columns col r point x h l n =
    let v = value_at-insert r col point x (let w = h.proper.formed.width in omega arith) (omega arith) in
    rw (← v) (holds_at_least r.kind r.k (value_at r (insert point col x)) h.kind)

pub upper_meets : (g : Gauge) (columns col : ℕ) (r : Row) (point : List ℤ) (x : ℤ) → IsUpper g columns col r → col < columns → length point ≡ columns - 1 → HoldsRow r (insert point col x) ↔ MeetsUpper x (upper_at col point r)
upper_meets g columns col r point x h l n =
    let v = value_at-insert r col point x (let w = h.proper.formed.width in omega arith) (omega arith) in
    let holds = holds_at_least r.kind r.k (value_at r (insert point col x)) h.kind in (
      (λ m. (by (coef_at r col) x (rest_at r col point) (value_at r (insert point col x)) v).0 (holds.0 m)),
      (λ m. holds.1 ((by (coef_at r col) x (rest_at r col point) (value_at r (insert point col x)) v).1 m)),
    )
  where
    by : (c x f v : ℤ) → v ≡ c *ℤ x +ℤ f → (pos 0 ≤ℤ v) ↔ ((neg_ℤ c *ℤ x) ≤ℤ f)
    by c x f v e = let e' = simp expand at e in ((λ h. simp expand (omega (arith, linear))), (λ h. let h' = simp expand at h in omega (arith, linear)))

pub lower_value : (g : Gauge) (columns col : ℕ) (r : Row) (point : List ℤ) (x : ℤ) → IsLower g columns col r → col < columns → length point ≡ columns - 1 → value_at r (insert point col x) ≡ coef_at r col *ℤ x +ℤ rest_at r col point
lower_value g columns col r point x h l n = value_at-insert r col point x (let w = h.proper.formed.width in omega arith) (omega arith)

-- ---- the loop over the upper bounds
pub so_far_none : (g : Gauge) (columns col : ℕ) (lower : Row) (old : List Row) → IsShadowSoFar g columns col lower [] old old (pos 0)
so_far_none g columns col lower old = record {
  rows = [];
  pushed = sym (append-nil old);
  proper = All-nil (IsProper g columns);
  free = All-nil (IsFree col);
  is = λ point x n. ((λ h. All-nil (λ u. IsDark (lower_at col point lower) (upper_at col point u))), (λ h. All-nil (λ r. HoldsRow r (insert point col x))));
  exact = All-nil (λ u. IsExact columns col lower u ⊎ (neg_ℤ (coef_at u col) ≤ℤ pos 0));
  not_negative = omega (arith, linear);
  least = λ m h a. h;
}

pub so_far_more : (g : Gauge) (columns col : ℕ) (lower : Row) (uppers : List Row) (u dark : Row) (old new newer : List Row) (greatest next : ℤ) (E : Type 0) → IsShadowSoFar g columns col lower uppers old new greatest → IsDarkRow columns col lower u dark → IsRowWithin g dark
    → (E → IsExact columns col lower u) → newer ≡ new ++ dark ∷ [] → greatest ≤ℤ next → E ⊎ (neg_ℤ (coef_at u col) ≤ℤ next) → ((m : ℤ) → greatest ≤ℤ m → neg_ℤ (coef_at u col) ≤ℤ m → next ≤ℤ m)
    → IsShadowSoFar g columns col lower (uppers ++ u ∷ []) old newer next
so_far_more g columns col lower uppers u dark old new newer greatest next E s d w e p kept covered least = record {
  rows = s.rows ++ dark ∷ [];
  pushed = p ∙ ap (λ (rows : List Row). rows ++ dark ∷ []) s.pushed ∙ append_assoc old s.rows (dark ∷ []);
  proper = All-push (IsProper g columns) s.rows dark s.proper (record { formed = d.formed; within = w });
  free = All-push (IsFree col) s.rows dark s.free d.free;
  is = λ point x n. (
    (λ h. let parts = All-last (λ r. HoldsRow r (insert point col x)) s.rows dark h in
        All-push (λ v. IsDark (lower_at col point lower) (upper_at col point v)) uppers u ((s.is point x n).0 parts.0) ((d.is point x n).0 parts.1)),
    (λ h. let parts = All-last (λ v. IsDark (lower_at col point lower) (upper_at col point v)) uppers u h in
        All-push (λ r. HoldsRow r (insert point col x)) s.rows dark ((s.is point x n).1 parts.0) ((d.is point x n).1 parts.1)),
  );
  exact = All-push (λ v. IsExact columns col lower v ⊎ (neg_ℤ (coef_at v col) ≤ℤ next)) uppers u (λ k z i. wider (get_or uppers k z) (s.exact k z i)) (last covered);
  not_negative = let h = s.not_negative in omega (arith, linear);
  least = λ m h a. let parts = All-last (λ v. neg_ℤ (coef_at v col) ≤ℤ m) uppers u a in least m (s.least m h parts.0) parts.1;
}
  where
    wider : (v : Row) → IsExact columns col lower v ⊎ (neg_ℤ (coef_at v col) ≤ℤ greatest) → IsExact columns col lower v ⊎ (neg_ℤ (coef_at v col) ≤ℤ next)
    wider v (inl x) = inl x
    wider v (inr h) = inr (omega (arith, linear))

    last : E ⊎ (neg_ℤ (coef_at u col) ≤ℤ next) → IsExact columns col lower u ⊎ (neg_ℤ (coef_at u col) ≤ℤ next)
    last (inl t) = inl (e t)
    last (inr h) = inr h

-- ---- after the loop
pub shadow_is : (g : Gauge) (columns col : ℕ) (lower : Row) (uppers old new : List Row) (greatest last : ℤ) → IsLower g columns col lower → All (IsUpper g columns col) uppers → col < columns → IsShadowSoFar g columns col lower uppers old new greatest
    → (greatest ≡ pos 0 → last ≡ negsuc 0) → (greatest ≢ pos 0 → last ≡ last_splinter (coef_at lower col) greatest) → IsShadowOf g columns col lower uppers old new last
shadow_is g columns col lower uppers old new greatest last hl hu l s none some = record {
  rows = s.rows;
  pushed = s.pushed;
  proper = s.proper;
  free = s.free;
  dark = λ point x n h. (s.is point x n).0 h;
  covered = λ point x n low ups.
      let bound = lower_at col point lower in
      let meets = (lower_meets g columns col lower point x hl l n).0 low in
      let value = lower_value g columns col lower point x hl l n in
      let D : Row → Type 0 = λ u. IsDark bound (upper_at col point u) in
      let V : Row → Type 0 = λ u. value_at lower (insert point col x) ≤ℤ last in
      elim (all_or_any D V uppers (λ k z i. each point x n (get_or uppers k z) meets value (hu k z i) (s.exact k z i) (ups k z i))) [
        | inl a ↦ inl ((s.is point x n).1 a)
        | inr a ↦ inr (Any-element V uppers a).2
      ];
  not_below = elim (split greatest s.not_negative) [
    | inl e ↦ let f = none e in omega (arith, linear)
    | inr p ↦ let f = some (positive_not_zero greatest p) in let t = splinters_not_negative (coef_at lower col) greatest hl.factor p in omega (arith, linear)
  ];
  few = λ m p a. elim (split greatest s.not_negative) [
    | inl e ↦ let f = none e in let t = splinters_not_negative (coef_at lower col) m hl.factor p in omega (arith, linear)
    | inr q ↦ let f = some (positive_not_zero greatest q) in let t = splinters_rise (coef_at lower col) (coef_at lower col) greatest m hl.factor (omega (arith, linear)) q (s.least m (omega (arith, linear)) a) in omega (arith, linear)
  ];
}
  where
    split : (z : ℤ) → pos 0 ≤ℤ z → (z ≡ pos 0) ⊎ (pos 0 <ℤ z)
    split z h = elim (cases_ℤ (pos 0) z) [ inl q ↦ inr q | inr r ↦ elim r [ inl e ↦ inl (sym e) | inr q ↦ absurd (omega (arith, linear)) ] ]

    each : (point : List ℤ) (x : ℤ) → length point ≡ columns - 1 → (u : Row) → MeetsLower x (lower_at col point lower) → value_at lower (insert point col x) ≡ coef_at lower col *ℤ x +ℤ rest_at lower col point → IsUpper g columns col u
        → IsExact columns col lower u ⊎ (neg_ℤ (coef_at u col) ≤ℤ greatest) → HoldsRow u (insert point col x) → IsDark (lower_at col point lower) (upper_at col point u) ⊎ (value_at lower (insert point col x) ≤ℤ last)
    each point x n u low value h e up =
        let bound = lower_at col point lower in
        let above = upper_at col point u in
        let factor : pos 0 <ℤ above.factor = (let f = h.factor in omega (arith, linear)) in
        let meets = (upper_meets g columns col u point x h l n).0 up in
        elim e [
          | inl exact ↦ inl (exact point n (real_pair x bound above hl.factor factor low meets))
          | inr below ↦ elim (splinter x bound above hl.factor factor low meets) [
            | inl d ↦ inl d
            | inr v ↦ let f = some (positive_not_zero greatest (omega (arith, linear))) in
                let c = splinter_covered bound.factor above.factor greatest (bound.factor *ℤ x +ℤ bound.rest) hl.factor factor below v in
                inr (omega (arith, linear))
          ]
        ]
