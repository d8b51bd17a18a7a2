-- Heads of loops.
use Rattle.std.proofs.Common.{◌≡◌, ◌↔◌, refl, ap, ◌∙◌, subst, arith, ℕ, ℤ, pos, negsuc, neg_ℤ, ◌+ℤ◌}
use Rattle.std.proofs.Common.{◌-ℤ◌, ◌*ℤ◌, ◌<ℤ◌, ◌≤ℤ◌}
use Rattle.std.proofs.Common.{List, [], ◌∷◌, ◌++◌, length}
use Rattle.std.specs.List.{Contains}
use Rattle.std.proofs.lemmas.List.Elements.{All-cons, All-head, All-nil}
use Rattle.isl_math.specs.Divide as divide
use Rattle.isl_math.specs.Divide.{floor_div}
use Rattle.isl_math.specs.Order.{sign_of}
use Rattle.isl_math.proofs.DivideLaws.{at_most_floor}
use Rattle.isl_math.proofs.OrderLaws.{*ℤ-≤ℤ}
use Rattle.isl_math.proofs.Ring.{expand, linear}
use Rattle.isl_meter.specs.Gauge.{Gauge, IsWithin}
use Rattle.isl_piece.specs.declared.row.RowKind.{RowKind}
use Rattle.isl_piece.specs.declared.row.RowKind.TheVariants.{Divides}
use Rattle.isl_piece.specs.declared.row.Row.{Row}
use Rattle.isl_piece.specs.Row.{coef_at, value_at, HasModulus, HoldsRow, HoldsValue}
use Rattle.isl_piece.specs.System.{HoldRows}
use Rattle.isl_frame.specs.Frame.{isolated}
use Rattle.isl_frame.proofs.SolvedLaws.{rest_at, value_apart, value_isolated}
use Rattle.isl_loop.specs.declared.tree.Expr.{Expr}
use Rattle.isl_loop.specs.Expr.{ceil_div, expr_value}
use Rattle.isl_loop.specs.Turns.{turns}
use Rattle.isl_loop.proofs.TurnLaws.{turns_exact}
use Rattle.isl_bounds.specs.Aligned.{first_turn, IsFirstTurn}
use Rattle.isl_bounds.specs.Bound.{HoldSome, IsBoundOf}
use Rattle.isl_bounds.specs.Head.{IsHeadOf}
use Rattle.isl_bounds.specs.Step.{IsStep}
use Rattle.isl_bounds.specs.declared.head.Head.{Head}
use Rattle.isl_bounds.specs.declared.side.Side.TheVariants.{Low, High}

-- ---- turns
natural : (d : ℤ) → pos 0 ≤ℤ d → (n : ℕ) × (d ≡ pos n)
natural (pos n) p = (n, refl)
natural (negsuc n) p = absurd (omega (arith, linear, p))

not_below : (k : ℤ) (n : ℕ) → pos 0 <ℤ k → pos 0 ≤ℤ (k *ℤ pos n)
not_below k n p = let h = *ℤ-≤ℤ k (pos 0) (pos n) (omega (arith, linear, p)) (omega (arith, linear)) in omega (arith, linear, h)

pub plain_turns : (low high x : ℤ) → Contains (turns low high (pos 1)) x ↔ ((low ≤ℤ x) × (x ≤ℤ high))
plain_turns low high x =
    let told = turns_exact low high (pos 1) x (omega (arith, linear)) in (
      (λ c. let z = told.0 c in let e = z.1 in (omega (arith, linear, e), z.2)),
      (λ h.
          let l = h.0 in
          let n = natural (x -ℤ low) (omega (arith, linear, l)) in
          let e = n.1 in
          told.1 (n.0, omega (arith, linear, e), h.1)),
    )

-- z divided by k and rounded up is at most q exactly where z is at most k q
ceiling_at_most : (z k q : ℤ) → pos 0 <ℤ k → (ceil_div z k ≤ℤ q) ↔ (z ≤ℤ (k *ℤ q))
ceiling_at_most z k q p = by (floor_div (neg_ℤ z) k) (at_most_floor (neg_ℤ z) k (neg_ℤ q) p)
  where
    by : (f : ℤ) → neg_ℤ q ≤ℤ f ↔ (k *ℤ neg_ℤ q) ≤ℤ neg_ℤ z → (neg_ℤ f ≤ℤ q) ↔ (z ≤ℤ (k *ℤ q))
    by f told = (
      (λ h. let t = simp expand at (told.0 (omega (arith, linear, h))) in simp expand (omega (arith, linear, t))),
      (λ h.
          let h' = simp expand at h in
          let t : neg_ℤ q ≤ℤ f = told.1 (simp expand (omega (arith, linear, h'))) in
          omega (arith, linear, t)),
    )

pub stepping_turns : (own k low high x : ℤ) → pos 0 <ℤ k
    → Contains (turns (first_turn own k low) high k) x ↔ ((low ≤ℤ x) × (x ≤ℤ high) × divide.Divides k (x -ℤ own))
stepping_turns own k low high x p = by (ceil_div (low -ℤ own) k) (λ q. ceiling_at_most (low -ℤ own) k q p)
    (turns_exact (first_turn own k low) high k x p)
  where
    by : (c : ℤ) → ((q : ℤ) → (c ≤ℤ q) ↔ ((low -ℤ own) ≤ℤ (k *ℤ q)))
        → Contains (turns (first_turn own k low) high k) x ↔ ((n : ℕ) × (x ≡ own +ℤ k *ℤ c +ℤ k *ℤ pos n) × (x ≤ℤ high))
        → Contains (turns (first_turn own k low) high k) x ↔ ((low ≤ℤ x) × (x ≤ℤ high) × divide.Divides k (x -ℤ own))
    by c most told = (
      (λ t.
          let z = told.0 t in
          let e = z.1 in
          let reached = (most c).0 (omega (arith, linear)) in
          let more = not_below k z.0 p in (
            omega (arith, linear, e, reached, more),
            z.2,
            record {
              quotient = c +ℤ pos z.0;
              is = simp expand (omega
                  (arith, linear, simp expand at e));
            },
          )),
      (λ t.
          let l = t.0 in
          let d = t.2 in
          let q = d.is in
          let few : c ≤ℤ d.quotient = (most d.quotient).1 (omega (arith, linear, l, q)) in
          let n = natural (d.quotient -ℤ c) (omega (arith, linear, few)) in
          let e = simp expand at (ap (λ w. k *ℤ w) n.1) in
          told.1 (n.0, again d.quotient n.0 q n.1, t.1)),
    )
      where
        again : (q : ℤ) (n : ℕ) → x -ℤ own ≡ k *ℤ q → q -ℤ c ≡ pos n → x ≡ own +ℤ k *ℤ c +ℤ k *ℤ pos n
        again q n e f = let m = simp expand at (ap (λ w. k *ℤ w) f) in simp expand (omega (arith, linear, m, simp expand at e))

-- ---- a step
pub step_own : (g : Gauge) (variables : ℕ) (step : Row) (point : List ℤ) → IsStep g variables step
    → value_at (isolated variables step) point ≡ neg_ℤ (rest_at variables step point)
step_own g variables step point is =
    value_isolated variables step point ∙ by (coef_at step variables) (rest_at variables step point) is.last
  where
    minus : (c : ℤ) → c ≡ pos 1 → sign_of (neg_ℤ c) ≡ negsuc 0
    minus c e = rw e refl

    by : (c f : ℤ) → c ≡ pos 1 → sign_of (neg_ℤ c) *ℤ f ≡ neg_ℤ f
    by c f e = ap (λ s. s *ℤ f) (minus c e) ∙ omega (arith, linear)

pub step_says : (g : Gauge) (variables : ℕ) (step : Row) (point : List ℤ) (x : ℤ) → IsStep g variables step → length point ≡ variables
    → divide.Divides step.k (x -ℤ value_at (isolated variables step) point) ↔ HoldRows (step ∷ []) (point ++ x ∷ [])
step_says g variables step point x is long =
    let H : Row → Type 0 = λ r. HoldsRow r (point ++ x ∷ []) in
    let told = moved step.kind step.k (value_at step (point ++ x ∷ [])) (x -ℤ value_at (isolated variables step) point) is.kind
    (same (rest_at variables step point) (coef_at step variables) (value_at (isolated variables step) point)
    (value_at step (point ++ x ∷ [])) is.last (value_apart variables step point x is.formed long)
    (step_own g variables step point is)) in
    ((λ d. All-cons H step [] (told.0 d) (All-nil H)), (λ h. told.1 (All-head H step [] h)))
  where
    same : (f c own v : ℤ) → c ≡ pos 1 → v ≡ f +ℤ c *ℤ x → own ≡ neg_ℤ f → x -ℤ own ≡ v
    same f c own v e h o = let m = ap (λ w. w *ℤ x) e in omega (arith, linear, m, h, o)

    moved : (kind : RowKind) (k v w : ℤ) → kind ≡ Divides → w ≡ v → divide.Divides k w ↔ HoldsValue kind k v
    moved kind k v w e same = rw (e, same) ((λ h. h), (λ h. h))

-- ---- a loop's head
module _ (g : Gauge) (variables : ℕ) (lows highs : List (List Row)) (low high : Expr)
    (low_is : IsBoundOf g variables Low (HoldSome lows) low) (high_is : IsBoundOf g variables High (HoldSome highs) high) where
  pub plain_head : (head : Head) → head ≡ record { low = low; high = high; step = pos 1 } → IsWithin g (pos 1)
      → IsHeadOf g variables lows highs [] head
  plain_head head is one = rw is (record {
    low = low_is.over;
    high = high_is.over;
    positive = omega (arith, linear);
    within = one;
    turns = λ point x long.
        let told = plain_turns (expr_value low point) (expr_value high point) x in
        let first = low_is.exact point x long in
        let last = high_is.exact point x long in (
          (λ c. let t = told.0 c in (first.0 t.0, last.0 t.1, All-nil (λ r. HoldsRow r (point ++ x ∷ [])))),
          (λ h. told.1 (first.1 h.0, last.1 h.1)),
        );
  })

-- the numbers from the first turn on, by the step
pub stepping_head : (g : Gauge) (variables : ℕ) (lows highs : List (List Row)) (step : Row) (first high : Expr) → IsStep g variables step
    → pos 0 <ℤ step.k → IsFirstTurn g variables lows step first → IsBoundOf g variables High (HoldSome highs) high → (k : ℤ) → k ≡ step.k
    → (head : Head) → head ≡ record { low = first; high = high; step = k } → IsHeadOf g variables lows highs (step ∷ []) head
stepping_head g variables lows highs step first high is above first_is high_is k same head made = rw (made, same) (record {
  low = first_is.aligned.over;
  high = high_is.over;
  positive = above;
  within = is.within.k;
  turns = λ point x long.
      let own = value_at (isolated variables step) point in
      let told = stepping_turns own step.k (first_is.bound point) (expr_value high point) x above in
      let says = step_says g variables step point x is long in
      let least = first_is.exact point x long in
      let most = high_is.exact point x long in
      rw (first_is.aligned.value point long) (
        (λ c. let t = told.0 c in (least.0 t.0, most.0 t.1, says.0 t.2)),
        (λ h. told.1 (least.1 h.0, most.1 h.1, says.1 h.2)),
      );
})

pub step_above : (g : Gauge) (variables : ℕ) (step : Row) → IsStep g variables step → pos 0 <ℤ step.k
step_above g variables step is = subst (λ (kind : RowKind). HasModulus kind step.k) is.kind is.formed.modulus
