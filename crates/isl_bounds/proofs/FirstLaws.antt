-- Where loops with a step begin.
use Rattle.std.proofs.Common.{◌≡◌, ◌≢◌, ◌↔◌, inl, inr, sym, ap, ◌∙◌, subst, arith, ℕ, ℤ, pos, negsuc, neg_ℤ, ◌+ℤ◌}
use Rattle.std.proofs.Common.{◌-ℤ◌, ◌*ℤ◌, ◌<ℤ◌, ◌≤ℤ◌}
use Rattle.std.proofs.Common.{List, [], ◌∷◌, ◌++◌, length}
use Rattle.std.specs.Prelude.{Err, Ok, Result}
use Rattle.std.specs.List.{All, remove}
use Rattle.std.proofs.lemmas.List.Elements.{All-append, All-cons, All-head, All-nil, All-tail}
use Rattle.isl_math.specs.Divide as divide
use Rattle.isl_math.specs.Divide.{floor_div, floor_mod}
use Rattle.isl_math.specs.Dot.{dot}
use Rattle.isl_math.specs.Order.{abs_of}
use Rattle.isl_math.proofs.ColumnLaws.{length-weighted_sum}
use Rattle.isl_math.proofs.DivideLaws.{floor_mod_bounds, floor_split, floor_unique, Divides-*ℤ, Divides-+ℤ, Divides-zero}
use Rattle.isl_math.proofs.ListLaws.{Any-cases, Any-first, Any-none}
use Rattle.isl_math.proofs.Ring.{expand, linear}
use Rattle.isl_meter.specs.Gauge.{Gauge, IsDone, IsWithin}
use Rattle.isl_meter.specs.declared.Cut.{Cut}
use Rattle.isl_piece.specs.declared.row.Row.{Row}
use Rattle.isl_piece.specs.Combine.{combination}
use Rattle.isl_piece.specs.Row.{coef_at, value_at, HoldsRow}
use Rattle.isl_piece.proofs.CombineLaws.{value_at-combination}
use Rattle.isl_frame.specs.Frame.{isolated}
use Rattle.isl_frame.proofs.SolvedLaws.{isolated_formed, remove_long}
use Rattle.isl_loop.specs.declared.tree.Expr.{Expr, out-Expr}
use Rattle.isl_loop.specs.declared.tree.Item.{Item}
use Rattle.isl_loop.specs.declared.tree.Atom.{Atom, Ceil}
use Rattle.isl_loop.specs.Expr.{atom_value, ceil_div, expr_value}
use Rattle.isl_loop.specs.Formed.{IsAtomOver, IsExprOver}
use Rattle.isl_loop.specs.Lists.{sum_of, IsItemOver}
use Rattle.isl_loop.proofs.TreeLaws.{over-Expr, value_of-Ceil, value_of-Expr}
use Rattle.isl_ast.proofs.FormedLaws.{ceiling_parts}
use Rattle.isl_bounds.specs.Aligned.{first_turn, IsAlignedTo, IsFirstTurn}
use Rattle.isl_bounds.specs.Bound.{AreEndGroups, AreEnds, HoldSome, IsEnd}
use Rattle.isl_bounds.specs.Step.{IsStep}
use Rattle.isl_bounds.specs.declared.side.Side.TheVariants.{Low}
use Rattle.isl_bounds.proofs.BoundLaws.{end_exact, end_width}
use Rattle.isl_bounds.proofs.ExprLaws.{made_expr, made_over, made_value}
use Rattle.isl_bounds.proofs.HeadLaws.{step_own}

-- ---- sums of summands
pub sum_append : (items more : List Item) (point : List ℤ) → sum_of (items ++ more) point ≡ sum_of items point +ℤ sum_of more point
sum_append [] more point = omega (arith, linear)
sum_append (item ∷ items) more point = omega (arith, linear, sum_append items more point)

-- an expression and more summands
pub plus_over : (g : Gauge) (n : ℕ) (e : Expr) (more items : List Item) (z : ℤ) → items ≡ (out-Expr e).items ++ more → IsExprOver g n e
    → All (IsItemOver g n) more → IsWithin g z → IsExprOver g n (made_expr items z)
plus_over g n e more items z is over all within =
    made_over g n items z (rw is (All-append (IsItemOver g n) (out-Expr e).items more (over-Expr g n e over).0 all)) within

pub plus_value : (e : Expr) (more items : List Item) (z d c : ℤ) (point : List ℤ) → items ≡ (out-Expr e).items ++ more
    → z ≡ (out-Expr e).constant +ℤ c → sum_of more point ≡ d → expr_value (made_expr items z) point ≡ expr_value e point +ℤ (d +ℤ c)
plus_value e more items z d c point is number value =
    made_value items z point
    ∙ by (sum_of items point) (sum_of (out-Expr e).items point) (sum_of more point) z (out-Expr e).constant d c (expr_value e point)
    (ap (λ (them : List Item). sum_of them point) is ∙ sum_append (out-Expr e).items more point) number value (value_of-Expr e point)
  where
    by : (s a b z o d c v : ℤ) → s ≡ a +ℤ b → z ≡ o +ℤ c → b ≡ d → v ≡ a +ℤ o → s +ℤ z ≡ v +ℤ (d +ℤ c)
    by s a b z o d c v e f h i = omega (arith, linear, e, f, h, i)

-- a form and a multiple of a quotient
pub multiple_over : (g : Gauge) (n : ℕ) (items pushed : List Item) (item : Item) (z k m : ℤ) (beyond inner : Expr)
    → pushed ≡ items ++ item ∷ [] → item.coef ≡ k → item.atom ≡ Ceil inner m → beyond ≡ inner → k ≡ m → All (IsItemOver g n) items
    → IsExprOver g n beyond → pos 0 <ℤ k → IsWithin g k → IsWithin g z → IsExprOver g n (made_expr pushed z)
multiple_over g n items pushed item z k m beyond inner is coef atom same number all over above within constant =
    let own : IsAtomOver g n item.atom = (ceiling_parts g n item.atom inner beyond m k atom same number).1 ((above, within), over) in
    made_over g n pushed z (rw is (All-append (IsItemOver g n) items (item ∷ []) all
    (All-cons (IsItemOver g n) item [] (record { coef = subst (IsWithin g) (sym coef) within; atom = own }) (All-nil
    (IsItemOver g n))))) constant

pub multiple_value : (items pushed : List Item) (item : Item) (z k m d c : ℤ) (beyond inner : Expr) (point : List ℤ)
    → pushed ≡ items ++ item ∷ [] → item.coef ≡ k → item.atom ≡ Ceil inner m → beyond ≡ inner → k ≡ m → sum_of items point ≡ d → z ≡ c
    → expr_value (made_expr pushed z) point ≡ d +ℤ c +ℤ k *ℤ ceil_div (expr_value beyond point) k
multiple_value items pushed item z k m d c beyond inner point is coef atom same number value constant =
    made_value pushed z point
    ∙ by (sum_of pushed point) (sum_of items point) item.coef (atom_value item.atom point) (ceil_div (expr_value beyond point) k) z
    (ap (λ (them : List Item). sum_of them point) is ∙ sum_append items (item ∷ []) point) coef
    (ap (λ (a : Atom). atom_value a point) atom ∙ value_of-Ceil inner m point
    ∙ ap (λ (e : Expr). ceil_div (expr_value e point) m) (sym same) ∙ ap (λ j. ceil_div (expr_value beyond point) j) (sym number))
    value constant
  where
    by : (s a f v q z : ℤ) → s ≡ a +ℤ (f *ℤ v +ℤ pos 0) → f ≡ k → v ≡ q → a ≡ d → z ≡ c → s +ℤ z ≡ d +ℤ c +ℤ k *ℤ q
    by s a f v q z e f_is v_is a_is z_is =
        let p = ap (λ w. w *ℤ v) f_is in
        let r = ap (λ w. k *ℤ w) v_is in
        omega (arith, linear, e, p, r, a_is, z_is)

-- ---- the first turn
named : (c : ℤ) → c ≡ pos 1 → c ≢ pos 0
named c e z = let f = sym e ∙ z in omega (arith, linear, f)

pub step_wide : (g : Gauge) (variables : ℕ) (step : Row) → IsStep g variables step → length (isolated variables step).coefs ≡ variables
step_wide g variables step is = (isolated_formed variables step is.formed (named (coef_at step variables) is.last)).width

module _ (g : Gauge) (variables : ℕ) (step : Row) (is : IsStep g variables step) (low beyond first : Expr) (own : Row) (coefs : List ℤ)
    (constant k : ℤ) (own_is : own ≡ isolated variables step) (coefs_is : coefs ≡ remove step.coefs variables)
    (constant_is : constant ≡ step.constant) (k_is : k ≡ step.k)
    (sum : (point : List ℤ) → length coefs ≡ length point → expr_value beyond point ≡ expr_value low point +ℤ (dot coefs point +ℤ constant))
    (multiple : (point : List ℤ) → length own.coefs ≡ length point
    → expr_value first point ≡ value_at own point +ℤ k *ℤ ceil_div (expr_value beyond point) k) where
  pub aligned_to : IsExprOver g variables first → IsAlignedTo g variables step (expr_value low) first
  aligned_to over = record {
    over = over;
    value = λ point long.
        let iso = isolated variables step in
        let wide : length own.coefs ≡ length point = ap (λ (r : Row). length r.coefs) own_is ∙ step_wide g variables step is ∙ sym long in
        let narrow : length coefs ≡ length point =
        ap length coefs_is ∙ remove_long step.coefs variables is.formed.width ∙ sym long in
        let added : expr_value beyond point ≡ expr_value low point -ℤ value_at iso point =
        by (expr_value beyond point) (expr_value low point) (dot coefs point) constant (dot (remove step.coefs variables) point)
        step.constant (value_at iso point) (sum point narrow) (ap (λ (cs : List ℤ). dot cs point) coefs_is) constant_is
        (step_own g variables step point is) in
        multiple point wide
        ∙ ap (λ (r : Row). value_at r point +ℤ k *ℤ ceil_div (expr_value beyond point) k) own_is
        ∙ ap (λ j. value_at iso point +ℤ j *ℤ ceil_div (expr_value beyond point) j) k_is
        ∙ ap (λ z. value_at iso point +ℤ step.k *ℤ ceil_div z step.k) added;
  }
    where
      by : (b l d c e f own : ℤ) → b ≡ l +ℤ (d +ℤ c) → d ≡ e → c ≡ f → own ≡ neg_ℤ (e +ℤ f) → b ≡ l -ℤ own
      by b l d c e f own p q r s = omega (arith, linear, p, q, r, s)

-- ---- forms
all_divide : (k : ℤ) (cs xs : List ℤ) → All (divide.Divides k) cs → divide.Divides k (dot cs xs)
all_divide k [] xs all = Divides-zero k
all_divide k (c ∷ cs) [] all = Divides-zero k
all_divide k (c ∷ cs) (x ∷ xs) all =
    Divides-+ℤ k (c *ℤ x) (dot cs xs) (Divides-*ℤ k c x (All-head (divide.Divides k) c cs all))
    (all_divide k cs xs (All-tail (divide.Divides k) c cs all))

-- the first turn, from a bound that is some multiples of k and a rest further than what is left
missing_turn : (own low k e c m : ℤ) → pos 0 <ℤ k → low -ℤ own ≡ k *ℤ e +ℤ c → m ≡ floor_mod (neg_ℤ c) k
    → low +ℤ m ≡ first_turn own k low
missing_turn own low k e c m p split is =
    let q = floor_div (neg_ℤ c) k in
    let bounds = floor_mod_bounds (neg_ℤ c) k p in
    let whole : k *ℤ q +ℤ m ≡ neg_ℤ c = ap (λ r. k *ℤ q +ℤ r) is ∙ floor_split (neg_ℤ c) k p in
    let next = floor_unique (neg_ℤ (low -ℤ own)) k (q -ℤ e) m (sum q whole) (subst (λ r. pos 0 ≤ℤ r) (sym is) bounds.0)
    (subst (λ r. r <ℤ k) (sym is) bounds.1) in
    by q (floor_div (neg_ℤ (low -ℤ own)) k) whole next.0
  where
    sum : (q : ℤ) → k *ℤ q +ℤ m ≡ neg_ℤ c → k *ℤ (q -ℤ e) +ℤ m ≡ neg_ℤ (low -ℤ own)
    sum q whole = simp expand (omega (arith, linear, simp expand at whole, simp expand at split))

    by : (q f : ℤ) → k *ℤ q +ℤ m ≡ neg_ℤ c → q -ℤ e ≡ f → low +ℤ m ≡ own +ℤ k *ℤ neg_ℤ f
    by q f whole next =
        let t = simp expand at (ap (λ w. k *ℤ w) next) in
        simp expand (omega (arith, linear, t, simp expand at whole, simp expand at split))

module _ (low own beyond : Row) (k minus : ℤ) (above : pos 0 <ℤ k) (wide : length low.coefs ≡ length own.coefs) (minus_is : minus ≡ negsuc 0)
    (beyond_is : beyond ≡ combination (pos 1) low minus own) where
  beyond_value : (point : List ℤ) → value_at beyond point ≡ value_at low point -ℤ value_at own point
  beyond_value point =
      ap (λ (r : Row). value_at r point) beyond_is ∙ value_at-combination (pos 1) low minus own point wide
      ∙ by (value_at low point) (value_at own point) minus minus_is
    where
      by : (a b m : ℤ) → m ≡ negsuc 0 → pos 1 *ℤ a +ℤ m *ℤ b ≡ a -ℤ b
      by a b m e = rw e (simp expand (omega (arith, linear)))

  pub whole_turn : (items : List Item) (z missing : ℤ) (point : List ℤ) → All (divide.Divides k) beyond.coefs
      → missing ≡ floor_mod (neg_ℤ beyond.constant) k → z ≡ low.constant +ℤ missing → sum_of items point ≡ dot low.coefs point
      → expr_value (made_expr items z) point ≡ first_turn (value_at own point) k (value_at low point)
  whole_turn items z missing point all is constant sum =
      let d = all_divide k beyond.coefs point all in
      made_value items z point
      ∙ by (sum_of items point) z (dot low.coefs point) sum constant
      ∙ missing_turn (value_at own point) (value_at low point) k d.quotient beyond.constant missing above
      (split (dot beyond.coefs point) (value_at low point) (value_at own point) (k *ℤ d.quotient) d.is (beyond_value point)) is
    where
      by : (s z d : ℤ) → s ≡ d → z ≡ low.constant +ℤ missing → s +ℤ z ≡ d +ℤ low.constant +ℤ missing
      by s z d e f = omega (arith, linear, e, f)

      split : (d a b m : ℤ) → d ≡ m → d +ℤ beyond.constant ≡ a -ℤ b → a -ℤ b ≡ m +ℤ beyond.constant
      split d a b m e f = omega (arith, linear, e, f)

  pub rest_turn : (first form : Expr) (j : ℤ) (point : List ℤ) → j ≡ k → expr_value form point ≡ value_at beyond point
      → expr_value first point ≡ value_at own point +ℤ j *ℤ ceil_div (expr_value form point) j
      → expr_value first point ≡ first_turn (value_at own point) k (value_at low point)
  rest_turn first form j point same value is =
      is ∙ ap (λ i. value_at own point +ℤ i *ℤ ceil_div (expr_value form point) i) same
      ∙ ap (λ z. value_at own point +ℤ k *ℤ ceil_div z k) (value ∙ beyond_value point)

  pub beyond_wide : length beyond.coefs ≡ length own.coefs
  beyond_wide = ap (λ (r : Row). length r.coefs) beyond_is ∙ length-weighted_sum (pos 1) low.coefs minus own.coefs wide ∙ wide

-- ---- one bound
undivided : (v k : ℤ) → k ≡ pos 1 → v ≡ ceil_div v k
undivided v k e = rw e (by (floor_div (neg_ℤ v) (pos 1)) (floor_unique (neg_ℤ v) (pos 1) (neg_ℤ v) (pos 0) (simp expand (omega (arith, linear)))
    (omega (arith, linear)) (omega (arith, linear))).0)
  where
    by : (f : ℤ) → neg_ℤ v ≡ f → v ≡ neg_ℤ f
    by f e = omega (arith, linear, e)

-- where the column's coefficient is 1, the bound is a form
pub unit_exact : (g : Gauge) (variables : ℕ) (end : Row) (point : List ℤ) (x : ℤ) → IsEnd g variables Low end
    → coef_at end variables ≡ pos 1 → length point ≡ variables
    → (value_at (isolated variables end) point ≤ℤ x) ↔ HoldSome ((end ∷ []) ∷ []) (point ++ x ∷ [])
unit_exact g variables end point x is unit long =
    let H : Row → Type 0 = λ r. HoldsRow r (point ++ x ∷ []) in
    let told = end_exact g variables Low end (value_at (isolated variables end) point) point x is long
    (undivided (value_at (isolated variables end) point) (abs_of (coef_at end variables)) (ap abs_of unit)) in (
      (λ h. Any-first (All H) (end ∷ []) [] (All-cons H end [] (told.0 h) (All-nil H))),
      (λ h. elim (Any-cases (All H) (end ∷ []) [] h) [
        | inl all ↦ told.1 (All-head H end [] all)
        | inr none ↦ absurd (Any-none (All H) none)
      ]),
    )

pub unit_turn : (g : Gauge) (variables : ℕ) (groups : List (List Row)) (end step : Row) (first : Expr) → groups ≡ (end ∷ []) ∷ []
    → IsEnd g variables Low end → coef_at end variables ≡ pos 1 → IsExprOver g variables first
    → ((point : List ℤ) → length point ≡ variables → expr_value first point
    ≡ first_turn (value_at (isolated variables step) point) step.k (value_at (isolated variables end) point))
    → IsFirstTurn g variables groups step first
unit_turn g variables groups end step first is bound unit over value = rw is (record {
  bound = value_at (isolated variables end);
  exact = λ point x long. unit_exact g variables end point x bound unit long;
  aligned = record { over = over; value = value };
})

pub unit_end : (g : Gauge) (variables : ℕ) (groups : List (List Row)) (end : Row) → groups ≡ (end ∷ []) ∷ []
    → AreEndGroups g variables Low groups → IsEnd g variables Low end
unit_end g variables groups end is are =
    let each : All (AreEnds g variables Low) ((end ∷ []) ∷ []) = subst (All (AreEnds g variables Low)) is are.each in
    All-head (IsEnd g variables Low) end [] (All-head (AreEnds g variables Low) (end ∷ []) [] each).ends

-- the forms of the bound and of the step are over the same columns
pub unit_wide : (g : Gauge) (variables : ℕ) (end step low own : Row) → IsEnd g variables Low end → IsStep g variables step
    → low ≡ isolated variables end → own ≡ isolated variables step → length low.coefs ≡ length own.coefs
unit_wide g variables end step low own bound stepping low_is own_is =
    (end_width g variables Low end low bound low_is).width
    ∙ sym (ap (λ (r : Row). length r.coefs) own_is ∙ step_wide g variables step stepping)

-- what is told of the two forms is told of the bound and the step
pub unit_told : (answer : Result Expr Cut) (g new : Gauge) (variables : ℕ) (groups : List (List Row)) (end step low own : Row) (k : ℤ)
    → groups ≡ (end ∷ []) ∷ [] → IsEnd g variables Low end → coef_at end variables ≡ pos 1 → IsStep g variables step
    → low ≡ isolated variables end → own ≡ isolated variables step → k ≡ step.k
    → IsDone g new (λ first. IsExprOver g (length own.coefs) first × ((point : List ℤ) → length own.coefs ≡ length point
    → expr_value first point ≡ first_turn (value_at own point) k (value_at low point))) answer
    → IsDone g new (IsFirstTurn g variables groups step) answer
unit_told (Ok first) g new variables groups end step low own k is bound unit stepping low_is own_is k_is told =
    let wide : length own.coefs ≡ variables = ap (λ (r : Row). length r.coefs) own_is ∙ step_wide g variables step stepping in (
      unit_turn g variables groups end step first is bound unit (subst (λ n. IsExprOver g n first) wide told.0.0)
          (λ point long.
          told.0.1 point (wide ∙ sym long) ∙ ap (λ (r : Row). first_turn (value_at r point) k (value_at low point)) own_is
          ∙ ap (λ j. first_turn (value_at (isolated variables step) point) j (value_at low point)) k_is
          ∙ ap (λ (r : Row). first_turn (value_at (isolated variables step) point) step.k (value_at r point)) low_is),
      told.1,
    )
unit_told (Err cut) g new variables groups end step low own k is bound unit stepping low_is own_is k_is told = told
