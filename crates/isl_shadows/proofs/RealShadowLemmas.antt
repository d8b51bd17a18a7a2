-- The real shadow of a column holds wherever some whole number there makes the rows hold.
use Rattle.std.proofs.Common.{◌≡◌, refl, ap, subst, Bool, true, false, ℕ, zero, suc, ◌-◌, ◌*◌, ◌<◌, ℤ, pos, negsuc, List, [], ◌∷◌, ◌++◌, length, Option, Some, None}
use Rattle.std.specs.Prelude.{IfOk, MatchResult, Result, Ok, Err}
use Rattle.std.specs.List.{All, filter, insert}
use Rattle.std.proofs.lemmas.List.{append-nil}
use Rattle.std.proofs.lemmas.List.Elements.{All-append, All-head, All-tail, All-weaker, filter-append}
use Rattle.isl_math.specs.Divide.{floor_mod}
use Rattle.isl_meter.specs.Gauge.{Gauge, IsCharged, IsCutBy, IsDone}
use Rattle.isl_meter.specs.declared.Cut.{Cut}
use Rattle.isl_meter.proofs.CutLemmas.{IsCharged_refl}
use Rattle.isl_piece.specs.declared.row.RowKind.{RowKind}
use Rattle.isl_piece.specs.declared.row.RowKind.TheVariants as kind
use Rattle.isl_piece.specs.declared.row.Row.{Row}
use Rattle.isl_piece.specs.Row.{HoldsRow, coef_at}
use Rattle.isl_omega.specs.Column.{IsAnswerFor, IsFreeKind, IsProper}
use Rattle.isl_omega.specs.Equality.{HasEquality}
use Rattle.isl_omega.specs.Sides.{AreSided, AreSidesOf, IsLower, IsUpper, IsFreeRow, is_same, on_side, side_of, side_of_kind, unless_multiple}
use Rattle.isl_omega.specs.Step.{IsStepOf}
use Rattle.isl_omega.specs.Units.{IsDoneFor}
use Rattle.isl_omega.specs.declared.sides.Side.TheVariants.{Lower, Upper, Divides, NotDivides}
use Rattle.isl_omega.specs.declared.sides.Sides.{Sides}
use Rattle.isl_omega.proofs.ExactUnits.{charged_up_to}
use Rattle.isl_omega.proofs.SideLemmas.{by_sign_negative, by_sign_positive, lacking_has_none, sides_hold}
use Rattle.isl_shadows.specs.Column.{HoldAtSome}
use Rattle.isl_shadows.specs.Exact.{pairs_on}
use Rattle.isl_shadows.specs.RealShadow.{IsImplied, HoldReally, bounds_and_free}
use Rattle.isl_shadows.specs.Residue.{HasNumber}
use Rattle.isl_shadows.proofs.ExactLemmas.{exact_sided, real_rows_hold}
use Rattle.isl_shadows.proofs.ResidueLemmas.{none_on_side}
use Rattle.isl_shadows.proofs.UnitLemmas.{pairs_kept}

-- ---- rows that hold wherever others do
pub answer_implies : (g : Gauge) (columns : ℕ) (P Q : List ℤ → Type 0) → ((point : List ℤ) → length point ≡ columns → P point → Q point) → (o : Option (List Row)) → IsAnswerFor g columns Q o → IsImplied g columns P o
answer_implies g columns P Q f None h = λ point n p. h point n (f point n p)
answer_implies g columns P Q f (Some rows) h = record { proper = h.proper; normal = h.normal; points = λ point n p. (h.points point n).1 (f point n p) }

implied_of : (g : Gauge) (columns : ℕ) (P Q : List ℤ → Type 0) → ((point : List ℤ) → length point ≡ columns → P point → Q point) → (o : Option (List Row)) → IsImplied g columns Q o → IsImplied g columns P o
implied_of g columns P Q f None h = λ point n p. h point n (f point n p)
implied_of g columns P Q f (Some rows) h = record { proper = h.proper; normal = h.normal; points = λ point n p. h.points point n (f point n p) }

-- ---- the bounds and the free rows of sides, as rows again
bounds_proper : (g : Gauge) (columns col : ℕ) (s : Sides) → AreSided g columns col s → All (IsProper g columns) (bounds_and_free s)
bounds_proper g columns col s a =
    let P = IsProper g columns in
    All-append P (s.lowers ++ s.uppers) s.free
    (All-append P s.lowers s.uppers (All-weaker (IsLower g columns col) P (λ r h. h.proper) s.lowers a.lowers) (All-weaker (IsUpper g columns col) P (λ r h. h.proper) s.uppers a.uppers))
    (All-weaker (IsFreeRow g columns col) P (λ r h. h.proper) s.free a.free)

no_zero : (k : RowKind) → k ≡ kind.AtLeast → k ≡ kind.Zero → ⊥
no_zero k e f = cc

free_zero : (asks : RowKind) (k c : ℤ) → IsFreeKind asks k c → asks ≡ kind.Zero → c ≡ pos 0
free_zero asks k c f e = rw e at f

bounds_lack : (g : Gauge) (columns col : ℕ) (s : Sides) → AreSided g columns col s → ¬ HasEquality col (bounds_and_free s)
bounds_lack g columns col s a =
    let P : Row → Type 0 = λ r. r.kind ≡ kind.Zero → coef_at r col ≡ pos 0 in
    lacking_has_none col (bounds_and_free s) (All-append P (s.lowers ++ s.uppers) s.free
    (All-append P s.lowers s.uppers (All-weaker (IsLower g columns col) P (λ r h e. absurd (no_zero r.kind h.kind e)) s.lowers a.lowers) (All-weaker (IsUpper g columns col) P (λ r h e. absurd (no_zero r.kind h.kind e)) s.uppers a.uppers))
    (All-weaker (IsFreeRow g columns col) P (λ r h e. free_zero r.kind r.k (coef_at r col) h.free e) s.free a.free))

all_on_side : (p : Row → Bool) (rows : List Row) → All (λ r. p r ≡ true) rows → filter p rows ≡ rows
all_on_side p [] h = refl
all_on_side p (r ∷ rows) h = rw (All-head (λ r. p r ≡ true) r rows h) (ap (λ (rest : List Row). r ∷ rest) (all_on_side p rows (All-tail (λ r. p r ≡ true) r rows h)))

lower_side : (g : Gauge) (columns col : ℕ) (r : Row) → IsLower g columns col r → side_of col r ≡ Lower
lower_side g columns col r h = rw h.kind (by_sign_positive (coef_at r col) h.factor)

upper_side : (g : Gauge) (columns col : ℕ) (r : Row) → IsUpper g columns col r → side_of col r ≡ Upper
upper_side g columns col r h = rw h.kind (by_sign_negative (coef_at r col) h.factor)

no_bound : (asks : RowKind) (k c : ℤ) → IsFreeKind asks k c → (is_same Lower (side_of_kind asks k c) ≡ false) × (is_same Upper (side_of_kind asks k c) ≡ false)
no_bound kind.Zero k c f = (refl, refl)
no_bound kind.AtLeast k c f = rw f (refl, refl)
no_bound kind.Divides k c f = by (floor_mod c k)
  where
    by : (z : ℤ) → (is_same Lower (unless_multiple Divides z) ≡ false) × (is_same Upper (unless_multiple Divides z) ≡ false)
    by (pos zero) = (refl, refl)
    by (pos (suc n)) = (refl, refl)
    by (negsuc n) = (refl, refl)
no_bound kind.NotDivides k c f = by (floor_mod c k)
  where
    by : (z : ℤ) → (is_same Lower (unless_multiple NotDivides z) ≡ false) × (is_same Upper (unless_multiple NotDivides z) ≡ false)
    by (pos zero) = (refl, refl)
    by (pos (suc n)) = (refl, refl)
    by (negsuc n) = (refl, refl)

bounds_lowers : (g : Gauge) (columns col : ℕ) (s : Sides) → AreSided g columns col s → on_side Lower col (bounds_and_free s) ≡ s.lowers
bounds_lowers g columns col s a =
    let p : Row → Bool = λ r. is_same Lower (side_of col r) in
    let own = all_on_side p s.lowers (All-weaker (IsLower g columns col) (λ r. p r ≡ true) (λ r h. rw (lower_side g columns col r h) refl) s.lowers a.lowers) in
    let other = none_on_side p s.uppers (All-weaker (IsUpper g columns col) (λ r. p r ≡ false) (λ r h. rw (upper_side g columns col r h) refl) s.uppers a.uppers) in
    let free = none_on_side p s.free (All-weaker (IsFreeRow g columns col) (λ r. p r ≡ false) (λ r h. (no_bound r.kind r.k (coef_at r col) h.free).0) s.free a.free) in
    rw (filter-append p (s.lowers ++ s.uppers) s.free, filter-append p s.lowers s.uppers, own, other, free, append-nil s.lowers, append-nil s.lowers) refl

bounds_uppers : (g : Gauge) (columns col : ℕ) (s : Sides) → AreSided g columns col s → on_side Upper col (bounds_and_free s) ≡ s.uppers
bounds_uppers g columns col s a =
    let p : Row → Bool = λ r. is_same Upper (side_of col r) in
    let own = all_on_side p s.uppers (All-weaker (IsUpper g columns col) (λ r. p r ≡ true) (λ r h. rw (upper_side g columns col r h) refl) s.uppers a.uppers) in
    let other = none_on_side p s.lowers (All-weaker (IsLower g columns col) (λ r. p r ≡ false) (λ r h. rw (lower_side g columns col r h) refl) s.lowers a.lowers) in
    let free = none_on_side p s.free (All-weaker (IsFreeRow g columns col) (λ r. p r ≡ false) (λ r h. (no_bound r.kind r.k (coef_at r col) h.free).1) s.free a.free) in
    rw (filter-append p (s.lowers ++ s.uppers) s.free, filter-append p s.lowers s.uppers, own, other, free, append-nil s.uppers) refl

-- ---- where congruences have the column
-- as many pairs as before
substituted_pairs : (g : Gauge) (columns col : ℕ) (old new : Sides) → IsStepOf g columns col old new → pairs_on col (bounds_and_free new) ≡ length old.lowers * length old.uppers
substituted_pairs g columns col old new step =
    rw (bounds_lowers g columns col new step.sided, bounds_uppers g columns col new step.sided) (pairs_kept col step.k old new step.narrowed)

-- what the real rows need
pub substituted_ready : (g : Gauge) (columns col : ℕ) (old new : Sides) → IsStepOf g columns col old new → All (IsProper g columns) (bounds_and_free new) × (¬ HasEquality col (bounds_and_free new))
substituted_ready g columns col old new step = (bounds_proper g columns col new step.sided, bounds_lack g columns col new step.sided)

substituted_hold : (g : Gauge) (columns col : ℕ) (old new : Sides) (point : List ℤ) → IsStepOf g columns col old new → col < columns → length point ≡ columns - 1 → HasNumber old col point → HoldReally (bounds_and_free new) col point
substituted_hold g columns col old new point step l n a =
    let y = (step.same point n).0 a in
    let P : Row → Type 0 = λ r. HoldsRow r (insert point col y.0) in
    let ready = substituted_ready g columns col old new step in
    real_rows_hold g columns col (bounds_and_free new) point (exact_sided g columns (bounds_and_free new) col ready.0 ready.1) l n
    (y.0, All-append P (new.lowers ++ new.uppers) new.free (All-append P new.lowers new.uppers y.1.lowers y.1.uppers) y.1.free)

substituted_implies : (g : Gauge) (columns col : ℕ) (old new : Sides) (o : Option (List Row)) → IsStepOf g columns col old new → col < columns → IsAnswerFor g (columns - 1) (HoldReally (bounds_and_free new) col) o → IsImplied g (columns - 1) (HasNumber old col) o
substituted_implies g columns col old new o step l a = answer_implies g (columns - 1) (HasNumber old col) (HoldReally (bounds_and_free new) col) (λ point n h. substituted_hold g columns col old new point step l n h) o a

-- ---- what the calls leave
pub shadow_from_rows : (g k : Gauge) (columns col : ℕ) (rows : List Row) (result : Result (Option (List Row)) Cut) → All (IsProper g columns) rows → ¬ HasEquality col rows → col < columns
    → IsDoneFor (pairs_on col rows) g k (IsAnswerFor g (columns - 1) (HoldReally rows col)) result
    → IsDoneFor (pairs_on col rows) g k (IsImplied g (columns - 1) (HoldAtSome rows col)) result
shadow_from_rows g k columns col rows (Ok left) w none l d =
    let s = exact_sided g columns rows col w none in
    (answer_implies g (columns - 1) (HoldAtSome rows col) (HoldReally rows col) (λ point n h. real_rows_hold g columns col rows point s l n h) left d.0, d.1)
shadow_from_rows g k columns col rows (Err cut) w none l d = d

paid_same : {A : Type 0} (m n : ℕ) (g k : Gauge) (P : A → Type 0) (result : Result A Cut) → m ≡ n → IsDoneFor m g k P result → IsDoneFor n g k P result
paid_same m n g k P result e d = subst (λ (x : ℕ). IsDoneFor x g k P result) e d

pub shadow_from_sides : (g k : Gauge) (columns col : ℕ) (rows : List Row) (sides : Sides) (result : Result (Option (List Row)) Cut) → AreSidesOf rows col sides
    → IsDoneFor (length sides.lowers * length sides.uppers) g k (IsImplied g (columns - 1) (HasNumber sides col)) result
    → IsDoneFor (pairs_on col rows) g k (IsImplied g (columns - 1) (HoldAtSome rows col)) result
shadow_from_sides g k columns col rows sides result are d = by result (paid_same (length sides.lowers * length sides.uppers) (pairs_on col rows) g k (IsImplied g (columns - 1) (HasNumber sides col)) result (rw (are.lowers, are.uppers) refl) d)
  where
    by : (result : Result (Option (List Row)) Cut) → IsDoneFor (pairs_on col rows) g k (IsImplied g (columns - 1) (HasNumber sides col)) result → IsDoneFor (pairs_on col rows) g k (IsImplied g (columns - 1) (HoldAtSome rows col)) result
    by (Ok left) d = (implied_of g (columns - 1) (HoldAtSome rows col) (HasNumber sides col) (λ point n h. (h.0, (sides_hold rows col sides point h.0 are).0 h.1)) left d.0, d.1)
    by (Err cut) d = d

pub substituted_from : (g h k : Gauge) (columns col : ℕ) (old new : Sides) (rows : List Row) (result : Result (Option (List Row)) Cut) → IsStepOf g columns col old new → col < columns → h ≡ g → rows ≡ bounds_and_free new
    → IsDoneFor (pairs_on col rows) h k (IsAnswerFor h (columns - 1) (HoldReally rows col)) result
    → IsDoneFor (length old.lowers * length old.uppers) g k (IsImplied g (columns - 1) (HasNumber old col)) result
substituted_from g h k columns col old new rows result step l s e d =
    paid_same (pairs_on col (bounds_and_free new)) (length old.lowers * length old.uppers) g k (IsImplied g (columns - 1) (HasNumber old col)) result (substituted_pairs g columns col old new step) (by result (rw (s, e) at d))
  where
    by : (result : Result (Option (List Row)) Cut) → IsDoneFor (pairs_on col (bounds_and_free new)) g k (IsAnswerFor g (columns - 1) (HoldReally (bounds_and_free new) col)) result
        → IsDoneFor (pairs_on col (bounds_and_free new)) g k (IsImplied g (columns - 1) (HasNumber old col)) result
    by (Ok left) d = (substituted_implies g columns col old new left step l d.0, d.1)
    by (Err cut) d = d

pub implied_after : (n : ℕ) (g k : Gauge) (columns : ℕ) (P : List ℤ → Type 0) (result : Result (Option (List Row)) Cut) → IsDoneFor n g k (IsImplied g columns P) result → IfOk result (IsImplied g columns P)
implied_after n g k columns P (Ok left) d = d.0
implied_after n g k columns P (Err cut) d = tt

pub metered_after : {A : Type 0} (n : ℕ) (g k : Gauge) (P : A → Type 0) (result : Result A Cut) → IsDoneFor n g k P result → MatchResult result (λ _. IsCharged g k) (IsCutBy g k)
metered_after n g k P (Ok v) d = (charged_up_to n g k d.1).charged
metered_after n g k P (Err cut) d = d.by

pub paid_after : {A : Type 0} (n : ℕ) (g k : Gauge) (P : A → Type 0) (result : Result A Cut) → IsDoneFor n g k P result → IsDoneFor n g k (λ _. Unit {0}) result
paid_after n g k P (Ok v) d = (tt, d.1)
paid_after n g k P (Err cut) d = d

-- ---- where an equality has it
pub solved_implies : (g k : Gauge) (columns : ℕ) (P : List ℤ → Type 0) (result : Result (Option (List Row)) Cut) → IsDone g k (IsAnswerFor g columns P) result → IfOk result (IsImplied g columns P)
solved_implies g k columns P (Ok left) d = answer_implies g columns P P (λ point n p. p) left d.0
solved_implies g k columns P (Err cut) d = tt

pub metered_done : {A : Type 0} (g k : Gauge) (P : A → Type 0) (result : Result A Cut) → IsDone g k P result → MatchResult result (λ _. IsCharged g k) (IsCutBy g k)
metered_done g k P (Ok v) d = IsCharged_refl g k d.1
metered_done g k P (Err cut) d = d.by

pub solved_done : (g k : Gauge) (P : Option (List Row) → Type 0) (rows : Option (List Row)) (result : Result (Option (List Row)) Cut) → IsDone g k P result → IfOk result (λ left. left ≡ rows) → IsDone g k (λ left. left ≡ rows) result
solved_done g k P rows (Ok left) d e = (e, d.1)
solved_done g k P rows (Err cut) d e = d
