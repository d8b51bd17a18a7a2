-- Lines, and their numbers one after another.
use Rattle.std.proofs.Common.{◌≡◌, ◌↔◌, ◌⊎◌, ◌∙◌, inl, inr, refl, sym, ap, subst, arith, ℕ, ◌+◌}
use Rattle.std.proofs.Common.{◌<◌, ◌≤◌, ℤ, pos, ◌+ℤ◌, ◌-ℤ◌, ◌≤ℤ◌, ◌<ℤ◌, List, [], ◌∷◌, length, get_or}
use Rattle.std.proofs.Common.{◌^◌, unsigned_abs, Bool, Option, Some, None}
use Rattle.std.specs.Prelude.{IsTrue, IfSome, MatchOption, MatchResult, Result, Ok, Err}
use Rattle.std.specs.List.{All}
use Rattle.std.proofs.lemmas.List.{length_push}
use Rattle.std.proofs.lemmas.List.Elements.{All-nil, All-cons, All-append}
use Rattle.isl_math.specs.Divide as divide
use Rattle.isl_math.specs.Divide.{floor_div, floor_mod}
use Rattle.isl_math.proofs.Ring.{linear}
use Rattle.isl_math.proofs.OrderLaws.{at_most_or_above}
use Rattle.isl_math.proofs.DivideLaws.{Divides-minus, Divides-+ℤ, Divides-same, le_from_Divides, IsCongruent-floor_mod, floor_mod_bounds}
use Rattle.isl_meter.specs.Gauge.{Gauge, IsWithin}
use Rattle.isl_piece.specs.declared.row.RowKind.{RowKind}
use Rattle.isl_piece.specs.declared.row.RowKind.TheVariants.{Zero, AtLeast, Divides, NotDivides}
use Rattle.isl_piece.specs.declared.row.Row.{Row}
use Rattle.isl_piece.specs.Row.{HoldsRow}
use Rattle.isl_piece.specs.System.{HoldRows}
use Rattle.isl_points.specs.Ends.{IsFrom, IsTo}
use Rattle.isl_points.specs.Interval.{IsBoundKind, MeetsBound}
use Rattle.isl_points.specs.Progression.{IsOn, MeetsCongruence}
use Rattle.isl_points.specs.declared.progression.Progression.{Progression}
use Rattle.isl_points.specs.Exclusion.{IsTried, MeetsExclusion}
use Rattle.isl_points.specs.Line.{AreNumbersOf, AreNumbersBefore, IsIn, IsLineWithin, IsNext}
use Rattle.isl_points.specs.declared.line.Line.{Line}
use Rattle.isl_points.proofs.ListLaws.{no_numbers, same_numbers, numbers_push}

-- ---- rows by their kinds
row_parts : (r : Row) (x : ℤ) → MeetsBound x r → MeetsCongruence x r → MeetsExclusion x r → HoldsRow r (x ∷ [])
row_parts r x b c e = by r.kind refl
  where
    by : (kind : RowKind) → r.kind ≡ kind → HoldsRow r (x ∷ [])
    by Zero is = b (subst IsBoundKind (sym is) tt)
    by AtLeast is = b (subst IsBoundKind (sym is) tt)
    by Divides is = c is
    by NotDivides is = e is

pub rows_parts : (rows : List Row) (x : ℤ)
    → HoldRows rows (x ∷ []) ↔ ((All (MeetsBound x) rows × All (MeetsCongruence x) rows) × All (MeetsExclusion x) rows)
rows_parts rows x = (
  (λ h. (((λ i d l k. h i d l), (λ i d l k. h i d l)), (λ i d l k. h i d l))),
  (λ p i d l. row_parts (get_or rows i d) x (p.0.0 i d l) (p.0.1 i d l) (p.1 i d l)),
)

pub line_is : (low high : ℤ) (from to : Option ℤ) (steps : Progression) (rows : List Row) (x : ℤ) → from ≡ Some low → to ≡ Some high
    → (IsFrom from x × IsTo to x) ↔ All (MeetsBound x) rows → IsOn steps x ↔ All (MeetsCongruence x) rows
    → (((low ≤ℤ x × x ≤ℤ high) × IsOn steps x) × All (MeetsExclusion x) rows) ↔ HoldRows rows (x ∷ [])
line_is low high from to steps rows x e f b c =
    let p = rows_parts rows x in
    let between : (low ≤ℤ x × x ≤ℤ high) ↔ All (MeetsBound x) rows = rw (e, f) at b in (
      (λ h. p.1 ((between.0 h.0.0, c.0 h.0.1), h.1)),
      (λ h. let q = p.0 h in ((between.1 q.0.0, c.1 q.0.1), q.1)),
    )

-- ---- steps along a progression
-- the first number of a progression from low on
pub ahead_is : (low first k a : ℤ) → pos 0 <ℤ k → a ≡ floor_mod (floor_mod first k -ℤ floor_mod low k) k
    → divide.Divides k (low +ℤ a -ℤ first) × ((x : ℤ) → low ≤ℤ x → divide.Divides k (x -ℤ first) → (low +ℤ a) ≤ℤ x)
ahead_is low first k a above e =
    let f = IsCongruent-floor_mod k first above in
    let l = IsCongruent-floor_mod k low above in
    let both = IsCongruent-floor_mod k (floor_mod first k -ℤ floor_mod low k) above in
    let near : divide.Divides k (first -ℤ low -ℤ a) = subst (λ z. divide.Divides k (first -ℤ low -ℤ z)) (sym e)
    (Divides-same k (first -ℤ floor_mod first k -ℤ (low -ℤ floor_mod low k)
    +ℤ (floor_mod first k -ℤ floor_mod low k -ℤ floor_mod (floor_mod first k -ℤ floor_mod low k) k))
    (first -ℤ low -ℤ floor_mod (floor_mod first k -ℤ floor_mod low k) k) (omega (arith, linear))
    (Divides-+ℤ k (first -ℤ floor_mod first k -ℤ (low -ℤ floor_mod low k))
    (floor_mod first k -ℤ floor_mod low k -ℤ floor_mod (floor_mod first k -ℤ floor_mod low k) k)
    (Divides-minus k (first -ℤ floor_mod first k) (low -ℤ floor_mod low k) f l) both)) in
    let small : a <ℤ k = subst (λ z. z <ℤ k) (sym e) (floor_mod_bounds (floor_mod first k -ℤ floor_mod low k) k above).1 in (
      Divides-same k (pos 0 -ℤ (first -ℤ low -ℤ a)) (low +ℤ a -ℤ first) (omega (arith, linear))
          (Divides-minus k (pos 0) (first -ℤ low -ℤ a) (record { quotient = pos 0; is = omega (arith, linear) }) near),
      (λ x from on. least x from (Divides-same k (x -ℤ first +ℤ (first -ℤ low -ℤ a)) (x -ℤ (low +ℤ a)) (omega (arith, linear))
          (Divides-+ℤ k (x -ℤ first) (first -ℤ low -ℤ a) on near)) small (at_most_or_above (low +ℤ a) x)),
    )
  where
    least : (x : ℤ) → low ≤ℤ x → divide.Divides k (x -ℤ (low +ℤ a)) → a <ℤ k → ((low +ℤ a) ≤ℤ x) ⊎ (x <ℤ (low +ℤ a)) → (low +ℤ a) ≤ℤ x
    least x from d small (inl y) = y
    least x from d small (inr y) = absurd (
        let far = le_from_Divides k (low +ℤ a -ℤ x) (omega (arith, linear)) (Divides-same k (pos 0 -ℤ (x -ℤ (low +ℤ a))) (low +ℤ a -ℤ x)
        (omega (arith, linear)) (Divides-minus k (pos 0) (x -ℤ (low +ℤ a)) (record { quotient = pos 0; is = omega (arith, linear) }) d)) in
        omega (arith, linear))

-- from one number to the next
pub step_on : (x first k : ℤ) → divide.Divides k (x -ℤ first) → divide.Divides k (x +ℤ k -ℤ first)
step_on x first k d = Divides-same k (x -ℤ first +ℤ k) (x +ℤ k -ℤ first) (omega (arith, linear))
    (Divides-+ℤ k (x -ℤ first) k d (record { quotient = pos 1; is = omega (arith, linear) }))

pub step_least : (x z first k : ℤ) → divide.Divides k (x -ℤ first) → divide.Divides k (z -ℤ first) → x <ℤ z → (x +ℤ k) ≤ℤ z
step_least x z first k d e l =
    let far = le_from_Divides k (z -ℤ x) (omega (arith, linear))
    (Divides-same k (z -ℤ first -ℤ (x -ℤ first)) (z -ℤ x) (omega (arith, linear))
    (Divides-minus k (z -ℤ first) (x -ℤ first) e d)) in
    omega (arith, linear)

-- ---- the numbers, one after another
up_to_next : (P E : ℤ → Type 0) (x : ℤ) (next : Option ℤ) (xs : List ℤ) → AreNumbersOf (λ z. (P z × E z) × z ≤ℤ x) xs → IsNext P x next
    → AreNumbersBefore next (λ z. P z × E z) xs
up_to_next P E x None xs a n = same_numbers (λ z. (P z × E z) × z ≤ℤ x) (λ z. P z × E z) xs
    (λ z. ((λ p. p.0), (λ p. (p, n z p.0)))) a
up_to_next P E x (Some y) xs a n = same_numbers (λ z. (P z × E z) × z ≤ℤ x) (λ z. (P z × E z) × z <ℤ y) xs
    (λ z. ((λ p. (p.0, lower z p.1)), (λ p. (p.0, by z p.0.0 p.1 (at_most_or_above z x))))) a
  where
    lower : (z : ℤ) → z ≤ℤ x → z <ℤ y
    lower z l = let m = n.1 in omega (arith, linear)

    by : (z : ℤ) → P z → z <ℤ y → (z ≤ℤ x) ⊎ (x <ℤ z) → z ≤ℤ x
    by z p l (inl low) = low
    by z p l (inr high) = absurd (let m = n.2 z p high in omega (arith, linear))

pub next_listed : (P E : ℤ → Type 0) (x : ℤ) (next : Option ℤ) (old new : List ℤ) → P x → AreNumbersOf (λ z. (P z × E z) × z <ℤ x) old
    → IsTried (E x) x old new → IsNext P x next → AreNumbersBefore next (λ z. P z × E z) new
next_listed P E x next old new p a t n = up_to_next P E x next new (by t) n
  where
    lower : (z : ℤ) → z <ℤ x → z ≤ℤ x
    lower z l = omega (arith, linear)

    same : (z : ℤ) → z ≤ℤ x → (z <ℤ x) ⊎ (x ≡ z)
    same z l = grind (arith, linear)

    by : IsTried (E x) x old new → AreNumbersOf (λ z. (P z × E z) × z ≤ℤ x) new
    by (inl y) = subst (AreNumbersOf (λ z. (P z × E z) × z ≤ℤ x)) (sym y.1) (numbers_push (λ z. (P z × E z) × z <ℤ x)
        (λ z. (P z × E z) × z ≤ℤ x) old x a (λ z q. q.1) (λ z. (
          (λ q. elim q [
            | inl before ↦ (before.0, lower z before.1)
            | inr e ↦ subst (λ w. (P w × E w) × w ≤ℤ x) e ((p, y.0), omega (arith, linear))
          ]),
          (λ q. elim (same z q.1) [ inl l ↦ inl (q.0, l) | inr e ↦ inr e ]),
        )))
    by (inr m) = subst (AreNumbersOf (λ z. (P z × E z) × z ≤ℤ x)) (sym m.1) (same_numbers (λ z. (P z × E z) × z <ℤ x)
        (λ z. (P z × E z) × z ≤ℤ x) old (λ z. (
          (λ q. (q.0, lower z q.1)),
          (λ q. elim (same z q.1) [ inl l ↦ (q.0, l) | inr e ↦ absurd (m.0 (subst E (sym e) q.0.1)) ]),
        )) a)

-- before the first
pub first_listed : (P E : ℤ → Type 0) (next : Option ℤ) → MatchOption next ((z : ℤ) → ¬ P z) (λ y. P y × ((z : ℤ) → P z → y ≤ℤ z))
    → AreNumbersBefore next (λ z. P z × E z) []
first_listed P E None n = no_numbers (λ z. P z × E z) (λ z p. n z p.0)
first_listed P E (Some y) n = no_numbers (λ z. (P z × E z) × z <ℤ y) (λ z p. let l = n.1 z p.0.0 in let m = p.1 in omega (arith, linear))

-- ---- what the code does
pub after_is : (line : Line) (x : ℤ) (next : Option ℤ) → pos 0 <ℤ line.steps.step → IsIn line x
    → MatchOption next (line.high <ℤ (x +ℤ line.steps.step)) (λ y. (y ≡ x +ℤ line.steps.step) × y ≤ℤ line.high)
    → IsNext (IsIn line) x next
after_is line x None above i n = λ z p. by z p (at_most_or_above z x)
  where
    by : (z : ℤ) → IsIn line z → (z ≤ℤ x) ⊎ (x <ℤ z) → z ≤ℤ x
    by z p (inl l) = l
    by z p (inr l) = absurd (let m = step_least x z line.steps.first line.steps.step i.1 p.1 l in let t = p.0.1 in omega (arith, linear))
after_is line x (Some y) above i n = (
  (
    (by i.0.0, n.1),
    subst (λ (w : ℤ). divide.Divides line.steps.step (w -ℤ line.steps.first)) (sym n.0) (step_on x line.steps.first
        line.steps.step i.1),
  ),
  (let e = n.0 in omega (arith, linear)),
  (λ z p l. subst (λ (w : ℤ). w ≤ℤ z) (sym n.0) (step_least x z line.steps.first line.steps.step i.1 p.1 l)),
)
  where
    by : line.low ≤ℤ x → line.low ≤ℤ y
    by l = let e = n.0 in omega (arith, linear)

pub first_number : (line : Line) (a f l d : ℤ) (next : Option ℤ) → pos 0 <ℤ line.steps.step → pos 0 ≤ℤ a
    → f ≡ floor_mod line.steps.first line.steps.step → l ≡ floor_mod line.low line.steps.step → d ≡ f -ℤ l
    → a ≡ floor_mod d line.steps.step
    → MatchOption next (line.high <ℤ (line.low +ℤ a)) (λ y. (y ≡ line.low +ℤ a) × y ≤ℤ line.high)
    → MatchOption next ((x : ℤ) → ¬ IsIn line x) (λ y. IsIn line y × ((x : ℤ) → IsIn line x → y ≤ℤ x))
first_number line a f l d next above more fe le de ae n =
    by next n (ahead_is line.low line.steps.first line.steps.step a above (ae ∙ ap (λ (z : ℤ). floor_mod z line.steps.step) (de ∙ cc)))
  where
    by : (next : Option ℤ) → MatchOption next (line.high <ℤ (line.low +ℤ a)) (λ y. (y ≡ line.low +ℤ a) × y ≤ℤ line.high)
        → divide.Divides line.steps.step (line.low +ℤ a -ℤ line.steps.first)
        × ((x : ℤ) → line.low ≤ℤ x → divide.Divides line.steps.step (x -ℤ line.steps.first) → (line.low +ℤ a) ≤ℤ x)
        → MatchOption next ((x : ℤ) → ¬ IsIn line x) (λ y. IsIn line y × ((x : ℤ) → IsIn line x → y ≤ℤ x))
    by None n i = λ x p. let t = i.1 x p.0.0 p.1 in let u = p.0.1 in omega (arith, linear)
    by (Some y) n i = (
      (
        ((let e = n.0 in omega (arith, linear)), n.1),
        subst (λ (w : ℤ). divide.Divides line.steps.step (w -ℤ line.steps.first)) (sym n.0) i.0,
      ),
      (λ x p. subst (λ (w : ℤ). w ≤ℤ x) (sym n.0) (i.1 x p.0.0 p.1)),
    )

pub allowed : {E : Type 0} (r : Row) (x : ℤ) (P Q : Type 0) (result : Result Bool E) → r.kind ≡ NotDivides
    → MatchResult result (λ b. (IsTrue b ↔ HoldsRow r (x ∷ [])) × P) (λ e. Q)
    → MatchResult result (λ b. (IsTrue b ↔ MeetsExclusion x r) × P) (λ e. Q)
allowed r x P Q (Ok b) is m = (((λ t k. m.0.0 t), (λ h. m.0.1 (h is))), m.1)
allowed r x P Q (Err c) is m = m

pub tried_within : (P : ℤ → Type 0) (E : Type 0) (x : ℤ) (old new : List ℤ) → IsTried E x old new → All P old → P x → All P new
tried_within P E x old new (inl y) a p = subst (All P) (sym y.1) (All-append P old (x ∷ []) a (All-cons P x [] p (All-nil P)))
tried_within P E x old new (inr n) a p = subst (All P) (sym n.1) a

pub tried_length : (E : Type 0) (x : ℤ) (old new : List ℤ) → IsTried E x old new → length new ≤ length old + 1
tried_length E x old new (inl y) = let e = ap (λ (xs : List ℤ). length xs) y.1 in let k = length_push old x in omega (arith, e, k)
tried_length E x old new (inr n) = let e = ap (λ (xs : List ℤ). length xs) n.1 in omega (arith, e)

pub in_within : (g : Gauge) (line : Line) (x : ℤ) → IsLineWithin g line → IsIn line x → IsWithin g x
in_within g line x w i = by (2 ^ g.bits) w.low w.high
  where
    by : (n : ℕ) → unsigned_abs line.low < n → unsigned_abs line.high < n → unsigned_abs x < n
    by n l h = let a = i.0.0 in let b = i.0.1 in omega (arith, linear)

pub next_is_in : (P : ℤ → Type 0) (x : ℤ) (next : Option ℤ) → IsNext P x next → IfSome next P
next_is_in P x None n = tt
next_is_in P x (Some y) n = n.0

pub first_is_in : (P : ℤ → Type 0) (next : Option ℤ) → MatchOption next ((z : ℤ) → ¬ P z) (λ y. P y × ((z : ℤ) → P z → y ≤ℤ z))
    → IfSome next P
first_is_in P None n = tt
first_is_in P (Some y) n = n.0
