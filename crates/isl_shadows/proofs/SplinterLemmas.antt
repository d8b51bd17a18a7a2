-- Splinters: one value of a tail's bound after another, from the last.
use Rattle.std.proofs.Common.{◌≡◌, ◌↔◌, ◌⊎◌, inl, inr, Option, Some, None, refl, ap, arith, ℕ, ◌+◌, ◌-◌, ◌<◌, ◌≤◌, ℤ, pos, ◌+ℤ◌, ◌-ℤ◌, ◌≤ℤ◌, ◌<ℤ◌, List, [], ◌∷◌, ◌++◌, length, get_or}
use Rattle.std.specs.Prelude.{IfSome}
use Rattle.std.specs.List.{All, insert}
use Rattle.std.proofs.lemmas.List.Elements.{All-nil, All-cons, All-head, All-tail}
use Rattle.isl_math.specs.Dot.{dot}
use Rattle.isl_math.proofs.Ring.{linear}
use Rattle.isl_math.proofs.OrderLaws.{cases_ℤ}
use Rattle.isl_meter.specs.Gauge.{Gauge, IsCharged}
use Rattle.isl_meter.proofs.LimitLemmas.{within_kept}
use Rattle.isl_piece.specs.declared.row.Row.{Row}
use Rattle.isl_piece.specs.Row.{value_at}
use Rattle.isl_shadows.specs.Splinters.{HasValue, HasSplinter, KeepBound, AreSplinters, without_last, splinter_count}
use Rattle.isl_omega.specs.Column.{IsAnswerFor, IsProper}
use Rattle.isl_omega.specs.Equality.{IsSolvedBy}
use Rattle.isl_omega.specs.Sides.{IsLower}
use Rattle.isl_omega.specs.declared.shadow.Splinters.{Splinters}
use Rattle.isl_omega.proofs.ImageLemmas.{answer_same}
use Rattle.isl_omega.proofs.SideLemmas.{proper_kept}

-- ---- what is said does not depend on what the meter counted
pub rows_proper_kept : (g h : Gauge) (columns : ℕ) (rows : List Row) → h.bits ≡ g.bits → All (IsProper h columns) rows → All (IsProper g columns) rows
rows_proper_kept g h columns rows e p = λ k d i. proper_kept g h columns (get_or rows k d) e (p k d i)

pub answer_kept : (g h : Gauge) (columns : ℕ) (P : List ℤ → Type 0) (o : Option (List Row)) → h.bits ≡ g.bits → IsAnswerFor h columns P o → IsAnswerFor g columns P o
answer_kept g h columns P None e s = s
answer_kept g h columns P (Some rows) e s = record { proper = rows_proper_kept g h columns rows e s.proper; normal = s.normal; points = s.points }

pub lower_kept : (g h : Gauge) (columns col : ℕ) (r : Row) → h.bits ≡ g.bits → IsLower h columns col r → IsLower g columns col r
lower_kept g h columns col r e l = record { proper = proper_kept g h columns r e l.proper; kind = l.kind; factor = l.factor }

pub tail_at : (g h : Gauge) (columns col : ℕ) (t : Splinters) → h.bits ≡ g.bits → AreSplinters h columns col t → AreSplinters g columns col t
tail_at g h columns col t e b = record { lower = lower_kept g h columns col t.lower e b.lower; within = within_kept g h t.last e b.within; not_below = b.not_below }

-- ---- one splinter
abbrev pub lowered_by : Row → ℤ → Row
lowered_by r i = record { kind = r.kind; coefs = r.coefs; constant = r.constant -ℤ i; k = r.k }

pub splinter_is : (g : Gauge) (columns col : ℕ) (rows : List Row) (bound fixed : Row) (i : ℤ) (left : Option (List Row)) → fixed ≡ lowered_by bound i → IsAnswerFor g (columns - 1) (IsSolvedBy rows fixed col) left → IsAnswerFor g (columns - 1) (HasValue rows col bound i) left
splinter_is g columns col rows bound fixed i left e s = answer_same g (columns - 1) (IsSolvedBy rows fixed col) (HasValue rows col bound i)
    (λ point n. (
      (λ a. (a.0, a.2, (by bound i (insert point col a.0)).0 (rw e at a.1))),
      (λ a. (a.0, rw e ((by bound i (insert point col a.0)).1 a.2), a.1)),
    )) left s
  where
    by : (r : Row) (i : ℤ) (xs : List ℤ) → (value_at (lowered_by r i) xs ≡ pos 0) ↔ (value_at r xs ≡ i)
    by r i xs = zero (dot r.coefs xs) r.constant i
      where
        zero : (d c i : ℤ) → (d +ℤ (c -ℤ i) ≡ pos 0) ↔ (d +ℤ c ≡ i)
        zero d c i = ((λ h. omega (arith, linear)), (λ h. omega (arith, linear)))

-- ---- one value after another
-- a bound whose values are 0 or more has none below 0
pub no_splinter : (columns col : ℕ) (rows : List Row) (t : Splinters) (point : List ℤ) → length point ≡ columns - 1 → KeepBound columns col rows t.lower → t.last <ℤ pos 0 → ¬ HasSplinter rows col point t
no_splinter columns col rows t point n b l h =
    let low = b point h.0 n h.1 in
    let high = h.2 in
    omega (arith, linear)

-- the last value, or one before it
pub last_or_before : (col : ℕ) (rows : List Row) (t : Splinters) (point : List ℤ) → HasSplinter rows col point t ↔ (HasValue rows col t.lower t.last point ⊎ HasSplinter rows col point (without_last t))
last_or_before col rows t point = (
  (λ h. elim (split (value_at t.lower (insert point col h.0)) t.last h.2) [ inl e ↦ inl (h.0, h.1, e) | inr l ↦ inr (h.0, h.1, l) ]),
  (λ h. elim h [ inl x ↦ (x.0, x.1, same (value_at t.lower (insert point col x.0)) t.last x.2) | inr y ↦ (y.0, y.1, less (value_at t.lower (insert point col y.0)) t.last y.2) ]),
)
  where
    split : (v l : ℤ) → v ≤ℤ l → (v ≡ l) ⊎ (v ≤ℤ (l -ℤ pos 1))
    split v l h = grind (arith, linear)

    same : (v l : ℤ) → v ≡ l → v ≤ℤ l
    same v l h = omega (arith, linear)

    less : (v l : ℤ) → v ≤ℤ (l -ℤ pos 1) → v ≤ℤ l
    less v l h = omega (arith, linear)

-- ---- how many
pub total-push : (tails : List Splinters) (t : Splinters) → splinter_count (tails ++ t ∷ []) ≡ splinter_count tails +ℤ (t.last +ℤ pos 1)
total-push [] t = omega (arith, linear)
total-push (s ∷ tails) t = let e = total-push tails t in omega (arith, linear)

pub total_not_negative : (g : Gauge) (columns col : ℕ) (tails : List Splinters) → All (AreSplinters g columns col) tails → pos 0 ≤ℤ splinter_count tails
total_not_negative g columns col [] h = omega (arith, linear)
total_not_negative g columns col (t ∷ tails) h = let f = (All-head (AreSplinters g columns col) t tails h).not_below in let r = total_not_negative g columns col tails (All-tail (AreSplinters g columns col) t tails h) in omega (arith, linear)

-- tails whose last values are below 0 have none, and others have some
pub no_splinters : (g : Gauge) (columns col : ℕ) (tails : List Splinters) → All (AreSplinters g columns col) tails → All (λ t. t.last <ℤ pos 0) tails → splinter_count tails ≡ pos 0
no_splinters g columns col [] h n = refl
no_splinters g columns col (t ∷ tails) h n =
    let low = (All-head (AreSplinters g columns col) t tails h).not_below in
    let high = All-head (λ t. t.last <ℤ pos 0) t tails n in
    let rest = no_splinters g columns col tails (All-tail (AreSplinters g columns col) t tails h) (All-tail (λ t. t.last <ℤ pos 0) t tails n) in
    omega (arith, linear)

pub some_splinters : (g : Gauge) (columns col : ℕ) (tails : List Splinters) → All (AreSplinters g columns col) tails → ¬ All (λ t. t.last <ℤ pos 0) tails → pos 0 <ℤ splinter_count tails
some_splinters g columns col [] h n = absurd (n (All-nil (λ t. t.last <ℤ pos 0)))
some_splinters g columns col (t ∷ tails) h n = elim (cases_ℤ t.last (pos 0)) [
  | inl below ↦
      let low = (All-head (AreSplinters g columns col) t tails h).not_below in
      let rest = some_splinters g columns col tails (All-tail (AreSplinters g columns col) t tails h) (λ m. n (All-cons (λ t. t.last <ℤ pos 0) t tails below m)) in
      omega (arith, linear)
  | inr above ↦
      let rest = total_not_negative g columns col tails (All-tail (AreSplinters g columns col) t tails h) in
      elim above [ inl e ↦ omega (arith, linear) | inr l ↦ omega (arith, linear) ]
]

-- ---- one list after another
pub no_end : {X : Type 0} (xs : List X) (x : X) → [] ≡ xs ++ x ∷ [] → ⊥
no_end [] x e = cc
no_end (y ∷ xs) x e = cc

pub same_bits : (g h : Gauge) → IsCharged g h → h.bits ≡ g.bits
same_bits g h c = ap (λ (x : Gauge). x.bits) c.same

-- ---- what a built splinter says
pub any_some : {X : Type 0} (o : Option X) (Q : Type 0) → Q → IfSome o (λ _. Q)
any_some None Q q = tt
any_some (Some x) Q q = q
