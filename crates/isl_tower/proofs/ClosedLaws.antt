-- Ends among rows, closed systems, and closed levels.
use Rattle.std.proofs.Common.{◌≡◌, ◌↔◌, ◌⊎◌, inl, inr, refl, sym, arith, ℕ, ◌+◌, ◌-◌, ◌<◌, ◌≤◌, List, [], ◌∷◌, length}
use Rattle.std.proofs.Common.{get_or, Bool, true, false}
use Rattle.std.specs.Prelude.{IsTrue, Result, Ok, Err, IfOk}
use Rattle.std.specs.List.{All}
use Rattle.std.proofs.lemmas.List.Elements.{All-nil, All-cons, All-head, All-tail, Contains-get_or}
use Rattle.isl_meter.specs.Gauge.{Gauge, IsCharged}
use Rattle.isl_meter.specs.declared.Cut.{Cut}
use Rattle.isl_meter.proofs.CutLemmas.{charges}
use Rattle.isl_piece.specs.declared.row.Row.{Row}
use Rattle.isl_piece.specs.declared.system.System.{System}
use Rattle.isl_piece.specs.Row.{coef_at}
use Rattle.isl_piece.specs.System.{HoldsSystem, IsSystemWithin, free_columns}
use Rattle.isl_elim.specs.Sample.{IsNowhere}
use Rattle.isl_tower.specs.Bounded.{IsBounded}
use Rattle.isl_tower.specs.Closed.{IsClosed}
use Rattle.isl_tower.specs.Ends.{EndsBelow, EndsAbove, HasLowerEnd, HasUpperEnd}
use Rattle.isl_tower.specs.Tower.{IsTower, IsTowerOf}
use Rattle.isl_tower.proofs.BoundedLaws.{AreClosedUpTo, unbounded, tower_bounded}
use Rattle.isl_tower.proofs.TowerLaws.{charged_limit, system_kept}

-- ---- ends among rows
pub no_lower_end : (col : ℕ) (rows : List Row) → All (λ r. ¬ EndsBelow r.kind (coef_at r col)) rows → ¬ HasLowerEnd col rows
no_lower_end col rows n a = n a.0 a.1 a.2 (rw a.3 a.4)

pub some_lower_end : (col : ℕ) (rows : List Row) (i : ℕ) (r : Row) → i < length rows → r ≡ get_or rows i r
    → EndsBelow r.kind (coef_at r col) → HasLowerEnd col rows
some_lower_end col rows i r l e h = (i, r, l, sym e, h)

pub no_upper_end : (col : ℕ) (rows : List Row) → All (λ r. ¬ EndsAbove r.kind (coef_at r col)) rows → ¬ HasUpperEnd col rows
no_upper_end col rows n a = n a.0 a.1 a.2 (rw a.3 a.4)

pub some_upper_end : (col : ℕ) (rows : List Row) (i : ℕ) (r : Row) → i < length rows → r ≡ get_or rows i r
    → EndsAbove r.kind (coef_at r col) → HasUpperEnd col rows
some_upper_end col rows i r l e h = (i, r, l, sym e, h)

pub ruleset end_steps = (no_lower_end, some_lower_end, no_upper_end, some_upper_end)

-- ---- closed systems
pub not_true : (b : Bool) → b ≡ false → IsTrue b → ⊥
not_true b e t = grind arith

pub false_is_none : (A : Type 0) → IsTrue false → A
false_is_none A e = absurd (by e)
  where
    by : IsTrue false → ⊥
    by e = grind arith

pub closed_by_ends : (s : System) (last : ℕ) → last ≡ free_columns s - 1 → HasLowerEnd last s.rows → HasUpperEnd last s.rows → IsClosed s
closed_by_ends s last e l u = inl (rw e at l, rw e at u)

pub closed_where_empty : (s : System) (last : ℕ) (result : Result Bool Cut) → last ≡ free_columns s - 1
    → ¬ (HasLowerEnd last s.rows × HasUpperEnd last s.rows)
    → IfOk result (λ empty. IsTrue empty ↔ IsNowhere (free_columns s) (HoldsSystem s)) → IfOk result (λ empty. IsTrue empty ↔ IsClosed s)
closed_where_empty s last (Ok empty) e n r = (
  (λ t. inr (r.0 t)),
  (λ c. elim c [
    | inl ends ↦ absurd (n (rw (sym e) at ends))
    | inr nowhere ↦ r.1 nowhere
  ]),
)
closed_where_empty s last (Err cut) e n r = tt

pub all_closed : (systems : List System) → All IsClosed systems → IsTrue true ↔ All IsClosed systems
all_closed systems a = ((λ t. a), (λ b. refl))

pub one_open : (systems : List System) (i : ℕ) (s : System) → i < length systems → s ≡ get_or systems i s → ¬ IsClosed s
    → IsTrue false ↔ All IsClosed systems
one_open systems i s l e n = ((λ t. false_is_none (All IsClosed systems) t), (λ a. absurd (n (rw (sym e) at (a i s l)))))

-- ---- closed levels
pub closed_first : (levels : List (List System)) → AreClosedUpTo levels 1
closed_first levels height h k = absurd (omega (arith, h, k))

pub closed_more : (levels : List (List System)) (top : ℕ) → AreClosedUpTo levels top → All IsClosed (get_or levels top [])
    → AreClosedUpTo levels (top + 1)
closed_more levels top a c height h k = elim (cases height top k) [
  | inl l ↦ a height h l
  | inr e ↦ rw e c
]
  where
    cases : (i n : ℕ) → i < n + 1 → (i < n) ⊎ (i ≡ n)
    cases i n h = grind arith

pub bounded_true : (g : Gauge) (s : System) (outer : ℕ) (levels : List (List System)) → IsTowerOf s outer levels
    → All (All (IsSystemWithin g)) levels → All (All (λ t. t.definitions ≡ [])) levels
    → AreClosedUpTo levels (length levels) → IsTrue true ↔ IsBounded s outer
bounded_true g s outer levels t w d c = ((λ e. tower_bounded g s outer levels t w d c), (λ b. refl))

-- no element is without P, and so not all together are
all_together : {X : Type 0} (P : X → Type 0) (xs : List X) → All (λ x. ¬ (¬ P x)) xs → ¬ (¬ All P xs)
all_together P [] h n = n (All-nil P)
all_together P (x ∷ xs) h n = All-head (λ y. ¬ (¬ P y)) x xs h
    (λ p. all_together P xs (All-tail (λ y. ¬ (¬ P y)) x xs h) (λ ps. n (All-cons P x xs p ps)))

pub bounded_false : (g : Gauge) (s : System) (outer : ℕ) (levels : List (List System)) (height : ℕ) → IsTowerOf s outer levels
    → All (All (IsSystemWithin g)) levels → All (All (λ t. t.definitions ≡ [])) levels
    → 0 < height → height < length levels → ¬ All IsClosed (get_or levels height []) → IsTrue false ↔ IsBounded s outer
bounded_false g s outer levels height t w d h k n = ((λ e. false_is_none (IsBounded s outer) e), (λ b. absurd (by b)))
  where
    by : IsBounded s outer → ⊥
    by b =
        let level = get_or levels height [] in
        let p = t.projections height k in
        all_together IsClosed level
        (λ i e l wide. unbounded g s outer height level (get_or level i e) p h (Contains-get_or level i e l) (p.columns i e l)
        (w height [] k i e l) (d height [] k i e l) wide b)
        n

-- ---- what the code asks for
pub closed_enough : (levels : List (List System)) (top : ℕ) → length levels ≤ top → AreClosedUpTo levels top
    → AreClosedUpTo levels (length levels)
closed_enough levels top l a height h k = a height h (omega (arith, l, k))

-- the systems of a level above the lowest have a column
pub level_columns : (levels : List (List System)) (height : ℕ) → IsTower levels → 0 < height → height < length levels
    → All (λ s. 0 < free_columns s) (get_or levels height [])
level_columns levels height t h k i d l = let c = (t.2.projections height k).columns i d l in omega (arith, c, h)

-- a meter that was charged has the same limit
pub systems_within : (g h : Gauge) (systems : List System) → IsCharged g h → All (λ s. s.definitions ≡ []) systems
    → All (IsSystemWithin g) systems
    → All (IsSystemWithin h) systems
systems_within g h systems c p w i d l = system_kept h g (get_or systems i d) (sym (charged_limit g h c)) (p i d l) (w i d l)

pub ruleset closed_steps = (charges, closed_by_ends, closed_where_empty, all_closed, one_open, closed_first, closed_more)
