-- A system is bounded exactly where the levels of its tower are closed.
use Rattle.std.proofs.Common.{◌≡◌, ◌∙◌, inl, inr, sym, ap, subst, arith, ℕ, zero, suc, ◌+◌, ◌-◌, ◌<◌, ◌≤◌, ℤ, pos}
use Rattle.std.proofs.Common.{unsigned_abs, List, [], ◌∷◌, ◌++◌, length, get_or, take, drop}
use Rattle.std.specs.List.{All, Contains, insert}
use Rattle.std.proofs.lemmas.List.{append-nil, append_assoc, length_push, length-append, length-take-le, take-append-drop}
use Rattle.std.proofs.lemmas.List.{nil_from_length, take_more, take_all}
use Rattle.std.proofs.lemmas.List.Edits.{insert_end}
use Rattle.std.proofs.lemmas.List.Elements.{All-nil, All-cons, All-head, All-append}
use Rattle.isl_math.proofs.ListLaws.{Any-contains, All-parts}
use Rattle.isl_math.proofs.MagnitudeLaws.{IsUpTo}
use Rattle.isl_meter.specs.Gauge.{Gauge}
use Rattle.isl_piece.specs.declared.system.System.{System}
use Rattle.isl_piece.specs.System.{HoldsSystem, IsSystemWithin, free_columns}
use Rattle.isl_elim.specs.Sample.{IsNowhere}
use Rattle.isl_elim.proofs.ProjectionLaws.{plain_free, plain_holds}
use Rattle.isl_tower.specs.Bounded.{AreUpTo, IsBounded}
use Rattle.isl_tower.specs.Closed.{IsClosed}
use Rattle.isl_tower.specs.Ends.{HasLowerEnd, HasUpperEnd}
use Rattle.isl_tower.specs.Tower.{BeginsPoint, IsProjectionOnto, IsTowerOf}
use Rattle.isl_tower.proofs.EndLaws.{open_below, open_above, closed_number, rows_reach}
use Rattle.isl_tower.proofs.TowerLaws.{begins_longer, whole_point}

-- ---- lists
split_last : (xs : List ℤ) (n : ℕ) → length xs ≡ n + 1 → xs ≡ take n xs ++ get_or xs n (pos 0) ∷ []
split_last xs n l = sym (take_all (n + 1) xs (omega (arith, l))) ∙ take_more xs n (pos 0) (omega (arith, l))

-- ---- a column without an end
-- from each number at the last column another point leads to one of a magnitude above b
abbrev pub GoesOn : System → Type 0
GoesOn t = (p : List ℤ) (x : ℤ) (b : ℕ) → length p + 1 ≡ free_columns t → HoldsSystem t (p ++ x ∷ [])
    → (y : ℤ) × (¬ (unsigned_abs y ≤ b)) × HoldsSystem t (p ++ y ∷ [])

goes_below : (g : Gauge) (t : System) → IsSystemWithin g t → t.definitions ≡ [] → ¬ HasLowerEnd (free_columns t - 1) t.rows → GoesOn t
goes_below g t w d none p x b l h =
    let free = plain_free t d in
    let none' : ¬ HasLowerEnd (length p) t.rows = subst (λ col. ¬ HasLowerEnd col t.rows) (last p l) none in
    let rows = (plain_holds t (insert p (length p) x) d).0 (subst (λ q. HoldsSystem t q) (sym (insert_end p x)) h) in
    let y = open_below t.columns (length p) t.rows p x b w.rows (omega (arith, free, l)) (omega arith) none' rows in
    (y.0, y.1, subst (λ q. HoldsSystem t q) (insert_end p y.0) ((plain_holds t (insert p (length p) y.0) d).1 y.2))
  where
    last : (p : List ℤ) → length p + 1 ≡ free_columns t → free_columns t - 1 ≡ length p
    last p l = omega (arith, l)

goes_above : (g : Gauge) (t : System) → IsSystemWithin g t → t.definitions ≡ [] → ¬ HasUpperEnd (free_columns t - 1) t.rows → GoesOn t
goes_above g t w d none p x b l h =
    let free = plain_free t d in
    let none' : ¬ HasUpperEnd (length p) t.rows = subst (λ col. ¬ HasUpperEnd col t.rows) (last p l) none in
    let rows = (plain_holds t (insert p (length p) x) d).0 (subst (λ q. HoldsSystem t q) (sym (insert_end p x)) h) in
    let y = open_above t.columns (length p) t.rows p x b w.rows (omega (arith, free, l)) (omega arith) none' rows in
    (y.0, y.1, subst (λ q. HoldsSystem t q) (insert_end p y.0) ((plain_holds t (insert p (length p) y.0) d).1 y.2))
  where
    last : (p : List ℤ) → length p + 1 ≡ free_columns t → free_columns t - 1 ≡ length p
    last p l = omega (arith, l)

-- a number behind the first ones in a point of a bounded system
bounded_number : (s : System) (outer : ℕ) (b : IsBounded s outer) (front mid : List ℤ) (y : ℤ) (e : length front ≡ outer)
    → BeginsPoint s ((front ++ mid) ++ y ∷ []) → unsigned_abs y ≤ (b front e).0
bounded_number s outer b front mid y e p =
    let P : ℤ → Type 0 = λ z. unsigned_abs z ≤ (b front e).0 in
    let joined : ((front ++ mid) ++ y ∷ []) ++ p.0 ≡ front ++ (mid ++ y ∷ p.0) = append_assoc (front ++ mid) (y ∷ []) p.0
    ∙ append_assoc front mid (y ∷ p.0) in
    let all : AreUpTo (b front e).0 (mid ++ y ∷ p.0) = (b front e).1 (mid ++ y ∷ p.0) (counted p.0 p.1)
    (subst (λ q. HoldsSystem s q) joined p.2) in
    All-head P y p.0 (All-parts P mid (y ∷ p.0) all).1
  where
    counted : (rest : List ℤ) → length ((front ++ mid) ++ y ∷ []) + length rest ≡ free_columns s
        → length front + length (mid ++ y ∷ rest) ≡ free_columns s
    counted rest l =
        let a = length_push (front ++ mid) y in
        let c = length-append front mid in
        let d = length-append mid (y ∷ rest) in
        omega (arith, l, a, c, d)

nowhere_if_it_goes_on : (s : System) (outer height : ℕ) (level : List System) (t : System) → IsProjectionOnto s (outer + height) level
    → 0 < height → Contains level t → free_columns t ≡ outer + height → IsBounded s outer → GoesOn t
    → IsNowhere (free_columns t) (HoldsSystem t)
nowhere_if_it_goes_on s outer height level t p n c f b on point l h = at (outer + height - 1) (omega (arith, n)) (omega arith)
  where
    at : (k : ℕ) → k + 1 ≡ outer + height → outer ≤ k → ⊥
    at k e i =
        let same = split_last point k (omega (arith, l, f, e)) in
        let q = take k point in
        let x = get_or point k (pos 0) in
        let long : length q ≡ k = length-take-le k point (omega (arith, l, f, e)) in
        let front = take outer q in
        let mid = drop outer q in
        let parts : front ++ mid ≡ q = take-append-drop outer q in
        let el : length front ≡ outer = length-take-le outer q (omega (arith, long, i)) in
        let y = on q x (b front el).0 (omega (arith, long, f, e)) (subst (λ z. HoldsSystem t z) same h) in
        let push = length_push q y.0 in
        let begins : BeginsPoint s (q ++ y.0 ∷ []) = (p.points (q ++ y.0 ∷ []) (omega (arith, push, long, e))).0
        (Any-contains (λ u. HoldsSystem u (q ++ y.0 ∷ [])) level t c y.2) in
        y.1 (bounded_number s outer b front mid y.0 el (subst (λ z. BeginsPoint s (z ++ y.0 ∷ [])) (sym parts) begins))

-- a system of a level that is not closed
pub unbounded : (g : Gauge) (s : System) (outer height : ℕ) (level : List System) (t : System) → IsProjectionOnto s (outer + height) level
    → 0 < height → Contains level t → free_columns t ≡ outer + height → IsSystemWithin g t → t.definitions ≡ []
    → ¬ IsClosed t → ¬ IsBounded s outer
unbounded g s outer height level t p n c f w d wide b =
    low (λ l. high (λ u. wide (inl (l, u))))
  where
    low : (HasLowerEnd (free_columns t - 1) t.rows → ⊥) → ⊥
    low none = wide (inr (nowhere_if_it_goes_on s outer height level t p n c f b (goes_below g t w d none)))

    high : (HasUpperEnd (free_columns t - 1) t.rows → ⊥) → ⊥
    high none = wide (inr (nowhere_if_it_goes_on s outer height level t p n c f b (goes_above g t w d none)))

-- ---- closed levels
closed_last : (g : Gauge) (t : System) (p : List ℤ) (x : ℤ) (b : ℕ) → IsSystemWithin g t → t.definitions ≡ []
    → length p + 1 ≡ free_columns t → IsClosed t → AreUpTo b p → HoldsSystem t (p ++ x ∷ []) → IsUpTo (rows_reach b (length p) t.rows) x
closed_last g t p x b w d l closed u h = elim closed [
  | inl ends ↦
      let free = plain_free t d in
      let rows = (plain_holds t (insert p (length p) x) d).0 (subst (λ q. HoldsSystem t q) (sym (insert_end p x)) h) in
      closed_number t.columns (length p) t.rows p x b w.rows (omega (arith, free, l)) (omega arith)
      (subst (λ col. HasLowerEnd col t.rows) last ends.0) (subst (λ col. HasUpperEnd col t.rows) last ends.1) u rows
  | inr nowhere ↦ absurd (nowhere (p ++ x ∷ []) (let k = length_push p x in omega (arith, k, l)) h)
]
  where
    last : free_columns t - 1 ≡ length p
    last = omega (arith, l)

-- how far the last numbers of the systems go where the others have magnitudes up to b
systems_reach : ℕ → ℕ → List System → ℕ
systems_reach b col [] = 0
systems_reach b col (t ∷ systems) = rows_reach b col t.rows + systems_reach b col systems

reach_among : (b col : ℕ) (systems : List System) (i : ℕ) (d : System) → i < length systems
    → rows_reach b col (get_or systems i d).rows ≤ systems_reach b col systems
unfolding systems_reach
reach_among b col [] i d h = absurd (omega arith)
reach_among b col (t ∷ systems) zero d h = omega arith
reach_among b col (t ∷ systems) (suc i) d h = let r = reach_among b col systems i d (omega arith) in omega arith

-- the magnitudes of numbers that begin a point, the first of them given, are at most b
abbrev pub AreBoundedTo : System → List ℤ → ℕ → ℕ → Type 0
AreBoundedTo s front height b = (mid : List ℤ) → length mid ≡ height → BeginsPoint s (front ++ mid) → AreUpTo b (front ++ mid)

closed_level : (g : Gauge) (s : System) (outer height : ℕ) (level : List System) → IsProjectionOnto s (outer + suc height) level
    → All (IsSystemWithin g) level → All (λ t. t.definitions ≡ []) level → All IsClosed level
    → (front : List ℤ) (b : ℕ) → length front ≡ outer → AreBoundedTo s front height b
    → AreBoundedTo s front (suc height) (b + systems_reach b (outer + height) level)
closed_level g s outer height level p w d closed front b e bounded mid l begins =
    let same = split_last mid height (omega (arith, l)) in
    at (take height mid) (get_or mid height (pos 0)) (length-take-le height mid (omega (arith, l))) same
  where
    n : ℕ
    n = b + systems_reach b (outer + height) level

    at : (m : List ℤ) (x : ℤ) → length m ≡ height → mid ≡ m ++ x ∷ [] → AreUpTo n (front ++ mid)
    at m x k same =
        let whole = front ++ m in
        let long : length whole ≡ outer + height = length-append front m ∙ (let a = e in let c = k in omega (arith, a, c)) in
        let joined : front ++ mid ≡ whole ++ x ∷ [] = ap (λ (xs : List ℤ). front ++ xs) same ∙ sym (append_assoc front m (x ∷ [])) in
        let more : BeginsPoint s (whole ++ x ∷ []) = subst (λ q. BeginsPoint s q) joined begins in
        let push = length_push whole x in
        let before : BeginsPoint s whole = (begins_longer s whole (let c = more.1 in omega (arith, c, push))).1 (x, more) in
        let up : AreUpTo b whole = bounded m k before in
        let some = (p.points (whole ++ x ∷ []) (omega (arith, push, long))).1 more in
        let i = some.0 in
        let t = get_or level i some.1 in
        let holds : HoldsSystem t (whole ++ x ∷ []) = subst (λ u. HoldsSystem u (whole ++ x ∷ [])) (sym some.3) some.4 in
        let c = p.columns i some.1 some.2 in
        let near = closed_last g t whole x b (w i some.1 some.2) (d i some.1 some.2) (omega (arith, c, long))
        (closed i some.1 some.2) up holds in
        let among = reach_among b (length whole) level i some.1 some.2 in
        let far : unsigned_abs x ≤ n = reached (length whole) long (rows_reach b (length whole) t.rows) near among in
        subst (λ q. AreUpTo n q) (sym joined)
        (All-append (λ z. unsigned_abs z ≤ n) whole (x ∷ []) (λ j z y. let q = up j z y in omega (arith, q))
        (All-cons (λ z. unsigned_abs z ≤ n) x [] far (All-nil (λ z. unsigned_abs z ≤ n))))
      where
        reached : (col : ℕ) → col ≡ outer + height → (r : ℕ) → unsigned_abs x ≤ r → r ≤ systems_reach b col level → unsigned_abs x ≤ n
        reached col same r h k = let g' : r ≤ systems_reach b (outer + height) level = subst (λ c. r ≤ systems_reach b c level) same k in
            omega (arith, h, g')

-- the sum of magnitudes
total : List ℤ → ℕ
total [] = 0
total (x ∷ xs) = unsigned_abs x + total xs

total_up : (xs : List ℤ) → AreUpTo (total xs) xs
unfolding total
total_up [] = All-nil (λ z. unsigned_abs z ≤ 0)
total_up (x ∷ xs) = All-cons (λ z. unsigned_abs z ≤ unsigned_abs x + total xs) x xs (omega arith)
    (λ j z y. let q = total_up xs j z y in omega (arith, q))

-- each level above the lowest is closed
abbrev pub AreClosedUpTo : List (List System) → ℕ → Type 0
AreClosedUpTo levels top = (height : ℕ) → 0 < height → height < top → All IsClosed (get_or levels height [])

pub tower_bounded : (g : Gauge) (s : System) (outer : ℕ) (levels : List (List System)) → IsTowerOf s outer levels
    → All (All (IsSystemWithin g)) levels → All (All (λ t. t.definitions ≡ [])) levels → AreClosedUpTo levels (length levels)
    → IsBounded s outer
tower_bounded g s outer levels t w d closed front e =
    let r = bounds (length levels - 1) (let c = t.count in let n = t.outer_in in omega (arith, c, n)) in (
      r.0,
      λ rest l h. (All-parts (λ z. unsigned_abs z ≤ r.0) front rest
          (r.1 rest (let c = t.count in let n = t.outer_in in omega (arith, c, l, e, n))
          ((whole_point s (front ++ rest) (length-append front rest ∙ l)).1 h))).1,
    )
  where
    bounds : (height : ℕ) → height < length levels → (b : ℕ) × AreBoundedTo s front height b
    bounds zero h = (
      total front,
      λ mid l begins.
          let none = nil_from_length mid l in
          subst (λ q. AreUpTo (total front) q) (sym (ap (λ (xs : List ℤ). front ++ xs) none ∙ append-nil front)) (total_up front),
    )
    bounds (suc k) h =
        let r = bounds k (omega (arith, h)) in
        let level = get_or levels (suc k) [] in (
          r.0 + systems_reach r.0 (outer + k) level,
          closed_level g s outer k level (t.projections (suc k) h) (w (suc k) [] h)
              (d (suc k) [] h) (closed (suc k) (omega arith) h) front r.0 e r.1,
        )
