-- Up a tower: what begins points at one level, and at the next.
use Rattle.std.proofs.Common.{◌≡◌, ◌⊎◌, ◌∙◌, inl, inr, refl, sym, ap, subst, arith, ℕ, ◌+◌}
use Rattle.std.proofs.Common.{◌-◌, ◌*◌, ◌/◌, ◌^◌, ◌<◌, ◌≤◌, ℤ, pos, unsigned_abs, List, [], ◌∷◌, ◌++◌}
use Rattle.std.proofs.Common.{length, get_or, take}
use Rattle.std.specs.List.{All, AllPairs}
use Rattle.std.proofs.lemmas.List.{length-take-le, length_push, nil_from_length, take_all, take_more}
use Rattle.std.proofs.lemmas.List.Elements.{All-contains, All-nil, All-cons, Contains-get_or, Contains-push}
use Rattle.isl_math.specs.Order.{IsBefore}
use Rattle.isl_meter.specs.Gauge.{Gauge, IsCharged, IsWithin}
use Rattle.isl_piece.specs.declared.system.System.{System}
use Rattle.isl_piece.specs.System.{HoldsSystem}
use Rattle.isl_elim.specs.Elimination.{HoldsAtAny}
use Rattle.isl_tower.specs.Level.{AreOver}
use Rattle.isl_tower.specs.Tower.{BeginsPoint, IsProjectionOnto, IsTowerOf}
use Rattle.isl_tower.proofs.TowerLaws.{begins_longer, charged_limit, over_kept}
use Rattle.isl_points.specs.Level.{AreBeginnings, AreLonger}
use Rattle.isl_points.specs.Flat.{laid_out, points_in}
use Rattle.isl_points.proofs.ListLaws.{contains_one}
use Rattle.isl_points.proofs.RowLaws.{whole_points}

-- ---- the lowest level
-- one list of no numbers, where the systems hold there, else none
abbrev pub IsLowest : List System → List (List ℤ) → Type 0
IsLowest systems points = (HoldsAtAny systems [] × (points ≡ [] ∷ [])) ⊎ ((¬ HoldsAtAny systems []) × (points ≡ []))

pub lowest_begins : (s : System) (levels : List (List System)) (points : List (List ℤ)) → IsTowerOf s 0 levels → 0 < length levels
    → IsLowest (get_or levels 0 []) points → AreBeginnings s 0 points
lowest_begins s levels points t n (inl y) = rw y.1 (record {
  exact = λ p. (
    (λ c.
        let none : [] ≡ p = contains_one [] p c in
        let e = ap (λ (q : List ℤ). length q) none in
        (omega (arith, e), ((t.projections 0 n).points p (omega (arith, e))).0 (subst (HoldsAtAny (get_or levels 0 [])) none y.0))),
    (λ h. let none = nil_from_length p h.0 in rw none (Contains-push [] [])),
  );
  ordered = λ i j d below inside. absurd (omega (arith, below, inside));
})
lowest_begins s levels points t n (inr y) = rw y.1 (record {
  exact = λ p. (
    (λ c. absurd (let l = c.1 in omega (arith, l))),
    (λ h.
        let none = nil_from_length p h.0 in
        let l = h.0 in
        absurd (y.0 (subst (HoldsAtAny (get_or levels 0 [])) none (((t.projections 0 n).points p (omega (arith, l))).1 h.1)))),
  );
  ordered = λ i j d below inside. absurd (omega (arith, below, inside));
})

pub lowest_widths : (systems : List System) (points : List (List ℤ)) → IsLowest systems points → All (λ q. length q ≡ 0) points
lowest_widths systems points (inl y) = rw y.1 (All-cons (λ q. length q ≡ 0) [] [] refl (All-nil (λ q. length q ≡ 0)))
lowest_widths systems points (inr y) = rw y.1 (All-nil (λ q. length q ≡ 0))

pub lowest_ordered : (systems : List System) (points : List (List ℤ)) → IsLowest systems points → AllPairs IsBefore points
lowest_ordered systems points (inl y) = rw y.1 (λ i j d below inside. absurd (omega (arith, below, inside)))
lowest_ordered systems points (inr y) = rw y.1 (λ i j d below inside. absurd (omega (arith, below, inside)))

pub lowest_within : (g : Gauge) (systems : List System) (points : List (List ℤ)) → IsLowest systems points → All (All (IsWithin g)) points
lowest_within g systems points (inl y) = rw y.1 (All-cons (All (IsWithin g)) [] [] (All-nil (IsWithin g)) (All-nil (All (IsWithin g))))
lowest_within g systems points (inr y) = rw y.1 (All-nil (All (IsWithin g)))

pub lowest_count : (systems : List System) (points : List (List ℤ)) → IsLowest systems points → length points ≤ 1
lowest_count systems points (inl y) = let e = ap (λ (q : List (List ℤ)). length q) y.1 in omega (arith, e)
lowest_count systems points (inr y) = let e = ap (λ (q : List (List ℤ)). length q) y.1 in omega (arith, e)

-- ---- the next level
pub next_begins : (g k : Gauge) (s : System) (levels : List (List System)) (height : ℕ) (shorter longer : List (List ℤ))
    → IsTowerOf s 0 levels
    → 0 < height → height < length levels → AreBeginnings s (height - 1) shorter → AreLonger g k (get_or levels height []) shorter longer
    → AreBeginnings s height longer
next_begins g k s levels height shorter longer t n l a b = record {
  exact = λ p. (
    (λ c.
        let z = (b.exact p).0 c in
        let w = ((a.exact z.0).0 z.2).0 in
        let e = ap (λ (q : List ℤ). length q) z.3 in
        let m = length_push z.0 z.1 in
        let long : length p ≡ height = omega (arith, w, e, m, n) in
        (long, (at.points p (omega (arith, long))).0 z.4)),
    (λ h.
        let q = take (height - 1) p in
        let x = get_or p (height - 1) (pos 0) in
        let long = h.0 in
        let same : q ++ x ∷ [] ≡ p = sym (take_more p (height - 1) (pos 0) (omega (arith, long, n)))
        ∙ take_all (height - 1 + 1) p (omega (arith, long, n)) in
        let short : length q ≡ height - 1 = length-take-le (height - 1) p (omega (arith, long, n)) in
        let more : BeginsPoint s (q ++ x ∷ []) = subst (λ r. BeginsPoint s r) (sym same) h.1 in
        let before : BeginsPoint s q = (begins_longer s q (let c = t.count in omega (arith, short, c, n, l))).1 (x, more) in
        (b.exact p).1 (q, x, (a.exact q).1 (short, before), same, (at.points p (omega (arith, long))).1 h.1)),
  );
  ordered = b.ordered;
}
  where
    at : IsProjectionOnto s (0 + height) (get_or levels height [])
    at = t.projections height l

-- what begins a point begins a longer one
pub begun_at : (s : System) (levels : List (List System)) (height : ℕ) (points : List (List ℤ)) → IsTowerOf s 0 levels
    → 0 < height → height < length levels → AreBeginnings s (height - 1) points
    → All (λ q. (x : ℤ) × HoldsAtAny (get_or levels height []) (q ++ x ∷ [])) points
begun_at s levels height points t n l a i d m =
    let q = get_or points i d in
    let own = (a.exact q).0 (Contains-get_or points i d m) in
    let short = own.0 in
    let more = (begins_longer s q (let c = t.count in omega (arith, short, c, n, l))).0 own.1 in
    let long = length_push q more.0 in
    (more.0, ((t.projections height l).points (q ++ more.0 ∷ []) (omega (arith, short, long, n))).1 more.1)

pub next_widths : (g k : Gauge) (systems : List System) (n m : ℕ) (shorter longer : List (List ℤ)) → n + 1 ≡ m
    → All (λ q. length q ≡ n) shorter → AreLonger g k systems shorter longer → All (λ q. length q ≡ m) longer
next_widths g k systems n m shorter longer e a b i d l =
    let p = get_or longer i d in
    let z = (b.exact p).0 (Contains-get_or longer i d l) in
    let w : length z.0 ≡ n = All-contains (λ q. length q ≡ n) shorter z.0 a z.2 in
    let u = ap (λ (q : List ℤ). length q) z.3 in
    let v = length_push z.0 z.1 in
    omega (arith, e, w, u, v)

-- the points of the next level, of which the list has the numbers
pub whole_longer : (g k : Gauge) (systems : List System) (width : ℕ) (shorter longer : List (List ℤ)) (numbers : List ℤ) → 0 < width
    → All (λ q. length q + 1 ≡ width) shorter → AreLonger g k systems shorter longer → numbers ≡ laid_out longer
    → (points_in width (length numbers / width) numbers ≡ longer) × (length numbers ≡ length numbers / width * width)
whole_longer g k systems width shorter longer numbers some short more is =
    whole_points width numbers longer some
    (next_widths g k systems (width - 1) width shorter longer (omega (arith, some))
    (λ i d l. let own = short i d l in omega (arith, own)) more) is

-- ---- what the code asks for
pub over_charged : (g h : Gauge) (n m : ℕ) (systems : List System) → IsCharged g h → n ≡ m → AreOver g n systems → AreOver h m systems
over_charged g h n m systems c e o = rw (sym e) (over_kept h g n systems (sym (charged_limit g h c)) o)

pub none_holds : (systems : List System) (p : List ℤ) → All (λ s. ¬ HoldsSystem s p) systems → ¬ HoldsAtAny systems p
none_holds systems p a h = a h.0 h.1 h.2 (subst (λ (s : System). HoldsSystem s p) (sym h.3) h.4)

pub within_before : (g h : Gauge) (points : List (List ℤ)) → IsCharged g h → All (All (IsWithin h)) points → All (All (IsWithin g)) points
within_before g h points c a i e l j d m = subst (λ (n : ℕ). unsigned_abs (get_or (get_or points i e) j d) < 2 ^ n) (charged_limit g h c)
    (a i e l j d m)
