-- Systems that hold where one does, and another at the first columns.
use Rattle.std.proofs.Common.{◌≡◌, ◌↔◌, sym, ap, ap₂, ◌∙◌, arith, subst, ℕ, ◌+◌, ◌*◌, ◌<◌, ◌≤◌, ℤ, List, [], ◌∷◌, ◌++◌, Any, get_or, length}
use Rattle.std.proofs.Common.{take, drop, take-append-drop}
use Rattle.std.proofs.lemmas.List.{append-nil, length-drop, length-take-le, take_all}
use Rattle.std.proofs.lemmas.List.Elements.{All-push}
use Rattle.std.proofs.lemmas.Nat.{mul-le}
use Rattle.isl_math.proofs.ListLaws.{All-last, Any-one, Any-first}
use Rattle.isl_meter.specs.Gauge.{Gauge}
use Rattle.isl_piece.specs.declared.system.System.{System}
use Rattle.isl_piece.specs.Meet.{over_same_columns}
use Rattle.isl_piece.specs.System.{HoldsSystem, IsSystemWithin, free_columns}
use Rattle.isl_difference.proofs.SplitLaws.{system_kept}
use Rattle.isl_blocks.specs.Blocks.{IsSpread}
use Rattle.isl_assumed.specs.Left.{ArePairs, IsPair}
use Rattle.isl_assumed.proofs.LeftLaws.{any_step, taken_more, IsFlat}

-- ---- one pair
module _ (g : Gauge) (names more : ℕ) (s other wide both : System) (free : free_columns s ≡ names + more)
    (spread : IsSpread g (names ∷ more ∷ []) (0 ∷ []) other wide)
    (points : (point : List ℤ) → length point ≡ free_columns s → HoldsSystem both point ↔ (HoldsSystem s point × HoldsSystem wide point))
    (within : IsSystemWithin g both) (same : free_columns both ≡ free_columns s)
    (plain : s.definitions ≡ wide.definitions → both ≡ over_same_columns s wide) where
  at_first : (point : List ℤ) → length point ≡ names + more → HoldsSystem wide point ↔ HoldsSystem other (take names point)
  at_first point long =
      let front = take names point in
      let behind = drop names point in
      let front_long = length-take-le names point (omega (arith, long)) in
      let behind_long : length behind ≡ more = let n = length-drop names point in omega (arith, n, long) in
      let h = spread.points (front ∷ behind ∷ []) (ap₂ (λ (a b : ℕ). a ∷ b ∷ []) front_long behind_long) in
      let whole : front ++ (behind ++ []) ≡ point = ap (λ xs. front ++ xs) (append-nil behind) ∙ take-append-drop names point in (
        (λ k. subst (HoldsSystem other) (append-nil front) (h.0 (subst (HoldsSystem wide) (sym whole) k))),
        (λ k. subst (HoldsSystem wide) whole (h.1 (subst (HoldsSystem other) (sym (append-nil front)) k))),
      )

  pub pair_made : IsPair g names more s other both
  pair_made = record {
    points = λ point long.
        let h = points point (long ∙ sym free) in
        let f = at_first point long in (
          (λ k. let m = h.0 k in (m.0, f.0 m.1)),
          (λ k. h.1 (k.0, f.1 k.1)),
        );
    within = within;
    free = same ∙ free;
    definitions = λ one two.
        ap (λ (t : System). t.definitions) (plain (one ∙ sym (spread.definitions two))) ∙ one;
  }

-- the same at an earlier time
pub pair_before : (g h : Gauge) (names more : ℕ) (s other both : System) → g.bits ≡ h.bits → IsPair h names more s other both
    → IsPair g names more s other both
pair_before g h names more s other both bits p = record {
  points = p.points;
  within = system_kept g h both (sym bits) p.within;
  free = p.free;
  definitions = p.definitions;
}

-- ---- one pair after another
pub pairs_more : (g h : Gauge) (names more : ℕ) (s : System) (others : List System) (i : ℕ) (other both : System)
    (pairs pushed : List System)
    → i < length others → other ≡ get_or others i other → g.bits ≡ h.bits → pushed ≡ pairs ++ both ∷ []
    → ArePairs g names more s (take i others) pairs → IsPair h names more s other both
    → ArePairs g names more s (take (i + 1) others) pushed
pairs_more g h names more s others i other both pairs pushed low at bits is so_far one =
    let own = pair_before g h names more s other both bits one in
    rw (is, taken_more others i other low at) (record {
      points = λ point long.
          let P : System → Type 0 = λ t. HoldsSystem t point in
          let Q : System → Type 0 = λ t. HoldsSystem s point × HoldsSystem t (take names point) in
          let a = so_far.points point long in
          let b = own.points point long in
          let whole =
          any_step P Q pairs (both ∷ []) (take i others) other (
            (λ k. let m = a.0 k in spread_over (HoldsSystem s point) (λ t. HoldsSystem t (take names point)) (take i others) m),
            (λ k. a.1 (gathered (HoldsSystem s point) (λ t. HoldsSystem t (take names point)) (take i others) k)),
          ) (
            (λ k. b.0 (Any-one P both k)),
            (λ k. Any-first P both [] (b.1 k)),
          ) in (
            (λ k. gathered (HoldsSystem s point) (λ t. HoldsSystem t (take names point)) (take i others ++ other ∷ []) (whole.0 k)),
            (λ k. whole.1 (spread_over (HoldsSystem s point) (λ t. HoldsSystem t (take names point)) (take i others ++ other ∷ []) k)),
          );
      within = All-push (IsSystemWithin g) pairs both so_far.within own.within;
      free = All-push (λ t. free_columns t ≡ names + more) pairs both so_far.free own.free;
      definitions = λ flat all.
          let parts = All-last IsFlat (take i others) other all in
          All-push IsFlat pairs both (so_far.definitions flat parts.0) (own.definitions flat parts.1);
    })
  where
    spread_over : (A : Type 0) (P : System → Type 0) (xs : List System) → A × Any P xs → Any (λ t. A × P t) xs
    spread_over A P xs k = let a = k.1 in (a.0, a.1, a.2, a.3, (k.0, a.4))

    gathered : (A : Type 0) (P : System → Type 0) (xs : List System) → Any (λ t. A × P t) xs → A × Any P xs
    gathered A P xs a = (a.4.0, (a.0, a.1, a.2, a.3, a.4.1))

pub pairs_all : (g : Gauge) (names more : ℕ) (s : System) (others : List System) (i : ℕ) (pairs : List System) → length others ≤ i
    → ArePairs g names more s (take i others) pairs → ArePairs g names more s others pairs
pairs_all g names more s others i pairs end so_far = subst (λ l. ArePairs g names more s l pairs) (take_all i others end) so_far

-- ---- units
-- one more of so many, each for a unit
pub count_more : {A : Type 0} (g h k : Gauge) (xs : List A) (i : ℕ) → i < length xs → h.units ≡ g.units + length (take i xs)
    → k ≡ record h { units = h.units + 1 } → k.units ≡ g.units + length (take (i + 1) xs)
count_more g h k xs i low so_far one =
    let first = length-take-le i xs (omega (arith, low)) in
    let next = length-take-le (i + 1) xs (omega (arith, low)) in
    let used = ap (λ (m : Gauge). m.units) one in
    omega (arith, first, next, so_far, used)

-- so many more
pub counts_more : {A : Type 0} (old now new n : ℕ) (xs : List A) (i : ℕ) → i < length xs → now ≡ old + length (take i xs) * n
    → new ≡ now + n → new ≡ old + length (take (i + 1) xs) * n
counts_more old now new n xs i low so_far more =
    let first = length-take-le i xs (omega (arith, low)) in
    let next = length-take-le (i + 1) xs (omega (arith, low)) in
    rw next (by i (rw first at so_far))
  where
    by : (k : ℕ) → now ≡ old + k * n → new ≡ old + (k + 1) * n
    by k is = omega arith

-- more pairs of more
pub pairs_least : (old start now new m n k l : ℕ) → old ≤ start → now ≡ start + k * l → now ≤ new → m ≤ k → n ≤ l → old + m * n ≤ new
pairs_least old start now new m n k l before is behind first second =
    let least = mul-le m n k l first second in
    omega (arith, before, is, behind, least)
