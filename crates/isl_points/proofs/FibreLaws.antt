-- Fibres: the points at given numbers, from the tower of what is left.
use Rattle.std.proofs.Common.{◌≡◌, ◌↔◌, inl, inr, refl, arith, ℕ, ◌+◌, ◌-◌, ◌<◌, ◌≤◌, ℤ, List, [], ◌++◌, length, get_or}
use Rattle.std.specs.List.{All}
use Rattle.std.proofs.lemmas.List.Elements.{Contains-get_or}
use Rattle.isl_meter.specs.Gauge.{Gauge}
use Rattle.isl_piece.specs.declared.system.System.{System}
use Rattle.isl_piece.specs.Normal.{IsNormal}
use Rattle.isl_piece.specs.System.{HoldsSystem, IsSystemWithin, free_columns}
use Rattle.isl_elim.proofs.ProjectionLaws.{plain_free}
use Rattle.isl_tower.specs.Bounded.{IsBounded}
use Rattle.isl_tower.specs.Numbers.{system_at}
use Rattle.isl_tower.specs.Tower.{IsTowerOf}
use Rattle.isl_tower.proofs.BoundedLaws.{unbounded}
use Rattle.isl_tower.proofs.NumberLaws.{holds_system_at}
use Rattle.isl_tower.proofs.TowerLaws.{over_kept, system_kept, whole_point}
use Rattle.isl_points.specs.Fibre.{AreLevelsWithin, IsEnded, IsFibreOf}
use Rattle.isl_points.specs.Level.{AreBeginnings}
use Rattle.isl_points.specs.Points.{ArePointsAt}

-- a system of the tower of a bounded one has no point where it lacks an end on one side
pub ended : (g : Gauge) (s : System) (levels : List (List System)) (height : ℕ) → IsTowerOf s 0 levels
    → All (All (IsSystemWithin g)) levels → All (All (λ t. t.definitions ≡ [])) levels → IsBounded s 0
    → 0 < height → height < length levels → All IsEnded (get_or levels height [])
ended g s levels height t w d b n l i e m none point long h =
    let level = get_or levels height [] in
    let p = t.projections height l in
    unbounded g s 0 height level (get_or level i e) p n (Contains-get_or level i e m) (p.columns i e m) (w height [] l i e m)
    (d height [] l i e m) (λ closed. elim closed [ inl ends ↦ none ends | inr nowhere ↦ nowhere point long h ]) b

pub levels_within : (g h : Gauge) (s : System) (levels : List (List System)) → g.bits ≡ h.bits → IsTowerOf s 0 levels
    → All (All (IsSystemWithin g)) levels → All (All (λ t. t.definitions ≡ [])) levels → All (All (λ t. IsNormal t.rows)) levels
    → IsBounded s 0 → AreLevelsWithin h levels
levels_within g h s levels c t w d n b = record {
  some = (let k = t.count in omega (arith, k));
  over = λ height l. over_kept h g height (get_or levels height []) c (record {
    within = w height [] l;
    plain = d height [] l;
    normal = n height [] l;
    columns = λ i e m. let k = (t.projections height l).columns i e m in omega (arith, k);
  });
  ended = λ height above l. ended g s levels height t w d b above l;
}

-- what holds at one time, at another
pub fibre_kept : (g h : Gauge) (s : System) (numbers : List ℤ) (levels : List (List System)) → h.bits ≡ g.bits
    → IsFibreOf h s numbers levels → IsFibreOf g s numbers levels
fibre_kept g h s numbers levels same f = record {
  within = system_kept g h s same f.plain f.within;
  plain = f.plain;
  numbers_in = f.numbers_in;
  tower = f.tower;
  sound = record {
    some = f.sound.some;
    over = λ height l. over_kept g h height (get_or levels height []) same (f.sound.over height l);
    ended = f.sound.ended;
  };
}

-- what begins points and is as long as they are
pub points_found : (g : Gauge) (s : System) (numbers : List ℤ) (levels : List (List System)) (points : List (List ℤ))
    → IsFibreOf g s numbers levels → AreBeginnings (system_at numbers s) (length levels - 1) points → ArePointsAt s numbers points
points_found g s numbers levels points f a = record {
  exact = λ rest. (
    (λ c.
        let h = (a.exact rest).0 c in
        let l = h.0 in
        let long : length rest ≡ free_columns left = omega (arith, l, count) in
        (omega (arith, long, free, n), (at rest).0 ((whole_point left rest long).0 h.1))),
    (λ h.
        let l = h.0 in
        let long : length rest ≡ free_columns left = omega (arith, l, free, n) in
        (a.exact rest).1 (omega (arith, long, count), (whole_point left rest long).1 ((at rest).1 h.1))),
  );
  ordered = a.ordered;
}
  where
    left : System
    left = system_at numbers s

    n : length numbers ≤ free_columns s
    n = f.numbers_in

    count : 0 + length levels ≡ free_columns left + 1
    count = f.tower.count

    free : free_columns left ≡ free_columns s - length numbers
    free = let p = plain_free s f.plain in let e = plain_free (system_at numbers s) refl in omega (arith, p, e)

    at : (rest : List ℤ) → HoldsSystem (system_at numbers s) rest ↔ HoldsSystem s (numbers ++ rest)
    at rest = holds_system_at s.columns numbers s rest f.plain f.within.rows (let p = plain_free s f.plain in omega (arith, p, n))
