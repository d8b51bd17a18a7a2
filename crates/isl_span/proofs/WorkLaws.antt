-- Of difference constraints: what the calls of the chain leave, and within how many units.
use Rattle.std.proofs.Common.{◌≡◌, ◌∙◌, inr, refl, sym, ap, subst, arith, ℕ, zero, suc, ◌+◌, ◌-◌, ◌*◌, ◌<◌, ◌≤◌, ◌^◌}
use Rattle.std.proofs.Common.{ℤ, pos, unsigned_abs, ◌+ℤ◌, ◌-ℤ◌, List, [], ◌∷◌, length, map, get_or}
use Rattle.std.specs.List.{All, remove}
use Rattle.std.proofs.Math.Nat.{pow-le-pow_right, mul-le-mul_left, mul-le-mul_right, mul_left_comm, add-mul, one-mul}
use Rattle.std.proofs.lemmas.List.Edits.{length-remove}
use Rattle.std.proofs.lemmas.List.Elements.{All-append, All-cons, All-head, All-map, All-nil}
use Rattle.isl_math.proofs.ListLaws.{Any-none, Any-one}
use Rattle.isl_math.proofs.Ring.{linear}
use Rattle.isl_meter.specs.Gauge.{Gauge, IsWithin}
use Rattle.isl_piece.specs.declared.definition.Definition.{Definition}
use Rattle.isl_piece.specs.declared.row.Row.{Row}
use Rattle.isl_piece.specs.declared.row.RowKind.TheVariants.{AtLeast}
use Rattle.isl_piece.specs.declared.system.System.{System}
use Rattle.isl_piece.specs.Meet.{over_same_columns}
use Rattle.isl_piece.specs.Row.{IsWellFormed, coef_at}
use Rattle.isl_piece.specs.System.{HoldsSystem, free_columns}
use Rattle.isl_ledger.specs.Difference.{HasDifferenceRows, IsDifferenceRow, IsDifferenceSystem}
use Rattle.isl_ledger.specs.Work.{AreOfSize, HasSize, Size, allowance, row_limit}
use Rattle.isl_ledger.proofs.ComparisonLaws.{coefficient_small}
use Rattle.isl_ledger.proofs.NormalDifferences.{one_more}
use Rattle.isl_ledger.proofs.SizeLaws.{differences_of}
use Rattle.isl_ledger.proofs.WorkLaws.{row_limit_more, sweeps_allowed}
use Rattle.isl_elim.specs.Elimination.{HoldsAtAny, IsProjection}
use Rattle.isl_elim.specs.Sample.{IsNowhere}
use Rattle.isl_elim.proofs.EmptinessLaws.{insert-remove}
use Rattle.isl_difference.proofs.TameLaws.{few_differences, rows_few_live}
use Rattle.isl_span.specs.Chain.{IsPlainChain}
use Rattle.isl_span.specs.Moved.{moved_row}
use Rattle.isl_span.specs.Points.{IsOver}
use Rattle.isl_span.specs.Work.{IsChainWithin, IsEnded, column_units, hull_units, test_units}

-- ---- numbers
sum_bits : (b : ℕ) (x y : ℤ) → unsigned_abs x < 2 ^ b → unsigned_abs y ≤ 1 → unsigned_abs (x +ℤ y) < 2 ^ (b + 1)
sum_bits b x y own one = let e = one_more b in let s = by (2 ^ b) own in omega (arith, e, s)
  where
    by : (p : ℕ) → unsigned_abs x < p → unsigned_abs (x +ℤ y) < p + p
    by p own = omega (arith, linear)

less_bits : (b : ℕ) (x : ℤ) → unsigned_abs x < 2 ^ b → unsigned_abs (x -ℤ pos 1) < 2 ^ (b + 1)
less_bits b x own = let e = one_more b in let s = by (2 ^ b) own in omega (arith, e, s)
  where
    by : (p : ℕ) → unsigned_abs x < p → unsigned_abs (x -ℤ pos 1) < p + p
    by p own = omega (arith, linear)

within_bits : (g : Gauge) (b : ℕ) (z : ℤ) → g.bits ≡ 127 → b ≤ 127 → unsigned_abs z < 2 ^ b → IsWithin g z
within_bits g b z limit room small =
    let m : 2 ^ b ≤ 2 ^ g.bits = pow-le-pow_right {n = 2} (omega arith) (omega (arith, limit, room)) in omega (arith, small, m)

-- ---- rows
moved_constant : (b column : ℕ) (r : Row) → IsDifferenceRow b r → column < length r.coefs
    → unsigned_abs (r.constant +ℤ coef_at r column) < 2 ^ (b + 1)
moved_constant b column r d low =
    sum_bits b r.constant (coef_at r column) d.constant (coefficient_small r.coefs d.first d.second column d.compares low)

pub moved_within : (g : Gauge) (b column : ℕ) (r : Row) → g.bits ≡ 127 → b + 1 ≤ 120 → IsDifferenceRow b r → column < length r.coefs
    → IsWithin g (r.constant +ℤ coef_at r column)
moved_within g b column r limit room d low =
    within_bits g (b + 1) (r.constant +ℤ coef_at r column) limit (omega (arith, room)) (moved_constant b column r d low)

pub moved_difference : (b column : ℕ) (r : Row) → IsDifferenceRow b r → column < length r.coefs
    → IsDifferenceRow (b + 1) (moved_row column r)
moved_difference b column r d low = record {
  kind = d.kind;
  modulus = d.modulus;
  first = d.first;
  second = d.second;
  compares = d.compares;
  constant = moved_constant b column r d low;
}

-- a bound that is at least 1
pub above_within : (g : Gauge) (b : ℕ) (r : Row) → g.bits ≡ 127 → b + 1 ≤ 120 → IsDifferenceRow b r → IsWithin g (r.constant -ℤ pos 1)
above_within g b r limit room d =
    within_bits g (b + 1) (r.constant -ℤ pos 1) limit (omega (arith, room)) (less_bits b r.constant d.constant)

pub above_difference : (b : ℕ) (r : Row) (c : ℤ) → IsDifferenceRow b r → c ≡ r.constant -ℤ pos 1
    → IsDifferenceRow (b + 1) (let a : Row = record { kind = AtLeast; coefs = r.coefs; constant = c; k = pos 1 } in a)
above_difference b r c d is = record {
  kind = inr refl;
  modulus = refl;
  first = d.first;
  second = d.second;
  compares = d.compares;
  constant = subst (λ (z : ℤ). unsigned_abs z < 2 ^ (b + 1)) (sym is) (less_bits b r.constant d.constant);
}

-- ---- systems
pub moved_differences : (c b last : ℕ) (s new : System) → s.columns ≡ last + 1 → All (IsWellFormed s.columns) s.rows
    → HasDifferenceRows c b s
    → new ≡ (let t : System = record { columns = s.columns; definitions = []; rows = map (moved_row last) s.rows } in t)
    → HasDifferenceRows c (b + 1) new
moved_differences c b last s new wide formed d is = subst (HasDifferenceRows c (b + 1)) (sym is) (record {
  narrow = d.narrow;
  undefined = refl;
  rows = All-map (IsDifferenceRow (b + 1)) (moved_row last) s.rows (λ k x low.
      moved_difference b last (get_or s.rows k x) (d.rows k x low)
      (let w = (formed k x low).width in omega (arith, wide, w)));
})

pub both_rows : (c b : ℕ) (s other both : System) → both ≡ over_same_columns s other → HasDifferenceRows c b s → HasDifferenceRows c b other
    → HasDifferenceRows c b both
both_rows c b s other both is d o = subst (HasDifferenceRows c b) (sym is) (record {
  narrow = d.narrow;
  undefined = d.undefined;
  rows = All-append (IsDifferenceRow b) s.rows other.rows d.rows o.rows;
})

pub only_rows : (c n b : ℕ) (r : Row) → n ≤ c → IsDifferenceRow b r
    → HasDifferenceRows c b (let s : System = record { columns = n; definitions = []; rows = r ∷ [] } in s)
only_rows c n b r narrow d = record {
  narrow = narrow;
  undefined = refl;
  rows = All-cons (IsDifferenceRow b) r [] d (All-nil (IsDifferenceRow b));
}

-- ---- what is left without the last column
module _ (g : Gauge) (n bits : ℕ) (s : System) (next : List System) (over : IsOver g (n + 1) s) (plain : IsPlainChain (n + 1) bits s)
    (projection : IsProjection s n next)
    (size : AreOfSize (let z : Size = record { pieces = 1; columns = n; bits = bits + 1 } in z) next) where
  some_left : ¬ IsNowhere n (HoldsAtAny next)
  some_left none = plain.some (λ p long holds.
      let short = length-remove p n (omega (arith, long)) in
      let free = over.free in
      let width : length (remove p n) ≡ n = omega (arith, short, long) in
      none (remove p n) width ((projection.points (remove p n) (omega (arith, width, free))).1 (
        get_or p n (pos 0),
        subst (HoldsSystem s) (sym (insert-remove p n (omega (arith, long)))) holds,
      )))

  one_next : (t : System) × (next ≡ t ∷ []) × IsPlainChain n (bits + 1) t
  one_next = by next projection size some_left
    where
      by : (next : List System) → IsProjection s n next
          → AreOfSize (let z : Size = record { pieces = 1; columns = n; bits = bits + 1 } in z) next → ¬ IsNowhere n (HoldsAtAny next)
          → (t : System) × (next ≡ t ∷ []) × IsPlainChain n (bits + 1) t
      by [] projection size some = absurd (some (λ p long any. Any-none (λ (t : System). HoldsSystem t p) any))
      by (t ∷ []) projection size some =
          let d = All-head (IsDifferenceSystem n (bits + 1)) t [] size.each in
          let free = All-head (λ (o : System). free_columns o ≡ free_columns s - 1) t [] projection.columns in
          let own = over.free in
          let none = ap (λ (ds : List Definition). length ds) d.undefined in (
            t,
            refl,
            record {
              differences = d;
              columns_are = omega (arith, free, own, none);
              some = λ nowhere. some (λ p long any. nowhere p long (Any-one (λ (o : System). HoldsSystem o p) t any));
            },
          )
      by (t ∷ u ∷ l) projection size some = absurd (let few = size.few in omega (arith, few))

-- ---- units
-- a column more
count_next : (n t : ℕ) → (n + 1) * t ≡ n * t + t
count_next n t = let e = add-mul n 1 t in let f = one-mul t in omega (arith, e, f)

column_next : (g h k columns first n w : ℕ) → first ≡ n + 1 → first ≤ columns → h ≤ g + (columns - first) * w → k ≤ h + w
    → k ≤ g + (columns - n) * w
column_next g h k columns first n w is room a b =
    let e : columns - n ≡ columns - first + 1 = omega (arith, is, room) in
    subst (λ (m : ℕ). k ≤ g + m * w) (sym e) (let f = count_next (columns - first) w in omega (arith, a, b, f))

-- a turn more, of so many
turns : (columns first w : ℕ) → 0 < first → first ≤ columns → (columns - first) * w + w ≤ columns * w
turns columns first w some room =
    let f = count_next (columns - first) w in
    let m = mul-le-mul_right {m = columns - first + 1} {n = columns} w (omega (arith, some, room)) in
    omega (arith, f, m)

-- a call for a column among fewer
pub link_wider : (c d r s : ℕ) → c ≤ d → r ≤ s → r * test_units c + (test_units c + r * test_units c)
    ≤ s * test_units d + (test_units d + s * test_units d)
link_wider c d r s l m =
    by (test_units c) (test_units d) (cubes c d l)
  where
    cubes : (c d : ℕ) → c ≤ d → c * (c * c) ≤ d * (d * d)
    cubes c d l =
        let a = mul-le-mul_left c (mul-le-mul_left c l) in
        let b = mul-le-mul_left c (mul-le-mul_right {m = c} {n = d} d l) in
        let e = mul-le-mul_right {m = c} {n = d} (d * d) l in
        omega (arith, a, b, e)

    by : (t u : ℕ) → t ≤ u → r * t + (t + r * t) ≤ s * u + (u + s * u)
    by t u k =
        let a = mul-le-mul_left r k in
        let b = mul-le-mul_right {m = r} {n = s} u m in
        omega (arith, a, b, k)

pub column_wider : (c d : ℕ) → c ≤ d → column_units c ≤ column_units d
column_wider c d l =
    let link = link_wider c d (row_limit c) (row_limit d) l (row_limit_more c d l) in
    let a = mul-le-mul_left c l in
    let b = mul-le-mul_right {m = c} {n = d} d l in
    by (row_limit c * test_units c + (test_units c + row_limit c * test_units c)) (c * c)
    (row_limit d * test_units d + (test_units d + row_limit d * test_units d)) (d * d) link (omega (arith, a, b))
  where
    by : (u v x y : ℕ) → u ≤ x → v ≤ y → u + v ≤ x + y
    by u v x y l m = omega arith

-- the work of a turn, among that of all
pub turn_room : (columns first next : ℕ) → 0 < first → first ≤ columns → next ≤ column_units first
    → (columns - first) * column_units columns + next ≤ hull_units columns
turn_room columns first next some room few =
    by (column_units columns) (column_units first) (column_wider first columns room) few
    (turns columns first (column_units columns) some room)
  where
    by : (w v : ℕ) → v ≤ w → next ≤ v → (columns - first) * w + w ≤ columns * w → (columns - first) * w + next ≤ columns * w
    by w v l m all = omega (arith, l, m, all)

-- all that the hull may cost, within what is allowed for it
pub hull_allowed : (c : ℕ) → hull_units c ≤ 8 * ((c + 1) * (row_limit c * allowance 1 c))
hull_allowed c =
    let sweeps = sweeps_allowed c c (c * c) (omega arith) (omega arith) in
    by (row_limit c) (test_units c) (c * c) (allowance 1 c) (omega arith) (omega (arith, sweeps))
    (squares c (allowance 1 c) (omega (arith, sweeps)))
  where
    squares : (c e : ℕ) → c * (c * c) + 1 ≤ e → c * c ≤ e
    squares zero e l = omega arith
    squares (suc c) e l =
        let m = mul-le-mul_right {m = 1} {n = suc c} (suc c * suc c) (omega arith) in
        let f = one-mul (suc c * suc c) in
        omega (arith, m, f, l)

    by : (r t q e : ℕ) → 1 ≤ r → t ≤ e → q ≤ e → c * (r * t + (t + r * t) + q) ≤ 8 * ((c + 1) * (r * e))
    by r t q e some few square =
        let a = mul-le-mul_left r few in
        let b = mul-le-mul_right {m = 1} {n = r} e some in
        let f = one-mul e in
        let all = mul-le-mul_left c (let h : r * t + (t + r * t) + q ≤ 4 * (r * e) = omega (arith, a, b, f, few, square) in h) in
        let same = mul_left_comm c 4 (r * e) in
        let more = count_next c (r * e) in
        omega (arith, all, same, more)

-- ---- the rows of one system, and what is asked of a column
pub rows_work : (n b : ℕ) (g : Gauge) (s : System) → IsOver g n s → IsPlainChain n b s
    → length s.rows * test_units n ≤ row_limit n * test_units n
rows_work n b g s over plain =
    let free = over.free in
    let few = rows_few_live g n b s over.within (few_differences n b s plain.differences) (λ none. plain.some (λ p long holds.
    none p (omega (arith, long, free)) holds)) in
    mul-le-mul_right {m = length s.rows} {n = row_limit n} (test_units n) (omega (arith, few))

pub link_sum_none : (u t r : ℕ) → u ≤ r → 0 + u ≤ r + (t + r)
link_sum_none u t r l = omega arith

pub link_sum_less : (u t r : ℕ) → u ≤ r → u + t ≤ r + (t + r)
link_sum_less u t r l = omega arith

pub link_sum : (u t r : ℕ) → u ≤ r → u + t + u ≤ r + (t + r)
link_sum u t r l = omega arith

-- ---- columns one after another
pub chain_first : (g : Gauge) (columns bits : ℕ) (systems : List System) (s : System) → systems ≡ s ∷ [] → IsPlainChain columns bits s
    → IsChainWithin g g columns bits columns systems
chain_first g columns bits systems s is plain = record {
  units = omega arith;
  now = s;
  is = is;
  plain = subst (λ (b : ℕ). IsPlainChain columns b s) (omega arith) plain;
}

pub chain_next : (g h k o : Gauge) (columns bits first n : ℕ) (left next : List System) (s : System) → first ≡ n + 1 → first ≤ columns
    → IsChainWithin g h columns bits first left → s ≡ get_or left 0 s → IsOver o first s → k.units ≤ h.units + column_units first
    → IsProjection s n next
    → AreOfSize (let z : Size = record { pieces = 1; columns = n; bits = bits + (columns - first) + 1 } in z) next
    → IsChainWithin g k columns bits n next
chain_next g h k o columns bits first n left next s is room w at over used projection size =
    let same : s ≡ w.now = at ∙ ap (λ (l : List System). get_or l 0 s) w.is in
    let plain : IsPlainChain (n + 1) (bits + (columns - first)) s = subst (IsPlainChain (n + 1) (bits + (columns - first))) (sym same)
    (subst (λ (m : ℕ). IsPlainChain m (bits + (columns - first)) w.now) is w.plain) in
    let one = one_next o n (bits + (columns - first)) s next (subst (λ (m : ℕ). IsOver o m s) is over) plain projection size in
    let more : bits + (columns - first) + 1 ≡ bits + (columns - n) = omega (arith, is, room) in
    let wider = column_wider first columns room in
    let before = w.units in
    record {
      units = column_next g.units h.units k.units columns first n (column_units columns) is room before (omega (arith, used, wider));
      now = one.0;
      is = one.1;
      plain = subst (λ (b : ℕ). IsPlainChain n b one.0) more one.2;
    }

pub chain_ended : (g h : Gauge) (columns bits first : ℕ) (left : List System) → first ≡ 0 → IsChainWithin g h columns bits first left
    → IsEnded (bits + columns) first left
chain_ended g h columns bits first left none w = record {
  none = none;
  size = subst (AreOfSize size) (sym w.is) (record {
    few = omega arith;
    each = All-cons (IsDifferenceSystem 0 (bits + columns)) w.now [] (subst (λ (b : ℕ). IsDifferenceSystem 0 b w.now) (omega (arith, none))
        (subst (λ (m : ℕ). IsDifferenceSystem m (bits + (columns - first)) w.now) none w.plain.differences))
        (All-nil (IsDifferenceSystem 0 (bits + columns)));
  });
}
  where
    size : Size
    size = record { pieces = 1; columns = 0; bits = bits + columns }

pub units_ended : (g h columns first w : ℕ) → first ≡ 0 → h ≤ g + (columns - first) * w → h ≤ g + columns * w
units_ended g h columns first w none used =
    let e : columns - first ≡ columns = omega (arith, none) in subst (λ (m : ℕ). h ≤ g + m * w) e used

-- ---- points
pub one_size : (size : Size) (systems : List System) (i : ℕ) (s : System) → i < length systems → s ≡ get_or systems i s
    → AreOfSize size systems → HasSize size s
one_size size systems i s low at all = record {
  some = let f = all.few in omega (arith, f, low);
  rows = differences_of size.columns size.bits s (subst (IsDifferenceSystem size.columns size.bits) (sym at) (all.each i s low));
}

pub none_asked : (n c : ℕ) → c ≡ 0 → n * test_units c ≤ 0
none_asked n c e = subst (λ (k : ℕ). n * (k * (k * k)) ≤ 0) (sym e) (omega arith)

pub hull_wider : (c d : ℕ) → c ≤ d → hull_units c ≤ hull_units d
hull_wider c d l = by (column_units c) (column_units d) (column_wider c d l)
  where
    by : (u v : ℕ) → u ≤ v → c * u ≤ d * v
    by u v m =
        let a = mul-le-mul_left c m in
        let b = mul-le-mul_right {m = c} {n = d} v l in
        omega (arith, a, b)
