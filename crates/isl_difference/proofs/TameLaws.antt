-- Difference constraints without others: what may be left, within how many units, and how a function ends that is answered within them.
use Rattle.std.proofs.Common.{◌≡◌, inl, inr, ap, ◌∙◌, arith, ℕ, suc, ◌+◌, ◌*◌, ◌<◌, ◌≤◌, ◌^◌, ℤ}
use Rattle.std.proofs.Common.{List, [], ◌∷◌, ◌++◌, length, take, Result, Ok, Err, IfSome}
use Rattle.std.specs.Prelude.{Option, Some, None, option_map, MatchResult}
use Rattle.std.specs.List.{All}
use Rattle.std.proofs.Math.Nat.{pow-suc, pow-zero, pow-le-pow_right, one-le-pow, mul-le-mul_left, mul-le-mul_right, mul_left_comm, mul_assoc}
use Rattle.std.proofs.Math.Nat.{add-mul, one-mul}
use Rattle.std.proofs.lemmas.Bool.{cases_lt}
use Rattle.std.proofs.lemmas.List.{length-take-le, take_all}
use Rattle.std.proofs.lemmas.List.Elements.{All-nil, All-cons, All-append, All-weaker}
use Rattle.isl_meter.specs.declared.Cut.{Cut}
use Rattle.isl_meter.specs.declared.Cut.TheVariants.{Budget, NoMemory}
use Rattle.isl_meter.specs.Gauge.{Gauge, IsCharged, spent_out}
use Rattle.isl_meter.proofs.CutLemmas.{IsAnsweredWithin-ok}
use Rattle.isl_piece.specs.declared.row.Row.{Row}
use Rattle.isl_piece.specs.declared.system.System.{System}
use Rattle.isl_piece.specs.Definition.{with_defined}
use Rattle.isl_piece.specs.Meet.{over_same_columns}
use Rattle.isl_piece.specs.Normal.{IsNormal, normal_rows, normal_system}
use Rattle.isl_piece.specs.System.{HoldsSystem, IsSystemWithin, free_columns}
use Rattle.isl_ledger.specs.Answered.{IsTame}
use Rattle.isl_ledger.specs.Difference.{HasDifferenceRows, IsDifferenceRow, IsDifferenceSystem}
use Rattle.isl_ledger.specs.Work.{AreOfSize, row_limit, pair_limit, allowance}
use Rattle.isl_ledger.proofs.AnsweredLaws.{unit_refused_later, cut_later, memory_later}
use Rattle.isl_ledger.proofs.NormalDifferences.{difference_wider, normal_differences}
use Rattle.isl_ledger.proofs.NormalCounts.{rows_few}
use Rattle.isl_ledger.proofs.SizeLaws.{differences_of, of_size_append}
use Rattle.isl_ledger.proofs.WorkLaws.{row_limit_more, sweeps_allowed}
use Rattle.isl_elim.specs.Sample.{IsNowhere}
use Rattle.isl_difference.specs.Split.{and_rows}
use Rattle.isl_difference.specs.Tame.{HasFewDifferences, HasNormalDifferences, test_work, part_limit, left_size, left_work}

-- ---- systems
pub rows_wider : (few more : ℕ) (rows : List Row) → few ≤ more → All (IsDifferenceRow few) rows → All (IsDifferenceRow more) rows
rows_wider few more rows room h =
    All-weaker (IsDifferenceRow few) (IsDifferenceRow more) (λ r d. difference_wider few more r room d) rows h

pub differences_wider : (columns few more : ℕ) (s : System) → few ≤ more → HasDifferenceRows columns few s → HasDifferenceRows columns more s
differences_wider columns few more s room d =
    record { narrow = d.narrow; undefined = d.undefined; rows = rows_wider few more s.rows room d.rows }

-- and of its normal rows
pub normal_rows_of : (columns bits : ℕ) (s : System) → HasDifferenceRows columns bits s → HasNormalDifferences columns bits s
normal_rows_of columns bits s d =
    record { narrow = d.narrow; undefined = d.undefined; rows = normal_differences bits s.rows (λ k x l. inl (d.rows k x l)) }

-- normal ones, as they are not too many where they hold together
pub few_differences : (columns bits : ℕ) (s : System) → IsDifferenceSystem columns bits s → HasFewDifferences columns bits s
few_differences columns bits s d = record { narrow = d.narrow; undefined = d.undefined; rows = d.rows; few = inl d.normal }

-- more rows
pub and_rows_differences : (columns bits : ℕ) (s : System) (rows : List Row) → HasDifferenceRows columns bits s
    → All (IsDifferenceRow bits) rows → HasDifferenceRows columns bits (and_rows s rows)
and_rows_differences columns bits s rows d h =
    record { narrow = d.narrow; undefined = d.undefined; rows = All-append (IsDifferenceRow bits) s.rows rows d.rows h }

-- the normal form
pub normal_difference_system : (columns bits : ℕ) (s kept : System) → Some kept ≡ normal_system s → IsNormal kept.rows
    → HasNormalDifferences columns bits s → IsDifferenceSystem columns bits kept
normal_difference_system columns bits s kept e n d = by (normal_rows s.rows) kept e n d.rows
  where
    by : (found : Option (List Row)) (kept : System)
        → Some kept ≡ option_map (λ rows. record { columns = s.columns; definitions = s.definitions; rows = rows }) found
        → IsNormal kept.rows → IfSome found (All (IsDifferenceRow bits)) → IsDifferenceSystem columns bits kept
    by None kept e n h = absurd (cc)
    by (Some rows) kept e n h =
        let f : kept ≡ record { columns = s.columns; definitions = s.definitions; rows = rows } = cc in
        let g : kept.rows ≡ rows = ap (λ (t : System). t.rows) f in
        rw f (record { narrow = d.narrow; undefined = d.undefined; normal = rw g at n; rows = h })

-- one system
pub one_of_size : (columns bits : ℕ) (s : System) → IsDifferenceSystem columns bits s
    → AreOfSize (record { pieces = 1; columns = columns; bits = bits }) (s ∷ [])
one_of_size columns bits s d = record {
  few = omega arith;
  each = All-cons (IsDifferenceSystem columns bits) s [] d (All-nil (IsDifferenceSystem columns bits));
}

-- as many systems, or fewer
pub more_pieces : (c b few more : ℕ) (systems : List System) → few ≤ more
    → AreOfSize (record { pieces = few; columns = c; bits = b }) systems
    → AreOfSize (record { pieces = more; columns = c; bits = b }) systems
more_pieces c b few more systems l h = record { few = let f = h.few in omega arith; each = h.each }

-- ---- rows that hold together
rows_few_at : (g : Gauge) (c b : ℕ) (s : System) (point : List ℤ) → IsSystemWithin g s → IsDifferenceSystem c b s → HoldsSystem s point
    → length s.rows < row_limit c
rows_few_at g c b s point w d h = by (row_limit s.columns) (row_limit c)
    (rows_few b s.columns s.rows (with_defined s.definitions point) d.normal (λ k x l. (w.rows k x l).width) d.rows h)
    (row_limit_more s.columns c d.narrow)
  where
    by : (r q : ℕ) → length s.rows < r → r ≤ q → length s.rows < q
    by r q l m = omega arith

-- the rows of a system that has a point
pub rows_few_live : (g : Gauge) (c b : ℕ) (s : System) → IsSystemWithin g s → HasFewDifferences c b s
    → ¬ IsNowhere (free_columns s) (HoldsSystem s) → length s.rows < row_limit c
rows_few_live g c b s w d live = elim d.few [
  | inl normal ↦ normal_few (record { narrow = d.narrow; undefined = d.undefined; normal = normal; rows = d.rows })
  | inr few ↦ few
]
  where
    not_both : (m n : ℕ) → m < n → ¬ (n ≤ m)
    not_both m n l k = omega arith

    normal_few : IsDifferenceSystem c b s → length s.rows < row_limit c
    normal_few n = elim (cases_lt (length s.rows) (row_limit c)) [
      | inl few ↦ few
      | inr many ↦ absurd (live (λ point l h. not_both (length s.rows) (row_limit c) (rows_few_at g c b s point w n h) many))
    ]

-- ---- how many
pub part_limit_one : (c : ℕ) → part_limit c 1 ≡ 2 * row_limit c
part_limit_one c = by (2 * row_limit c)
  where
    by : (r : ℕ) → r ^ 1 ≡ r
    by r = let e = pow-suc r 0 in let f = pow-zero r in let g = ap (λ w. w * r) f in omega arith

part_limit_next : (c n : ℕ) → part_limit c (n + 1) ≡ part_limit c n * (2 * row_limit c)
part_limit_next c n = by (2 * row_limit c)
  where
    by : (r : ℕ) → r ^ (n + 1) ≡ r ^ n * r
    by r = let e : n + 1 ≡ suc n = omega arith in ap (λ m. r ^ m) e ∙ pow-suc r n

pub part_limit_more : (c few more : ℕ) → few ≤ more → part_limit c few ≤ part_limit c more
part_limit_more c few more l = pow-le-pow_right {n = 2 * row_limit c} (omega arith) l

-- the rows of another system, fewer than the limit: a test on either side of each, and one more
pub rows_work : (c rows : ℕ) → rows < row_limit c → test_work c + rows * (2 * test_work c) ≤ part_limit c 1 * test_work c
rows_work c rows few = rw (part_limit_one c) (by (row_limit c) rows (test_work c) few)
  where
    by : (r n t : ℕ) → n < r → t + n * (2 * t) ≤ 2 * r * t
    by r n t l =
        let all = mul-le-mul_right {m = suc n} {n = r} (2 * t) l in
        let same = mul_left_comm r 2 t in
        let twice = mul_assoc 2 r t in
        omega arith

-- the same without it
pub rows_alone : (c rows : ℕ) → rows < row_limit c → rows * (2 * test_work c) ≤ part_limit c 1 * test_work c
rows_alone c rows few = by (test_work c) (rows * (2 * test_work c)) (part_limit c 1 * test_work c) (rows_work c rows few)
  where
    by : (t u v : ℕ) → t + u ≤ v → u ≤ v
    by t u v l = omega arith

pub rows_parts : (c rows : ℕ) → rows < row_limit c → rows * 2 ≤ part_limit c 1
rows_parts c rows few = rw (part_limit_one c) (by (row_limit c) few)
  where
    by : (r : ℕ) → rows < r → rows * 2 ≤ 2 * r
    by r l = omega arith

-- so many systems, each without one more
pub left_work_next : (c n systems : ℕ) → systems ≤ part_limit c n
    → left_work c n + systems * (part_limit c 1 * test_work c) ≤ left_work c (n + 1)
left_work_next c n systems few =
    rw (part_limit_next c n, part_limit_one c) (by (part_limit c n) (2 * row_limit c) (test_work c) few (omega arith))
  where
    by : (p r t : ℕ) → systems ≤ p → 2 ≤ r → 2 * (p * t) + systems * (r * t) ≤ 2 * (p * r * t)
    by p r t l two =
        let all = mul-le-mul_right {m = systems} {n = p} (r * t) l in
        let more = mul-le-mul_left p (mul-le-mul_right {m = 2} {n = r} t two) in
        let same = mul_left_comm p 2 t in
        let whole = mul_assoc p r t in
        omega arith

pub left_size_next : (c n systems : ℕ) → systems ≤ part_limit c n → systems * part_limit c 1 ≤ part_limit c (n + 1)
left_size_next c n systems few = rw (part_limit_next c n, part_limit_one c) (mul-le-mul_right (2 * row_limit c) few)

pub left_work_more : (c few more : ℕ) → few ≤ more → left_work c few ≤ left_work c more
left_work_more c few more l =
    mul-le-mul_left 2 (mul-le-mul_right {m = part_limit c few} {n = part_limit c more} (test_work c) (part_limit_more c few more l))

pub left_size_more : (c b few more : ℕ) (systems : List System) → few ≤ more → AreOfSize (left_size c b few) systems
    → AreOfSize (left_size c b more) systems
left_size_more c b few more systems l h =
    record { few = let m = part_limit_more c few more l in let f = h.few in omega (arith, m, f); each = h.each }

-- of so many systems without n others, within twice the allowance, so that half of it is left for more
pub left_work_allowed : (p c n : ℕ) → p * left_work c n ≤ 2 * allowance (p * part_limit c n) c
left_work_allowed p c n =
    let sweeps = sweeps_allowed c c (c * c) (omega arith) (omega arith) in
    by (part_limit c n) (c * (c * c)) (c * pair_limit c) (omega arith)
  where
    by : (q t e : ℕ) → t ≤ e → p * (2 * (q * (1 + t))) ≤ 2 * (p * q * (1 + e))
    by q t e l =
        let more = mul-le-mul_left {m = 1 + t} {n = 1 + e} (p * q) (omega arith) in
        let same = mul_left_comm p 2 (q * (1 + t)) in
        let whole = mul_assoc p q (1 + t) in
        omega arith

-- a test alone
pub test_within : (c : ℕ) → test_work c ≤ part_limit c 1 * test_work c
test_within c = let r = rows_work c 0 (omega arith) in omega (arith, r)

-- another system among so many
pub left_turn : (c few more systems : ℕ) → few < more → systems ≤ part_limit c few
    → left_work c few + systems * (part_limit c 1 * test_work c) ≤ left_work c more
left_turn c few more systems l m =
    by (left_work c few) (systems * (part_limit c 1 * test_work c)) (left_work c (few + 1)) (left_work c more)
    (left_work_next c few systems m) (left_work_more c (few + 1) more (omega arith))
  where
    by : (u v w x : ℕ) → u + v ≤ w → w ≤ x → u + v ≤ x
    by u v w x l m = omega arith

-- nothing, or one system
pub none_left : (c b : ℕ) (parts : List System) → parts ≡ [] → AreOfSize (left_size c b 1) parts
none_left c b parts e = rw e (record { few = omega arith; each = All-nil (IsDifferenceSystem c (b + 1)) })

pub one_left : (c b : ℕ) (s : System) (left : List System) → left ≡ s ∷ [] → IsDifferenceSystem c (b + 1) s
    → AreOfSize (left_size c b 1) left
one_left c b s left e d = rw e (record {
  few = one-le-pow 1 (2 * row_limit c) (omega arith);
  each = All-cons (IsDifferenceSystem c (b + 1)) s [] d (All-nil (IsDifferenceSystem c (b + 1)));
})

-- the rows of both
pub both_differences : (c b : ℕ) (s other both : System) → both ≡ over_same_columns s other → IsDifferenceSystem c (b + 1) s
    → HasFewDifferences c b other → HasDifferenceRows c (b + 1) both
both_differences c b s other both e d o =
    rw e (and_rows_differences c (b + 1) s other.rows (differences_of c (b + 1) s d) (rows_wider b (b + 1) other.rows (omega arith) o.rows))

-- ---- one row, or one system, after another
pub taken_few : {X : Type 0} (i : ℕ) (xs : List X) → length (take i xs) ≤ length xs
taken_few i xs = elim (cases_lt i (length xs)) [
  | inl l ↦ (let s = length-take-le i xs (omega arith) in omega arith)
  | inr l ↦ rw (take_all i xs l) (omega arith)
]

count_next : (n t : ℕ) → (n + 1) * t ≡ n * t + t
count_next n t = let e = add-mul n 1 t in let f = one-mul t in omega arith

-- behind those before one of them
pub taken_turn : {X : Type 0} (i : ℕ) (xs : List X) (t : ℕ) → i < length xs → length (take i xs) * t + t ≤ length xs * t
taken_turn i xs t l = by (length (take i xs)) (length xs) (let s = length-take-le i xs (omega arith) in omega arith)
  where
    by : (m n : ℕ) → m < n → m * t + t ≤ n * t
    by m n l = let e = count_next m t in let k = mul-le-mul_right {m = m + 1} {n = n} t (omega arith) in omega arith

-- a call more
pub units_next : (g h k n t : ℕ) → h ≤ g + n * t → k ≤ h + t → k ≤ g + (n + 1) * t
units_next g h k n t a b = let e = count_next n t in omega arith

-- a turn more
pub taken_next : {X : Type 0} (i : ℕ) (xs : List X) (t : ℕ) (g h k : Gauge) → i < length xs → h.units ≤ g.units + length (take i xs) * t
    → k.units ≤ h.units + t → k.units ≤ g.units + length (take (i + 1) xs) * t
taken_next i xs t g h k l a b =
    let few = length-take-le i xs (omega arith) in
    let more = length-take-le (i + 1) xs (omega arith) in
    let long : length (take (i + 1) xs) ≡ length (take i xs) + 1 = omega (arith, few, more) in
    rw long (units_next g.units h.units k.units (length (take i xs)) t a b)

-- of so many others: one test for each row's either side
pub record IsSplitWithin (columns bits count : ℕ) (g h : Gauge) (rest : System) (parts : List System) : Type 0 where
  pub units : h.units ≤ g.units + count * (2 * test_work columns)
  pub rows : HasDifferenceRows columns bits rest
  pub size : AreOfSize (record { pieces = count * 2; columns = columns; bits = bits }) parts

pub split_longer : (c b few more : ℕ) (g h : Gauge) (rest : System) (parts : List System) → few ≤ more → IsSplitWithin c b few g h rest parts
    → IsSplitWithin c b more g h rest parts
split_longer c b few more g h rest parts l p = record {
  units = let u = p.units in let m = mul-le-mul_right {m = few} {n = more} (2 * test_work c) l in by (2 * test_work c) u m;
  rows = p.rows;
  size = record { few = let f = p.size.few in omega arith; each = p.size.each };
}
  where
    by : (t : ℕ) → h.units ≤ g.units + few * t → few * t ≤ more * t → h.units ≤ g.units + more * t
    by t u m = omega arith

-- so many systems, each without another one
pub record AreBesideWithin (columns bits count : ℕ) (g h : Gauge) (left : List System) : Type 0 where
  pub units : h.units ≤ g.units + count * (part_limit columns 1 * test_work columns)
  pub size : AreOfSize (record { pieces = count * part_limit columns 1; columns = columns; bits = bits + 1 }) left

-- the parts of one system more
pub beside_next : (c b n : ℕ) (g h k : Gauge) (left parts : List System) → AreBesideWithin c b n g h left
    → k.units ≤ h.units + part_limit c 1 * test_work c → AreOfSize (left_size c b 1) parts
    → AreBesideWithin c b (n + 1) g k (left ++ parts)
beside_next c b n g h k left parts p used made = record {
  units = units_next g.units h.units k.units n (part_limit c 1 * test_work c) p.units used;
  size = rw (count_next n (part_limit c 1))
      (of_size_append (n * part_limit c 1) (part_limit c 1) c (b + 1) left parts p.size made);
}

pub beside_longer : (c b few more : ℕ) (g h : Gauge) (left : List System) → few ≤ more → AreBesideWithin c b few g h left
    → AreBesideWithin c b more g h left
beside_longer c b few more g h left l p = record {
  units = by (part_limit c 1 * test_work c) p.units;
  size = more_pieces c (b + 1) (few * part_limit c 1) (more * part_limit c 1) left (mul-le-mul_right (part_limit c 1) l) p.size;
}
  where
    by : (t : ℕ) → h.units ≤ g.units + few * t → h.units ≤ g.units + more * t
    by t u = let m = mul-le-mul_right {m = few} {n = more} t l in omega arith

-- one system without so many others
pub record AreLeftWithin (columns bits others : ℕ) (g h : Gauge) (left : List System) : Type 0 where
  pub units : h.units ≤ g.units + left_work columns others
  pub size : AreOfSize (left_size columns bits others) left

pub left_within_first : (c b : ℕ) (g : Gauge) (s : System) → IsDifferenceSystem c (b + 1) s → AreLeftWithin c b 0 g g (s ∷ [])
left_within_first c b g s d = record {
  units = omega arith;
  size = record {
    few = one-le-pow 0 (2 * row_limit c) (omega arith);
    each = All-cons (IsDifferenceSystem c (b + 1)) s [] d (All-nil (IsDifferenceSystem c (b + 1)));
  };
}

pub left_within_next : (c b n : ℕ) (g h k : Gauge) (left next : List System) → AreLeftWithin c b n g h left
    → AreBesideWithin c b (length left) h k next → AreLeftWithin c b (n + 1) g k next
left_within_next c b n g h k left next p q = record {
  units = by (left_work c n) (length left * (part_limit c 1 * test_work c)) (left_work c (n + 1)) p.units q.units
      (left_work_next c n (length left) p.size.few);
  size = more_pieces c (b + 1) (length left * part_limit c 1) (part_limit c (n + 1)) next
      (left_size_next c n (length left) p.size.few) q.size;
}
  where
    by : (u v w : ℕ) → h.units ≤ g.units + u → k.units ≤ h.units + v → u + v ≤ w → k.units ≤ g.units + w
    by u v w a d l = omega arith

pub left_within_longer : (c b few more : ℕ) (g h : Gauge) (left : List System) → few ≤ more → AreLeftWithin c b few g h left
    → AreLeftWithin c b more g h left
left_within_longer c b few more g h left l p = record {
  units = by (left_work c few) (left_work c more) p.units (left_work_more c few more l);
  size = left_size_more c b few more left l p.size;
}
  where
    by : (u v : ℕ) → h.units ≤ g.units + u → u ≤ v → h.units ≤ g.units + v
    by u v a m = omega arith

-- ---- the exits of a function
-- an answer
pub tame_ok : {A : Type 0} (most : ℕ) (g h : Gauge) (P : A → Type 0) (value : A) → h.units ≤ g.units + most → P value
    → IsTame most g h P (Ok value)
tame_ok most g h P value few p = record { within = IsAnsweredWithin-ok g h most value few; numbers = tt; answer = p }

-- a unit is refused, after others that were used
pub tame_refused : {A : Type 0} (used most : ℕ) (g h k : Gauge) (P : A → Type 0) → IsCharged g h → h.units ≤ g.units + used → used < most
    → h.units ≡ h.budget → k ≡ spent_out h → IsTame most g k P (Err Budget)
tame_refused used most g h k P p few room full e =
    record { within = unit_refused_later used most g h k p few room full e; numbers = λ f. cc; answer = tt }

-- a call is cut, after units that were used
pub tame_cut : {A B : Type 0} (used next most : ℕ) (g h k : Gauge) (P : A → Type 0) (Q : B → Type 0) (cut : Cut) → IsCharged g h
    → h.units ≤ g.units + used → used + next ≤ most → IsTame next h k P (Err cut) → IsTame most g k Q (Err cut)
tame_cut used next most g h k P Q cut p few room q =
    record { within = cut_later used next most g h k cut p few room q.within; numbers = q.numbers; answer = tt }

-- the first call is cut
pub tame_cut_first : {A B : Type 0} (most : ℕ) (g k : Gauge) (P : A → Type 0) (Q : B → Type 0) (cut : Cut) → IsTame most g k P (Err cut)
    → IsTame most g k Q (Err cut)
tame_cut_first most g k P Q cut q = record {
  within = record { units = q.within.units; answered = q.within.answered };
  numbers = q.numbers;
  answer = tt;
}

-- a call before which no unit was used
pub first_within : (next most : ℕ) → next ≤ most → 0 + next ≤ most
first_within next most l = omega arith

-- memory ends, after units that were used
pub tame_memory : {A : Type 0} (used most : ℕ) (g h : Gauge) (P : A → Type 0) → h.units ≤ g.units + used → used ≤ most
    → IsTame most g h P (Err NoMemory)
tame_memory used most g h P few room = record { within = memory_later used most g h few room; numbers = λ f. cc; answer = tt }

-- memory alone is asked for last
pub tame_end : {A : Type 0} (most : ℕ) (g h : Gauge) (P Q : A → Type 0) (result : Result A Cut) → h.units ≤ g.units + most
    → MatchResult result P (λ cut. cut ≡ NoMemory) → ((value : A) → P value → Q value) → IsTame most g h Q result
tame_end most g h P Q (Ok value) few m f = tame_ok most g h Q value few (f value m)
tame_end most g h P Q (Err cut) few m f = rw m (tame_memory most most g h Q few (omega arith))

-- the last call is passed on, after units that were used
pub tame_then : {A : Type 0} (used next most : ℕ) (g h k : Gauge) (P : A → Type 0) (result : Result A Cut) → IsCharged g h
    → h.units ≤ g.units + used → used + next ≤ most → IsTame next h k P result → IsTame most g k P result
tame_then used next most g h k P (Ok value) p few room q =
    tame_ok most g k P value (let u = q.within.units in omega arith) q.answer
tame_then used next most g h k P (Err cut) p few room q = tame_cut used next most g h k P P cut p few room q

pub tame_units : {A : Type 0} (most : ℕ) (g h : Gauge) (P : A → Type 0) (result : Result A Cut) → IsTame most g h P result
    → h.units ≤ g.units + most
tame_units most g h P result p = p.within.units
