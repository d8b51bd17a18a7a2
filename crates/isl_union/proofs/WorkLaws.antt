-- What operations on difference constraints may cost is within what is allowed for their sizes.
use Rattle.std.proofs.Common.{arith, ℕ, ◌+◌, ◌*◌, ◌≤◌}
use Rattle.std.proofs.Math.Nat.{add-mul, mul-add, mul-le-mul_left, mul_assoc}
use Rattle.isl_ledger.specs.Work.{Size, allowance, drop_work, pair_limit}
use Rattle.isl_ledger.proofs.WorkLaws.{drop_allowed, sweeps_allowed}
use Rattle.isl_difference.specs.Tame.{left_work, part_limit, test_work}
use Rattle.isl_difference.proofs.TameLaws.{left_work_allowed}

-- a test of one system
test_allowed : (c : ℕ) → c * (c * c) ≤ c * pair_limit c
test_allowed c = let s = sweeps_allowed c c (c * c) (omega arith) (omega arith) in omega (arith, s)

pub made_work_allowed : (pieces c : ℕ) → pieces * (c * (c * c)) ≤ allowance pieces c
made_work_allowed pieces c = by (c * (c * c)) (c * pair_limit c) (test_allowed c)
  where
    by : (t e : ℕ) → t ≤ e → pieces * t ≤ pieces * (1 + e)
    by t e l = mul-le-mul_left {m = t} {n = 1 + e} pieces (omega (arith, l))

-- a point of one system
pub point_work_allowed : (c : ℕ) → c * (c * c) ≤ 8 * ((c + 1) * allowance 1 c)
point_work_allowed c = by (c * (c * c)) (allowance 1 c) (made_work_allowed 1 c)
  where
    by : (t a : ℕ) → 1 * t ≤ a → t ≤ 8 * ((c + 1) * a)
    by t a l = let s = add-mul c 1 a in omega (arith, l, s)

pub meet_work_allowed : (own others c : ℕ) → own * (others * test_work c) ≤ allowance (own * others) c
meet_work_allowed own others c = by (c * (c * c)) (c * pair_limit c) (test_allowed c)
  where
    by : (t e : ℕ) → t ≤ e → own * (others * (1 + t)) ≤ own * others * (1 + e)
    by t e l =
        let more = mul-le-mul_left {m = 1 + t} {n = 1 + e} (own * others) (omega (arith, l)) in
        let same = mul_assoc own others (1 + t) in
        omega (arith, more, same)

pub minus_work_allowed : (own others c : ℕ)
    → own * left_work c others ≤ 4 * allowance (own * part_limit c others) c + own * others
minus_work_allowed own others c = let half = left_work_allowed own c others in omega (arith, half)

pub project_work_allowed : (count : ℕ) (size : Size)
    → size.pieces * ((count + size.columns) * (size.columns * size.columns)) ≤ drop_work count size
project_work_allowed count size =
    by size.pieces size.columns (size.columns * size.columns) (drop_work count size)
    (drop_allowed count size.columns (size.columns * size.columns) size (omega arith) (omega arith))
  where
    by : (p c q w : ℕ) → p * (count * q) + p * (1 + 4 * (c * q)) ≤ w → p * ((count + c) * q) ≤ w
    by p c q w l =
        let each = mul-le-mul_left {m = (count + c) * q} {n = count * q + (1 + 4 * (c * q))} p (let s = add-mul count c q in omega (arith, s)) in
        let both = mul-add p (count * q) (1 + 4 * (c * q)) in
        omega (arith, l, each, both)
