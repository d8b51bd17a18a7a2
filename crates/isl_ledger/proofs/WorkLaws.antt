-- What difference constraints may cost: the pairs of bounds on a column, and on all columns one after another, are within the allowance.
use Rattle.std.proofs.Common.{◌≡◌, arith, ℕ, zero, suc, ◌+◌, ◌*◌, ◌-◌, ◌≤◌}
use Rattle.std.proofs.Math.Nat.{mul-add, mul-le-mul_left, mul-le-mul_right, mul-mul-mul_comm, mul_left_comm}
use Rattle.isl_ledger.specs.Work.{Size, form_limit, row_limit, pair_limit, allowance, drop_size, drop_work}

-- ---- numbers
product_more : (a b c d : ℕ) → a ≤ c → b ≤ d → a * b ≤ c * d
product_more a b c d l m = let x = mul-le-mul_right b l in let y = mul-le-mul_left c m in omega arith

times_sum : (m n u : ℕ) → (m + n) * u ≡ m * u + n * u
times_sum zero n u = omega arith
times_sum (suc m) n u = omega (arith, times_sum m n u)

-- ---- limits
pub form_limit_more : (c d : ℕ) → c ≤ d → form_limit c ≤ form_limit d
form_limit_more c d l = product_more c (c + 1) d (d + 1) l (omega arith)

pub row_limit_more : (c d : ℕ) → c ≤ d → row_limit c ≤ row_limit d
row_limit_more c d l = let m = form_limit_more c d l in omega arith

pub pair_limit_more : (c d : ℕ) → c ≤ d → pair_limit c ≤ pair_limit d
pair_limit_more c d l = let m = row_limit_more c d l in product_more (row_limit c) (row_limit c) (row_limit d) (row_limit d) m m

-- the bounds on a column: at most c on each side
pub pairs_few : (c lowers uppers : ℕ) → lowers ≤ c → uppers ≤ c → lowers * uppers ≤ c * c
pairs_few c lowers uppers l u = product_more lowers uppers c c l u

-- four times all pairs on a column
pub four_pairs : (c : ℕ) → 4 * (c * c) ≤ pair_limit c
four_pairs c =
    let twice : 2 * c ≤ row_limit c = (let e = mul-add c c 1 in omega arith) in
    let square = product_more (2 * c) (2 * c) (row_limit c) (row_limit c) twice twice in
    let same = mul-mul-mul_comm 2 c 2 c in
    omega arith

-- ---- columns one after another
-- at most c columns, each with four times the pairs on it
pub sweeps_allowed : (c columns pairs : ℕ) → columns ≤ c → pairs ≤ c * c → 4 * (columns * pairs) ≤ c * pair_limit c
sweeps_allowed c columns pairs l m =
    let all = product_more columns (4 * pairs) c (pair_limit c) l (let f = four_pairs c in omega arith) in
    let same = mul_left_comm 4 columns pairs in
    omega arith

-- one unit for a system, and so many sweeps
pub system_allowed : (c columns pairs : ℕ) → columns ≤ c → pairs ≤ c * c → 1 + 4 * (columns * pairs) ≤ allowance 1 c
system_allowed c columns pairs l m = let s = sweeps_allowed c columns pairs l m in omega arith

pub systems_allowed : (p c columns pairs : ℕ) → columns ≤ c → pairs ≤ c * c → p * (1 + 4 * (columns * pairs)) ≤ allowance p c
systems_allowed p c columns pairs l m =
    mul-le-mul_left p (let s = sweeps_allowed c columns pairs l m in omega arith)

-- ---- allowances
pub allowance_sum : (p q c : ℕ) → allowance (p + q) c ≡ allowance p c + allowance q c
allowance_sum p q c = times_sum p q (1 + c * pair_limit c)

pub allowance_more : (p q c : ℕ) → p ≤ q → allowance p c ≤ allowance q c
allowance_more p q c l = mul-le-mul_right (1 + c * pair_limit c) l

pub allowance_wider : (p c d : ℕ) → c ≤ d → allowance p c ≤ allowance p d
allowance_wider p c d l =
    mul-le-mul_left p (let m = product_more c (pair_limit c) d (pair_limit d) l (pair_limit_more c d l) in omega arith)

-- ---- a drop
-- columns that go in two steps
pub drop_again : (s t : ℕ) (size : Size) → drop_size t (drop_size s size) ≡ drop_size (s + t) size
drop_again s t size =
    by size.pieces (size.columns - s - t) (size.columns - (s + t)) (size.bits + s + t) (size.bits + (s + t)) (omega arith) (omega arith)
  where
    by : (p c d b e : ℕ) → c ≡ d → b ≡ e
        → (let x : Size = record { pieces = p; columns = c; bits = b } in x)
        ≡ (let y : Size = record { pieces = p; columns = d; bits = e } in y)
    by p c d b e f g = cc

-- of so many systems, t columns of each with all their pairs, and what is left of each kept
pub drop_allowed : (t columns pairs : ℕ) (size : Size) → columns ≤ size.columns → pairs ≤ size.columns * size.columns
    → size.pieces * (t * pairs) + size.pieces * (1 + 4 * (columns * pairs)) ≤ drop_work t size
drop_allowed t columns pairs size l m =
    let each = mul-le-mul_left t (let f = four_pairs size.columns in (let g : pairs ≤ pair_limit size.columns = omega arith in g)) in
    let all = mul-le-mul_left size.pieces each in
    let kept = systems_allowed size.pieces size.columns columns pairs l m in
    omega arith
