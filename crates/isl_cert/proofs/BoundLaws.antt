-- How many nodes a proof may have where no more units are to be used than difference constraints may cost.
use Rattle.std.proofs.Common.{◌≡◌, ◌↔◌, ◌∙◌, ◌≤◌, ◌+◌, ◌*◌, ◌^◌, refl, sym, subst, arith, ℕ, zero, suc, Bool, false, List, ◌∷◌, Result}
use Rattle.std.specs.Prelude.{IsTrue}
use Rattle.std.proofs.Math.Nat.{add-mul, mul-le-mul, mul-le-mul_left, mul-le-mul_right, one-mul, pow-zero}
use Rattle.std.specs.List.{All}
use Rattle.std.proofs.lemmas.Bool.{true≢false}
use Rattle.std.proofs.lemmas.List.Elements.{All-head, All-tail, All-weaker}
use Rattle.isl_meter.specs.declared.Cut.{Cut}
use Rattle.isl_meter.specs.Gauge.{Gauge}
use Rattle.isl_meter.proofs.CutLemmas.{IsCharged_refl}
use Rattle.isl_ledger.specs.Answered.{IsTame}
use Rattle.isl_ledger.proofs.FormLaws.{units_from_comparison}
use Rattle.isl_ledger.proofs.WorkLaws.{sweeps_allowed}
use Rattle.isl_ledger.specs.Difference.{IsDifferenceRow, IsDifferenceSystem}
use Rattle.isl_ledger.specs.Work.{allowance, pair_limit, row_limit}
use Rattle.isl_difference.proofs.TameLaws.{left_size_next, left_work_allowed, left_work_more, part_limit_one, tame_then}
use Rattle.isl_difference.specs.Tame.{left_work, part_limit}
use Rattle.isl_piece.specs.declared.row.Row.{Row}
use Rattle.isl_piece.specs.declared.system.System.{System}
use Rattle.isl_cert.specs.Bound.{node_limit, proof_work, question_work, IsComparing}

-- ---- what is asked
-- what is left of each part without one more
parts_turn : (c n : ℕ) → part_limit c n * (2 * row_limit c) ≤ part_limit c (n + 1)
parts_turn c n = subst (λ (r : ℕ). part_limit c n * r ≤ part_limit c (n + 1)) (part_limit_one c)
    (left_size_next c n (part_limit c n) (omega arith))

-- no fewer than the systems
pub outs_counted : (c n : ℕ) → n + 1 ≤ part_limit c n
outs_counted c zero = by (2 * row_limit c)
  where
    by : (r : ℕ) → 1 ≤ r ^ 0
    by r = let e = pow-zero r in omega (arith, e)
outs_counted c (suc n) =
    let e : n + 1 ≡ suc n = omega arith in
    subst (λ (m : ℕ). suc n + 1 ≤ part_limit c m) e
    (by (part_limit c n) (row_limit c) (part_limit c (n + 1)) (parts_turn c n) (outs_counted c n) (omega arith))
  where
    by : (p r next : ℕ) → p * (2 * r) ≤ next → n + 1 ≤ p → 1 ≤ r → suc n + 1 ≤ next
    by p r next e more some =
        let twice : p * 2 ≤ p * (2 * r) = mul-le-mul_left {m = 2} {n = 2 * r} p (omega (arith, some)) in
        omega (arith, e, more, twice)

pub question_allowed : (c q : ℕ) → question_work c q ≤ 3 * node_limit c q
question_allowed c q =
    let sweeps = sweeps_allowed c c (c * c) (omega arith) (omega arith) in
    let left = subst (λ (n : ℕ). n ≤ 2 * node_limit c q) (one-mul (left_work c q))
    (subst (λ (p : ℕ). 1 * left_work c q ≤ 2 * allowance p c) (one-mul (part_limit c q)) (left_work_allowed 1 c q)) in
    by (part_limit c q) (c * (c * c)) (c * pair_limit c) (left_work c q) (outs_counted c q) (omega (arith, sweeps)) left
  where
    by : (p t e w : ℕ) → q + 1 ≤ p → t ≤ e → w ≤ 2 * (p * (1 + e)) → (1 + q) * t + w ≤ 3 * (p * (1 + e))
    by p t e w count less left =
        let own = mul-le-mul_right {m = 1 + q} {n = p} t (omega arith) in
        let all = mul-le-mul_left {m = t} {n = 1 + e} p (omega arith) in
        omega (arith, own, all, left)

-- and what is found
pub work_allowed : (c q : ℕ) → question_work c q + (node_limit c q + node_limit c q) ≤ proof_work c q
work_allowed c q =
    let asked = question_allowed c q in
    let more = mul-le-mul_right {m = 1} {n = c + 1} (node_limit c q) (omega arith) in
    let one = one-mul (node_limit c q) in
    omega (arith, asked, more, one)

-- ---- as many nodes
pub rows_up_to : (c more forms both rows : ℕ) → more ≤ c + 1 → forms ≤ c * more → both ≤ 2 * forms → rows ≤ both + 1 → rows ≤ row_limit c
rows_up_to c more forms both rows l m n o =
    let wide = mul-le-mul_left {m = more} {n = c + 1} c l in
    omega (arith, wide)

pub each_up_to : (c rows pairs all each : ℕ) → rows ≤ row_limit c → pairs ≤ rows * rows → all ≤ c * pairs → each ≤ all + 1
    → each ≤ 1 + c * pair_limit c
each_up_to c rows pairs all each l m n o =
    let square = mul-le-mul l l in
    let wide = mul-le-mul_left {m = pairs} {n = pair_limit c} c (omega (arith, square)) in
    omega (arith, wide)

pub parts_next : (c i parts step new : ℕ) → parts ≤ part_limit c i → step ≤ 2 * row_limit c → new ≤ parts * step
    → new ≤ part_limit c (i + 1)
parts_next c i parts step new l m n =
    let wide = mul-le-mul l m in
    let next = parts_turn c i in
    omega (arith, wide, next)

pub nodes_up_to : (c q parts each result : ℕ) → parts ≤ part_limit c q → each ≤ 1 + c * pair_limit c → result ≤ parts * each
    → result ≤ node_limit c q
nodes_up_to c q parts each result l m n =
    let wide = mul-le-mul l m in
    omega (arith, wide)

-- ---- difference constraints
pub row_comparing : (bits : ℕ) (r : Row) → IsDifferenceRow bits r → IsComparing r
row_comparing bits r d = record { kind = d.kind; units = units_from_comparison r.coefs d.first d.second d.compares }

pub rows_comparing : (bits : ℕ) (rows : List Row) → All (IsDifferenceRow bits) rows → All IsComparing rows
rows_comparing bits rows all = All-weaker (IsDifferenceRow bits) IsComparing (row_comparing bits) rows all

pub systems_comparing : (columns bits : ℕ) (systems : List System) → All (IsDifferenceSystem columns bits) systems
    → All (λ s. All IsComparing s.rows) systems
systems_comparing columns bits systems all =
    All-weaker (IsDifferenceSystem columns bits) (λ s. All IsComparing s.rows) (λ s d. rows_comparing bits s.rows d.rows) systems all

-- ---- steps of the question
pub question_is : (c q : ℕ) → c * (c * c) + q * (c * (c * c)) + left_work c q ≤ question_work c q
question_is c q = by (c * (c * c)) (left_work c q)
  where
    by : (t w : ℕ) → t + q * t + w ≤ (1 + q) * t + w
    by t w = let sum = add-mul 1 q t in let one = one-mul t in omega (arith, sum, one)

pub question_first : (c q : ℕ) → 0 + c * (c * c) ≤ question_work c q
question_first c q = let all = question_is c q in omega (arith, all)

pub question_second : (c q : ℕ) → c * (c * c) + q * (c * (c * c)) ≤ question_work c q
question_second c q = let all = question_is c q in omega (arith, all)

pub question_third : (c few q : ℕ) → few ≤ q → c * (c * c) + q * (c * (c * c)) + left_work c few ≤ question_work c q
question_third c few q l = let all = question_is c q in let more = left_work_more c few q l in omega (arith, all, more)

-- ---- proofs that are found
pub within_limit : {A : Type 0} (c q most : ℕ) (g h : Gauge) (P : A → Type 0) (result : Result A Cut) → most ≤ node_limit c q
    → IsTame (most + most) g h P result → IsTame (node_limit c q + node_limit c q) g h P result
within_limit c q most g h P result l tame =
    tame_then 0 (most + most) (node_limit c q + node_limit c q) g g h P result (IsCharged_refl g g refl) (omega arith) (omega (arith, l))
    tame

-- rows that compare are not told otherwise
pub not_comparing : {B : Type 0} (columns bits : ℕ) (system : System) (outs : List System) (told : Bool)
    → IsTrue told ↔ (All IsComparing system.rows × All (λ out. All IsComparing out.rows) outs) → told ≡ false
    → All (IsDifferenceSystem columns bits) (system ∷ outs) → B
not_comparing columns bits system outs told surely none all =
    let own = All-head (IsDifferenceSystem columns bits) system outs all in
    let others = All-tail (IsDifferenceSystem columns bits) system outs all in
    absurd (true≢false (sym (surely.1 (rows_comparing bits system.rows own.rows, systems_comparing columns bits outs others)) ∙ none))

pub question_within : (c q : ℕ) → 0 + question_work c q ≤ proof_work c q
question_within c q = let whole = work_allowed c q in omega (arith, whole)
