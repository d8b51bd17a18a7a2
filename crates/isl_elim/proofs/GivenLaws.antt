-- Columns that equalities give, one after another.
use Rattle.std.proofs.Common.{◌≡◌, ◌≢◌, refl, subst, arith, true, ℕ, ◌+◌, ◌*◌, ◌-◌, ◌<◌, ◌≤◌}
use Rattle.std.proofs.Common.{List, [], Vec, Global}
use Rattle.std.specs.Prelude.{AllPairs, Result, MatchResult, Ok, Err}
use Rattle.std.specs.List.{All}
use Rattle.isl_meter.specs.Gauge.{Gauge, IsCharged, IsCutBy}
use Rattle.isl_meter.specs.declared.Cut.{Cut}
use Rattle.isl_meter.proofs.CutLemmas.{IsCharged_refl}
use Rattle.isl_piece.specs.declared.row.Row.{Row}
use Rattle.isl_piece.specs.System.{HoldRows}
use Rattle.isl_elim.specs.Elimination.{AddsAlong}
use Rattle.isl_elim.specs.Others.{others_of}
use Rattle.isl_elim.specs.Solved.{IsGivenBy, IsSubstituted}
use Rattle.isl_elim.specs.declared.along.Given.{Given}
use Rattle.isl_elim.specs.Tame.{AreFewDifferences}
use Rattle.isl_ledger.specs.Answered.{IsTame}
use Rattle.isl_elim.proofs.AlongLaws.{along_some}
use Rattle.isl_elim.proofs.OthersLaws.{among, among_at, others_distinct, others_inside}
use Rattle.isl_elim.proofs.TameLaws.{product_more, tame_after}

-- ---- a column that is given
pub given_among : (rows : List Row) (cols : List ℕ) (given : Given) → IsGivenBy rows cols given → among given.col cols ≡ true
given_among rows cols given s = subst (λ (c : ℕ). among c cols ≡ true) s.column (among_at cols s.index s.among)

pub given_low : (columns : ℕ) (rows : List Row) (cols : List ℕ) (given : Given) → IsGivenBy rows cols given
    → All (λ c. c < columns) cols → given.col < columns
given_low columns rows cols given s low = subst (λ (c : ℕ). c < columns) s.column (low s.index 0 s.among)

-- ---- the column, and then the others
pub solved_after : (g k : Gauge) (columns col : ℕ) (cols : List ℕ) (rows short : List Row) (result : Result (Vec (List Row) Global) Cut)
    → AllPairs (λ a b. a ≢ b) cols → among col cols ≡ true → col < columns → IsSubstituted g columns col rows short
    → MatchResult result
    (λ lists. AddsAlong g (columns - 1) (others_of col cols) (HoldRows short) [] lists.items × IsCharged g k) (IsCutBy g k)
    → MatchResult result (λ lists. AddsAlong g columns cols (HoldRows rows) [] lists.items × IsCharged g k) (IsCutBy g k)
solved_after g k columns col cols rows short (Ok lists) d m i a r =
    (along_some g g columns col cols rows (HoldRows short) [] lists.items d m i (IsCharged_refl g g refl) a.points r.0, r.1)
solved_after g k columns col cols rows short (Err cut) d m i a r = r

-- ---- within how many units
fewer_units : (columns n count : ℕ) → n + 1 ≡ count → n * ((columns - 1) * (columns - 1)) ≤ count * (columns * columns)
fewer_units columns n count e =
    let square : (columns - 1) * (columns - 1) ≤ columns * columns =
    product_more (columns - 1) (columns - 1) columns columns (omega arith) (omega arith) in
    product_more n ((columns - 1) * (columns - 1)) count (columns * columns) (omega arith) square

pub solved_tame : (g k : Gauge) (columns bits n count : ℕ) (result : Result (Vec (List Row) Global) Cut) → n + 1 ≡ count
    → IsTame (n * ((columns - 1) * (columns - 1))) g k (λ lists. AreFewDifferences (bits + 1 + n) lists.items) result
    → IsTame (count * (columns * columns)) g k (λ lists. AreFewDifferences (bits + count) lists.items) result
solved_tame g k columns bits n count result e p =
    let same : bits + 1 + n ≡ bits + count = omega arith in
    tame_after 0 (n * ((columns - 1) * (columns - 1))) (count * (columns * columns)) g g k
    (λ (lists : Vec (List Row) Global). AreFewDifferences (bits + 1 + n) lists.items)
    (λ (lists : Vec (List Row) Global). AreFewDifferences (bits + count) lists.items) result
    (let u = fewer_units columns n count e in omega (arith, u)) (IsCharged_refl g g refl) (omega arith)
    (λ lists a. subst (λ b. AreFewDifferences b lists.items) same a) p

pub ruleset solved_steps = (given_among, given_low, others_distinct, others_inside)
