-- The opened system, and the columns that go from it.
use Rattle.std.proofs.Common.{◌≡◌, ◌≢◌, ◌⊎◌, inl, inr, refl, sym, ap, ◌∙◌, subst, arith, ℕ, zero, suc, ◌+◌, ◌-◌, ◌<◌, ◌≤◌, pos, List, []}
use Rattle.std.proofs.Common.{◌∷◌, ◌++◌, length, length-append, get_or}
use Rattle.std.specs.Prelude.{AllPairs}
use Rattle.std.specs.List.{All, range_with_len}
use Rattle.std.proofs.lemmas.List.{get_or_append_left, get_or-append_right}
use Rattle.std.proofs.lemmas.List.Elements.{All-nil, All-append}
use Rattle.std.proofs.lemmas.List.FromFn.{length-range_with_len, get_or-range_with_len}
use Rattle.isl_meter.specs.Gauge.{Gauge}
use Rattle.isl_omega.specs.Column.{IsProper}
use Rattle.isl_piece.specs.declared.definition.Definition.{Definition}
use Rattle.isl_piece.specs.declared.row.Row.{Row}
use Rattle.isl_piece.specs.declared.system.System.{System}
use Rattle.isl_piece.specs.System.{IsSystemWithin, free_columns}
use Rattle.isl_elim.specs.Elimination.{system_of}
use Rattle.isl_elim.specs.Opened.{definition_rows}
use Rattle.isl_elim.specs.Others.{others_of}
use Rattle.isl_elim.proofs.OthersLaws.{among_at, others_count, others_distinct, others_inside}
use Rattle.isl_quotient.specs.Opened.{opened_system}
use Rattle.isl_quotient.specs.Quotient.{IsUndefining}

pub whole_within : (g : Gauge) (s : System) (rows : List Row) (whole : System) → whole ≡ system_of s.columns [] rows
    → rows ≡ s.rows ++ definition_rows s.columns s.definitions → All (IsProper g s.columns) rows
    → (whole ≡ opened_system s) × IsSystemWithin g whole
whole_within g s rows whole is all proper = (
  is ∙ ap (system_of s.columns []) all,
  rw is (record {
    rows = λ k d l. (proper k d l).formed;
    within = λ k d l. (proper k d l).within;
    count = omega arith;
    definitions = tt;
  }),
)

-- ---- columns, no two the same
-- no more than there are
few_within : (m n : ℕ) (cols : List ℕ) → length cols ≤ m → AllPairs (λ a b. a ≢ b) cols → All (λ c. c < n) cols → length cols ≤ n
few_within m n [] few d low = omega arith
few_within zero n (c ∷ cols) few d low = absurd (omega (arith, few))
few_within (suc m) n (c ∷ cols) few d low =
    let here : c < n = low 0 0 (omega arith) in
    let among = among_at (c ∷ cols) 0 (omega arith) in
    let count = others_count c (c ∷ cols) d among in
    let rest =
    few_within m (n - 1) (others_of c (c ∷ cols)) (omega (arith, count, few)) (others_distinct c (c ∷ cols) d)
    (others_inside n c (c ∷ cols) here low) in
    omega (arith, count, rest, here)

pub few_columns : (n : ℕ) (cols : List ℕ) → AllPairs (λ a b. a ≢ b) cols → All (λ c. c < n) cols → length cols ≤ n
few_columns n cols d low = few_within (length cols) n cols (omega arith) d low

-- and those behind them
module _ (n : ℕ) (cols : List ℕ) (count : ℕ) (d : AllPairs (λ a b. a ≢ b) cols) (low : All (λ c. c < n) cols) where
  low_at : (i z : ℕ) → i < length cols → get_or (cols ++ range_with_len n count) i z < n
  low_at i z l = let at = get_or_append_left cols (range_with_len n count) z i l in let h = low i z l in omega (arith, at, h)

  high_at : (i z : ℕ) → length cols ≤ i → i < length (cols ++ range_with_len n count)
      → get_or (cols ++ range_with_len n count) i z ≡ n + (i - length cols)
  high_at i z l m =
      let all = length-append cols (range_with_len n count) in
      let long = length-range_with_len n count in
      get_or-append_right cols (range_with_len n count) (length cols) i z refl l
      ∙ get_or-range_with_len n count (i - length cols) z (omega (arith, all, long, l, m))

  pub all_distinct : AllPairs (λ a b. a ≢ b) (cols ++ range_with_len n count)
  all_distinct i j z l m same =
      elim (sides i (length cols)) [
        | inl low_i ↦ elim (sides j (length cols)) [
          | inl low_j ↦
              let a = get_or_append_left cols (range_with_len n count) z i low_i in
              let b = get_or_append_left cols (range_with_len n count) z j low_j in
              d i j z l low_j (sym a ∙ same ∙ b)
          | inr high_j ↦ let a = low_at i z low_i in let b = high_at j z high_j m in omega (arith, a, b, same)
        ]
        | inr high_i ↦
            let a = high_at i z high_i (omega (arith, l, m)) in
            let b = high_at j z (omega (arith, high_i, l)) m in
            omega (arith, a, b, same, l, high_i)
      ]
    where
      sides : (x y : ℕ) → (x < y) ⊎ (y ≤ x)
      sides x y = grind arith

  pub all_inside : All (λ c. c < n + count) (cols ++ range_with_len n count)
  all_inside = All-append (λ c. c < n + count) cols (range_with_len n count) (λ k z l. let h = low k z l in omega (arith, h)) (λ k z l.
      let long = length-range_with_len n count in
      let at = get_or-range_with_len n count k z (omega (arith, long, l)) in
      omega (arith, at, long, l))

-- ---- all that go
pub all_columns : (g : Gauge) (s whole : System) (cols all : List ℕ) → IsSystemWithin g s → whole ≡ opened_system s
    → all ≡ cols ++ range_with_len (free_columns s) (length s.definitions) → AllPairs (λ a b. a ≢ b) cols
    → All (λ c. c < free_columns s) cols
    → AllPairs (λ a b. a ≢ b) all × All (λ c. c < free_columns whole) all
all_columns g s whole cols all w is are d low =
    let count = w.count in
    let free : free_columns s + length s.definitions ≡ free_columns whole = rw is (omega (arith, count)) in
    rw are (
      all_distinct (free_columns s) cols (length s.definitions) d low,
      subst (λ (n : ℕ). All (λ c. c < n) (cols ++ range_with_len (free_columns s) (length s.definitions))) free
          (all_inside (free_columns s) cols (length s.definitions) d low),
    )

pub opened_undefining : (s whole : System) (cols : List ℕ) → whole ≡ opened_system s → All (λ c. IsUndefining c whole.definitions) cols
opened_undefining s whole cols is = rw is (λ k c l. All-nil (λ (d : Definition). get_or d.coefs (get_or cols k c) (pos 0) ≡ pos 0))
