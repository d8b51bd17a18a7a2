-- What contexts tell of questions.
use Rattle.std.proofs.Common.{◌≡◌, ◌≢◌, ◌⊎◌, ◌↔◌, inl, inr, refl, sym, ap, ◌∙◌, subst, arith, ℕ, ◌+◌, ◌<◌, ℤ, pos, List, [], ◌∷◌, ◌++◌, length, get_or}
use Rattle.std.specs.List.{All, Any}
use Rattle.std.proofs.lemmas.Bool.{cases_Bool}
use Rattle.std.proofs.lemmas.List.Elements.{All-cons, All-head, All-nil}
use Rattle.isl_math.proofs.ListLaws.{Any-first, Any-one}
use Rattle.isl_meter.specs.Gauge.{Gauge}
use Rattle.isl_piece.specs.declared.row.RowKind.{RowKind}
use Rattle.isl_piece.specs.declared.row.RowKind.TheVariants as kind
use Rattle.isl_piece.specs.declared.row.Row.{Row}
use Rattle.isl_piece.specs.declared.system.System.{System}
use Rattle.isl_piece.specs.Definition.{with_defined}
use Rattle.isl_piece.specs.Negation.{negated_form, negation_of}
use Rattle.isl_piece.specs.Row.{HasModulus, HoldsRow, IsRowWithin, IsWellFormed}
use Rattle.isl_piece.specs.System.{HoldRows, HoldsSystem, IsSystemWithin, free_columns}
use Rattle.isl_elim.specs.Sample.{IsNowhere}
use Rattle.isl_loop.proofs.RowLaws.{row_tells}
use Rattle.isl_loop.specs.Run.{row_holds}
use Rattle.isl_greatest.specs.Decision.{AreParted, IsContext, IsNegation}
use Rattle.isl_greatest.specs.State.{full, IsQuestion}

-- ---- systems of one row
pub one_holds : (r : Row) (point : List ℤ) → HoldRows (r ∷ []) point ↔ HoldsRow r point
one_holds r point = (
  (λ h. All-head (λ s. HoldsRow s point) r [] h),
  (λ h. All-cons (λ s. HoldsRow s point) r [] h (All-nil (λ s. HoldsRow s point))),
)

pub question_holds : (g : Gauge) (n : ℕ) (s : System) (v : List ℤ) (asked : IsQuestion g n s) → HoldsSystem s v ↔ HoldsRow asked.row (full s v)
question_holds g n s v asked = subst (λ (rs : List Row). HoldRows rs (full s v) ↔ HoldsRow asked.row (full s v)) (sym asked.rows) (one_holds asked.row (full s v))

pub question_row : (g : Gauge) (n : ℕ) (s : System) (r : Row) (asked : IsQuestion g n s) → r ≡ get_or s.rows 0 r → r ≡ asked.row
question_row g n s r asked is = is ∙ ap (λ (rs : List Row). get_or rs 0 r) asked.rows

pub question_some : (g : Gauge) (n : ℕ) (s : System) → IsQuestion g n s → 0 < length s.rows
question_some g n s asked = let l = ap length asked.rows in omega (arith, l)

pub question_formed : (g : Gauge) (n : ℕ) (s : System) (asked : IsQuestion g n s) → IsWellFormed s.columns asked.row
question_formed g n s asked = All-head (IsWellFormed s.columns) asked.row [] (subst (All (IsWellFormed s.columns)) asked.rows asked.within.rows)

pub question_within : (g : Gauge) (n : ℕ) (s : System) (asked : IsQuestion g n s) → IsRowWithin g asked.row
question_within g n s asked = All-head (IsRowWithin g) asked.row [] (subst (All (IsRowWithin g)) asked.rows asked.within.within)

-- a row holds or fails
pub row_sorts : (r : Row) (point : List ℤ) → HasModulus r.kind r.k → HoldsRow r point ⊎ (¬ HoldsRow r point)
row_sorts r point m = elim (cases_Bool (row_holds point r)) [
  | inl so ↦ inl ((row_tells r point m).0 so)
  | inr no' ↦ inr (λ h. let t = (row_tells r point m).1 h in let e = sym no' ∙ t in cc)
]

pub question_sorts : (g : Gauge) (n : ℕ) (s : System) (v : List ℤ) → IsQuestion g n s → HoldsSystem s v ⊎ (¬ HoldsSystem s v)
question_sorts g n s v asked =
    let both = question_holds g n s v asked in
    elim (row_sorts asked.row (full s v) (question_formed g n s asked).modulus) [
      | inl h ↦ inl (both.1 h)
      | inr h ↦ inr (λ x. h (both.0 x))
    ]

-- ---- negations
one_negated : (k : RowKind) (cs : List ℤ) (c m : ℤ) → k ≢ kind.Zero → (s : Row) × (negated_form k cs c m ≡ s ∷ [])
one_negated kind.Zero cs c m n = absurd (n refl)
one_negated kind.AtLeast cs c m n = (_, refl)
one_negated kind.Divides cs c m n = (_, refl)
one_negated kind.NotDivides cs c m n = (_, refl)

pub negation_made : (g : Gauge) (n : ℕ) (s negated : System) (r : Row) (rows : List Row) → IsQuestion g n s → r ≡ get_or s.rows 0 r
    → rows ≡ negation_of r → ((point : List ℤ) → Any (λ t. HoldsRow t point) rows ↔ (¬ HoldsRow r point))
    → All (IsWellFormed s.columns) rows → All (IsRowWithin g) rows
    → negated ≡ record { columns = s.columns; definitions = s.definitions; rows = rows } → IsNegation g s negated
negation_made g n s negated r rows asked read is points formed within made =
    let own = question_row g n s r asked read in
    let one = one_negated r.kind r.coefs r.constant r.k (subst (λ (t : Row). t.kind ≢ kind.Zero) (sym own) asked.kind) in
    subst (IsNegation g s) (sym made) (record {
      within = record { rows = formed; within = within; count = asked.within.count; definitions = asked.within.definitions };
      free = refl;
      points = λ v.
          let q = question_holds g n s v asked in
          let p = points (full s v) in
          let r_is : HoldsRow r (full s v) ↔ HoldsRow asked.row (full s v) =
          subst (λ (t : Row). HoldsRow r (full s v) ↔ HoldsRow t (full s v)) own ((λ h. h), (λ h. h)) in
          let rows_is = is ∙ one.1 in
          let single : HoldRows rows (full s v) ↔ Any (λ t. HoldsRow t (full s v)) rows =
          subst (λ (rs : List Row). HoldRows rs (full s v) ↔ Any (λ t. HoldsRow t (full s v)) rs) (sym rows_is) (
            (λ h. Any-first (λ t. HoldsRow t (full s v)) one.0 [] ((one_holds one.0 (full s v)).0 h)),
            (λ h. (one_holds one.0 (full s v)).1 (Any-one (λ t. HoldsRow t (full s v)) one.0 h)),
          ) in (
            (λ h x. p.0 (single.0 h) (r_is.1 (q.0 x))),
            (λ h. single.1 (p.1 (λ x. h (q.1 (r_is.0 x))))),
          );
    })

-- ---- decisions
module _ (g : Gauge) (n : ℕ) (context question negated : System) (c : IsContext g n context) (asked : IsQuestion g n question)
    (opposite : IsNegation g question negated) where
  pub decided_yes : (outside : System) → ((v : List ℤ) → length v ≡ n → HoldsSystem outside v ↔ (HoldsSystem context v × HoldsSystem negated v))
      → free_columns outside ≡ n → IsNowhere (free_columns outside) (HoldsSystem outside)
      → (v : List ℤ) → length v ≡ n → HoldsSystem context v → HoldsSystem question v
  decided_yes outside points free nowhere v long h = elim (question_sorts g n question v asked) [
    | inl so ↦ so
    | inr no' ↦ absurd (nowhere v (long ∙ sym free) ((points v long).1 (h, (opposite.points v).1 no')))
  ]

  pub decided_no : (inside : System) → ((v : List ℤ) → length v ≡ n → HoldsSystem inside v ↔ (HoldsSystem context v × HoldsSystem question v))
      → free_columns inside ≡ n → IsNowhere (free_columns inside) (HoldsSystem inside)
      → (v : List ℤ) → length v ≡ n → HoldsSystem context v → ¬ HoldsSystem question v
  decided_no inside points free nowhere v long h so = nowhere v (long ∙ sym free) ((points v long).1 (h, so))

  pub decided_both : (inside outside : System)
      → ((v : List ℤ) → length v ≡ n → HoldsSystem inside v ↔ (HoldsSystem context v × HoldsSystem question v))
      → ((v : List ℤ) → length v ≡ n → HoldsSystem outside v ↔ (HoldsSystem context v × HoldsSystem negated v))
      → IsSystemWithin g inside → IsSystemWithin g outside → free_columns inside ≡ n → free_columns outside ≡ n
      → ¬ IsNowhere (free_columns inside) (HoldsSystem inside) → ¬ IsNowhere (free_columns outside) (HoldsSystem outside)
      → AreParted g n context question inside outside
  decided_both inside outside points others within more free also some rest = record {
    first = record { within = within; free = free; somewhere = subst (λ m. ¬ IsNowhere m (HoldsSystem inside)) free some };
    second = record { within = more; free = also; somewhere = subst (λ m. ¬ IsNowhere m (HoldsSystem outside)) also rest };
    holds = λ v long h. (points v long).0 h;
    fails = λ v long h. let both = (others v long).0 h in (both.0, (opposite.points v).0 both.1);
    either = λ v long h so. (points v long).1 (h, so);
    other = λ v long h no'. (others v long).1 (h, (opposite.points v).1 no');
  }
