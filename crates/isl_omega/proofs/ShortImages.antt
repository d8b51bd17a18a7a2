-- The rows of the equality step, made without the column. The first of them is left out where it holds at every point.
use Rattle.std.proofs.Common.{◌≡◌, ◌≢◌, ◌↔◌, ◌⊎◌, inl, inr, ◌∙◌, Option, Some, None, MatchOption, refl, sym, ap, arith, ℕ, ◌+◌, ◌-◌, ◌<◌, pos, ℤ, ◌<ℤ◌, List, [], ◌∷◌, ◌++◌, length, map, take, get_or, option_map}
use Rattle.std.specs.Prelude.{IfSome}
use Rattle.std.specs.List.{All}
use Rattle.std.specs.Ordering.{int_eq}
use Rattle.std.proofs.lemmas.Bool.{cases_Bool}
use Rattle.std.proofs.lemmas.Bool.Decides.{Decides-int_eq}
use Rattle.std.proofs.lemmas.List.{take_more, map-append, append_assoc}
use Rattle.std.proofs.lemmas.List.Elements.{All-nil, All-tail, All-cons}
use Rattle.isl_math.specs.Order.{abs_of}
use Rattle.isl_math.proofs.DivideLaws.{one-Divides}
use Rattle.isl_math.proofs.Ring.{linear}
use Rattle.isl_meter.specs.Gauge.{Gauge, IsWithin}
use Rattle.isl_piece.specs.declared.row.Row.{Row}
use Rattle.isl_piece.specs.Row.{HoldsRow, IsRowWithin, IsWellFormed, coef_at, value_at}
use Rattle.isl_piece.specs.System.{HoldRows}
use Rattle.isl_piece.specs.Normal.{Always, IsNormal, kept_rows, merged, normal_row, normal_rows}
use Rattle.isl_piece.proofs.ContentLaws.{int_eq-true, int_eq-false}
use Rattle.isl_piece.proofs.WitnessLaws.{always_exactly}
use Rattle.isl_omega.specs.Column.{dropped, IsAnswerFor}
use Rattle.isl_omega.specs.Equality.{IsSolvedBy, solvable, image_of, images_of, divisibility_of, short_images_of, solved_for}
use Rattle.isl_omega.proofs.ColumnLemmas.{row_within_dropped, rows_formed, settled_is}
use Rattle.isl_omega.proofs.ImageLemmas.{step_well_formed, step_free, step_is}

-- one row more
pub short_images_more : (fixed : Row) (col : ℕ) (rows : List Row) (i : ℕ) (r : Row) → i < length rows → r ≡ get_or rows i r
    → short_images_of fixed col (take (i + 1) rows) ≡ short_images_of fixed col (take i rows) ++ dropped (image_of fixed col r) col ∷ []
short_images_more fixed col rows i r l e =
    let images = map (image_of fixed col) (take i rows) in
    let short = map (λ r. dropped r col) images in
    ap (short_images_of fixed col) (take_more rows i r l ∙ ap (λ (s : Row). take i rows ++ s ∷ []) (sym e))
    ∙ ap (λ (rows : List Row). divisibility_of fixed col ++ map (λ r. dropped r col) rows) (map-append (image_of fixed col) (take i rows) (r ∷ []))
    ∙ ap (λ (rows : List Row). divisibility_of fixed col ++ rows) (map-append (λ r. dropped r col) images (image_of fixed col r ∷ []))
    ∙ sym (append_assoc (divisibility_of fixed col) short (dropped (image_of fixed col r) col ∷ []))

-- ---- the row that is left out
-- the rows without the column
abbrev whole : Row → ℕ → List Row → List Row
whole fixed col rows = map (λ r. dropped r col) (images_of fixed col rows)

-- and those of the images alone
abbrev others : Row → ℕ → List Row → List Row
others fixed col rows = map (λ r. dropped r col) (map (image_of fixed col) rows)

-- with a coefficient of magnitude 1 some whole number makes `fixed` 0 at every point
holds_always : (fixed : Row) (col : ℕ) (xs : List ℤ) → abs_of (coef_at fixed col) ≡ pos 1 → HoldsRow (dropped (solvable fixed col) col) xs
holds_always fixed col xs e = rw e (one-Divides (value_at (dropped (solvable fixed col) col) xs))

always : (fixed : Row) (col : ℕ) → abs_of (coef_at fixed col) ≡ pos 1 → normal_row (dropped (solvable fixed col) col) ≡ Always
always fixed col e =
    let positive : pos 0 <ℤ abs_of (coef_at fixed col) = rw e (omega (arith, linear)) in
    (always_exactly (dropped (solvable fixed col) col) positive).1 (λ xs. holds_always fixed col xs e)

-- so that row is left out, and stays else
pub divisibility_none : (fixed : Row) (col : ℕ) → abs_of (coef_at fixed col) ≡ pos 1 → divisibility_of fixed col ≡ []
divisibility_none fixed col e = rw (int_eq-true (abs_of (coef_at fixed col)) (pos 1) e) refl

pub divisibility_some : (fixed : Row) (col : ℕ) → abs_of (coef_at fixed col) ≢ pos 1 → divisibility_of fixed col ≡ dropped (solvable fixed col) col ∷ []
divisibility_some fixed col n = rw (int_eq-false (abs_of (coef_at fixed col)) (pos 1) n) refl

-- the list of one row within the limit
pub one_within : (g : Gauge) (fixed : Row) (col : ℕ) → IsRowWithin g fixed → IsWithin g (abs_of (coef_at fixed col)) → All (IsRowWithin g) (dropped (solvable fixed col) col ∷ [])
one_within g fixed col w k =
    let own = row_within_dropped g col (solvable fixed col) (record { coefs = w.coefs; constant = w.constant; k = k }) in
    All-cons (IsRowWithin g) (dropped (solvable fixed col) col) [] own (All-nil (IsRowWithin g))

-- either that row stands first, or it is left out
short_cases : (fixed : Row) (col : ℕ) (rows : List Row)
    → (short_images_of fixed col rows ≡ whole fixed col rows) ⊎ ((abs_of (coef_at fixed col) ≡ pos 1) × (short_images_of fixed col rows ≡ others fixed col rows))
short_cases fixed col rows = elim (cases_Bool (int_eq (abs_of (coef_at fixed col)) (pos 1))) [
  | inl t ↦ inr ((Decides-int_eq (abs_of (coef_at fixed col)) (pos 1)).0 t, rw t refl)
  | inr f ↦ inl (rw f refl)
]

-- ---- what is made normal
pub short_formed : (columns : ℕ) (fixed : Row) (col : ℕ) (rows : List Row) → coef_at fixed col ≢ pos 0 → All (IsWellFormed columns) rows → IsWellFormed columns fixed → col < columns
    → All (IsWellFormed (columns - 1)) (short_images_of fixed col rows)
short_formed columns fixed col rows n h k l =
    let all = rows_formed columns col (images_of fixed col rows) l (step_well_formed columns fixed col rows n h k) in
    elim (short_cases fixed col rows) [
      | inl e ↦ rw e all
      | inr f ↦ rw f.1 (All-tail (IsWellFormed (columns - 1)) (dropped (solvable fixed col) col) (others fixed col rows) all)
    ]

short_hold : (fixed : Row) (col : ℕ) (rows : List Row) (xs : List ℤ) → HoldRows (short_images_of fixed col rows) xs ↔ HoldRows (whole fixed col rows) xs
short_hold fixed col rows xs = elim (short_cases fixed col rows) [
  | inl e ↦ rw e ((λ h. h), (λ h. h))
  | inr f ↦
      let P : Row → Type 0 = λ r. HoldsRow r xs in
      let first = dropped (solvable fixed col) col in
      rw f.1 ((λ h. All-cons P first (others fixed col rows) (holds_always fixed col xs f.0) h), (λ h. All-tail P first (others fixed col rows) h))
]

pub short_normal : (fixed : Row) (col : ℕ) (rows : List Row) → normal_rows (short_images_of fixed col rows) ≡ solved_for fixed col rows
short_normal fixed col rows = elim (short_cases fixed col rows) [
  | inl e ↦ ap normal_rows e
  | inr f ↦ ap normal_rows f.1 ∙ sym (ap (λ v. option_map merged (kept_rows (v ∷ map normal_row (others fixed col rows)))) (always fixed col f.0))
]

-- ---- the step
moved : (P Q : List ℤ → Type 0) (o : Option (List Row)) (xs : List ℤ) → P xs ↔ Q xs
    → MatchOption o (¬ P xs) (λ kept. HoldRows kept xs ↔ P xs) → MatchOption o (¬ Q xs) (λ kept. HoldRows kept xs ↔ Q xs)
moved P Q None xs s m = λ q. m (s.1 q)
moved P Q (Some kept) xs s m = ((λ h. s.0 (m.0 h)), (λ q. m.1 (s.1 q)))

pub short_step_is : (g : Gauge) (columns : ℕ) (fixed : Row) (col : ℕ) (rows short : List Row) (o : Option (List Row)) → coef_at fixed col ≢ pos 0 → All (IsWellFormed columns) rows → IsWellFormed columns fixed → col < columns
    → short ≡ short_images_of fixed col rows
    → ((xs : List ℤ) → MatchOption o (¬ HoldRows short xs) (λ kept. HoldRows kept xs ↔ HoldRows short xs))
    → IfSome o IsNormal → IfSome o (All (IsWellFormed (columns - 1))) → IfSome o (All (IsRowWithin g))
    → IsAnswerFor g (columns - 1) (IsSolvedBy rows fixed col) o
short_step_is g columns fixed col rows short o n h k l e m normal shape within =
    let points : (xs : List ℤ) → MatchOption o (¬ HoldRows (whole fixed col rows) xs) (λ kept. HoldRows kept xs ↔ HoldRows (whole fixed col rows) xs) =
    λ xs. moved (HoldRows (short_images_of fixed col rows)) (HoldRows (whole fixed col rows)) o xs (short_hold fixed col rows xs) (rw e at (m xs)) in
    step_is g columns fixed col rows o n h k l
    (settled_is g columns col (images_of fixed col rows) (whole fixed col rows) o l (step_well_formed columns fixed col rows n h k)
    (step_free columns fixed col rows n h k l) refl points normal shape within)
