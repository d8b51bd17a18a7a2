-- What the equality step makes of rows.
use Rattle.std.proofs.Common.{◌≡◌, ◌≢◌, ◌↔◌, ◌∙◌, Option, Some, None, refl, sym, arith, ℕ, ◌-◌, ◌<◌, ◌≤◌, ℤ, pos, ◌+ℤ◌, ◌*ℤ◌, List, [], ◌∷◌, length, map}
use Rattle.std.specs.List.{All, AllZip, insert}
use Rattle.std.proofs.lemmas.List.Elements.{All-head, All-tail, All-cons}
use Rattle.isl_math.specs.Divide as divide
use Rattle.isl_math.specs.Divide.{floor_div}
use Rattle.isl_math.specs.Gcd.{gcd_of}
use Rattle.isl_math.proofs.GcdLaws.{IsGcdOf-gcd_of}
use Rattle.isl_math.proofs.Ring.{linear}
use lib.IntN.{*ℤ_comm}
use Rattle.isl_math.specs.Order.{abs_of, sign_of}
use Rattle.isl_math.proofs.OrderLaws.{sign-*ℤ, sign-*ℤ-abs, abs_positive}
use Rattle.isl_math.proofs.DivideLaws.{Divides-zero, Divides-same, Divides_self, Divides-*ℤ, Divides_trans}
use Rattle.isl_piece.specs.declared.row.RowKind.{RowKind}
use Rattle.isl_piece.specs.declared.row.RowKind.TheVariants.{Zero, AtLeast, Divides, NotDivides}
use Rattle.isl_piece.specs.declared.row.Row.{Row}
use Rattle.isl_piece.specs.Row.{HoldsRow, value_at, coef_at, IsWellFormed}
use Rattle.isl_meter.specs.Gauge.{Gauge}
use Rattle.isl_omega.specs.Column.{IsFree, IsFreeKind, HoldAt, rest_at, IsAnswerFor}
use Rattle.isl_piece.specs.Combine.{combination}
use Rattle.isl_omega.specs.Equality.{AreFactors, IsSolvedBy, solvable, row_factor, equality_factor, image_of, images_of}
use Rattle.isl_omega.proofs.ColumnLemmas.{value_at-insert, hold_anywhere}
use Rattle.isl_piece.proofs.CombineLaws.{value_at-combination, coef_at-combination, holds_scaled, combination_well_formed}
use Rattle.isl_omega.proofs.EqualityLemmas.{multiple_of_zero, some_solution, AreFactors-from_gcd}
use Rattle.isl_math.proofs.ListLaws.{All-zipped, All-zipped_back, AllZip-with}

pub free_of_zero : (kind : RowKind) (k c : ℤ) → c ≡ pos 0 → IsFreeKind kind k c
free_of_zero Zero k c e = e
free_of_zero AtLeast k c e = e
free_of_zero Divides k c e = rw e (Divides-zero k)
free_of_zero NotDivides k c e = rw e (Divides-zero k)

-- `image` is a sum of multiples of the row and of `fixed` in which the column cancels. So where `fixed` is 0, both say the same
pub record IsImage (fixed : Row) (col : ℕ) (row image : Row) : Type 0 where
  pub m : ℤ
  pub n : ℤ
  pub factors : AreFactors (coef_at fixed col) (coef_at row col) m n
  pub is : image ≡ combination m row n fixed

-- ---- one row
pub image_well_formed : (columns : ℕ) (fixed : Row) (col : ℕ) (row image : Row) → IsImage fixed col row image → IsWellFormed columns row → IsWellFormed columns fixed → IsWellFormed columns image
image_well_formed columns fixed col row image i h k = rw i.is (combination_well_formed columns i.m row i.n fixed i.factors.positive h k)

pub image_free : (columns : ℕ) (fixed : Row) (col : ℕ) (row image : Row) → IsImage fixed col row image → IsWellFormed columns row → IsWellFormed columns fixed → col < columns → IsFree col image
image_free columns fixed col row image i h k l = free_of_zero image.kind image.k (coef_at image col) (rw i.is (coef_at-combination i.m row i.n fixed col (let e = h.width in let f = k.width in omega arith) (let e = h.width in omega arith) ∙ i.factors.cancel))

pub image_same : (columns : ℕ) (fixed : Row) (col : ℕ) (row image : Row) (xs : List ℤ) → IsImage fixed col row image → IsWellFormed columns row → IsWellFormed columns fixed → value_at fixed xs ≡ pos 0 → HoldsRow image xs ↔ HoldsRow row xs
image_same columns fixed col row image xs i h k z = rw i.is (by (let e = h.width in let f = k.width in omega arith))
  where
    by : length row.coefs ≡ length fixed.coefs → HoldsRow (combination i.m row i.n fixed) xs ↔ HoldsRow row xs
    by w = rw (value_at-combination i.m row i.n fixed xs w ∙ multiple_of_zero i.m (value_at row xs) i.n (value_at fixed xs) z) (holds_scaled row.kind i.m row.k (value_at row xs) i.factors.positive)

-- ---- all rows
pub images_well_formed : (columns : ℕ) (fixed : Row) (col : ℕ) (rows images : List Row) → AllZip (IsImage fixed col) rows images → All (IsWellFormed columns) rows → IsWellFormed columns fixed → All (IsWellFormed columns) images
images_well_formed columns fixed col rows images z h k = All-zipped (IsImage fixed col) (IsWellFormed columns) (IsWellFormed columns) (λ row image i w. image_well_formed columns fixed col row image i w k) rows images z h

pub images_free : (columns : ℕ) (fixed : Row) (col : ℕ) (rows images : List Row) → AllZip (IsImage fixed col) rows images → All (IsWellFormed columns) rows → IsWellFormed columns fixed → col < columns → All (IsFree col) images
images_free columns fixed col rows images z h k l = All-zipped (IsImage fixed col) (IsWellFormed columns) (IsFree col) (λ row image i w. image_free columns fixed col row image i w k l) rows images z h

pub images_same : (columns : ℕ) (fixed : Row) (col : ℕ) (rows images : List Row) (xs : List ℤ) → AllZip (IsImage fixed col) rows images → All (IsWellFormed columns) rows → IsWellFormed columns fixed → value_at fixed xs ≡ pos 0
    → All (λ r. HoldsRow r xs) images ↔ All (λ r. HoldsRow r xs) rows
images_same columns fixed col rows images xs z h k e =
    let both = AllZip-with (IsImage fixed col) (IsWellFormed columns) rows images z h in (
      All-zipped_back (λ row image. IsImage fixed col row image × IsWellFormed columns row) (λ r. HoldsRow r xs) (λ r. HoldsRow r xs) (λ row image i. (image_same columns fixed col row image xs i.0 i.1 k e).0) rows images both,
      All-zipped (λ row image. IsImage fixed col row image × IsWellFormed columns row) (λ r. HoldsRow r xs) (λ r. HoldsRow r xs) (λ row image i. (image_same columns fixed col row image xs i.0 i.1 k e).1) rows images both,
    )

-- ---- the row that says where the equality has a solution
abs_divides : (p : ℤ) → divide.Divides (abs_of p) p
abs_divides p = Divides-same (abs_of p) (abs_of p *ℤ sign_of p) p (*ℤ_comm (abs_of p) (sign_of p) ∙ sign-*ℤ-abs p) (Divides-*ℤ (abs_of p) (abs_of p) (sign_of p) (Divides_self (abs_of p)))

Divides_abs : (p f : ℤ) → divide.Divides (abs_of p) f ↔ divide.Divides p f
Divides_abs p f = (
  (λ d. Divides_trans p (abs_of p) f (Divides-same p (p *ℤ sign_of p) (abs_of p) (*ℤ_comm p (sign_of p) ∙ sign-*ℤ p) (Divides-*ℤ p p (sign_of p) (Divides_self p))) d),
  (λ d. Divides_trans (abs_of p) p f (abs_divides p) d),
)

pub solvable_well_formed : (columns : ℕ) (fixed : Row) (col : ℕ) → IsWellFormed columns fixed → coef_at fixed col ≢ pos 0 → IsWellFormed columns (solvable fixed col)
solvable_well_formed columns fixed col h n = record { width = h.width; modulus = abs_positive (coef_at fixed col) n }

pub solvable_free : (fixed : Row) (col : ℕ) → IsFree col (solvable fixed col)
solvable_free fixed col = abs_divides (coef_at fixed col)

-- ---- the step
-- the images and that row hold with any x at the column exactly where some x solves the equality and meets all rows
pub equality_step_is : (columns : ℕ) (fixed : Row) (col : ℕ) (rows images : List Row) (point : List ℤ) → AllZip (IsImage fixed col) rows images → All (IsWellFormed columns) rows → IsWellFormed columns fixed → col < columns → length point ≡ columns - 1
    → HoldAt (solvable fixed col ∷ images) col point (pos 0) ↔ IsSolvedBy rows fixed col point
equality_step_is columns fixed col rows images point z h k l n =
    let wide : col < length fixed.coefs = (let e = k.width in omega arith) in
    let inside : col ≤ length point = omega arith in
    let shape : (x : ℤ) → value_at fixed (insert point col x) ≡ coef_at fixed col *ℤ x +ℤ rest_at fixed col point = λ x. value_at-insert fixed col point x wide inside in (
      (λ a.
          let H : Row → Type 0 = λ r. HoldsRow r (insert point col (pos 0)) in
          let first = All-head H (solvable fixed col) images a in
          let others = All-tail H (solvable fixed col) images a in
          let divides = (Divides_abs (coef_at fixed col) (rest_at fixed col point)).0 (nought (abs_of (coef_at fixed col)) (coef_at fixed col) (rest_at fixed col point) (rw shape at first)) in
          let s = (some_solution (coef_at fixed col) (rest_at fixed col point)).1 divides in
          let zero_there = shape s.0 ∙ s.1 in
          (s.0, zero_there, (images_same columns fixed col rows images (insert point col s.0) z h k zero_there).0 (hold_anywhere columns col images point (pos 0) s.0 l n (images_well_formed columns fixed col rows images z h k) (images_free columns fixed col rows images z h k l) others))),
      (λ s.
          let divides = (some_solution (coef_at fixed col) (rest_at fixed col point)).0 (s.0, sym (shape s.0) ∙ s.1) in
          All-cons (λ r. HoldsRow r (insert point col (pos 0))) (solvable fixed col) images
          (rw shape (beside (abs_of (coef_at fixed col)) (coef_at fixed col) (rest_at fixed col point) ((Divides_abs (coef_at fixed col) (rest_at fixed col point)).1 divides)))
          (hold_anywhere columns col images point s.0 (pos 0) l n (images_well_formed columns fixed col rows images z h k) (images_free columns fixed col rows images z h k l) ((images_same columns fixed col rows images (insert point col s.0) z h k s.1).1 s.2))),
    )
  where
    nought : (k c f : ℤ) → divide.Divides k (c *ℤ pos 0 +ℤ f) → divide.Divides k f
    nought k c f d = Divides-same k (c *ℤ pos 0 +ℤ f) f (omega (arith, linear)) d

    beside : (k c f : ℤ) → divide.Divides k f → divide.Divides k (c *ℤ pos 0 +ℤ f)
    beside k c f d = Divides-same k f (c *ℤ pos 0 +ℤ f) (omega (arith, linear)) d

-- ---- what the step puts together
pub is_image : (fixed : Row) (col : ℕ) (row : Row) → coef_at fixed col ≢ pos 0 → IsImage fixed col row (image_of fixed col row)
is_image fixed col row n =
    let e = coef_at fixed col in
    let a = coef_at row col in
    record { m = row_factor e a; n = equality_factor e a; factors = AreFactors-from_gcd e a (gcd_of e a) (row_factor e a) (floor_div (sign_of e *ℤ a) (gcd_of e a)) (equality_factor e a) n (IsGcdOf-gcd_of e a) refl refl refl; is = refl }

are_images : (fixed : Row) (col : ℕ) (rows : List Row) → coef_at fixed col ≢ pos 0 → AllZip (IsImage fixed col) rows (map (image_of fixed col) rows)
are_images fixed col [] n = tt
are_images fixed col (r ∷ rows) n = (is_image fixed col r n, are_images fixed col rows n)

pub step_well_formed : (columns : ℕ) (fixed : Row) (col : ℕ) (rows : List Row) → coef_at fixed col ≢ pos 0 → All (IsWellFormed columns) rows → IsWellFormed columns fixed → All (IsWellFormed columns) (images_of fixed col rows)
step_well_formed columns fixed col rows n h k =
    let images = map (image_of fixed col) rows in
    All-cons (IsWellFormed columns) (solvable fixed col) images (solvable_well_formed columns fixed col k n) (images_well_formed columns fixed col rows images (are_images fixed col rows n) h k)

pub step_free : (columns : ℕ) (fixed : Row) (col : ℕ) (rows : List Row) → coef_at fixed col ≢ pos 0 → All (IsWellFormed columns) rows → IsWellFormed columns fixed → col < columns → All (IsFree col) (images_of fixed col rows)
step_free columns fixed col rows n h k l =
    let images = map (image_of fixed col) rows in
    All-cons (IsFree col) (solvable fixed col) images (solvable_free fixed col) (images_free columns fixed col rows images (are_images fixed col rows n) h k l)

-- what answers one answers the other
pub answer_same : (g : Gauge) (columns : ℕ) (P Q : List ℤ → Type 0) → ((point : List ℤ) → length point ≡ columns → P point ↔ Q point) → (o : Option (List Row)) → IsAnswerFor g columns P o → IsAnswerFor g columns Q o
answer_same g columns P Q f None h = λ point n q. h point n ((f point n).1 q)
answer_same g columns P Q f (Some rows) h = record { proper = h.proper; normal = h.normal; points = λ point n. ((λ a. (f point n).0 ((h.points point n).0 a)), (λ q. (h.points point n).1 ((f point n).1 q))) }

pub step_is : (g : Gauge) (columns : ℕ) (fixed : Row) (col : ℕ) (rows : List Row) (o : Option (List Row)) → coef_at fixed col ≢ pos 0 → All (IsWellFormed columns) rows → IsWellFormed columns fixed → col < columns
    → IsAnswerFor g (columns - 1) (λ point. HoldAt (images_of fixed col rows) col point (pos 0)) o → IsAnswerFor g (columns - 1) (IsSolvedBy rows fixed col) o
step_is g columns fixed col rows o n h k l s =
    answer_same g (columns - 1) (λ point. HoldAt (images_of fixed col rows) col point (pos 0)) (IsSolvedBy rows fixed col)
    (λ point w. equality_step_is columns fixed col rows (map (image_of fixed col) rows) point (are_images fixed col rows n) h k l w) o s
