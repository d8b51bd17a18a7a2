-- A row's value by its part at one column, and rows that do not depend on it.
use Rattle.std.proofs.Common.{◌≡◌, ◌≢◌, ◌↔◌, ◌∙◌, Option, Some, None, MatchOption, refl, sym, ap, subst, map, ◌-◌, arith, ℕ, zero, suc, ◌+◌, ◌<◌, ◌≤◌, ℤ, pos, ◌+ℤ◌, ◌-ℤ◌, ◌*ℤ◌, List, [], ◌∷◌, ◌++◌, length, get_or, take, drop, add-one}
use Rattle.std.specs.List.{All, insert, remove}
use Rattle.std.proofs.lemmas.List.Edits.{length-remove}
use Rattle.std.proofs.lemmas.List.Elements.{All-append, All-take, All-drop, All-map, All-weaker}
use Rattle.std.proofs.lemmas.List.{take_more, take_all, get_or-map, length-map}
use Rattle.isl_math.specs.Divide as divide
use Rattle.isl_math.specs.Dot.{dot}
use Rattle.isl_math.proofs.Ring.{expand, linear}
use Rattle.isl_math.proofs.ColumnLaws.{dot-insert}
use Rattle.isl_math.proofs.DivideLaws.{Divides-+ℤ, Divides-*ℤ, Divides-same}
use Rattle.isl_piece.specs.declared.row.RowKind.{RowKind}
use Rattle.isl_piece.specs.declared.row.RowKind.TheVariants.{Zero, AtLeast, Divides, NotDivides}
use Rattle.isl_piece.specs.declared.row.Row.{Row}
use Rattle.isl_piece.specs.System.{HoldRows}
use Rattle.isl_piece.specs.Normal.{IsNormal}
use Rattle.std.specs.Prelude.{IfSome}
use Rattle.isl_piece.specs.Row.{HasModulus, HoldsValue, HoldsRow, value_at, coef_at, IsWellFormed, IsRowWithin}
use Rattle.isl_meter.specs.Gauge.{Gauge, IsWithin}
use Rattle.isl_omega.specs.Column.{rest_at, IsFreeKind, IsFree, HoldAt, dropped, IsProper, IsAnswerFor}

-- the value at a point with x at the column
pub value_at-insert : (r : Row) (col : ℕ) (point : List ℤ) (x : ℤ) → col < length r.coefs → col ≤ length point → value_at r (insert point col x) ≡ coef_at r col *ℤ x +ℤ rest_at r col point
value_at-insert r col point x h k = by (dot r.coefs (insert point col x)) (coef_at r col *ℤ x) (dot (remove r.coefs col) point) r.constant (dot-insert r.coefs point col x h k)
  where
    by : (d y e c : ℤ) → d ≡ y +ℤ e → d +ℤ c ≡ y +ℤ (e +ℤ c)
    by d y e c h = omega (arith, linear)

-- a row that is free of the column holds at any x there or at none
free_same : (kind : RowKind) (k c x y f : ℤ) → IsFreeKind kind k c → HoldsValue kind k (c *ℤ x +ℤ f) → HoldsValue kind k (c *ℤ y +ℤ f)
free_same Zero k c x y f z h = let e = zeros c x y f z in sym e ∙ h
  where
    zeros : (c x y f : ℤ) → c ≡ pos 0 → c *ℤ x +ℤ f ≡ c *ℤ y +ℤ f
    zeros c x y f z = let a = ap (λ w. w *ℤ x) z in let b = ap (λ w. w *ℤ y) z in omega (arith, linear)
free_same AtLeast k c x y f z h = let a = ap (λ w. w *ℤ x) z in let b = ap (λ w. w *ℤ y) z in omega (arith, linear)
free_same Divides k c x y f z h = moved k c x y f z h
  where
    moved : (k c x y f : ℤ) → divide.Divides k c → divide.Divides k (c *ℤ x +ℤ f) → divide.Divides k (c *ℤ y +ℤ f)
    moved k c x y f z h = Divides-same k (c *ℤ x +ℤ f +ℤ c *ℤ (y -ℤ x)) (c *ℤ y +ℤ f) (simp expand (omega (arith, linear))) (Divides-+ℤ k (c *ℤ x +ℤ f) (c *ℤ (y -ℤ x)) h (Divides-*ℤ k c (y -ℤ x) z))
free_same NotDivides k c x y f z h = λ d. h (moved k c y x f z d)
  where
    moved : (k c x y f : ℤ) → divide.Divides k c → divide.Divides k (c *ℤ x +ℤ f) → divide.Divides k (c *ℤ y +ℤ f)
    moved k c x y f z h = Divides-same k (c *ℤ x +ℤ f +ℤ c *ℤ (y -ℤ x)) (c *ℤ y +ℤ f) (simp expand (omega (arith, linear))) (Divides-+ℤ k (c *ℤ x +ℤ f) (c *ℤ (y -ℤ x)) h (Divides-*ℤ k c (y -ℤ x) z))

pub free_anywhere : (r : Row) (col : ℕ) (point : List ℤ) (x y : ℤ) → col < length r.coefs → col ≤ length point → IsFree col r → HoldsRow r (insert point col x) → HoldsRow r (insert point col y)
free_anywhere r col point x y h k f m =
    let at_x = value_at-insert r col point x h k in
    let at_y = value_at-insert r col point y h k in
    rw at_y (free_same r.kind r.k (coef_at r col) x y (rest_at r col point) f (rw at_x at m))

-- the row without the column says what the row says with any x there
pub holds_dropped : (r : Row) (col : ℕ) (point : List ℤ) (x : ℤ) → col < length r.coefs → col ≤ length point → IsFree col r → HoldsRow (dropped r col) point ↔ HoldsRow r (insert point col x)
holds_dropped r col point x h k f =
    let at_zero = value_at-insert r col point (pos 0) h k in
    let same : value_at r (insert point col (pos 0)) ≡ rest_at r col point = at_zero ∙ nought (coef_at r col) (rest_at r col point) in (
      (λ m. free_anywhere r col point (pos 0) x h k f (rw same m)),
      (λ m. rw same at (free_anywhere r col point x (pos 0) h k f m)),
    )
  where
    nought : (c f : ℤ) → c *ℤ pos 0 +ℤ f ≡ f
    nought c f = omega (arith, linear)

-- ---- the loop that leaves one number out
pub remove-take_more : (xs : List ℤ) (col i : ℕ) → i < length xs → i ≢ col → remove (take (i + 1) xs) col ≡ remove (take i xs) col ++ get_or xs i (pos 0) ∷ []
remove-take_more xs col i h n = rw add-one (by xs col i h n)
  where
    by : (xs : List ℤ) (col i : ℕ) → i < length xs → i ≢ col → remove (take (suc i) xs) col ≡ remove (take i xs) col ++ get_or xs i (pos 0) ∷ []
    by [] col i h n = absurd (omega arith)
    by (x ∷ xs) zero zero h n = absurd (n refl)
    by (x ∷ xs) zero (suc i) h n = (let e = take_more xs i (pos 0) (omega arith) in rw add-one at e)
    by (x ∷ xs) (suc col) zero h n = ap (λ ys. x ∷ (ys ++ [])) (take_all col [] (omega arith))
    by (x ∷ xs) (suc col) (suc i) h n = ap (λ ys. x ∷ ys) (by xs col i (omega arith) (λ e. n (ap suc e)))

pub remove-take_at : (xs : List ℤ) (col i : ℕ) → i < length xs → i ≡ col → remove (take (i + 1) xs) col ≡ remove (take i xs) col
remove-take_at xs col i h e = rw add-one (by xs col i h e)
  where
    by : (xs : List ℤ) (col i : ℕ) → i < length xs → i ≡ col → remove (take (suc i) xs) col ≡ remove (take i xs) col
    by [] col i h e = absurd (omega arith)
    by (x ∷ xs) zero zero h e = refl
    by (x ∷ xs) zero (suc i) h e = absurd (omega arith)
    by (x ∷ xs) (suc col) zero h e = absurd (omega arith)
    by (x ∷ xs) (suc col) (suc i) h e = ap (λ ys. x ∷ ys) (by xs col i (omega arith) (omega arith))

pub ruleset removals = (remove-take_more, remove-take_at)

-- ---- lists of rows without the column
well_formed_dropped : (columns col : ℕ) (r : Row) → col < columns → IsWellFormed columns r → IsWellFormed (columns - 1) (dropped r col)
well_formed_dropped columns col r h w = record { width = (let n = length-remove r.coefs col (let e = w.width in omega arith) in let e = w.width in omega arith); modulus = w.modulus }

pub row_within_dropped : (g : Gauge) (col : ℕ) (r : Row) → IsRowWithin g r → IsRowWithin g (dropped r col)
row_within_dropped g col r w = record {
  coefs = All-append (IsWithin g) (take col r.coefs) (drop (suc col) r.coefs) (All-take (IsWithin g) col r.coefs w.coefs) (All-drop (IsWithin g) (suc col) r.coefs w.coefs);
  constant = w.constant;
  k = w.k;
}

pub rows_formed : (columns col : ℕ) (rows : List Row) → col < columns → All (IsWellFormed columns) rows → All (IsWellFormed (columns - 1)) (map (λ r. dropped r col) rows)
rows_formed columns col rows h w = All-map (IsWellFormed (columns - 1)) (λ r. dropped r col) rows (All-weaker (IsWellFormed columns) (λ r. IsWellFormed (columns - 1) (dropped r col)) (λ r. well_formed_dropped columns col r h) rows w)

pub rows_within : (g : Gauge) (col : ℕ) (rows : List Row) → All (IsRowWithin g) rows → All (IsRowWithin g) (map (λ r. dropped r col) rows)
rows_within g col rows i = All-map (IsRowWithin g) (λ r. dropped r col) rows (All-weaker (IsRowWithin g) (λ r. IsRowWithin g (dropped r col)) (row_within_dropped g col) rows i)

-- the rows without the column hold at a point exactly where the rows do with any x there
pub hold_dropped : (columns col : ℕ) (rows : List Row) (point : List ℤ) (x : ℤ) → col < columns → length point ≡ columns - 1 → All (IsWellFormed columns) rows → All (IsFree col) rows
    → All (λ r. HoldsRow r point) (map (λ r. dropped r col) rows) ↔ HoldAt rows col point x
hold_dropped columns col rows point x h l w f = (
  (λ m i d n. (one i d n).0 (subst (λ q. HoldsRow q point) (get_or-map (λ r. dropped r col) rows i d (dropped d col) n) (m i (dropped d col) (let e = length-map rows (λ r. dropped r col) in omega arith)))),
  (λ m. All-map (λ r. HoldsRow r point) (λ r. dropped r col) rows (λ i d n. (one i d n).1 (m i d n))),
)
  where
    one : (i : ℕ) (d : Row) (n : i < length rows) → HoldsRow (dropped (get_or rows i d) col) point ↔ HoldsRow (get_or rows i d) (insert point col x)
    one i d n = holds_dropped (get_or rows i d) col point x (let e = (w i d n).width in omega arith) (omega arith) (f i d n)

-- ---- what `settled` makes
pub moduli_of : (columns : ℕ) (rows : List Row) → All (IsWellFormed columns) rows → All (λ r. HasModulus r.kind r.k) rows
moduli_of columns rows w = All-weaker (IsWellFormed columns) (λ r. HasModulus r.kind r.k) (λ r f. f.modulus) rows w

pub proper_of : (g : Gauge) (columns : ℕ) (rows : List Row) → All (IsWellFormed columns) rows → All (IsRowWithin g) rows → All (IsProper g columns) rows
proper_of g columns rows w i = λ k d n. record { formed = w k d n; within = i k d n }

pub settled_is : (g : Gauge) (columns col : ℕ) (rows short : List Row) (o : Option (List Row)) → col < columns → All (IsWellFormed columns) rows → All (IsFree col) rows → short ≡ map (λ r. dropped r col) rows
    → ((xs : List ℤ) → MatchOption o (¬ HoldRows short xs) (λ kept. HoldRows kept xs ↔ HoldRows short xs))
    → IfSome o IsNormal → IfSome o (All (IsWellFormed (columns - 1))) → IfSome o (All (IsRowWithin g))
    → IsAnswerFor g (columns - 1) (λ point. HoldAt rows col point (pos 0)) o
settled_is g columns col rows short None h w f e m k s i = λ point n a. m point (rw e ((hold_dropped columns col rows point (pos 0) h n w f).1 a))
settled_is g columns col rows short (Some kept) h w f e m k s i = record {
  proper = proper_of g (columns - 1) kept s i;
  normal = k;
  points = λ point n. ((λ a. (hold_dropped columns col rows point (pos 0) h n w f).0 (rw e at ((m point).0 a))), (λ a. (m point).1 (rw e ((hold_dropped columns col rows point (pos 0) h n w f).1 a))));
}

-- rows that are free of the column hold at any x there or at none
pub hold_anywhere : (columns col : ℕ) (rows : List Row) (point : List ℤ) (x y : ℤ) → col < columns → length point ≡ columns - 1 → All (IsWellFormed columns) rows → All (IsFree col) rows → HoldAt rows col point x → HoldAt rows col point y
hold_anywhere columns col rows point x y h n w f a = λ i d l. free_anywhere (get_or rows i d) col point x y (let e = (w i d l).width in omega arith) (omega arith) (f i d l) (a i d l)
