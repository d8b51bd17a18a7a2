-- Which systems' numbers are less than those of others.
use Rattle.std.proofs.Common.{◌≡◌, ◌↔◌, refl, sym, ap, ◌∙◌, subst, arith, ℕ, zero, suc, ◌+◌, ◌≤◌, ℤ, pos, neg_ℤ, ◌+ℤ◌, ◌*ℤ◌, ◌<ℤ◌, ◌≤ℤ◌}
use Rattle.std.proofs.Common.{List, [], ◌∷◌, ◌++◌, append_assoc, length, length-append, get_or}
use Rattle.std.specs.Prelude.{map, replicate, Result, Ok, Err, Bool, IfOk, IsTrue}
use Rattle.std.specs.List.{All, AllZip}
use Rattle.std.proofs.lemmas.List.{length-map, length-replicate}
use Rattle.std.proofs.lemmas.List.Elements.{All-append, All-cons, All-head, All-map, All-nil}
use Rattle.isl_math.specs.Divide.{floor_div}
use Rattle.isl_math.specs.Dot.{dot}
use Rattle.isl_math.proofs.DotLaws.{dot-append, dot-zeros}
use Rattle.isl_math.proofs.ListLaws.{All-parts, All-zipped, All-zipped_back, Any-element}
use Rattle.isl_math.proofs.Ring.{linear}
use Rattle.isl_meter.specs.Gauge.{Gauge, IsWithin}
use Rattle.isl_meter.proofs.LimitLemmas.{IsWithin-small}
use Rattle.isl_piece.specs.declared.row.Row.{Row}
use Rattle.isl_piece.specs.declared.row.RowKind.TheVariants.{AtLeast, Divides}
use Rattle.isl_piece.specs.Row.{value_at, HoldsRow, IsRowWithin, IsWellFormed}
use Rattle.isl_piece.specs.System.{HoldRows, widened}
use Rattle.isl_piece.proofs.DefinedLaws.{widened_hold}
use Rattle.isl_frame.specs.Frame.{column_at, columns_at, IsFrame, IsThroughBehind}
use Rattle.isl_frame.specs.Needed.{AreKnown, AreRowsOver}
use Rattle.isl_frame.proofs.FrameLaws.{widened_formed, widened_within}
use Rattle.isl_nest.specs.Covered.{view_of, IsCover}
use Rattle.isl_nest.specs.Places.{IsPlace}
use Rattle.isl_nest.specs.declared.item.Item.{Item}
use Rattle.isl_nest.specs.declared.place.Place.{Place}
use Rattle.isl_loops.specs.Order.{ArePairRows, IsLessRow, SystemsPrecede}
use Rattle.isl_loops.specs.Together.{ComesBefore}
use Rattle.isl_loops.proofs.CallLaws.{held}

-- ---- the row of the lesser number
abbrev pub less_row : ℕ → Row
less_row columns =
    record { kind = AtLeast; coefs = (replicate columns (pos 0) ++ neg_ℤ (pos 1) ∷ []) ++ pos 1 ∷ []; constant = neg_ℤ (pos 1); k = pos 1 }

less_value : (columns : ℕ) (point : List ℤ) (x y : ℤ) → length point ≡ columns
    → value_at (less_row columns) (point ++ x ∷ y ∷ []) ≡ y +ℤ neg_ℤ x +ℤ neg_ℤ (pos 1)
less_value columns point x y long =
    by (dot ((replicate columns (pos 0) ++ neg_ℤ (pos 1) ∷ []) ++ pos 1 ∷ []) (point ++ x ∷ y ∷ []))
    (dot (replicate columns (pos 0)) point) x y
    (ap (λ cs. dot cs (point ++ x ∷ y ∷ [])) (append_assoc (replicate columns (pos 0)) (neg_ℤ (pos 1) ∷ []) (pos 1 ∷ []))
    ∙ dot-append (replicate columns (pos 0)) (neg_ℤ (pos 1) ∷ pos 1 ∷ []) point (x ∷ y ∷ []) (length-replicate columns (pos 0) ∙ sym long))
    (dot-zeros columns point)
  where
    by : (whole first x y : ℤ) → whole ≡ first +ℤ (neg_ℤ (pos 1) *ℤ x +ℤ (pos 1 *ℤ y +ℤ pos 0)) → first ≡ pos 0
        → whole +ℤ neg_ℤ (pos 1) ≡ y +ℤ neg_ℤ x +ℤ neg_ℤ (pos 1)
    by whole first x y h none = omega (arith, linear, h, none)

-- it says that the first number is less
pub less_points : (columns : ℕ) (point : List ℤ) (x y : ℤ) → length point ≡ columns
    → HoldsRow (less_row columns) (point ++ x ∷ y ∷ []) ↔ (x <ℤ y)
less_points columns point x y long = by (value_at (less_row columns) (point ++ x ∷ y ∷ [])) (less_value columns point x y long)
  where
    by : (z : ℤ) → z ≡ y +ℤ neg_ℤ x +ℤ neg_ℤ (pos 1) → (pos 0 ≤ℤ z) ↔ (x <ℤ y)
    by z e = ((λ h. omega (arith, linear, e, h)), (λ h. omega (arith, linear, e, h)))

pub less_formed : (columns : ℕ) → IsWellFormed (columns + 2) (less_row columns)
less_formed columns = record {
  width =
      let zeros = replicate columns (pos 0) in
      let outer = length-append (zeros ++ neg_ℤ (pos 1) ∷ []) (pos 1 ∷ []) in
      let inner = length-append zeros (neg_ℤ (pos 1) ∷ []) in
      let long = length-replicate columns (pos 0) in
      omega (arith, outer, inner, long);
  modulus = refl;
}

pub less_within : (g : Gauge) (columns : ℕ) → 8 ≤ g.bits → IsRowWithin g (less_row columns)
less_within g columns wide =
    let none : IsWithin g (pos 0) = IsWithin-small g (pos 0) wide (omega arith) in
    let one : IsWithin g (pos 1) = IsWithin-small g (pos 1) wide (omega arith) in
    let less : IsWithin g (neg_ℤ (pos 1)) = IsWithin-small g (neg_ℤ (pos 1)) wide (omega arith) in
    let last : (z : ℤ) → IsWithin g z → All (IsWithin g) (z ∷ []) = λ z w. All-cons (IsWithin g) z [] w (All-nil (IsWithin g)) in record {
      coefs = All-append (IsWithin g) (replicate columns (pos 0) ++ neg_ℤ (pos 1) ∷ []) (pos 1 ∷ [])
          (All-append (IsWithin g) (replicate columns (pos 0)) (neg_ℤ (pos 1) ∷ []) (zeros columns none) (last (neg_ℤ (pos 1)) less))
          (last (pos 1) one);
      constant = less;
      k = one;
    }
  where
    zeros : (n : ℕ) → IsWithin g (pos 0) → All (IsWithin g) (replicate n (pos 0))
    zeros zero none = All-nil (IsWithin g)
    zeros (suc n) none = All-cons (IsWithin g) (pos 0) (replicate n (pos 0)) none (zeros n none)

pub less_is : (columns : ℕ) (row : Row) → row ≡ less_row columns → IsLessRow columns row
less_is columns row e = rw e (record {
  formed = less_formed columns;
  within = λ g wide. less_within g columns wide;
  points = less_points columns;
})

-- ---- two systems in one
value_wider : (r : Row) (point : List ℤ) (x : ℤ) → length r.coefs ≡ length point → value_at (widened r) (point ++ x ∷ []) ≡ value_at r point
value_wider r point x e =
    by (dot (r.coefs ++ pos 0 ∷ []) (point ++ x ∷ [])) (dot r.coefs point) x r.constant (dot-append r.coefs (pos 0 ∷ []) point (x ∷ []) e)
  where
    by : (whole first x constant : ℤ) → whole ≡ first +ℤ (pos 0 *ℤ x +ℤ pos 0) → whole +ℤ constant ≡ first +ℤ constant
    by whole first x constant h = omega (arith, linear, h)

-- what a frame says of the columns, with one variable more that they do not name
columns_wider : (variables : ℕ) (frame : List Row) (point : List ℤ) (x : ℤ) → All (IsWellFormed variables) frame → length point ≡ variables
    → columns_at (map widened frame) (point ++ x ∷ []) ≡ columns_at frame point
columns_wider variables [] point x formed long = refl
columns_wider variables (r ∷ rows) point x formed long = rw (
  ap (λ z. floor_div z r.k) (value_wider r point x ((formed 0 r (omega arith)).width ∙ sym long)),
  columns_wider variables rows point x (λ k d l. formed (suc k) d (omega (arith, l))) long,
) refl

pub frame_wider : (variables : ℕ) (frame : List Row) → IsFrame variables frame → IsFrame (variables + 1) (map widened frame)
frame_wider variables frame is = record {
  formed = All-map (IsWellFormed (variables + 1)) widened frame (λ k d l. widened_formed variables (get_or frame k d) (is.formed k d l));
  divides = All-map (λ r. r.kind ≡ Divides) widened frame (λ k d l. is.divides k d l);
}

pub within_wider : (g : Gauge) (rows : List Row) → IsWithin g (pos 0) → All (IsRowWithin g) rows → All (IsRowWithin g) (map widened rows)
within_wider g rows none within =
    All-map (IsRowWithin g) widened rows (λ k d l. widened_within g (get_or rows k d) (within k d l) none)

module _ (g : Gauge) (place : Place) (is_place : IsPlace g place) (none : IsWithin g (pos 0)) (one other first second : List Row)
    (goes_first : AllZip (λ row t. IsThroughBehind place.variables row place.frame t) one first)
    (goes_second : AllZip (λ row t. IsThroughBehind (place.variables + 1) row (map widened place.frame) t) other second) where
  abbrev behind : List Row
  behind = map widened place.context ++ first

  abbrev pair : List Row
  pair = map widened behind ++ second

  behind_formed : All (IsWellFormed (place.variables + 1)) behind
  behind_formed = All-append (IsWellFormed (place.variables + 1)) (map widened place.context) first
      (All-map (IsWellFormed (place.variables + 1)) widened place.context
      (λ k d l. widened_formed place.variables (get_or place.context k d) (is_place.context.formed k d l)))
      (All-zipped (λ row t. IsThroughBehind place.variables row place.frame t) (λ r. Unit {0}) (IsWellFormed (place.variables + 1))
      (λ r t i u. i.formed) one first goes_first (λ k d l. tt))

  second_formed : All (IsWellFormed (place.variables + 1 + 1)) second
  second_formed = All-zipped (λ row t. IsThroughBehind (place.variables + 1) row (map widened place.frame) t) (λ r. Unit {0})
      (IsWellFormed (place.variables + 1 + 1)) (λ r t i u. i.formed) other second goes_second (λ k d l. tt)

  pair_over : All (IsRowWithin g) first → All (IsRowWithin g) second → AreRowsOver g (place.variables + 2) pair
  pair_over within_first within_second = record {
    formed = subst (λ n. All (IsWellFormed n) pair) (omega arith)
        (All-append (IsWellFormed (place.variables + 1 + 1)) (map widened behind) second
        (All-map (IsWellFormed (place.variables + 1 + 1)) widened behind
        (λ k d l. widened_formed (place.variables + 1) (get_or behind k d) (behind_formed k d l))) second_formed);
    within = All-append (IsRowWithin g) (map widened behind) second
        (within_wider g behind none (All-append (IsRowWithin g) (map widened place.context) first
        (within_wider g place.context none is_place.context.within) within_first)) within_second;
  }

  pair_points : (point : List ℤ) (x y : ℤ) → length point ≡ place.variables → HoldRows place.frame point
      → HoldRows pair ((point ++ x ∷ []) ++ y ∷ [])
      ↔ (HoldRows place.context point × HoldRows one (columns_at place.frame point ++ x ∷ [])
      × HoldRows other (columns_at place.frame point ++ y ∷ []))
  pair_points point x y long whole =
      let H : Row → Type 0 = λ r. HoldsRow r ((point ++ x ∷ []) ++ y ∷ []) in
      let K : Row → Type 0 = λ r. HoldsRow r (point ++ x ∷ []) in
      let G : Row → Row → Type 0 = λ row t. IsThroughBehind place.variables row place.frame t in
      let F : Row → Row → Type 0 = λ row t. IsThroughBehind (place.variables + 1) row (map widened place.frame) t in
      let A : Row → Type 0 = λ r. HoldsRow r (columns_at place.frame point ++ x ∷ []) in
      let B : Row → Type 0 = λ r. HoldsRow r (columns_at (map widened place.frame) (point ++ x ∷ []) ++ y ∷ []) in
      let longer = length-append point (x ∷ []) ∙ ap (λ n. n + 1) long in
      let outer = widened_hold behind (point ++ x ∷ []) y (subst (λ n. All (IsWellFormed n) behind) (sym longer) behind_formed) in
      let inner = widened_hold place.context point x (subst (λ n. All (IsWellFormed n) place.context) (sym long) is_place.context.formed) in
      let there =
      (widened_hold place.frame point x (subst (λ n. All (IsWellFormed n) place.frame) (sym long) is_place.frame.formed)).1 whole in
      let same = columns_wider place.variables place.frame point x is_place.frame.formed long in (
        (λ h.
            let parts = All-parts H (map widened behind) second h in
            let front = All-parts K (map widened place.context) first (outer.0 parts.0) in (
              inner.0 front.0,
              All-zipped_back G A K (λ r t i p. (i.points point x long whole).0 p) one first goes_first front.1,
              subst (λ (xs : List ℤ). HoldRows other (xs ++ y ∷ [])) same
                  (All-zipped_back F B H (λ r t i p. (i.points (point ++ x ∷ []) y longer there).0 p) other second goes_second parts.1),
            )),
        (λ h.
            All-append H (map widened behind) second
            (outer.1 (All-append K (map widened place.context) first (inner.1 h.0)
            (All-zipped G A K (λ r t i p. (i.points point x long whole).1 p) one first goes_first h.1)))
            (All-zipped F B H (λ r t i p. (i.points (point ++ x ∷ []) y longer there).1 p) other second goes_second
            (subst (λ (xs : List ℤ). HoldRows other (xs ++ y ∷ [])) (sym same) h.2))),
      )

  pub pair_is : (rows : List Row) → rows ≡ pair → All (IsRowWithin g) first → All (IsRowWithin g) second
      → ArePairRows g place one other rows
  pair_is rows e within_first within_second = rw e (record {
    over = pair_over within_first within_second;
    points = λ point x y long whole.
        subst (λ (xs : List ℤ). HoldRows pair xs ↔ (HoldRows place.context point × HoldRows one (columns_at place.frame point ++ x ∷ [])
        × HoldRows other (columns_at place.frame point ++ y ∷ []))) (append_assoc point (x ∷ []) (y ∷ []))
        (pair_points point x y long whole);
  })

-- ---- what is known of them
pub precede_known : (g : Gauge) (place : Place) (one other rows : List Row) (less : Row) → ArePairRows g place one other rows
    → IsLessRow place.variables less → AreKnown (place.variables + 2) rows (less ∷ []) → SystemsPrecede place one other
precede_known g place one other rows less both is known point x y stands first second =
    let long : length (point ++ x ∷ y ∷ []) ≡ place.variables + 2 = length-append point (x ∷ y ∷ []) ∙ ap (λ n. n + 2) stands.width in
    let holds = (both.points point x y stands.width stands.whole).1 (stands.context, first, second) in
    (is.points point x y stands.width).0 (All-head (λ r. HoldsRow r (point ++ x ∷ y ∷ [])) less [] (known (point ++ x ∷ y ∷ []) long holds))

-- an item comes before another one, where each system of its cover precedes each of the other's
pub covers_precede : (g : Gauge) (place : Place) (one other : Item) (firsts seconds : List (List Row))
    → IsCover g (view_of one) (length place.frame + 1) firsts → IsCover g (view_of other) (length place.frame + 1) seconds
    → All (λ s. All (SystemsPrecede place s) seconds) firsts → ComesBefore place one other
covers_precede g place one other firsts seconds first second precede point stands x y p q =
    let columns = columns_at place.frame point in
    let long : (z : ℤ) → length (columns ++ z ∷ []) ≡ length place.frame + 1 =
    λ z. length-append columns (z ∷ []) ∙ ap (λ n. n + 1) (length-map place.frame (column_at point)) in
    let a = Any-element (λ (rows : List Row). HoldRows rows (columns ++ x ∷ [])) firsts (first.begun (columns ++ x ∷ []) (long x) p) in
    let b = Any-element (λ (rows : List Row). HoldRows rows (columns ++ y ∷ [])) seconds (second.begun (columns ++ y ∷ []) (long y) q) in
    held (SystemsPrecede place a.0) seconds b.0 (held (λ s. All (SystemsPrecede place s) seconds) firsts a.0 precede a.1) b.1
    point x y stands a.2 b.2

pub less_over : (g : Gauge) (columns : ℕ) (less : Row) → 8 ≤ g.bits → IsLessRow columns less → AreRowsOver g (columns + 2) (less ∷ [])
less_over g columns less wide is = record {
  formed = All-cons (IsWellFormed (columns + 2)) less [] is.formed (All-nil (IsWellFormed (columns + 2)));
  within = All-cons (IsRowWithin g) less [] (is.within g wide) (All-nil (IsRowWithin g));
}

pub precede_told : {E : Type 0} (answer : Result Bool E) (g : Gauge) (place : Place) (one other rows lesses : List Row) (less : Row)
    → lesses ≡ less ∷ [] → ArePairRows g place one other rows → IsLessRow place.variables less
    → IfOk answer (λ known. IsTrue known ↔ AreKnown (place.variables + 2) rows lesses)
    → IfOk answer (λ precede. IsTrue precede → SystemsPrecede place one other)
precede_told (Ok known) g place one other rows lesses less made both is exact = λ yes.
    precede_known g place one other rows less both is (subst (AreKnown (place.variables + 2) rows) made (exact.0 yes))
precede_told (Err e) g place one other rows lesses less made both is exact = exact
