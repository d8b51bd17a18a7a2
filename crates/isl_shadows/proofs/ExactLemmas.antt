-- Exact columns: some whole number meets the rows exactly where the free rows and the real rows hold.
use Rattle.std.proofs.Common.{◌≡◌, ◌≢◌, ◌↔◌, ◌⊎◌, inl, inr, Option, MatchOption, Bool, true, ◌∙◌, refl, sym, ap, map, arith, ℕ, ◌+◌, ◌-◌, ◌<◌, ◌≤◌, ℤ, pos, neg_ℤ, ◌≤ℤ◌, ◌<ℤ◌, List, [], ◌∷◌, ◌++◌, append_assoc, length, get_or, take, drop}
use Rattle.std.specs.Prelude.{IfSome, IfOk, Result, Ok, Err}
use Rattle.std.specs.List.{All, insert}
use Rattle.std.proofs.lemmas.List.{append-nil, take_more, take-append-drop, map-append, length-append}
use Rattle.std.proofs.lemmas.List.Elements.{All-nil, All-cons, All-head, All-tail, All-append, All-map, All-filter, All-weaker, filter-append, filter_passes}
use Rattle.isl_math.specs.Order.{abs_of}
use Rattle.isl_math.proofs.Ring.{linear}
use Rattle.isl_meter.specs.Gauge.{Gauge, IsDoneWithin}
use Rattle.isl_meter.specs.declared.Cut.{Cut}
use Rattle.isl_meter.proofs.UnitLemmas.{charged_weaker, cut_weaker}
use Rattle.isl_piece.specs.declared.row.Row.{Row}
use Rattle.isl_piece.specs.Normal.{IsNormal}
use Rattle.isl_piece.specs.Row.{HoldsRow, IsWellFormed, IsRowWithin, value_at, coef_at}
use Rattle.isl_piece.specs.System.{HoldRows}
use Rattle.isl_omega.specs.Column.{IsFree, HoldAt, dropped, IsAnswerFor, IsProper}
use Rattle.isl_shadows.specs.Column.{HoldAtSome}
use Rattle.isl_shadows.specs.RealShadow.{HoldReally}
use Rattle.isl_shadows.specs.Exact.{IsExactRow, IsExactColumn, real_rows, rows_left, pairs_on, AreAdded}
use Rattle.isl_omega.specs.Shadow.{IsReal, lower_at, upper_at, IsRealRow, real_row}
use Rattle.isl_omega.specs.Equality.{HasEquality}
use Rattle.isl_omega.specs.Sides.{IsLower, IsUpper, IsFreeRow, AreSidesOf, AreSided, on_side, side_of, is_same}
use Rattle.isl_shadows.specs.Units.{elimination_units}
use Rattle.isl_omega.specs.declared.sides.Side.{Side}
use Rattle.isl_omega.specs.declared.sides.Side.TheVariants.{Lower, Upper, Divides, NotDivides, Free}
use Rattle.isl_omega.specs.declared.sides.Sides.{Sides}
use Rattle.isl_shadows.proofs.DarkShadowLemmas.{dark_meets}
use Rattle.isl_omega.specs.Units.{IsDoneFor}
use Rattle.isl_omega.proofs.ColumnLemmas.{rows_formed, settled_is}
use Rattle.isl_omega.proofs.ExactUnits.{charged_up_to}
use Rattle.isl_shadows.proofs.EliminateLemmas.{formed_of}
use Rattle.isl_omega.proofs.ImageLemmas.{free_of_zero, answer_same}
use Rattle.isl_math.proofs.ListLaws.{All-parts, All-unmapped}
use Rattle.isl_omega.proofs.PairLemmas.{real_row_of, together_is, holds_at_least}
use Rattle.isl_omega.proofs.Pairs.{real_divided}
use Rattle.isl_omega.proofs.ShadowLemmas.{real_pair, exact_pair}
use Rattle.isl_omega.proofs.ShadowRows.{lower_meets, upper_meets}
use Rattle.isl_omega.proofs.SideLemmas.{free_rows_hold, same_from, means_of, sides_are, sides_hold}
use Rattle.isl_shadows.proofs.UnitLemmas.{pairs_cost}
use Rattle.isl_piece.proofs.RowMagnitudes.{row_within_kept, rows_within_kept}

-- ---- one pair
real_is : (g : Gauge) (columns col : ℕ) (lower upper : Row) → IsLower g columns col lower → IsUpper g columns col upper → col < columns → IsRealRow columns col lower upper (pos 1) (real_row col lower upper)
real_is g columns col lower upper hl hu l = real_row_of g columns col lower upper (pos 1) (coef_at lower col) (neg_ℤ (coef_at upper col)) (real_row col lower upper) hl hu l (omega (arith, linear)) (omega (arith, linear)) (omega (arith, linear)) refl

real_free : (g : Gauge) (columns col : ℕ) (lower upper : Row) → IsLower g columns col lower → IsUpper g columns col upper → col < columns → IsFree col (real_row col lower upper)
real_free g columns col lower upper hl hu l = let r = real_row col lower upper in free_of_zero r.kind r.k (coef_at r col) (real_is g columns col lower upper hl hu l).gone

-- the real row holds where the pair is real
real_holds : (g : Gauge) (columns col : ℕ) (lower upper : Row) (point : List ℤ) (x : ℤ) → IsLower g columns col lower → IsUpper g columns col upper → col < columns → length point ≡ columns - 1
    → HoldsRow (real_row col lower upper) (insert point col x) ↔ IsReal (lower_at col point lower) (upper_at col point upper)
real_holds g columns col lower upper point x hl hu l n =
    let row = real_row col lower upper in
    let r = real_is g columns col lower upper hl hu l in
    let holds = holds_at_least row.kind row.k (value_at row (insert point col x)) r.kind in
    let whole = together_is g columns col lower upper point x hl hu l n in
    let pair = real_divided (lower_at col point lower) (upper_at col point upper) (pos 1) (value_at row (insert point col x)) r.positive
    (whole ∙ r.value (insert point col x)) in
    ((λ h. pair.1 (holds.0 h)), (λ h. holds.1 (pair.0 h)))

-- ---- all pairs
all_real : (P : Row → Type 0) (col : ℕ) (lowers uppers : List Row) → All (λ l. All (λ u. P (real_row col l u)) uppers) lowers → All P (real_rows col lowers uppers)
all_real P col [] uppers h = All-nil P
all_real P col (l ∷ lowers) uppers h =
    All-append P (map (real_row col l) uppers) (real_rows col lowers uppers) (All-map P (real_row col l) uppers (All-head (λ l. All (λ u. P (real_row col l u)) uppers) l lowers h))
    (all_real P col lowers uppers (All-tail (λ l. All (λ u. P (real_row col l u)) uppers) l lowers h))

each_real : (P : Row → Type 0) (col : ℕ) (lowers uppers : List Row) → All P (real_rows col lowers uppers) → All (λ l. All (λ u. P (real_row col l u)) uppers) lowers
each_real P col [] uppers h = All-nil (λ l. All (λ u. P (real_row col l u)) uppers)
each_real P col (l ∷ lowers) uppers h =
    let parts = All-parts P (map (real_row col l) uppers) (real_rows col lowers uppers) h in
    All-cons (λ l. All (λ u. P (real_row col l u)) uppers) l lowers (All-unmapped P (real_row col l) uppers parts.0) (each_real P col lowers uppers parts.1)

pub real_rows-append : (col : ℕ) (lowers others uppers : List Row) → real_rows col (lowers ++ others) uppers ≡ real_rows col lowers uppers ++ real_rows col others uppers
real_rows-append col [] others uppers = refl
real_rows-append col (l ∷ lowers) others uppers = ap (λ (rows : List Row). map (real_row col l) uppers ++ rows) (real_rows-append col lowers others uppers) ∙ sym (append_assoc (map (real_row col l) uppers) (real_rows col lowers uppers) (real_rows col others uppers))

-- ---- what an exact column has on its sides
-- the bounds of a side have the factor 1
unit_factors : (side : Side) (col : ℕ) (rows : List Row) → All (IsExactRow side col) rows → All (λ r. abs_of (coef_at r col) ≡ pos 1) (on_side side col rows)
unit_factors side col rows h = λ k d i.
    let r = get_or (on_side side col rows) k d in
    (All-filter (λ r. is_same side (side_of col r)) (IsExactRow side col) rows h k d i).factor (same_from side (side_of col r) (filter_passes (λ r. is_same side (side_of col r)) rows k d i))

-- no row is on a side that none has
none_on : (P : Row → Type 0) (side : Side) (col : ℕ) (rows : List Row) → All (λ r. side_of col r ≢ side) rows → All P (on_side side col rows)
none_on P side col rows h = λ k d i.
    let r = get_or (on_side side col rows) k d in
    absurd (All-filter (λ r. is_same side (side_of col r)) (λ r. side_of col r ≢ side) rows h k d i (same_from side (side_of col r) (filter_passes (λ r. is_same side (side_of col r)) rows k d i)))

no_congruence : (col : ℕ) (rows : List Row) → IsExactColumn col rows → All (λ r. side_of col r ≢ Divides) rows × All (λ r. side_of col r ≢ NotDivides) rows
no_congruence col rows (inl h) = (All-weaker (IsExactRow Lower col) (λ r. side_of col r ≢ Divides) (λ r e. e.lacks_divides) rows h, All-weaker (IsExactRow Lower col) (λ r. side_of col r ≢ NotDivides) (λ r e. e.lacks_not_divides) rows h)
no_congruence col rows (inr h) = (All-weaker (IsExactRow Upper col) (λ r. side_of col r ≢ Divides) (λ r e. e.lacks_divides) rows h, All-weaker (IsExactRow Upper col) (λ r. side_of col r ≢ NotDivides) (λ r e. e.lacks_not_divides) rows h)

-- in each pair one of the factors is 1
unit_pairs : (g : Gauge) (columns col : ℕ) (rows : List Row) → IsExactColumn col rows → All (IsLower g columns col) (on_side Lower col rows) → All (IsUpper g columns col) (on_side Upper col rows)
    → All (λ l. All (λ u. (coef_at l col ≡ pos 1) ⊎ (neg_ℤ (coef_at u col) ≡ pos 1)) (on_side Upper col rows)) (on_side Lower col rows)
unit_pairs g columns col rows (inl e) hl hu = λ k d i. λ m b j. inl (by (coef_at (get_or (on_side Lower col rows) k d) col) (hl k d i).factor (unit_factors Lower col rows e k d i))
  where
    by : (c : ℤ) → pos 0 <ℤ c → abs_of c ≡ pos 1 → c ≡ pos 1
    by c p e = omega (arith, linear)
unit_pairs g columns col rows (inr e) hl hu = λ k d i. λ m b j. inr (by (coef_at (get_or (on_side Upper col rows) m b) col) (hu m b j).factor (unit_factors Upper col rows e m b j))
  where
    by : (c : ℤ) → c <ℤ pos 0 → abs_of c ≡ pos 1 → neg_ℤ c ≡ pos 1
    by c p e = omega (arith, linear)

-- ---- the rows by their sides
abbrev sides_of : ℕ → List Row → Sides
sides_of col rows = record { lowers = on_side Lower col rows; uppers = on_side Upper col rows; divides = on_side Divides col rows; not_divides = on_side NotDivides col rows; free = on_side Free col rows }

are_sides : (col : ℕ) (rows : List Row) → AreSidesOf rows col (sides_of col rows)
are_sides col rows = record { lowers = refl; uppers = refl; divides = refl; not_divides = refl; free = refl }

-- ---- what is left
left_formed : (g : Gauge) (columns col : ℕ) (rows : List Row) → col < columns → AreSided g columns col (sides_of col rows) → All (IsWellFormed columns) (rows_left col rows) × All (IsFree col) (rows_left col rows)
left_formed g columns col rows l s =
    let lowers = on_side Lower col rows in
    let uppers = on_side Upper col rows in
    let free = on_side Free col rows in (
      All-append (IsWellFormed columns) free (real_rows col lowers uppers) (All-weaker (IsFreeRow g columns col) (IsWellFormed columns) (λ r h. h.proper.formed) free s.free)
          (all_real (IsWellFormed columns) col lowers uppers (λ k d i. λ m b j. (real_is g columns col (get_or lowers k d) (get_or uppers m b) (s.lowers k d i) (s.uppers m b j) l).formed)),
      All-append (IsFree col) free (real_rows col lowers uppers) (All-weaker (IsFreeRow g columns col) (IsFree col) (λ r h. h.free) free s.free)
          (all_real (IsFree col) col lowers uppers (λ k d i. λ m b j. real_free g columns col (get_or lowers k d) (get_or uppers m b) (s.lowers k d i) (s.uppers m b j) l)),
    )

-- it holds wherever some x meets the rows
pub real_rows_hold : (g : Gauge) (columns col : ℕ) (rows : List Row) (point : List ℤ) → AreSided g columns col (sides_of col rows) → col < columns → length point ≡ columns - 1 → (x : ℤ) × HoldAt rows col point x → HoldReally rows col point
real_rows_hold g columns col rows point s l n a =
    let lowers = on_side Lower col rows in
    let uppers = on_side Upper col rows in
    let free = on_side Free col rows in
    let P : Row → Type 0 = λ r. HoldsRow r (insert point col (pos 0)) in
    let x = a.0 in
    let h = (sides_hold rows col (sides_of col rows) point x (are_sides col rows)).0 a.1 in
    All-append P free (real_rows col lowers uppers) (free_rows_hold g columns col free point x (pos 0) l n s.free h.free) (all_real P col lowers uppers (λ k d i. λ j b q.
    let low = get_or lowers k d in
    let up = get_or uppers j b in
    let hl = s.lowers k d i in
    let hu = s.uppers j b q in
    (real_holds g columns col low up point (pos 0) hl hu l n).1 (real_pair x (lower_at col point low) (upper_at col point up) hl.factor (let f = hu.factor in omega (arith, linear))
    ((lower_meets g columns col low point x hl l n).0 (h.lowers k d i)) ((upper_meets g columns col up point x hu l n).0 (h.uppers j b q)))))

-- where the column is exact it holds there alone
exact_holds : (g : Gauge) (columns col : ℕ) (rows : List Row) (point : List ℤ) → AreSided g columns col (sides_of col rows) → IsExactColumn col rows → col < columns → length point ≡ columns - 1 → HoldReally rows col point ↔ ((x : ℤ) × HoldAt rows col point x)
exact_holds g columns col rows point s e l n = (forth, real_rows_hold g columns col rows point s l n)
  where
    lowers : List Row
    lowers = on_side Lower col rows

    uppers : List Row
    uppers = on_side Upper col rows

    free : List Row
    free = on_side Free col rows

    P : Row → Type 0
    P = λ r. HoldsRow r (insert point col (pos 0))

    forth : HoldAt (rows_left col rows) col point (pos 0) → (x : ℤ) × HoldAt rows col point x
    forth h =
        let parts = All-parts P free (real_rows col lowers uppers) h in
        let reals = each_real P col lowers uppers parts.1 in
        let m = dark_meets g columns col lowers uppers point s.lowers s.uppers l n
        (λ k d i. λ j b q. exact_pair (lower_at col point (get_or lowers k d)) (upper_at col point (get_or uppers j b)) (unit_pairs g columns col rows e s.lowers s.uppers k d i j b q)
        ((real_holds g columns col (get_or lowers k d) (get_or uppers j b) point (pos 0) (s.lowers k d i) (s.uppers j b q) l n).0 (reals k d i j b q))) in
        let none = no_congruence col rows e in
        let Q : Row → Type 0 = λ r. HoldsRow r (insert point col m.0) in (
          m.0,
          (sides_hold rows col (sides_of col rows) point m.0 (are_sides col rows)).1 (record {
            lowers = m.1;
            uppers = m.2;
            divides = none_on Q Divides col rows none.0;
            not_divides = none_on Q NotDivides col rows none.1;
            free = free_rows_hold g columns col free point (pos 0) m.0 l n s.free parts.0;
          }),
        )

-- ---- the rows without the column
pub exact_sided : (g : Gauge) (columns : ℕ) (rows : List Row) (col : ℕ) → All (IsProper g columns) rows → ¬ HasEquality col rows → AreSided g columns col (sides_of col rows)
exact_sided g columns rows col w none = sides_are g columns col rows (sides_of col rows) (are_sides col rows) w none

pub exact_cost : (g : Gauge) (columns : ℕ) (rows : List Row) (col : ℕ) → All (IsProper g columns) rows → ¬ HasEquality col rows → pos (pairs_on col rows) ≤ℤ elimination_units rows col
exact_cost g columns rows col w none =
    let s = exact_sided g columns rows col w none in
    pairs_cost g columns col rows (on_side Lower col rows) (on_side Upper col rows) (formed_of g columns rows w) s.lowers s.uppers

-- what is answered for the real rows
pub real_answer : (g k : Gauge) (columns : ℕ) (rows : List Row) (col : ℕ) (short : List Row) (o : Option (List Row)) → All (IsProper g columns) rows → ¬ HasEquality col rows → col < columns → AreAdded g col (rows_left col rows) [] short
    → ((xs : List ℤ) → MatchOption o (¬ HoldRows short xs) (λ kept. HoldRows kept xs ↔ HoldRows short xs))
    → IfSome o IsNormal → IfSome o (All (IsWellFormed (columns - 1))) → IfSome o (All (IsRowWithin k)) → IsAnswerFor k (columns - 1) (HoldReally rows col) o
real_answer g k columns rows col short o w none l a points normal shape within =
    let f = left_formed g columns col rows l (exact_sided g columns rows col w none) in
    settled_is k columns col (rows_left col rows) short o l f.0 f.1 a.pushed points normal shape within

-- where the column is exact, it answers for the rows
pub exact_from : (g k : Gauge) (columns : ℕ) (rows : List Row) (col : ℕ) (result : Result (Option (List Row)) Cut) → All (IsProper g columns) rows → ¬ HasEquality col rows → IsExactColumn col rows → col < columns
    → IsDoneFor (pairs_on col rows) g k (IsAnswerFor g (columns - 1) (HoldReally rows col)) result
    → IsDoneWithin (elimination_units rows col) g k (IsAnswerFor g (columns - 1) (HoldAtSome rows col)) result
exact_from g k columns rows col (Ok left) w none e l d =
    let n = pairs_on col rows in
    let s = exact_sided g columns rows col w none in (
      answer_same g (columns - 1) (HoldReally rows col) (HoldAtSome rows col) (λ point n. exact_holds g columns col rows point s e l n) left d.0,
      charged_weaker (pos n) (elimination_units rows col) g k (exact_cost g columns rows col w none) (charged_up_to n g k d.1),
    )
exact_from g k columns rows col (Err cut) w none e l d = cut_weaker (pos (pairs_on col rows)) (elimination_units rows col) g k cut (exact_cost g columns rows col w none) d

-- exact units are at least as many
pub at_least_paid : {A : Type 0} (n : ℕ) (g k : Gauge) (P : A → Type 0) (result : Result A Cut) → IsDoneFor n g k P result → IfOk result (λ _. g.units + n ≤ k.units)
at_least_paid n g k P (Ok v) d = let e = ap (λ (x : Gauge). x.units) d.1 in omega (arith, e)
at_least_paid n g k P (Err cut) d = tt

pub exact_short : (g : Gauge) (columns : ℕ) (rows : List Row) (col : ℕ) (short : List Row) → All (IsProper g columns) rows → ¬ HasEquality col rows → col < columns → AreAdded g col (rows_left col rows) [] short → All (IsWellFormed (columns - 1)) short × All (IsRowWithin g) short
exact_short g columns rows col short w none l a =
    let f = left_formed g columns col rows l (exact_sided g columns rows col w none) in
    rw a.pushed (rows_formed columns col (rows_left col rows) l f.0, a.within)

-- ---- rows that are pushed
pub lower_from : (g : Gauge) (columns col : ℕ) (r : Row) → IsProper g columns r → is_same Lower (side_of col r) ≡ true → IsLower g columns col r
lower_from g columns col r p e = let m = means_of columns col Lower r p.formed e in record { proper = p; kind = m.0; factor = m.1 }

pub upper_from : (g : Gauge) (columns col : ℕ) (r : Row) → IsProper g columns r → is_same Upper (side_of col r) ≡ true → IsUpper g columns col r
upper_from g columns col r p e = let m = means_of columns col Upper r p.formed e in record { proper = p; kind = m.0; factor = m.1 }

-- the upper bounds among rows
pub uppers_are : (g : Gauge) (columns col : ℕ) (rows : List Row) → All (IsProper g columns) rows → All (IsUpper g columns col) (on_side Upper col rows)
uppers_are g columns col rows h = λ k d i.
    let p : Row → Bool = λ r. is_same Upper (side_of col r) in
    upper_from g columns col (get_or (on_side Upper col rows) k d) (All-filter p (IsProper g columns) rows h k d i) (filter_passes p rows k d i)

pub upper_kept : (g h : Gauge) (columns col : ℕ) (r : Row) → h.bits ≡ g.bits → IsUpper g columns col r → IsUpper h columns col r
upper_kept g h columns col r e u = record {
  proper = record { formed = u.proper.formed; within = row_within_kept h g r (sym e) u.proper.within };
  kind = u.kind;
  factor = u.factor;
}

pub added_none : (g : Gauge) (col : ℕ) (old : List Row) → AreAdded g col [] old old
added_none g col old = record { pushed = sym (append-nil old); within = All-nil (IsRowWithin g) }

pub added_one : (g : Gauge) (col : ℕ) (r : Row) (old new : List Row) → new ≡ old ++ dropped r col ∷ [] → IsRowWithin g (dropped r col) → AreAdded g col (r ∷ []) old new
added_one g col r old new e w = record { pushed = e; within = All-cons (IsRowWithin g) (dropped r col) [] w (All-nil (IsRowWithin g)) }

pub added_more : (g : Gauge) (col : ℕ) (rows others old new newer : List Row) → AreAdded g col rows old new → AreAdded g col others new newer → AreAdded g col (rows ++ others) old newer
added_more g col rows others old new newer a b =
    let D : Row → Row = λ r. dropped r col in
    let split = map-append D rows others in
    record {
      pushed = b.pushed ∙ ap (λ (xs : List Row). xs ++ map D others) a.pushed ∙ append_assoc old (map D rows) (map D others) ∙ ap (λ (xs : List Row). old ++ xs) (sym split);
      within = rw split (All-append (IsRowWithin g) (map D rows) (map D others) a.within b.within);
    }

pub added_kept : (g h : Gauge) (col : ℕ) (rows old new : List Row) → h.bits ≡ g.bits → AreAdded h col rows old new → AreAdded g col rows old new
added_kept g h col rows old new e a = record { pushed = a.pushed; within = rows_within_kept g h (map (λ r. dropped r col) rows) e a.within }

-- ---- the loops over rows
pub mapped_next : {A : Type 0} {B : Type 0} (f : A → B) (xs : List A) (i : ℕ) (x : A) → i < length xs → x ≡ get_or xs i x → map f (take (i + 1) xs) ≡ map f (take i xs) ++ f x ∷ []
mapped_next f xs i x l e = ap (map f) (take_more xs i x l ∙ ap (λ y. take i xs ++ y ∷ []) (sym e)) ∙ map-append f (take i xs) (x ∷ [])

-- what holds of all images holds of one
pub mapped_one : {A : Type 0} {B : Type 0} (P : B → Type 0) (f : A → B) (xs : List A) (i : ℕ) (x : A) → i < length xs → x ≡ get_or xs i x → All P (map f xs) → P (f x)
mapped_one P f xs i x l e h = rw (← e) at (All-unmapped P f xs h i x l)

pub on_side_next : (side : Side) (col : ℕ) (rows : List Row) (i : ℕ) (r : Row) → i < length rows → r ≡ get_or rows i r → on_side side col (take (i + 1) rows) ≡ on_side side col (take i rows) ++ on_side side col (r ∷ [])
on_side_next side col rows i r l e =
    ap (on_side side col) (take_more rows i r l ∙ ap (λ (s : Row). take i rows ++ s ∷ []) (sym e)) ∙ filter-append (λ r. is_same side (side_of col r)) (take i rows) (r ∷ [])

on_side_part : (side : Side) (col : ℕ) (rows : List Row) (i : ℕ) → length (on_side side col (take i rows)) ≤ length (on_side side col rows)
on_side_part side col rows i =
    let e : on_side side col rows ≡ on_side side col (take i rows) ++ on_side side col (drop i rows) = ap (on_side side col) (sym (take-append-drop i rows)) ∙ filter-append (λ r. is_same side (side_of col r)) (take i rows) (drop i rows) in
    rw e (let n = length-append (on_side side col (take i rows)) (on_side side col (drop i rows)) in omega arith)

-- those of the side before a row, and the row if it is on the side, are no more than all of the side
pub on_side_room : (side : Side) (col : ℕ) (rows : List Row) (i : ℕ) (r : Row) → i < length rows → r ≡ get_or rows i r → length (on_side side col (take i rows)) + length (on_side side col (r ∷ [])) ≤ length (on_side side col rows)
on_side_room side col rows i r l e =
    let part = rw (on_side_next side col rows i r l e) at (on_side_part side col rows (i + 1)) in
    let n = length-append (on_side side col (take i rows)) (on_side side col (r ∷ [])) in
    omega arith
