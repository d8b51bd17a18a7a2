-- Rows without those on columns that they bound on one side alone.
use Rattle.std.proofs.Common.{◌≡◌, ◌↔◌, inl, inr, ◌∙◌, refl, sym, subst, arith, ℕ, zero, suc, ◌+◌, ◌<◌, ℤ, pos, negsuc}
use Rattle.std.proofs.Common.{◌+ℤ◌, ◌-ℤ◌, ◌*ℤ◌, ◌≤ℤ◌, ◌<ℤ◌, List, [], ◌∷◌, length, get_or, set, Bool, true, false}
use Rattle.std.specs.Prelude.{Option, Some, None, option_map, IfSome, MatchOption, map, cond}
use Rattle.std.specs.List.{All, filter}
use Rattle.std.specs.Ordering.{int_eq}
use Rattle.std.proofs.lemmas.Bool.Decides.{Decides-int_eq}
use Rattle.std.proofs.lemmas.List.{length-set}
use Rattle.std.proofs.lemmas.List.Elements.{All-nil, All-cons, All-head, All-tail, All-filter}
use Rattle.isl_math.specs.Dot.{dot}
use Rattle.isl_math.proofs.DotLaws.{dot-set}
use Rattle.isl_math.proofs.OrderLaws.{not_negative-*ℤ}
use Rattle.isl_math.proofs.Ring.{expand, linear}
use Rattle.isl_meter.specs.Gauge.{Gauge}
use Rattle.isl_piece.specs.declared.row.RowKind.TheVariants.{AtLeast}
use Rattle.isl_piece.specs.declared.row.Row.{Row}
use Rattle.isl_piece.specs.Normal.{Kept, IsNormal, kept_rows, merged, normal_row, same_bound}
use Rattle.isl_piece.specs.Row.{HasModulus, HoldsRow, HoldsValue, IsWellFormed, coef_at, value_at}
use Rattle.isl_piece.specs.System.{HoldRows}
use Rattle.isl_piece.proofs.MergeLaws.{AreApart, fold_apart}
use Rattle.isl_piece.proofs.NormalLaws.{IsNormal-from}
use Rattle.isl_redundant.specs.Redundant.{AreSome}
use Rattle.isl_presolve.specs.Emptiness.{HoldNowhere}
use Rattle.isl_presolve.specs.OneSided.{IsOnSide, IsOneSided, rows_without}
use Rattle.isl_omega.specs.Column.{IsProper}
use Rattle.isl_presolve.specs.Shear.{IsReduction}

-- ---- a row of a filtered list
passed : (P : Row → Type 0) (b : Bool) (r : Row) (rows : List Row) → b ≡ true → All P (cond b (r ∷ rows) rows) → P r
passed P true r rows e h = All-head P r rows h
passed P false r rows e h = cc

others : (P : Row → Type 0) (b : Bool) (r : Row) (rows : List Row) → All P (cond b (r ∷ rows) rows) → All P rows
others P true r rows h = All-tail P r rows h
others P false r rows h = h

-- ---- rows that bound a column on one side
-- a row that does not name the column, at any number there
row_same : (r : Row) (col : ℕ) (xs : List ℤ) (x : ℤ) → col < length xs → coef_at r col ≡ pos 0 → HoldsRow r xs → HoldsRow r (set xs col x)
row_same r col xs x l e = subst (HoldsValue r.kind r.k)
    (by (coef_at r col) (x -ℤ get_or xs col (pos 0)) (dot r.coefs xs) _ r.constant e (dot-set r.coefs xs col x l))
  where
    by : (c y d new k : ℤ) → c ≡ pos 0 → new ≡ d +ℤ c *ℤ y → d +ℤ k ≡ new +ℤ k
    by c y d new k e h = let h' = rw e at h in omega (arith, linear)

-- a number with which another one is at least 0
opposite : (z : ℤ) → (n : ℕ) × (pos 0 ≤ℤ (z +ℤ pos n))
opposite (pos m) = (zero, omega (arith, linear))
opposite (negsuc m) = (suc m, omega (arith, linear))

-- a bound holds from some number on
bound_beyond : (r : Row) (side : ℤ) (col : ℕ) (xs : List ℤ) → col < length xs → pos 0 <ℤ (side *ℤ coef_at r col) → r.kind ≡ AtLeast
    → (least : ℕ) × ((t : ℤ) → pos least ≤ℤ t → HoldsRow r (set xs col (side *ℤ t)))
bound_beyond r side col xs l p e =
    let c = coef_at r col in
    let x = get_or xs col (pos 0) in
    let least = opposite (dot r.coefs xs -ℤ c *ℤ x +ℤ r.constant) in (
      least.0,
      λ t m. subst (λ kind. HoldsValue kind r.k (value_at r (set xs col (side *ℤ t)))) (sym e)
          (by c side x t (dot r.coefs xs) r.constant (pos least.0) _ p least.1 m (omega (arith, linear))
          (dot-set r.coefs xs col (side *ℤ t) l)),
    )
  where
    by : (c s x t d k n new : ℤ) → pos 0 <ℤ (s *ℤ c) → pos 0 ≤ℤ (d -ℤ c *ℤ x +ℤ k +ℤ n) → n ≤ℤ t → pos 0 ≤ℤ t
        → new ≡ d +ℤ c *ℤ (s *ℤ t -ℤ x) → pos 0 ≤ℤ (new +ℤ k)
    by c s x t d k n new p q m u e =
        let one : pos 0 ≤ℤ (s *ℤ c -ℤ pos 1) = omega (arith, linear) in
        let product = simp expand at (not_negative-*ℤ (s *ℤ c -ℤ pos 1) t one u) in
        let value = simp expand at e in
        let q' = simp expand at q in
        simp expand (omega (arith, linear))

-- so do all rows, where those hold that do not name the column
beyond : (side : ℤ) (col : ℕ) (xs : List ℤ) (rows : List Row) → col < length xs → All (IsOnSide side col) rows
    → HoldRows (rows_without col rows) xs
    → (least : ℕ) × ((t : ℤ) → pos least ≤ℤ t → HoldRows rows (set xs col (side *ℤ t)))
beyond side col xs [] l s h = (zero, λ t m. All-nil _)
beyond side col xs (r ∷ rows) l s h =
    let later = beyond side col xs rows l (All-tail (IsOnSide side col) r rows s)
    (others (λ r. HoldsRow r xs) (int_eq (coef_at r col) (pos 0)) r (rows_without col rows) h) in
    elim (All-head (IsOnSide side col) r rows s) [
      | inl e ↦ (
        later.0,
        λ t m. All-cons (λ r. HoldsRow r (set xs col (side *ℤ t))) r rows
            (row_same r col xs (side *ℤ t) l e
            (passed (λ r. HoldsRow r xs) (int_eq (coef_at r col) (pos 0)) r (rows_without col rows)
            ((Decides-int_eq (coef_at r col) (pos 0)).1 e) h))
            (later.1 t m),
      )
      | inr b ↦
          let first = bound_beyond r side col xs l b.1 b.0 in (
            first.0 + later.0,
            λ t m. All-cons (λ r. HoldsRow r (set xs col (side *ℤ t))) r rows
                (first.1 t (omega (arith, linear))) (later.1 t (omega (arith, linear))),
          )
    ]

-- so they hold nowhere exactly where those hold nowhere
nowhere_beyond : (columns col : ℕ) (side : ℤ) (rows : List Row) → col < columns → All (IsOnSide side col) rows
    → HoldNowhere columns (rows_without col rows) ↔ HoldNowhere columns rows
nowhere_beyond columns col side rows l s = (
  (λ none xs w h. none xs w (All-filter (λ r. int_eq (coef_at r col) (pos 0)) (λ r. HoldsRow r xs) rows h)),
  (λ none xs w h.
      let found = beyond side col xs rows (omega arith) s h in
      none (set xs col (side *ℤ pos found.0)) (length-set xs col _ ∙ w) (found.1 (pos found.0) (omega (arith, linear)))),
)

pub nowhere_without : (columns col : ℕ) (rows : List Row) → col < columns → IsOneSided col rows
    → HoldNowhere columns (rows_without col rows) ↔ HoldNowhere columns rows
nowhere_without columns col rows l (inl s) = nowhere_beyond columns col (pos 1) rows l s
nowhere_without columns col rows l (inr s) = nowhere_beyond columns col (negsuc 0) rows l s

-- ---- normal rows
apart_of : (rows : List Row) → IsNormal rows → AreApart rows
apart_of rows n = rw n.itself at (by (kept_rows (map normal_row rows)))
  where
    by : (o : Option (List Row)) → IfSome (option_map merged o) AreApart
    by None = tt
    by (Some kept) = fold_apart [] kept tt

apart_filter : (p : Row → Bool) (rows : List Row) → AreApart rows → AreApart (filter p rows)
apart_filter p [] a = tt
apart_filter p (r ∷ rows) a = by (p r) (All-filter p (λ b. same_bound r b ≡ false) rows a.0) (apart_filter p rows a.1)
  where
    by : (b : Bool) → All (λ s. same_bound r s ≡ false) (filter p rows) → AreApart (filter p rows)
        → AreApart (cond b (r ∷ filter p rows) (filter p rows))
    by true h k = (h, k)
    by false h k = k

normal_filter : (columns : ℕ) (p : Row → Bool) (rows : List Row) → All (IsWellFormed columns) rows → IsNormal rows
    → IsNormal (filter p rows)
normal_filter columns p rows w n =
    IsNormal-from (filter p rows) (All-filter p (λ r. normal_row r ≡ Kept r) rows n.settled)
    (All-filter p (λ r. HasModulus r.kind r.k) rows (λ k d i. (w k d i).modulus))
    (apart_filter p rows (apart_of rows n))

-- ---- some of the rows
some_more : (kept : List Row) (s : Row) (rows : List Row) → AreSome kept rows → AreSome kept (s ∷ rows)
some_more [] s rows a = tt
some_more (r ∷ kept) s rows a = inr a

some_filter : (p : Row → Bool) (rows : List Row) → AreSome (filter p rows) rows
some_filter p [] = tt
some_filter p (r ∷ rows) = by (p r) (some_filter p rows)
  where
    by : (b : Bool) → AreSome (filter p rows) rows → AreSome (cond b (r ∷ filter p rows) (filter p rows)) (r ∷ rows)
    by true a = inl (refl, a)
    by false a = some_more (filter p rows) r rows a

some_after : (few kept rows : List Row) → AreSome few kept → AreSome kept rows → AreSome few rows
some_after [] kept rows a b = tt
some_after (q ∷ few) [] rows a b = absurd a
some_after (q ∷ few) (r ∷ kept) [] a b = absurd b
some_after (q ∷ few) (r ∷ kept) (s ∷ rows) (inl x) (inl y) = inl (x.0 ∙ y.0, some_after few kept rows x.1 y.1)
some_after (q ∷ few) (r ∷ kept) (s ∷ rows) (inr a) (inl y) = inr (some_after (q ∷ few) kept rows a y.1)
some_after (q ∷ few) (r ∷ kept) (s ∷ rows) a (inr b) = inr (some_after (q ∷ few) (r ∷ kept) rows a b)

-- ---- one column after another
pub one_sided_first : (g : Gauge) (columns : ℕ) (rows : List Row) → All (IsProper g columns) rows → IsNormal rows
    → IsReduction g columns rows rows
one_sided_first g columns rows p n = record { are = record { proper = p; nowhere = ((λ h. h), (λ h. h)) }; normal = n }

pub one_sided_next : (g : Gauge) (columns col : ℕ) (old now : List Row) → col < columns → IsOneSided col now → IsReduction g columns old now
    → IsReduction g columns old (rows_without col now)
one_sided_next g columns col old now l s r =
    let both = nowhere_without columns col now l s in
    record {
      are = record {
        proper = All-filter (λ r. int_eq (coef_at r col) (pos 0)) (IsProper g columns) now r.are.proper;
        nowhere = ((λ h. r.are.nowhere.0 (both.0 h)), (λ h. both.1 (r.are.nowhere.1 h)));
      };
      normal = normal_filter columns (λ r. int_eq (coef_at r col) (pos 0)) now (λ k d i. (r.are.proper k d i).formed) r.normal;
    }

pub some_next : (col : ℕ) (old now : List Row) → AreSome now old → AreSome (rows_without col now) old
some_next col old now a =
    some_after (rows_without col now) now old (some_filter (λ r. int_eq (coef_at r col) (pos 0)) now) a

-- ---- a reduction of a reduction
pub reduction_past : (g : Gauge) (columns : ℕ) (old left : List Row) (found : Option (List Row)) → IsReduction g columns old left
    → MatchOption found (HoldNowhere columns left) (IsReduction g columns left)
    → MatchOption found (HoldNowhere columns old) (IsReduction g columns old)
reduction_past g columns old left None r none = r.are.nowhere.0 none
reduction_past g columns old left (Some new) r s =
    let first = r.are.nowhere in
    let next = s.are.nowhere in
    record { are = record { proper = s.are.proper; nowhere = ((λ h. first.0 (next.0 h)), (λ h. next.1 (first.1 h))) }; normal = s.normal }
