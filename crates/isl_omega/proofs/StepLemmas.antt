-- The congruence step: some whole number meets the old sides exactly where one meets the new.
use Rattle.std.proofs.Common.{◌≡◌, ◌↔◌, ◌∙◌, refl, ap, subst, arith, ℕ, ◌-◌, ◌<◌, ℤ, pos, ◌+ℤ◌, ◌-ℤ◌, ◌*ℤ◌, ◌≤ℤ◌, ◌<ℤ◌, List, ◌++◌, length, get_or, map}
use Rattle.std.specs.List.{All, AllZip, insert}
use Rattle.std.proofs.lemmas.List.Elements.{length_all_zip}
use Rattle.std.proofs.lemmas.List.{length-map}
use Rattle.std.proofs.lemmas.List.Elements.{All-nil, All-append, All-push, All-map, All-weaker, All-filter, AllZip-get_or}
use Rattle.isl_math.specs.Divide as divide
use Rattle.isl_math.proofs.Ring.{linear}
use Rattle.isl_math.proofs.OrderLaws.{positive-*ℤ, negative-*ℤ}
use Rattle.isl_math.proofs.DivideLaws.{Divides-+ℤ, Divides-*ℤ, Divides-minus, Divides-same}
use Rattle.isl_meter.specs.Gauge.{Gauge}
use Rattle.isl_piece.specs.declared.row.RowKind.{RowKind}
use Rattle.isl_piece.specs.declared.row.RowKind.TheVariants as kind
use Rattle.isl_piece.specs.declared.row.Row.{Row}
use Rattle.isl_piece.specs.System.{HoldRows}
use Rattle.isl_piece.specs.Row.{HoldsRow, HoldsValue, value_at, HasModulus, IsWellFormed, IsRowWithin, coef_at}
use Rattle.isl_omega.specs.Column.{IsFree, IsFreeKind, HoldAt, rest_at, IsProper}
use Rattle.isl_piece.specs.Combine.{scaled_divisor}
use Rattle.isl_omega.specs.Congruence.{AreMergedTo, product_of_divisors, period, product_of_periods}
use Rattle.isl_omega.specs.Sides.{AreSided, SidesHold, IsLower, IsUpper, IsDivides, IsNotDivides, IsFreeRow, is_same, side_of, on_side}
use Rattle.isl_omega.specs.Step.{within_scale, IsSubstitutionOf, HasFactorsUpTo, AreEquisatisfiable, IsStepOf}
use Rattle.isl_omega.specs.Substitution.{IsProgressionOf, IsMovedBound, substituted, multiplier}
use Rattle.isl_omega.specs.Tighten.{IsLessened}
use Rattle.isl_omega.specs.declared.sides.Side.TheVariants.{NotDivides, Free}
use Rattle.isl_omega.specs.declared.sides.Sides.{Sides}
use Rattle.isl_omega.proofs.ColumnLemmas.{value_at-insert, hold_anywhere}
use Rattle.isl_omega.proofs.CongruenceLemmas.{divides_rest}
use Rattle.isl_math.proofs.ListLaws.{All-parts, All-last, All-zipped, All-zipped_back, AllZip-with, AllZip-weaker, All-unmapped, filter_shorter}
use Rattle.isl_omega.proofs.MoveLemmas.{substituted_formed, substituted_coefficient, substituted_same}
use Rattle.isl_omega.proofs.ReduceLemmas.{holds_congruence}
use Rattle.isl_piece.proofs.RowLemmas.{HasModulus-positive}
use Rattle.isl_omega.proofs.PeriodLemmas.{IsShorterPeriod, shorter_period, period_at, periods_filtered, periods_mapped}
use Rattle.isl_omega.proofs.SideLemmas.{picked, sides_not_divides, SideMeans, free_from, free_rows_hold}

-- ---- bounds
-- where scale x is k y and what the offsets have beside the column, the new bounds hold with y where the old ones hold with x
bounds_same : (g : Gauge) (columns col : ℕ) (scale k : ℤ) (offsets : Row) (old new : List Row) (point : List ℤ) (x y : ℤ) → pos 0 <ℤ scale → length offsets.coefs ≡ columns → col < columns → length point ≡ columns - 1 → coef_at offsets col ≡ k -ℤ scale
    → scale *ℤ x ≡ k *ℤ y +ℤ rest_at offsets col point → All (IsProper g columns) old → AllZip (IsMovedBound columns col scale offsets) old new → HoldAt new col point y ↔ HoldAt old col point x
bounds_same g columns col scale k offsets old new point x y p w l n o e h z =
    let both = AllZip-with (IsMovedBound columns col scale offsets) (IsProper g columns) old new z h in (
      All-zipped_back (λ r s. IsMovedBound columns col scale offsets r s × IsProper g columns r) (λ r. HoldsRow r (insert point col x)) (λ r. HoldsRow r (insert point col y)) (λ r s b m. (one r b.1).0 ((b.0.same (insert point col y)).0 m)) old new both,
      All-zipped (λ r s. IsMovedBound columns col scale offsets r s × IsProper g columns r) (λ r. HoldsRow r (insert point col x)) (λ r. HoldsRow r (insert point col y)) (λ r s b m. (b.0.same (insert point col y)).1 ((one r b.1).1 m)) old new both,
    )
  where
    one : (r : Row) → IsProper g columns r → HoldsRow (substituted scale offsets col r) (insert point col y) ↔ HoldsRow r (insert point col x)
    one r q = substituted_same columns col scale k offsets r point x y p q.formed w l n o e

-- ---- the congruence itself
scale_holds : (kind' : RowKind) (scale c y f : ℤ) → kind' ≡ kind.Divides → divide.Divides scale c → divide.Divides scale f → HoldsValue kind' scale (c *ℤ y +ℤ f)
scale_holds kind' scale c y f e h d = rw e (Divides-+ℤ scale (c *ℤ y) f (Divides-*ℤ scale c y h) d)

scale_divides : (kind' : RowKind) (scale c y f : ℤ) → kind' ≡ kind.Divides → divide.Divides scale c → HoldsValue kind' scale (c *ℤ y +ℤ f) → divide.Divides scale f
scale_divides kind' scale c y f e h v = by (rw e at v)
  where
    by : divide.Divides scale (c *ℤ y +ℤ f) → divide.Divides scale f
    by d = Divides-same scale (c *ℤ y +ℤ f -ℤ c *ℤ y) f (omega (arith, linear)) (Divides-minus scale (c *ℤ y +ℤ f) (c *ℤ y) d (Divides-*ℤ scale c y h))

-- where the congruence holds with some x, the scale divides what stands beside the column
scale_beside : (columns col : ℕ) (one : Row) (scale : ℤ) (offsets : Row) (point : List ℤ) (x : ℤ) → one.kind ≡ kind.Divides → length one.coefs ≡ columns → col < columns → length point ≡ columns - 1 → IsProgressionOf columns col one scale offsets
    → HoldsRow one (insert point col x) → divide.Divides scale (rest_at one col point)
scale_beside columns col one scale offsets point x is w l n p h =
    let v = value_at-insert one col point x (omega arith) (omega arith) in
    divides_rest one.k (coef_at one col) (rest_at one col point) scale x p.divides_modulus p.divides_coefficient (Divides-same one.k (value_at one (insert point col x)) (coef_at one col *ℤ x +ℤ rest_at one col point) v ((holds_congruence one one.k (insert point col x) is refl).0 h))

within_scale_holds : (columns col : ℕ) (one : Row) (scale : ℤ) (offsets : Row) (point : List ℤ) (y : ℤ) → one.kind ≡ kind.Divides → length one.coefs ≡ columns → col < columns → length point ≡ columns - 1 → IsProgressionOf columns col one scale offsets
    → HoldsRow (within_scale one scale) (insert point col y) ↔ divide.Divides scale (rest_at one col point)
within_scale_holds columns col one scale offsets point y is w l n p =
    let v = value_at-insert (within_scale one scale) col point y (omega arith) (omega arith) in (
      (λ h. scale_divides one.kind scale (coef_at one col) y (rest_at one col point) is p.divides_coefficient (rw v at h)),
      (λ d. rw v (scale_holds one.kind scale (coef_at one col) y (rest_at one col point) is p.divides_coefficient d)),
    )

-- ---- the step
-- one congruence and other rows say what the congruences do
pub record AreOne (g : Gauge) (columns col : ℕ) (rows : List Row) (one : Row) (others : List Row) : Type 0 where
  pub kind : one.kind ≡ kind.Divides
  pub width : length one.coefs ≡ columns
  pub positive : pos 0 <ℤ one.k
  pub within : IsRowWithin g one
  pub small : one.k ≤ℤ product_of_divisors rows
  pub well_formed : All (IsWellFormed columns) others
  pub others_within : All (IsRowWithin g) others
  pub free : All (IsFree col) others
  pub same : (xs : List ℤ) → HoldRows rows xs ↔ (HoldsRow one xs × HoldRows others xs)

pub one_from_merged : (g : Gauge) (columns col : ℕ) (rows : List Row) (one : Row) (others : List Row) → AreMergedTo g columns col rows one others → AreOne g columns col rows one others
one_from_merged g columns col rows one others m = record {
  kind = m.is_reduced.kind;
  width = m.is_reduced.width;
  positive = m.positive;
  within = m.within;
  small = m.small;
  well_formed = m.well_formed;
  others_within = m.others_within;
  free = m.free;
  same = m.same;
}

pub record IsStep (g : Gauge) (columns col : ℕ) (one : Row) (others : List Row) (scale : ℤ) (offsets : Row) (old new : Sides) : Type 0 where
  pub inside : col < columns
  pub sided : AreSided g columns col old
  pub merged : AreOne g columns col old.divides one others
  pub progression : IsProgressionOf columns col one scale offsets
  pub moved : IsSubstitutionOf g columns col one others scale offsets old new

proper_of_lowers : (g : Gauge) (columns col : ℕ) (rows : List Row) → All (IsLower g columns col) rows → All (IsProper g columns) rows
proper_of_lowers g columns col rows h = All-weaker (IsLower g columns col) (IsProper g columns) (λ r l. l.proper) rows h

proper_of_uppers : (g : Gauge) (columns col : ℕ) (rows : List Row) → All (IsUpper g columns col) rows → All (IsProper g columns) rows
proper_of_uppers g columns col rows h = All-weaker (IsUpper g columns col) (IsProper g columns) (λ r l. l.proper) rows h

moved_not_divides : (g : Gauge) (columns col : ℕ) (scale k : ℤ) (offsets : Row) (rows : List Row) (point : List ℤ) (x y : ℤ) → pos 0 <ℤ scale → length offsets.coefs ≡ columns → col < columns → length point ≡ columns - 1 → coef_at offsets col ≡ k -ℤ scale
    → scale *ℤ x ≡ k *ℤ y +ℤ rest_at offsets col point → All (IsNotDivides g columns col) rows → HoldAt (map (substituted scale offsets col) rows) col point y ↔ HoldAt rows col point x
moved_not_divides g columns col scale k offsets rows point x y p w l n o e h = (
  (λ a. λ i d j. (substituted_same columns col scale k offsets (get_or rows i d) point x y p (h i d j).proper.formed w l n o e).0 (All-unmapped (λ r. HoldsRow r (insert point col y)) (substituted scale offsets col) rows a i d j)),
  (λ a. All-map (λ r. HoldsRow r (insert point col y)) (substituted scale offsets col) rows (λ i d j. (substituted_same columns col scale k offsets (get_or rows i d) point x y p (h i d j).proper.formed w l n o e).1 (a i d j))),
)

pub moved_formed : (g : Gauge) (columns col : ℕ) (scale : ℤ) (offsets : Row) (rows : List Row) → pos 0 <ℤ scale → length offsets.coefs ≡ columns → All (IsNotDivides g columns col) rows → All (IsWellFormed columns) (map (substituted scale offsets col) rows)
moved_formed g columns col scale offsets rows p w h = All-map (IsWellFormed columns) (substituted scale offsets col) rows (λ i d j. substituted_formed columns col scale offsets (get_or rows i d) p (h i d j).proper.formed w)

moved_kinds : (g : Gauge) (columns col : ℕ) (scale : ℤ) (offsets : Row) (rows : List Row) → All (IsNotDivides g columns col) rows → All (λ r. r.kind ≡ kind.NotDivides) (map (substituted scale offsets col) rows)
moved_kinds g columns col scale offsets rows h = All-map (λ r. r.kind ≡ kind.NotDivides) (substituted scale offsets col) rows (λ i d j. (h i d j).kind)

pub step_same : (g : Gauge) (columns col : ℕ) (one : Row) (others : List Row) (scale : ℤ) (offsets : Row) (old new : Sides) → IsStep g columns col one others scale offsets old new → AreEquisatisfiable columns col old new
step_same g columns col one others scale offsets old new s = λ point n. (forth point n, back point n)
  where
    open s use {inside, sided, merged, progression, moved}

    is : one.kind ≡ kind.Divides
    is = merged.kind

    wide : length one.coefs ≡ columns
    wide = merged.width

    lowers_same : (point : List ℤ) (x y : ℤ) → length point ≡ columns - 1 → scale *ℤ x ≡ one.k *ℤ y +ℤ rest_at offsets col point → HoldAt new.lowers col point y ↔ HoldAt old.lowers col point x
    lowers_same point x y n e = bounds_same g columns col scale one.k offsets old.lowers new.lowers point x y progression.positive progression.width inside n progression.at_column e (proper_of_lowers g columns col old.lowers sided.lowers) moved.lowers

    uppers_same : (point : List ℤ) (x y : ℤ) → length point ≡ columns - 1 → scale *ℤ x ≡ one.k *ℤ y +ℤ rest_at offsets col point → HoldAt new.uppers col point y ↔ HoldAt old.uppers col point x
    uppers_same point x y n e = bounds_same g columns col scale one.k offsets old.uppers new.uppers point x y progression.positive progression.width inside n progression.at_column e (proper_of_uppers g columns col old.uppers sided.uppers) moved.uppers

    not_divides_same : (point : List ℤ) (x y : ℤ) → length point ≡ columns - 1 → scale *ℤ x ≡ one.k *ℤ y +ℤ rest_at offsets col point → HoldAt (map (substituted scale offsets col) old.not_divides) col point y ↔ HoldAt old.not_divides col point x
    not_divides_same point x y n e = moved_not_divides g columns col scale one.k offsets old.not_divides point x y progression.positive progression.width inside n progression.at_column e sided.not_divides

    others_anywhere : (point : List ℤ) (x y : ℤ) → length point ≡ columns - 1 → HoldAt others col point x → HoldAt others col point y
    others_anywhere point x y n a = hold_anywhere columns col others point x y inside n merged.well_formed merged.free a

    forth : (point : List ℤ) → length point ≡ columns - 1 → ((x : ℤ) × SidesHold old col point x) → (y : ℤ) × SidesHold new col point y
    forth point n a =
        let x = a.0 in
        let holds = a.1 in
        let split = (merged.same (insert point col x)).0 holds.divides in
        let y = progression.meets point x n split.0 in
        let not_divides = (not_divides_same point x y.0 n y.1).1 holds.not_divides in
        let beside = scale_beside columns col one scale offsets point x is wide inside n progression split.0 in (
          y.0,
          record {
            lowers = (lowers_same point x y.0 n y.1).1 holds.lowers;
            uppers = (uppers_same point x y.0 n y.1).1 holds.uppers;
            divides = rw moved.divides (All-nil (λ r. HoldsRow r (insert point col y.0)));
            not_divides = rw moved.not_divides (All-filter (λ r. is_same NotDivides (side_of col r)) (λ r. HoldsRow r (insert point col y.0)) (map (substituted scale offsets col) old.not_divides) not_divides);
            free = rw moved.free (All-push (λ r. HoldsRow r (insert point col y.0)) ((on_side Free col (map (substituted scale offsets col) old.not_divides) ++ others) ++ old.free) (within_scale one scale)
                (All-append (λ r. HoldsRow r (insert point col y.0)) (on_side Free col (map (substituted scale offsets col) old.not_divides) ++ others) old.free
                (All-append (λ r. HoldsRow r (insert point col y.0)) (on_side Free col (map (substituted scale offsets col) old.not_divides)) others
                (All-filter (λ r. is_same Free (side_of col r)) (λ r. HoldsRow r (insert point col y.0)) (map (substituted scale offsets col) old.not_divides) not_divides)
                (others_anywhere point x y.0 n split.1))
                (free_rows_hold g columns col old.free point x y.0 inside n sided.free holds.free))
                ((within_scale_holds columns col one scale offsets point y.0 is wide inside n progression).1 beside));
          },
        )

    back : (point : List ℤ) → length point ≡ columns - 1 → ((y : ℤ) × SidesHold new col point y) → (x : ℤ) × SidesHold old col point x
    back point n a =
        let y = a.0 in
        let holds = a.1 in
        let P : Row → Type 0 = λ r. HoldsRow r (insert point col y) in
        let last = All-last P ((on_side Free col (map (substituted scale offsets col) old.not_divides) ++ others) ++ old.free) (within_scale one scale) (rw moved.free at holds.free) in
        let two = All-parts P (on_side Free col (map (substituted scale offsets col) old.not_divides) ++ others) old.free last.0 in
        let three = All-parts P (on_side Free col (map (substituted scale offsets col) old.not_divides)) others two.0 in
        let beside = (within_scale_holds columns col one scale offsets point y is wide inside n progression).0 last.1 in
        let x = progression.gives point y n beside in
        let not_divides = sides_not_divides P columns col (map (substituted scale offsets col) old.not_divides) (moved_formed g columns col scale offsets old.not_divides progression.positive progression.width sided.not_divides) (moved_kinds g columns col scale offsets old.not_divides sided.not_divides) (rw moved.not_divides at holds.not_divides) three.0 in (
          x.0,
          record {
            lowers = (lowers_same point x.0 y n x.1).0 holds.lowers;
            uppers = (uppers_same point x.0 y n x.1).0 holds.uppers;
            divides = (merged.same (insert point col x.0)).1 (x.2, others_anywhere point y x.0 n three.1);
            not_divides = (not_divides_same point x.0 y n x.1).0 not_divides;
            free = free_rows_hold g columns col old.free point y x.0 inside n sided.free two.1;
          },
        )

-- ---- the new sides
pub multiplier_is : (col : ℕ) (scale k : ℤ) (offsets : Row) → coef_at offsets col ≡ k -ℤ scale → multiplier scale offsets col ≡ k
multiplier_is col scale k offsets e = by scale k (coef_at offsets col) e
  where
    by : (s k o : ℤ) → o ≡ k -ℤ s → s +ℤ o ≡ k
    by s k o e = omega (arith, linear)

divides_divisor : (asks : RowKind) (k : ℤ) → asks ≡ kind.Divides → pos 0 <ℤ k → HasModulus asks k
divides_divisor asks k e p = rw e p

divides_free : (asks : RowKind) (k c : ℤ) → asks ≡ kind.Divides → divide.Divides k c → IsFreeKind asks k c
divides_free asks k c e d = rw e d

no_equality : (asks : RowKind) (c : ℤ) → asks ≡ kind.NotDivides → asks ≡ kind.Zero → c ≡ pos 0
no_equality asks c e f = cc

moved_proper : (g : Gauge) (columns col : ℕ) (scale : ℤ) (offsets : Row) (rows : List Row) → pos 0 <ℤ scale → length offsets.coefs ≡ columns → All (IsNotDivides g columns col) rows → All (IsRowWithin g) (map (substituted scale offsets col) rows)
    → All (IsProper g columns) (map (substituted scale offsets col) rows)
moved_proper g columns col scale offsets rows p w h i = λ k d j. record { formed = moved_formed g columns col scale offsets rows p w h k d j; within = i k d j }

moved_free : (g : Gauge) (columns col : ℕ) (scale : ℤ) (offsets : Row) (rows : List Row) → All (IsNotDivides g columns col) rows → All (IsProper g columns) (map (substituted scale offsets col) rows) → All (IsFreeRow g columns col) (on_side Free col (map (substituted scale offsets col) rows))
moved_free g columns col scale offsets rows h p = λ k d j.
    let moved = map (substituted scale offsets col) rows in
    let r = get_or (on_side Free col moved) k d in
    let proper = All-filter (λ r. is_same Free (side_of col r)) (IsProper g columns) moved p k d j in
    let kinds = All-filter (λ r. is_same Free (side_of col r)) (λ r. r.kind ≡ kind.NotDivides) moved (moved_kinds g columns col scale offsets rows h) k d j in
    let means = picked g columns col Free moved (λ r. SideMeans Free r.kind r.k (coef_at r col)) (λ r q m. m) p k d j in
    record { proper = proper; free = free_from r.kind r.k (coef_at r col) (no_equality r.kind (coef_at r col) kinds) means }

pub step_sided : (g : Gauge) (columns col : ℕ) (one : Row) (others : List Row) (scale : ℤ) (offsets : Row) (old new : Sides) → IsStep g columns col one others scale offsets old new → AreSided g columns col new
step_sided g columns col one others scale offsets old new s = record {
  lowers = λ i d j.
      let r = get_or old.lowers i d in
      let inside_old : i < length old.lowers = (let e = length_all_zip (IsMovedBound columns col scale offsets) old.lowers new.lowers moved.lowers in omega arith) in
      let m = AllZip-get_or (IsMovedBound columns col scale offsets) old.lowers new.lowers i d d moved.lowers inside_old in
      record { proper = record { formed = m.formed; within = moved.lowers_within i d j }; kind = m.kind; factor = m.factor.above (positive-*ℤ (multiplier scale offsets col) (coef_at r col) multiplied (sided.lowers i d inside_old).factor) };
  uppers = λ i d j.
      let r = get_or old.uppers i d in
      let inside_old : i < length old.uppers = (let e = length_all_zip (IsMovedBound columns col scale offsets) old.uppers new.uppers moved.uppers in omega arith) in
      let m = AllZip-get_or (IsMovedBound columns col scale offsets) old.uppers new.uppers i d d moved.uppers inside_old in
      record { proper = record { formed = m.formed; within = moved.uppers_within i d j }; kind = m.kind; factor = m.factor.below (negative-*ℤ (multiplier scale offsets col) (coef_at r col) multiplied (sided.uppers i d inside_old).factor) };
  divides = rw moved.divides (All-nil (IsDivides g columns));
  not_divides = rw moved.not_divides (picked g columns col NotDivides (map (substituted scale offsets col) old.not_divides) (IsNotDivides g columns col) (λ r p m. record { proper = p; kind = m.0; depends = m.1 }) proper);
  free = rw moved.free (All-push (IsFreeRow g columns col) ((on_side Free col (map (substituted scale offsets col) old.not_divides) ++ others) ++ old.free) (within_scale one scale)
      (All-append (IsFreeRow g columns col) (on_side Free col (map (substituted scale offsets col) old.not_divides) ++ others) old.free
      (All-append (IsFreeRow g columns col) (on_side Free col (map (substituted scale offsets col) old.not_divides)) others
      (moved_free g columns col scale offsets old.not_divides sided.not_divides proper)
      (λ i d j. record { proper = record { formed = merged.well_formed i d j; within = merged.others_within i d j }; free = merged.free i d j }))
      sided.free)
      (record {
        proper = record { formed = record { width = merged.width; modulus = divides_divisor one.kind scale merged.kind progression.positive }; within = record { coefs = merged.within.coefs; constant = merged.within.constant; k = moved.scale_within } };
        free = divides_free one.kind scale (coef_at one col) merged.kind progression.divides_coefficient;
      }));
}
  where
    open s use {inside, sided, merged, progression, moved}

    multiplied : pos 0 <ℤ multiplier scale offsets col
    multiplied = rw (multiplier_is col scale one.k offsets progression.at_column) merged.positive

    proper : All (IsProper g columns) (map (substituted scale offsets col) old.not_divides)
    proper = moved_proper g columns col scale offsets old.not_divides progression.positive progression.width sided.not_divides moved.moved_within

narrowed_list : (columns col : ℕ) (scale k : ℤ) (offsets : Row) (old new : List Row) → coef_at offsets col ≡ k -ℤ scale → AllZip (IsMovedBound columns col scale offsets) old new → AllZip (λ r s. IsLessened (k *ℤ coef_at r col) (coef_at s col)) old new
narrowed_list columns col scale k offsets old new e z =
    AllZip-weaker (IsMovedBound columns col scale offsets) (λ r s. IsLessened (k *ℤ coef_at r col) (coef_at s col)) (λ r s m. subst (λ j. IsLessened (j *ℤ coef_at r col) (coef_at s col)) (multiplier_is col scale k offsets e) m.factor) old new z

pub step_narrowed : (g : Gauge) (columns col : ℕ) (one : Row) (others : List Row) (scale : ℤ) (offsets : Row) (old new : Sides) → IsStep g columns col one others scale offsets old new → HasFactorsUpTo col one.k old new
step_narrowed g columns col one others scale offsets old new s = record {
  lowers = narrowed_list columns col scale one.k offsets old.lowers new.lowers s.progression.at_column s.moved.lowers;
  uppers = narrowed_list columns col scale one.k offsets old.uppers new.uppers s.progression.at_column s.moved.uppers;
}

-- ---- periods
pub scaled_not_divides : (asks : RowKind) (m k : ℤ) → asks ≡ kind.NotDivides → scaled_divisor asks m k ≡ m *ℤ k
scaled_not_divides asks m k e = rw e refl

-- the scale leaves the period of a row as it is, or less
substituted_period : (g : Gauge) (columns col : ℕ) (scale k : ℤ) (offsets r : Row) → IsNotDivides g columns col r → pos 0 <ℤ scale → divide.Divides scale k → coef_at offsets col ≡ k -ℤ scale → length offsets.coefs ≡ columns → col < columns
    → IsShorterPeriod (period col (substituted scale offsets col r)) r.k
substituted_period g columns col scale k offsets r a p d e w l =
    let c : coef_at (substituted scale offsets col r) col ≡ k *ℤ coef_at r col = substituted_coefficient columns col scale offsets r a.proper.formed w l ∙ ap (λ z. z *ℤ coef_at r col) (multiplier_is col scale k offsets e) in
    let m : (substituted scale offsets col r).k ≡ scale *ℤ r.k = scaled_not_divides r.kind scale r.k a.kind in
    period_at (k *ℤ coef_at r col) (coef_at (substituted scale offsets col r) col) (scale *ℤ r.k) (substituted scale offsets col r).k r.k c m (shorter_period (coef_at r col) r.k scale k (HasModulus-positive r.kind r.k a.proper.formed.modulus) p d)

periods_kept : (g : Gauge) (columns col : ℕ) (scale : ℤ) (offsets : Row) (rows : List Row) {k : ℤ} → All (IsNotDivides g columns col) rows → pos 0 <ℤ scale → divide.Divides scale k → coef_at offsets col ≡ k -ℤ scale → length offsets.coefs ≡ columns → col < columns
    → product_of_periods col (on_side NotDivides col (map (substituted scale offsets col) rows)) ≤ℤ product_of_divisors rows
periods_kept g columns col scale offsets rows {k = k} h p d e w l =
    let short : All (λ r. IsShorterPeriod (period col (substituted scale offsets col r)) r.k) rows = (λ i z j. substituted_period g columns col scale k offsets (get_or rows i z) (h i z j) p d e w l) in
    let positive = All-map (λ r. pos 0 <ℤ period col r) (substituted scale offsets col) rows (λ i z j. (short i z j).positive) in
    let first = periods_filtered col (λ r. is_same NotDivides (side_of col r)) (map (substituted scale offsets col) rows) positive in
    let second = (periods_mapped col (substituted scale offsets col) rows short).1 in
    omega (arith, linear)

pub step_is : (g : Gauge) (columns col : ℕ) (one : Row) (others : List Row) (scale : ℤ) (offsets : Row) (old new : Sides) → IsStep g columns col one others scale offsets old new → IsStepOf g columns col old new
step_is g columns col one others scale offsets old new s = record {
  sided = step_sided g columns col one others scale offsets old new s;
  divides = s.moved.divides;
  not_divides = let n = filter_shorter (λ r. is_same NotDivides (side_of col r)) (map (substituted scale offsets col) old.not_divides) in
      let e = ap (λ (rows : List Row). length rows) s.moved.not_divides in
      let m = length-map old.not_divides (substituted scale offsets col) in
      omega arith;
  periods = rw s.moved.not_divides (periods_kept g columns col scale offsets old.not_divides s.sided.not_divides s.progression.positive (s.progression.divides_modulus) s.progression.at_column s.progression.width s.inside);
  same = step_same g columns col one others scale offsets old new s;
  k = one.k;
  positive = s.merged.positive;
  small = s.merged.small;
  narrowed = step_narrowed g columns col one others scale offsets old new s;
}
