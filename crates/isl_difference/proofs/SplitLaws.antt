-- A system split by rows.
use Rattle.std.proofs.Common.{◌≡◌, ◌↔◌, ◌⊎◌, inl, inr, refl, sym, ap, ◌∙◌, subst, arith, ℕ, zero, suc, ◌+◌, ◌*◌, ◌<◌, ◌≤◌, ℤ, negsuc}
use Rattle.std.proofs.Common.{List, [], ◌∷◌, ◌++◌, length, get_or, take, length-append, Result, Err}
use Rattle.std.proofs.Math.Nat.{mul-le-mul_right}
use Rattle.std.specs.List.{All, Any, AllPairs}
use Rattle.std.proofs.lemmas.List.{take_all, take_more}
use Rattle.std.proofs.lemmas.List.Elements.{All-nil, All-cons, All-append, All-push, All-head, All-weaker, All-take}
use Rattle.isl_math.proofs.ListLaws.{All-parts, All-last, Any-parts, Any-left, Any-right, Any-one, Any-first, Any-none}
use Rattle.isl_meter.specs.declared.Cut.{Cut}
use Rattle.isl_meter.specs.declared.Cut.TheVariants.{Overflow, Budget, NoMemory}
use Rattle.isl_meter.specs.Gauge.{Gauge, IsCharged, IsWithin}
use Rattle.isl_meter.proofs.CutLemmas.{IsCharged_refl, IsCharged_trans, IsCharged-unit, charges}
use Rattle.isl_piece.specs.declared.row.Row.{Row}
use Rattle.isl_piece.specs.declared.definition.Definition.{Definition}
use Rattle.isl_piece.specs.declared.system.System.{System}
use Rattle.isl_piece.specs.Definition.{with_defined, IsDefinition, AreDefinitions}
use Rattle.isl_math.proofs.Ring.{linear}
use Rattle.isl_math.proofs.DotLaws.{dot-scaled}
use Rattle.isl_piece.specs.declared.row.RowKind.{RowKind}
use Rattle.isl_piece.specs.declared.row.RowKind.TheVariants.{Zero, AtLeast, Divides, NotDivides}
use Rattle.isl_piece.specs.Cut.{IsCutFor}
use Rattle.isl_piece.specs.Negation.{above, below, negated_form, negation_of, ConstantPassesLimit}
use Rattle.isl_piece.specs.Row.{HoldsRow, IsWellFormed, IsRowWithin}
use Rattle.isl_piece.specs.System.{HoldRows, HoldsSystem, IsSystemWithin, free_columns}
use Rattle.isl_piece.proofs.RowMagnitudes.{row_within_kept, rows_within_kept}
use Rattle.isl_elim.specs.Sample.{IsNowhere}
use Rattle.isl_ledger.specs.Difference.{HasDifferenceRows, IsDifferenceRow, IsDifferenceSystem}
use Rattle.isl_ledger.specs.Answered.{IsTame}
use Rattle.isl_ledger.proofs.AnsweredLaws.{tame_more}
use Rattle.isl_ledger.proofs.DifferenceLaws.{difference_within, differences_negated}
use Rattle.isl_elim.proofs.PartsLaws.{charged_bits}
use Rattle.isl_difference.specs.Bounds.{ImplyRow}
use Rattle.isl_difference.specs.Difference.{IsPartition}
use Rattle.isl_difference.specs.Tame.{test_work}
use Rattle.isl_difference.specs.Split.{AreExclusive, ArePaidBy, and_rows, HoldsBut, HoldsWithAny, IsLive, IsPushed}
use Rattle.isl_difference.proofs.PartitionLaws.{any_before, partition_none, partition_append, partition_same, partition_each}
use Rattle.isl_difference.proofs.RowCases.{rows_cases}
use Rattle.isl_difference.proofs.TameLaws.{tame_memory}
use Rattle.isl_difference.proofs.TameLaws.{IsSplitWithin, and_rows_differences, rows_wider, split_longer, taken_turn, units_next}

-- ---- the limit at another time
definitions_kept : (g h : Gauge) (columns : ℕ) (definitions : List Definition) → h.bits ≡ g.bits → AreDefinitions h columns definitions
    → AreDefinitions g columns definitions
definitions_kept g h columns [] e a = tt
definitions_kept g h columns (d ∷ definitions) e a = (by a.0, definitions_kept g h (suc columns) definitions e a.1)
  where
    by : IsDefinition h columns d → IsDefinition g columns d
    by f = record {
      width = f.width;
      modulus = f.modulus;
      coefs = All-weaker (IsWithin h) (IsWithin g) (λ z v. rw e at v) d.coefs f.coefs;
      constant = rw e at f.constant;
      k = rw e at f.k;
    }

pub system_kept : (g h : Gauge) (s : System) → h.bits ≡ g.bits → IsSystemWithin h s → IsSystemWithin g s
system_kept g h s e w = record {
  rows = w.rows;
  within = rows_within_kept g h s.rows e w.within;
  count = w.count;
  definitions = definitions_kept g h (free_columns s) s.definitions e w.definitions;
}

pub live_kept : (g h : Gauge) (columns : ℕ) (s : System) → h.bits ≡ g.bits → IsLive h columns s → IsLive g columns s
live_kept g h columns s e p = record { free = p.free; within = system_kept g h s e p.within; normal = p.normal; somewhere = p.somewhere }

-- ---- more rows
pub and_rows_hold : (s : System) (rows : List Row) (point : List ℤ)
    → HoldsSystem (and_rows s rows) point ↔ (HoldsSystem s point × HoldRows rows (with_defined s.definitions point))
and_rows_hold s rows point =
    let P : Row → Type 0 = λ r. HoldsRow r (with_defined s.definitions point) in
    ((λ h. All-parts P s.rows rows h), (λ h. All-append P s.rows rows h.0 h.1))

pub and_rows_within : (g : Gauge) (s : System) (rows : List Row) → IsSystemWithin g s → All (IsWellFormed s.columns) rows
    → All (IsRowWithin g) rows → IsSystemWithin g (and_rows s rows)
and_rows_within g s rows w f i = record {
  rows = All-append (IsWellFormed s.columns) s.rows rows w.rows f;
  within = All-append (IsRowWithin g) s.rows rows w.within i;
  count = w.count;
  definitions = w.definitions;
}

one_row : (r : Row) (xs : List ℤ) → HoldRows (r ∷ []) xs ↔ HoldsRow r xs
one_row r xs = let P : Row → Type 0 = λ s. HoldsRow s xs in ((λ h. All-head P r [] h), (λ h. All-cons P r [] h (All-nil P)))

-- ---- the rows of a negation, one after another
pub record IsFailing (g h : Gauge) (s : System) (done : List Row) (parts : List System) : Type 0 where
  pub charged : IsCharged g h
  pub paid : ArePaidBy g h done parts
  pub definitions : All (λ t. t.definitions ≡ s.definitions) parts
  pub partition : IsPartition (IsLive g (free_columns s)) (free_columns s) (HoldsWithAny s done) parts
  pub tame : (columns bits : ℕ) → g.bits ≡ 127 → bits + columns ≤ 120 → HasDifferenceRows columns bits s → All (IsDifferenceRow bits) done
      → (h.units ≤ g.units + length done * test_work columns) × All (IsDifferenceSystem columns bits) parts

pub failing_first : (g : Gauge) (s : System) (parts : List System) → parts ≡ [] → IsFailing g g s [] parts
failing_first g s parts e = record {
  charged = IsCharged_refl g g refl;
  paid = rw e (record { few = omega arith; units = omega arith });
  definitions = rw e (All-nil (λ (t : System). t.definitions ≡ s.definitions));
  partition = rw e (partition_none (IsLive g (free_columns s)) (free_columns s) (HoldsWithAny s []) (λ point l h. Any-none (λ (r : Row). HoldsRow r (with_defined s.definitions point)) h.1));
  tame = λ columns bits limit room d all. (omega arith, rw e (All-nil (IsDifferenceSystem columns bits)));
}

-- a row that none of those before it holds with
exclusive_at : (rows : List Row) (i : ℕ) (r : Row) (xs : List ℤ) → AreExclusive rows → i < length rows → r ≡ get_or rows i r
    → Any (λ s. HoldsRow s xs) (take i rows) → ¬ HoldsRow r xs
exclusive_at rows i r xs e l is a h =
    let x = any_before (λ (t : Row). HoldsRow t xs) (λ (s t : Row). (ys : List ℤ) → HoldsRow s ys → ¬ HoldsRow t ys) rows i r e.apart l is a in
    x.2 xs x.1 h

module _ (g h j k : Gauge) (s : System) (denied : List Row) (i : ℕ) (r : Row) (parts : List System)
    (exclusive : AreExclusive denied) (inside : i < length denied) (is : r ≡ get_or denied i r)
    (so_far : IsFailing g h s (take i denied) parts) (unit : j ≡ record h { units = h.units + 1 }) (charged : IsCharged j k) where
  all_charged : IsCharged g k
  all_charged = IsCharged_trans g j k (IsCharged_trans g h j so_far.charged (IsCharged-unit h j unit)) charged

  abbrev free : ℕ
  free = free_columns s

  abbrev Next : List ℤ → Type 0
  Next point = HoldsSystem s point × HoldsRow r (with_defined s.definitions point)

  more : take (i + 1) denied ≡ take i denied ++ r ∷ []
  more = take_more denied i r inside ∙ ap (λ (t : Row). take i denied ++ t ∷ []) (sym is)

  joined : (new : List System) → IsPartition (IsLive g free) free Next new
      → IsPartition (IsLive g free) free (HoldsWithAny s (take (i + 1) denied)) (parts ++ new)
  joined new p =
      rw more (partition_same (IsLive g free) free (λ point. HoldsWithAny s (take i denied) point ⊎ Next point) (HoldsWithAny s (take i denied ++ r ∷ [])) (parts ++ new)
      (λ point l. let P : Row → Type 0 = λ t. HoldsRow t (with_defined s.definitions point) in (
        (λ x. elim x [ inl y ↦ (y.0, Any-left P (take i denied) (r ∷ []) y.1) | inr z ↦ (z.0, Any-right P (take i denied) (r ∷ []) (Any-first P r [] z.1)) ]),
        (λ x. elim (Any-parts P (take i denied) (r ∷ []) x.1) [ inl y ↦ inl (x.0, y) | inr z ↦ inr (x.0, Any-one P r z) ]),
      ))
      (partition_append (IsLive g free) free (HoldsWithAny s (take i denied)) Next parts new so_far.partition p
      (λ point l x y. exclusive_at denied i r (with_defined s.definitions point) exclusive inside is x.1 y.1)))

  more_paid : (new : List System) → length new ≤ 1 → ArePaidBy g k (take i denied ++ r ∷ []) (parts ++ new)
  more_paid new one =
      let few = so_far.paid.few in
      let units = so_far.paid.units in
      let next : j.units ≡ h.units + 1 = ap (λ (x : Gauge). x.units) unit in
      let later = charged.units in
      let all : length (parts ++ new) ≡ length parts + length new = length-append parts new in
      let rows : length (take i denied ++ r ∷ []) ≡ length (take i denied) + 1 = length-append (take i denied) (r ∷ []) in
      record { few = omega arith; units = omega arith }

  next_point : (point : List ℤ) → HoldsSystem (and_rows s (r ∷ [])) point ↔ Next point
  next_point point =
      let both = and_rows_hold s (r ∷ []) point in
      let one = one_row r (with_defined s.definitions point) in
      ((λ x. let y = both.0 x in (y.0, one.0 y.1)), (λ x. both.1 (x.0, one.1 x.1)))

  more_bits : j.bits ≡ g.bits
  more_bits = charged_bits g j (IsCharged_trans g h j so_far.charged (IsCharged-unit h j unit))

  -- what a test of the system with one more row leaves
  abbrev PushedTame : List System → Type 0
  PushedTame newer = (columns bits : ℕ) → j.bits ≡ 127 → bits + columns ≤ 120 → HasDifferenceRows columns bits (and_rows s (r ∷ []))
      → (k.units ≤ j.units + columns * (columns * columns))
      × (All (IsDifferenceSystem columns bits) parts → All (IsDifferenceSystem columns bits) newer)

  more_tame : (newer : List System) → PushedTame newer → (columns bits : ℕ) → g.bits ≡ 127 → bits + columns ≤ 120
      → HasDifferenceRows columns bits s → All (IsDifferenceRow bits) (take i denied ++ r ∷ [])
      → (k.units ≤ g.units + length (take i denied ++ r ∷ []) * test_work columns) × All (IsDifferenceSystem columns bits) newer
  more_tame newer pushed columns bits limit room d all =
      let rows = All-last (IsDifferenceRow bits) (take i denied) r all in
      let before = so_far.tame columns bits limit room d rows.0 in
      let one = All-cons (IsDifferenceRow bits) r [] rows.1 (All-nil (IsDifferenceRow bits)) in
      let after = pushed columns bits (more_bits ∙ limit) room (and_rows_differences columns bits s (r ∷ []) d one) in
      let next : j.units ≡ h.units + 1 = ap (λ (x : Gauge). x.units) unit in
      let used = after.0 in
      let long : length (take i denied ++ r ∷ []) ≡ length (take i denied) + 1 = length-append (take i denied) (r ∷ []) in (
        rw long (units_next g.units h.units k.units (length (take i denied)) (test_work columns) before.0 (omega arith)),
        after.1 before.1,
      )

  pub failing_more : (newer : List System) → IsPushed j (and_rows s (r ∷ [])) parts newer → PushedTame newer
      → IsFailing g k s (take (i + 1) denied) newer
  failing_more newer p t = record {
    charged = all_charged;
    paid = rw (p.is, more) (more_paid p.added p.few);
    definitions = rw (p.is) (All-append (λ (t : System). t.definitions ≡ s.definitions) parts p.added so_far.definitions p.definitions);
    partition = rw (p.is) (joined p.added
        (partition_same (IsLive g free) free (HoldsSystem (and_rows s (r ∷ []))) Next p.added (λ point l. next_point point)
        (partition_each (IsLive j free) (IsLive g free) free (HoldsSystem (and_rows s (r ∷ []))) p.added
        (λ t q. live_kept g j free t more_bits q)
        p.partition)));
    tame = rw more (more_tame newer t);
  }

-- the rows that were paid for are those of the negation
pub paid_all : (g h k : Gauge) (rows denied : List Row) (parts : List System) → h ≡ g → denied ≡ rows → ArePaidBy h k denied parts
    → ArePaidBy g k rows parts
paid_all g h k rows denied parts e f p = rw (e, f) at p

-- all rows of a negation
pub failing_all : (g : Gauge) (s : System) (row : Row) (denied : List Row) (parts : List System)
    → ((point : List ℤ) → Any (λ r. HoldsRow r point) denied ↔ (¬ HoldsRow row point))
    → IsPartition (IsLive g (free_columns s)) (free_columns s) (HoldsWithAny s denied) parts
    → IsPartition (IsLive g (free_columns s)) (free_columns s) (HoldsBut s (row ∷ [])) parts
failing_all g s row denied parts same p =
    partition_same (IsLive g (free_columns s)) (free_columns s) (HoldsWithAny s denied) (HoldsBut s (row ∷ [])) parts
    (λ point l. let full = with_defined s.definitions point in (
      (λ x. (x.0, λ all. (same full).0 x.1 ((one_row row full).0 all))),
      (λ x. (x.0, (same full).1 (λ one. x.1 ((one_row row full).1 one)))),
    ))
    p

-- ---- one row after another
pub record IsSplitBy (g h : Gauge) (s : System) (done : List Row) (rest : System) (parts : List System) : Type 0 where
  pub charged : IsCharged g h
  pub paid : g.units + length parts ≤ h.units
  pub columns : rest.columns ≡ s.columns
  pub definitions : rest.definitions ≡ s.definitions
  pub within : IsSystemWithin h rest
  pub points : (point : List ℤ) → HoldsSystem rest point ↔ (HoldsSystem s point × HoldRows done (with_defined s.definitions point))
  pub alike : All (λ t. t.definitions ≡ s.definitions) parts
  pub partition : IsPartition (IsLive g (free_columns s)) (free_columns s) (HoldsBut s done) parts
  pub tame : (columns bits : ℕ) → g.bits ≡ 127 → bits + 1 + columns ≤ 120 → HasDifferenceRows columns (bits + 1) s
      → All (IsDifferenceRow bits) done → IsSplitWithin columns (bits + 1) (length done) g h rest parts

pub split_first : (g : Gauge) (s rest : System) (parts : List System) → IsSystemWithin g s → rest ≡ s → parts ≡ []
    → IsSplitBy g g s [] rest parts
split_first g s rest parts w e n = rw (e, n) (record {
  charged = IsCharged_refl g g refl;
  paid = omega arith;
  columns = refl;
  definitions = refl;
  within = w;
  points = λ point. ((λ h. (h, All-nil (λ (r : Row). HoldsRow r (with_defined s.definitions point)))), (λ h. h.0));
  alike = All-nil (λ (t : System). t.definitions ≡ s.definitions);
  partition = partition_none (IsLive g (free_columns s)) (free_columns s) (HoldsBut s []) (λ point l h. h.1 (All-nil (λ (r : Row). HoldsRow r (with_defined s.definitions point))));
  tame = λ c b limit room d all. record {
    units = omega arith;
    rows = d;
    size = record { few = omega arith; each = All-nil (IsDifferenceSystem c (b + 1)) };
  };
})

pub negation_few : (r : Row) → length (negation_of r) ≤ 2
negation_few r = by r.kind r.coefs r.constant r.k
  where
    by : (kind : RowKind) (cs : List ℤ) (c k : ℤ) → length (negated_form kind cs c k) ≤ 2
    by Zero cs c k = omega arith
    by AtLeast cs c k = omega arith
    by Divides cs c k = omega arith
    by NotDivides cs c k = omega arith

-- of difference constraints the negation passes no limit
pub negated_cut : {A : Type 0} (c b most : ℕ) (g k : Gauge) (P : A → Type 0) (r : Row) (cut : Cut) → g.bits ≡ 127 → b + 1 + c ≤ 120
    → IsDifferenceRow b r → IsCutFor (ConstantPassesLimit g (negation_of r)) g k cut → IsTame most g k P (Err cut)
negated_cut c b most g k P r Overflow limit room d m =
    let denied = negation_of r in
    let a = m.0 in
    let row = differences_negated b r d a.0 a.1 a.2 in
    let within = difference_within g (b + 1) (get_or denied a.0 a.1) (omega arith) (omega arith) row in
    absurd (a.4 (subst (λ (t : Row). IsWithin g t.constant) a.3 within.constant))
negated_cut c b most g k P r Budget limit room d m = absurd m
negated_cut c b most g k P r NoMemory limit room d m =
    tame_memory 0 most g k P (let u = ap (λ (x : Gauge). x.units) m in omega arith) (omega arith)

-- the rows of a negation are at most two
pub denied_tame : {A : Type 0} (c : ℕ) (g k : Gauge) (P : A → Type 0) (r : Row) (denied : List Row) (result : Result A Cut)
    → denied ≡ negation_of r → IsTame (length denied * test_work c) g k P result → IsTame (2 * test_work c) g k P result
denied_tame c g k P r denied result e t =
    let few : length denied ≤ 2 = rw e (negation_few r) in
    tame_more (length denied * test_work c) (2 * test_work c) g k P P result (mul-le-mul_right (test_work c) few) (λ value p. p) t

-- what the parts leave in which a row fails
abbrev pub FailingTame : Gauge → Gauge → System → Row → List System → Type 0
FailingTame h k rest r new = (columns bits : ℕ) → h.bits ≡ 127 → bits + 1 + columns ≤ 120 → HasDifferenceRows columns (bits + 1) rest
    → IsDifferenceRow bits r → (k.units ≤ h.units + 2 * test_work columns) × All (IsDifferenceSystem columns (bits + 1)) new

module _ (g h : Gauge) (s : System) (done : List Row) (r : Row) (rest : System) (parts : List System) (so_far : IsSplitBy g h s done rest parts) where
  abbrev full : List ℤ → List ℤ
  full point = with_defined s.definitions point

  abbrev columns : ℕ
  columns = free_columns s

  free_same : free_columns rest ≡ free_columns s
  free_same = let n = ap (length {A = Definition}) so_far.definitions in let m = so_far.columns in omega arith

  -- the rest at the full point of the system
  there : (point : List ℤ) → HoldsSystem rest point → HoldRows rest.rows (full point)
  there point x = subst (λ ds. HoldRows rest.rows (with_defined ds point)) so_far.definitions x

  all_but : (point : List ℤ) → HoldRows (done ++ r ∷ []) (full point) → HoldRows done (full point) × HoldsRow r (full point)
  all_but point x = All-last (λ (t : Row). HoldsRow t (full point)) done r x

  all_with : (point : List ℤ) → HoldRows done (full point) → HoldsRow r (full point) → HoldRows (done ++ r ∷ []) (full point)
  all_with point x y = All-push (λ (t : Row). HoldsRow t (full point)) done r x y

  pub split_given : ImplyRow rest.rows r → IsSplitBy g h s (done ++ r ∷ []) rest parts
  split_given implied = record {
    charged = so_far.charged;
    paid = so_far.paid;
    columns = so_far.columns;
    definitions = so_far.definitions;
    within = so_far.within;
    points = λ point. (
      (λ x. let y = (so_far.points point).0 x in (y.0, all_with point y.1 (implied.holds (full point) (there point x)))),
      (λ y. (so_far.points point).1 (y.0, (all_but point y.1).0)),
    );
    alike = so_far.alike;
    partition = partition_same (IsLive g columns) columns (HoldsBut s done) (HoldsBut s (done ++ r ∷ [])) parts
        (λ point l. (
          (λ x. (x.0, λ all. x.1 (all_but point all).0)),
          (λ x. (x.0, λ all. x.1 (all_with point all (implied.holds (full point) (there point ((so_far.points point).1 (x.0, all))))))),
        ))
        so_far.partition;
    tame = λ c b limit room d all.
        split_longer c (b + 1) (length done) (length (done ++ r ∷ [])) g h rest parts (let l = length-append done (r ∷ []) in omega arith)
        (so_far.tame c b limit room d (All-last (IsDifferenceRow b) done r all).0);
  }

  module _ (k : Gauge) (new : List System) (rest2 : System) (parts2 : List System) (charged : IsCharged h k) (paid : ArePaidBy h k (negation_of r) new) (formed : All (IsWellFormed s.columns) (done ++ r ∷ [])) (row_within : IsRowWithin h r)
      (same_columns : All (λ t. t.definitions ≡ rest.definitions) new)
      (failing : IsPartition (IsLive h (free_columns rest)) (free_columns rest) (HoldsBut rest (r ∷ [])) new)
      (tame : FailingTame h k rest r new) where
    abbrev Failing : List ℤ → Type 0
    Failing point = HoldsSystem rest point × (¬ HoldsRow r (full point))

    forms : All (IsWellFormed s.columns) done × IsWellFormed s.columns r
    forms = All-last (IsWellFormed s.columns) done r formed

    new_parts : IsPartition (IsLive g columns) columns Failing new
    new_parts =
        let one : (point : List ℤ) → HoldsBut rest (r ∷ []) point ↔ Failing point = λ point. (
          (λ x. (x.0, λ y. x.1 (subst (λ ds. HoldRows (r ∷ []) (with_defined ds point)) (sym so_far.definitions) ((one_row r (full point)).1 y)))),
          (λ x. (x.0, λ y. x.1 ((one_row r (full point)).0 (subst (λ ds. HoldRows (r ∷ []) (with_defined ds point)) so_far.definitions y)))),
        ) in
        let here = subst (λ n. IsPartition (IsLive h n) n (HoldsBut rest (r ∷ [])) new) free_same failing in
        partition_same (IsLive g columns) columns (HoldsBut rest (r ∷ [])) Failing new (λ point l. one point)
        (partition_each (IsLive h columns) (IsLive g columns) columns (HoldsBut rest (r ∷ [])) new (λ t p. live_kept g h columns t (charged_bits g h so_far.charged) p) here)

    both_parts : IsPartition (IsLive g columns) columns (HoldsBut s (done ++ r ∷ [])) (parts ++ new)
    both_parts =
        partition_same (IsLive g columns) columns (λ point. HoldsBut s done point ⊎ Failing point) (HoldsBut s (done ++ r ∷ [])) (parts ++ new)
        (λ point l. (
          (λ x. elim x [
            | inl y ↦ (y.0, λ all. y.1 (all_but point all).0)
            | inr z ↦ (((so_far.points point).0 z.0).0, λ all. z.1 (all_but point all).1)
          ]),
          (λ x. elim (rows_cases s.columns done (full point) forms.0) [
            | inl all ↦ inr ((so_far.points point).1 (x.0, all), λ one. x.1 (all_with point all one))
            | inr some ↦ inl (x.0, some)
          ]),
        ))
        (partition_append (IsLive g columns) columns (HoldsBut s done) Failing parts new so_far.partition new_parts
        (λ point l x y. x.1 ((so_far.points point).0 y.0).1))

    more_within : IsSystemWithin k (and_rows rest (r ∷ []))
    more_within =
        let one = subst (λ n. IsWellFormed n r) (sym so_far.columns) forms.1 in
        system_kept k h (and_rows rest (r ∷ [])) (sym (charged_bits h k charged))
        (and_rows_within h rest (r ∷ []) so_far.within (All-cons (IsWellFormed rest.columns) r [] one (All-nil (IsWellFormed rest.columns))) (All-cons (IsRowWithin h) r [] row_within (All-nil (IsRowWithin h))))

    more_points : (point : List ℤ)
        → HoldsSystem (and_rows rest (r ∷ [])) point ↔ (HoldsSystem s point × HoldRows (done ++ r ∷ []) (full point))
    more_points point =
        let both = and_rows_hold rest (r ∷ []) point in (
          (λ x. let y = both.0 x in let z = (so_far.points point).0 y.0 in
              (z.0, all_with point z.1 ((one_row r (full point)).0 (subst (λ ds. HoldRows (r ∷ []) (with_defined ds point)) so_far.definitions y.1)))),
          (λ x. let y = all_but point x.1 in
              both.1 ((so_far.points point).1 (x.0, y.0), subst (λ ds. HoldRows (r ∷ []) (with_defined ds point)) (sym so_far.definitions) ((one_row r (full point)).1 y.1))),
        )

    all_paid : g.units + length (parts ++ new) ≤ k.units
    all_paid =
        let before = so_far.paid in
        let few = paid.few in
        let units = paid.units in
        let all : length (parts ++ new) ≡ length parts + length new = length-append parts new in
        omega arith

    all_alike : All (λ t. t.definitions ≡ s.definitions) (parts ++ new)
    all_alike =
        All-append (λ (t : System). t.definitions ≡ s.definitions) parts new so_far.alike
        (subst (λ ds. All (λ (t : System). t.definitions ≡ ds) new) so_far.definitions same_columns)

    all_tame : (c b : ℕ) → g.bits ≡ 127 → b + 1 + c ≤ 120 → HasDifferenceRows c (b + 1) s → All (IsDifferenceRow b) (done ++ r ∷ [])
        → IsSplitWithin c (b + 1) (length (done ++ r ∷ [])) g k (and_rows rest (r ∷ [])) (parts ++ new)
    all_tame c b limit room d all =
        let rows = All-last (IsDifferenceRow b) done r all in
        let before = so_far.tame c b limit room d rows.0 in
        let after = tame c b (charged_bits g h so_far.charged ∙ limit) room before.rows rows.1 in
        let one = All-cons (IsDifferenceRow b) r [] rows.1 (All-nil (IsDifferenceRow b)) in
        let few = before.size.few in
        let two = negation_few r in
        let some = paid.few in
        let both : length (parts ++ new) ≡ length parts + length new = length-append parts new in
        let long : length (done ++ r ∷ []) ≡ length done + 1 = length-append done (r ∷ []) in
        rw long (record {
          units = units_next g.units h.units k.units (length done) (2 * test_work c) before.units after.0;
          rows = and_rows_differences c (b + 1) rest (r ∷ []) before.rows (rows_wider b (b + 1) (r ∷ []) (omega arith) one);
          size = record {
            few = omega arith;
            each = All-append (IsDifferenceSystem c (b + 1)) parts new before.size.each after.1;
          };
        })

    pub split_more : rest2 ≡ and_rows rest (r ∷ []) → parts2 ≡ parts ++ new → IsSplitBy g k s (done ++ r ∷ []) rest2 parts2
    split_more e f = rw (e, f) (record {
      charged = IsCharged_trans g h k so_far.charged charged;
      paid = all_paid;
      columns = so_far.columns;
      definitions = so_far.definitions;
      within = more_within;
      points = more_points;
      alike = all_alike;
      partition = both_parts;
      tame = all_tame;
    })

-- ---- what calls ask for
pub charged_within : (g h : Gauge) (s : System) → IsCharged g h → IsSystemWithin g s → IsSystemWithin h s
charged_within g h s c w = system_kept h g s (sym (charged_bits g h c)) w

pub row_formed : (columns : ℕ) (rows : List Row) (i : ℕ) (r : Row) → All (IsWellFormed columns) rows → i < length rows
    → r ≡ get_or rows i r → IsWellFormed columns r
row_formed columns rows i r f l is = rw is (f i r l)

pub row_within : (g h : Gauge) (rows : List Row) (i : ℕ) (r : Row) → IsCharged g h → All (IsRowWithin g) rows → i < length rows
    → r ≡ get_or rows i r → IsRowWithin h r
row_within g h rows i r c w l is = rw is (row_within_kept h g (get_or rows i r) (sym (charged_bits g h c)) (w i r l))

pub both_within : (g h : Gauge) (s : System) (rows : List Row) (i : ℕ) (r : Row) (both : System) → IsCharged g h → IsSystemWithin g s
    → All (IsWellFormed s.columns) rows → All (IsRowWithin g) rows → i < length rows → r ≡ get_or rows i r
    → both ≡ and_rows s (r ∷ []) → IsSystemWithin h both
both_within g h s rows i r both c w f n l is e =
    let one = row_formed s.columns rows i r f l is in
    let now = system_kept h g s (sym (charged_bits g h c)) w in
    rw e (and_rows_within h s (r ∷ []) now (All-cons (IsWellFormed s.columns) r [] one (All-nil (IsWellFormed s.columns)))
    (All-cons (IsRowWithin h) r [] (row_within g h rows i r c n l is) (All-nil (IsRowWithin h))))

pub failing_within : (g h j : Gauge) (s : System) (rows : List Row) (i : ℕ) (r : Row) (both : System) (parts : List System)
    → IsFailing g h s (take i rows) parts → j ≡ record h { units = h.units + 1 } → IsSystemWithin g s → All (IsWellFormed s.columns) rows
    → All (IsRowWithin g) rows → i < length rows → r ≡ get_or rows i r → both ≡ and_rows s (r ∷ []) → IsSystemWithin j both
failing_within g h j s rows i r both parts f u w formed within l is e =
    both_within g j s rows i r both (IsCharged_trans g h j f.charged (IsCharged-unit h j u)) w formed within l is e

-- ---- the rows of a negation
negation_exclusive : (r : Row) → AreExclusive (negation_of r)
negation_exclusive r = record { apart = by r.kind r.coefs r.constant r.k }
  where
    two : (cs : List ℤ) (c : ℤ) (xs : List ℤ) → HoldsRow (above cs c) xs → ¬ HoldsRow (below cs c) xs
    two cs c xs h k = let e = dot-scaled (negsuc 0) cs xs in omega (arith, linear)

    by : (kind : RowKind) (cs : List ℤ) (c k : ℤ) → AllPairs (λ a b. (xs : List ℤ) → HoldsRow a xs → ¬ HoldsRow b xs) (negated_form kind cs c k)
    by Zero cs c k zero zero d low inside = absurd (omega arith)
    by Zero cs c k zero (suc zero) d low inside = λ xs h n. two cs c xs h n
    by Zero cs c k zero (suc (suc j)) d low inside = absurd (omega arith)
    by Zero cs c k (suc i) j d low inside = absurd (omega arith)
    by AtLeast cs c k i j d low inside = absurd (omega arith)
    by Divides cs c k i j d low inside = absurd (omega arith)
    by NotDivides cs c k i j d low inside = absurd (omega arith)

pub denied_exclusive : (r : Row) (denied : List Row) → denied ≡ negation_of r → AreExclusive denied
denied_exclusive r denied e = rw e (negation_exclusive r)

-- ---- the same, at a place among the rows
-- of difference constraints, where so many units were used of those that all rows may use
pub record IsBeforeRow (c b used most : ℕ) (g h : Gauge) (rest : System) (r : Row) : Type 0 where
  pub limit : h.bits ≡ 127
  pub units : h.units ≤ g.units + used
  pub room : used + 2 * test_work c ≤ most
  pub rows : HasDifferenceRows c (b + 1) rest
  pub row : IsDifferenceRow b r

module _ (g h : Gauge) (s : System) (rows : List Row) (i : ℕ) (r : Row) (rest : System) (parts : List System) (inside : i < length rows) (is : r ≡ get_or rows i r) (so_far : IsSplitBy g h s (take i rows) rest parts) where
  next_rows : take (i + 1) rows ≡ take i rows ++ r ∷ []
  next_rows = take_more rows i r inside ∙ ap (λ (t : Row). take i rows ++ t ∷ []) (sym is)

  pub given_at : ImplyRow rest.rows r → IsSplitBy g h s (take (i + 1) rows) rest parts
  given_at implied = rw next_rows (split_given g h s (take i rows) r rest parts so_far implied)

  pub more_at : (k : Gauge) (new : List System) (rest2 : System) (parts2 : List System) → All (IsWellFormed s.columns) rows
      → All (IsRowWithin g) rows → IsCharged h k → ArePaidBy h k (negation_of r) new
      → All (λ t. t.definitions ≡ rest.definitions) new
      → IsPartition (IsLive h (free_columns rest)) (free_columns rest) (HoldsBut rest (r ∷ [])) new → FailingTame h k rest r new
      → rest2 ≡ and_rows rest (r ∷ []) → parts2 ≡ parts ++ new → IsSplitBy g k s (take (i + 1) rows) rest2 parts2
  more_at k new rest2 parts2 formed within charged paid same_columns failing tame e f =
      rw next_rows (split_more g h s (take i rows) r rest parts so_far k new rest2 parts2 charged paid (rw next_rows at (All-take (IsWellFormed s.columns) (i + 1) rows formed))
      (row_within g h rows i r so_far.charged within inside is) same_columns failing tame e f)

  -- what was used before the row, and what is known of the rest
  pub before_row : (c b : ℕ) → g.bits ≡ 127 → b + 1 + c ≤ 120 → HasDifferenceRows c (b + 1) s → All (IsDifferenceRow b) rows
      → IsBeforeRow c b (length (take i rows) * (2 * test_work c)) (length rows * (2 * test_work c)) g h rest r
  before_row c b limit room d all =
      let so = so_far.tame c b limit room d (All-take (IsDifferenceRow b) i rows all) in
      record {
        limit = charged_bits g h so_far.charged ∙ limit;
        units = so.units;
        room = taken_turn i rows (2 * test_work c) inside;
        rows = so.rows;
        row = rw is (all i r inside);
      }

  pub rest_formed : All (IsWellFormed s.columns) rows → IsWellFormed rest.columns r
  rest_formed f = subst (λ n. IsWellFormed n r) (sym so_far.columns) (row_formed s.columns rows i r f inside is)

-- ---- rows that hold throughout
-- no part is left
pub throughout : (g h : Gauge) (s : System) (rows : List Row) (i : ℕ) (rest : System) → length rows ≤ i
    → IsSplitBy g h s (take i rows) rest [] → IsNowhere (free_columns s) (HoldsBut s rows)
throughout g h s rows i rest end so_far point l x =
    let p = subst (λ (done : List Row). IsPartition (IsLive g (free_columns s)) (free_columns s) (HoldsBut s done) []) (take_all i rows end)
    so_far.partition in
    Any-none (λ (t : System). HoldsSystem t point) ((p.points point l).1 x)

-- a part is left
pub not_throughout : (g h : Gauge) (s : System) (rows : List Row) (i : ℕ) (r : Row) (rest : System) (failed : List System) → i < length rows
    → r ≡ get_or rows i r → IsSplitBy g h s (take i rows) rest []
    → IsPartition (IsLive h (free_columns rest)) (free_columns rest) (HoldsBut rest (r ∷ [])) failed → 0 < length failed
    → ¬ IsNowhere (free_columns s) (HoldsBut s rows)
not_throughout g h s rows i r rest [] low is so_far p some nowhere = absurd (omega arith)
not_throughout g h s rows i r rest (t ∷ failed) low is so_far p some nowhere =
    let first = p.each 0 t (omega arith) in
    first.somewhere (λ point l x.
    let but = (p.points point l).0 (Any-first (λ (u : System). HoldsSystem u point) t failed x) in
    let full = with_defined s.definitions point in
    let here = (so_far.points point).0 but.0 in
    nowhere point (l ∙ free_same g h s (take i rows) r rest [] so_far) (
      here.0,
      λ all.
          let holds : HoldsRow r full = rw is (all i r low) in
          but.1 (subst (λ ds. HoldRows (r ∷ []) (with_defined ds point)) (sym so_far.definitions) ((one_row r full).1 holds)),
    ))

-- ---- the units of a turn
pub unit_used : (used : ℕ) (g h j : Gauge) → h.units ≤ g.units + used → j ≡ record h { units = h.units + 1 } → j.units ≤ g.units + (used + 1)
unit_used used g h j few e = let one : j.units ≡ h.units + 1 = ap (λ (x : Gauge). x.units) e in omega arith

-- a call more, and the same within the most
pub turn_units : (used next : ℕ) (g h k : Gauge) → h.units ≤ g.units + used → k.units ≤ h.units + next → k.units ≤ g.units + (used + next)
turn_units used next g h k few more = omega arith

pub turn_within : (used next most : ℕ) (g h k : Gauge) → h.units ≤ g.units + used → k.units ≤ h.units + next → used + next ≤ most
    → k.units ≤ g.units + most
turn_within used next most g h k few more room = omega arith

pub unit_room : (used most test : ℕ) → used + (1 + test) ≤ most → used < most
unit_room used most test l = omega arith

pub one_room : (used most test : ℕ) → used + (1 + test) ≤ most → used + 1 ≤ most
one_room used most test l = omega arith

pub test_room : (used most test : ℕ) → used + (1 + test) ≤ most → used + 1 + test ≤ most
test_room used most test l = omega arith

pub ruleset failing_steps = (charges, failing_first, failing_more, failing_within, denied_exclusive)

pub ruleset split_steps = (charges, split_first, row_within, rest_formed, given_at, more_at)
