use Rattle.std.proofs.Common.{◌≡◌, ◌∷◌, ◌++◌, ◌<◌, ◌-◌, ◌+◌, ◌*◌, ◌∙◌, [], refl, sym, ap, subst, arith, get_or, length, true, None, IfSome, Ok, Err, List, ℕ, ℤ}
use Rattle.std.specs.List.{All}
use Rattle.std.proofs.lemmas.List.{nil_from_length}
use Rattle.std.proofs.lemmas.Result.{err_from_is_err_and}
use Rattle.isl_ledger.specs.Difference.{IsDifferenceRow}
use Rattle.isl_meter.specs.Gauge.{Gauge, IsCharged}
use Rattle.isl_meter.proofs.CutLemmas.{IsCharged_refl, IsCharged_trans}
use Rattle.isl_elim.specs.Others.{others_of}
use Rattle.isl_column.specs.Parts.{AreParts, ArePartsOf, HoldsPart}
use Rattle.isl_elim.proofs.OthersLaws.{among, among_at, others_count}
use Rattle.isl_elim.specs.Tame.{AddsFewDifferences}
use Rattle.isl_elim.proofs.DifferenceColumns.{AreDifferences, column_tame, difference_head}
use Rattle.isl_elim.proofs.TameLaws.{tame_ok, tame_memory, tame_cut, same_bits, adds_none, adds_one, columns_tame, square_once}
use Rattle.isl_elim.proofs.TameLaws.{head_taken, pushed_tame_first, pushed_tame_next, pushed_tame_cut, pushed_tame_all, pushed_tame_ends}
use Rattle.isl_presolve.specs.Fixed.{HoldAlike}
use Rattle.isl_elim.proofs.AlongLaws.{along_none, along_after, along_nowhere, along_charged, columns_after}
use Rattle.isl_elim.proofs.AlongLaws.{pushed_first, pushed_next, pushed_all, one_more, counted_after, counted_charged}
use Rattle.isl_elim.proofs.FewerLaws.{along_alike}
use Rattle.isl_presolve.specs.Emptiness.{HoldNowhere}
use Rattle.isl_elim.proofs.PartsLaws.{part_found, parts_after}
use Rattle.isl_shadows.specs.Column.{HoldAtSome}
use Rattle.isl_omega.specs.Column.{AreRowsOf}
use Rattle.isl_elim.specs.Narrow.{IsNarrow}
use Rattle.isl_elim.proofs.AlongLaws.{along_narrow, along_none_of, along_rows, along_some}
use Rattle.isl_elim.proofs.FewerLaws.{rows_within}
use Rattle.isl_elim.proofs.NarrowLaws.{narrow_in, narrow_low, narrow_no_difference}
use Rattle.isl_elim.proofs.along.+eliminate_all.Goals as goal

pub push_parts-returns : goal.push_parts-returns
push_parts-returns t c =
    let g = c.args.meter.now in
    let h = c.loop-parts.meter in
    let k = c.next.new.meter in
    let none : (point : List ℤ) → length point ≡ c.args.columns → ¬ HoldsPart c.loop-parts.parts point = grind arith in
    let charged : IsCharged h k = grind arith in
    record {
      exact = (
        pushed_all g h c.args.columns c.args.cols.now c.args.parts c.loop-parts.parts c.args.lists.now.items c.loop-parts.lists.items
            c.loop-parts.invariant.0 none,
        IsCharged_trans g h k c.loop-parts.invariant.0.charged charged,
      );
      counted = let w = c.loop-parts.invariant.0.counted in let u = charged.units in omega (arith, w, u);
      tame = record {
        tame = λ bits full room given.
            let found : c.in_ok-rows.field-0 ≡ None = grind arith in
            let alone = rw found at c.in_ok-rows.ensures.alone in
            pushed_tame_all g h k c.args.columns (length c.args.cols.now) c.loop-parts.taken bits c.loop-parts.parts c.next.new.self None
            c.args.lists.now.items c.loop-parts.lists.items _ (c.loop-parts.invariant.1.pushed bits full room given) alone;
      };
    }

-- ---- a column between two opposite bounds
pub push_without-narrow_among-requires : goal.push_without-narrow_among-requires
push_without-narrow_among-requires t c =
    let slice : c.as_slice.result.now ≡ c.args.rows = grind arith in
    record { within = rw slice (rows_within c.args.meter.now c.args.columns c.args.rows c.requires.rows) }

pub push_without-push_narrow-requires : goal.push_without-push_narrow-requires
push_without-push_narrow-requires t c =
    let slice : c.as_slice.result.now ≡ c.args.rows = grind arith in
    let is : IsNarrow c.args.rows c.args.cols.now c.in-Some.narrow = rw slice at (rw c.in-Some.is at c.narrow_among.ensures) in
    (grind arith, (c.requires.rows, (is, (c.requires.distinct, c.requires.cols_in))))

pub push_without-returns-in-Some : goal.push_without-returns-in-Some
push_without-returns-in-Some t c =
    let g = c.args.meter.now in
    let slice : c.as_slice.result.now ≡ c.args.rows = grind arith in
    let narrow = c.in-Some.narrow in
    let is : IsNarrow c.args.rows c.args.cols.now narrow = rw slice at (rw c.in-Some.is at c.narrow_among.ensures) in
    let low = narrow_low c.args.columns c.args.rows c.args.cols.now narrow is c.requires.cols_in in
    record {
      exact = c.push_narrow.ensures.exact;
      counted = c.push_narrow.ensures.counted;
      tame = record {
        tame = λ bits full room given.
            absurd (narrow_no_difference g c.args.columns bits c.args.rows narrow is.are c.requires.rows given low);
      };
    }

pub push_narrow-without_narrow-requires : goal.push_narrow-without_narrow-requires
push_narrow-without_narrow-requires t c = record { rows = c.requires.rows; narrow = c.requires.narrow.are; column = refl }

pub push_narrow-push_without-requires : goal.push_narrow-push_without-requires
push_narrow-push_without-requires t c =
    let g = c.args.meter.now in
    let rows = c.args.rows in
    let cols = c.args.cols.now in
    let narrow = c.args.narrow in
    let low = narrow_low c.args.columns rows cols narrow c.requires.narrow c.requires.cols_in in
    let same : c.without_narrow.new.meter ≡ g = grind arith in
    let are : AreRowsOf g (c.args.columns - 1) (HoldAtSome rows narrow.col) c.in-Some.short = rw c.in-Some.is at c.in_ok-without_narrow.ensures.0 in
    let slice : c.as_slice.result.now ≡ others_of narrow.col cols = grind arith in
    let left = columns_after c.args.columns narrow.col cols c.as_slice.result.now slice c.requires.distinct low c.requires.cols_in in
    (omega (arith, low), (rw same are.proper, (are.normal, left)))

pub push_narrow-returns : goal.push_narrow-returns
push_narrow-returns t c =
    let g = c.args.meter.now in
    let rows = c.args.rows in
    let cols = c.args.cols.now in
    let narrow = c.args.narrow in
    let low = narrow_low c.args.columns rows cols narrow c.requires.narrow c.requires.cols_in in
    let among = narrow_in rows cols narrow c.requires.narrow in
    let same : c.without_narrow.new.meter ≡ g = grind arith in
    let are : AreRowsOf g (c.args.columns - 1) (HoldAtSome rows narrow.col) c.in-Some.short = rw c.in-Some.is at c.in_ok-without_narrow.ensures.0 in
    let slice : c.as_slice.result.now ≡ others_of narrow.col cols = grind arith in
    let old = c.args.lists.now.items in
    let new = c.push_without.new.lists.items in
    let k = c.push_without.new.meter in
    let e = rw (slice, same) at c.push_without.ensures in
    record {
      exact = along_narrow g k c.args.columns narrow.col cols rows old new c.push_without.result c.requires.distinct among low
          (along_rows g k (c.args.columns - 1) (others_of narrow.col cols) (HoldAtSome rows narrow.col) c.in-Some.short old new
          c.push_without.result are e.exact);
      counted = e.counted;
    }

pub push_narrow-returns-in-None : goal.push_narrow-returns-in-None
push_narrow-returns-in-None t c =
    let g = c.args.meter.now in
    let rows = c.args.rows in
    let cols = c.args.cols.now in
    let narrow = c.args.narrow in
    let old = c.args.lists.now.items in
    let low = narrow_low c.args.columns rows cols narrow c.requires.narrow c.requires.cols_in in
    let among = narrow_in rows cols narrow c.requires.narrow in
    let same : c.without_narrow.new.meter ≡ g = grind arith in
    let none = rw c.in-None.is at c.in_ok-without_narrow.ensures.0 in
    let left = along_none_of g (c.args.columns - 1) (others_of narrow.col cols) (HoldAtSome rows narrow.col) old none in
    record {
      exact = rw same (
        along_some g g c.args.columns narrow.col cols rows (HoldAtSome rows narrow.col) old old c.requires.distinct among low
            (IsCharged_refl g g refl) (λ point l. ((λ h. h), (λ h. h))) left,
        IsCharged_refl g g refl,
      );
      counted = rw same (omega arith);
    }

pub push_by_parts-returns-then-is_empty : goal.push_by_parts-returns-then-is_empty
push_by_parts-returns-then-is_empty t c =
    let g = c.args.meter.now in
    let empty : length c.args.cols.now ≡ 0 = grind arith in
    let none = nil_from_length c.args.cols.now empty in
    let pushed : c.push_list.new.lists.items ≡ c.args.lists.now.items ++ c.args.rows ∷ [] = grind arith in
    record {
      exact = (
        along_none g c.args.columns c.args.cols.now c.args.rows c.args.lists.now.items c.push_list.new.lists.items none c.requires.rows
            c.requires.normal pushed,
        IsCharged_refl g g refl,
      );
      counted = one_more g.units c.args.lists.now.items c.push_list.new.lists.items c.args.rows pushed;
      tame = record {
        tame = λ bits full room given.
            let same : bits ≡ bits + length c.args.cols.now = omega arith in
            tame_ok (length c.args.cols.now * (c.args.columns * c.args.columns)) g g
            (λ _. AddsFewDifferences (bits + length c.args.cols.now) c.args.lists.now.items c.push_list.new.lists.items) _ (omega arith)
            (subst (λ b. AddsFewDifferences b c.args.lists.now.items c.push_list.new.lists.items) same
            (adds_one bits c.args.rows c.args.lists.now.items c.push_list.new.lists.items pushed given));
      };
    }

pub push_by_parts-returns-in_default : goal.push_by_parts-returns-in_default
push_by_parts-returns-in_default t c =
    let g = c.args.meter.now in
    let same : c.simpler.new.meter ≡ g = grind arith in
    let none : HoldNowhere c.args.columns c.args.rows = rw c.in_default.is at c.in_ok-few.ensures.exact.0 in
    record {
      exact = rw same (along_nowhere g c.args.columns c.args.cols.now c.args.rows c.args.lists.now.items none, IsCharged_refl g g refl);
      counted = rw same (omega arith);
      tame = record {
        tame = λ bits full room given.
            tame_ok (length c.args.cols.now * (c.args.columns * c.args.columns)) g c.simpler.new.meter
            (λ _. AddsFewDifferences (bits + length c.args.cols.now) c.args.lists.now.items c.args.lists.now.items) _
            (let u = ap (λ (x : Gauge). x.units) same in omega arith)
            (adds_none (bits + length c.args.cols.now) c.args.lists.now.items c.args.lists.now.items refl);
      };
    }

pub push_by_parts-of-requires : goal.push_by_parts-of-requires
push_by_parts-of-requires t c =
    let g = c.args.meter.now in
    let same : c.simpler.new.meter ≡ g = grind arith in
    let few = c.in-Some.few in
    let is : HoldAlike g c.args.columns c.args.rows few = rw c.in-Some.is at c.in_ok-few.ensures.exact.0 in
    let slice : c.as_slice-2.result.now ≡ few = grind arith in
    record { rows = rw (same, slice) is.proper }

pub push_by_parts-returns : goal.push_by_parts-returns
push_by_parts-returns t c =
    let g = c.args.meter.now in
    let same : c.simpler.new.meter ≡ g = grind arith in
    let h = c.of.new.meter in
    let cols = c.args.cols.now in
    let rows = c.args.rows in
    let few = c.in-Some.few in
    let is : HoldAlike g c.args.columns rows few = rw c.in-Some.is at c.in_ok-few.ensures.exact.0 in
    let at = c.cheapest-at.result in
    let col = get_or cols at 0 in
    let inside : at < length cols = grind arith in
    let among : among col cols ≡ true = among_at cols at inside in
    let low = c.requires.cols_in at 0 inside in
    let are : ArePartsOf g c.args.columns col few c.in_ok-parts.parts = grind arith in
    let charged : IsCharged g h = grind arith in
    let slice : c.as_slice-3.result.now ≡ others_of col cols = grind arith in
    let old = c.args.lists.now.items in
    let new = c.push_parts.new.lists.items in
    let k = c.push_parts.new.meter in
    record {
      exact = along_alike g k c.args.columns cols rows few old new c.push_parts.result is
          (along_after g h k c.args.columns col cols few c.in_ok-parts.parts old new c.push_parts.result c.requires.distinct among low charged
          are (rw slice at c.push_parts.ensures.exact));
      counted = counted_after g h k c.in_ok-parts.parts old new c.push_parts.result charged c.push_parts.ensures.counted;
      tame = record {
        tame = λ bits full room given.
            let read : c.as_slice-2.result.now ≡ few = grind arith in
            let own = rw c.in-Some.is at (c.in_ok-few.ensures.tame.tame bits full room given).answer in
            let are : AreDifferences g c.args.columns bits few = record { proper = is.proper; normal = is.normal; differences = own } in
            let e = rw (same, read) at c.in_ok-parts.ensures in
            let column = column_tame g c.args.columns bits col few low are h (Ok c.in_ok-parts.parts) full (omega (arith, room, inside)) e.tame in
            let head = difference_head g c.args.columns bits col few low are c.in_ok-parts.parts e.exact_column e.solved_column in
            let count = others_count col cols c.requires.distinct among in
            let long = ap (λ (xs : List ℕ). length xs) slice in
            let rest = rw slice at (c.push_parts.ensures.tame.tame (bits + 1) (same_bits g h charged full) (omega (arith, room, count, long)) head) in
            columns_tame g h k c.args.columns bits (length (others_of col cols)) (length cols) old new c.push_parts.result count charged column.within.units rest;
      };
    }

pub push_by_parts-push_parts-requires : goal.push_by_parts-push_parts-requires
push_by_parts-push_parts-requires t c =
    let g = c.args.meter.now in
    let same : c.simpler.new.meter ≡ g = grind arith in
    let h = c.of.new.meter in
    let cols = c.args.cols.now in
    let at = c.cheapest-at.result in
    let col = get_or cols at 0 in
    let inside : at < length cols = grind arith in
    let low = c.requires.cols_in at 0 inside in
    let are : ArePartsOf g c.args.columns col c.in-Some.few c.in_ok-parts.parts = grind arith in
    let charged : IsCharged g h = grind arith in
    let parts : AreParts h (c.args.columns - 1) c.in_ok-parts.parts =
    parts_after g h c.args.columns col c.in-Some.few c.in_ok-parts.parts charged are in
    let slice : c.as_slice-3.result.now ≡ others_of col cols = grind arith in
    let left = columns_after c.args.columns col cols c.as_slice-3.result.now slice c.requires.distinct low c.requires.cols_in in
    (grind arith, (parts, left))

pub push_some-returns : goal.push_some-returns
push_some-returns t c =
    let g = c.args.meter.now in
    let h = c.hold_nowhere.new.meter in
    let k = c.push_without-2.new.meter in
    let charged : IsCharged g h = grind arith in
    let old = c.args.lists.now.items in
    let new = c.push_without-2.new.lists.items in
    record {
      exact = along_charged g h k c.args.columns c.args.cols.now c.args.rows old new c.push_without-2.result charged
          c.push_without-2.ensures.exact;
      counted = counted_charged g h k old new c.push_without-2.result charged c.push_without-2.ensures.counted;
      tame = λ no. absurd (let yes : c.args.test ≡ true = grind arith in let both = sym yes ∙ no in cc);
    }

pub push_some-returns-then-branch-clause-exact : goal.push_some-returns-then-branch-clause-exact
push_some-returns-then-branch-clause-exact t c =
    let g = c.args.meter.now in
    let copied : c.in_ok-copy.field-0 ≡ c.args.rows = grind arith in
    let answer = c.in_ok-hold_nowhere.ensures.exact in
    let nowhere : HoldNowhere c.args.columns c.args.rows = rw copied at (answer.0.0 (grind arith)) in
    (along_nowhere g c.args.columns c.args.cols.now c.args.rows c.args.lists.now.items nowhere, answer.1)

pub push_by_parts-returns-in_err-push_list-clause-tame : goal.push_by_parts-returns-in_err-push_list-clause-tame
push_by_parts-returns-in_err-push_list-clause-tame t c = record {
  tame = λ bits full room given.
      let g = c.args.meter.now in
      let n = length c.args.cols.now in
      let p = err_from_is_err_and c.from_residual.result c.from_residual.ensures.1 in
      rw (p.1, p.2) (tame_memory (n * (c.args.columns * c.args.columns)) g g
      (λ _. AddsFewDifferences (bits + n) c.args.lists.now.items c.push_list.new.lists.items) (omega arith));
}

pub push_by_parts-returns-in_err-few-clause-tame : goal.push_by_parts-returns-in_err-few-clause-tame
push_by_parts-returns-in_err-few-clause-tame t c = record {
  tame = λ bits full room given.
      let g = c.args.meter.now in
      let n = length c.args.cols.now in
      let p = err_from_is_err_and c.from_residual-in_err-few.result c.from_residual-in_err-few.ensures.1 in
      rw (p.1, p.2) (tame_cut 0 (n * (c.args.columns * c.args.columns)) g c.simpler.new.meter (λ found. IfSome found (All (IsDifferenceRow bits)))
      (λ _. AddsFewDifferences (bits + n) c.args.lists.now.items c.args.lists.now.items) c.in_err-few.field-0.0 (omega arith)
      (c.in_err-few.ensures.tame.tame bits full room given));
}

pub push_by_parts-returns-in_err-left-clause-tame : goal.push_by_parts-returns-in_err-left-clause-tame
push_by_parts-returns-in_err-left-clause-tame t c = record {
  tame = λ bits full room given.
      let g = c.args.meter.now in
      let n = length c.args.cols.now in
      let same : c.simpler.new.meter ≡ g = grind arith in
      let p = err_from_is_err_and c.from_residual-in_err-left.result c.from_residual-in_err-left.ensures.1 in
      rw (p.1, p.2) (tame_memory (n * (c.args.columns * c.args.columns)) g c.simpler.new.meter
      (λ _. AddsFewDifferences (bits + n) c.args.lists.now.items c.args.lists.now.items) (let u = ap (λ (x : Gauge). x.units) same in omega arith));
}

pub push_by_parts-returns-in_err-parts-clause-tame : goal.push_by_parts-returns-in_err-parts-clause-tame
push_by_parts-returns-in_err-parts-clause-tame t c = record {
  tame = λ bits full room given.
      let g = c.args.meter.now in
      let cols = c.args.cols.now in
      let n = length cols in
      let columns = c.args.columns in
      let same : c.simpler.new.meter ≡ g = grind arith in
      let few = c.in-Some.few in
      let is : HoldAlike g columns c.args.rows few = rw c.in-Some.is at c.in_ok-few.ensures.exact.0 in
      let read : c.as_slice-2.result.now ≡ few = grind arith in
      let at = c.cheapest-at.result in
      let col = get_or cols at 0 in
      let inside : at < n = grind arith in
      let low = c.requires.cols_in at 0 inside in
      let own = rw c.in-Some.is at (c.in_ok-few.ensures.tame.tame bits full room given).answer in
      let are : AreDifferences g columns bits few = record { proper = is.proper; normal = is.normal; differences = own } in
      let e = rw (same, read) at c.in_err-parts.ensures.tame in
      let column = column_tame g columns bits col few low are c.of.new.meter (Err c.in_err-parts.field-0.0) full (omega (arith, room, inside)) e in
      let p = err_from_is_err_and c.from_residual-in_err-parts.result c.from_residual-in_err-parts.ensures.1 in
      rw (p.1, p.2) (tame_cut (columns * columns) (n * (columns * columns)) g c.of.new.meter (λ _. Unit {0})
      (λ _. AddsFewDifferences (bits + n) c.args.lists.now.items c.args.lists.now.items) c.in_err-parts.field-0.0
      (square_once n columns (omega arith)) column);
}

pub push_parts-loop-parts-init : goal.push_parts-loop-parts-init
push_parts-loop-parts-init t c = (
  pushed_first c.args.meter.now c.args.columns c.args.cols.now c.args.parts c.args.lists.now.items c.requires.parts,
  pushed_tame_first c.args.meter.now c.args.columns (length c.args.cols.now) c.args.parts c.args.lists.now.items,
)

pub push_parts-loop-parts-preserved : goal.push_parts-loop-parts-preserved
push_parts-loop-parts-preserved t c =
    let g = c.args.meter.now in
    let h = c.loop-parts.meter in
    let k = c.next.new.meter in
    let m = c.push_some.new.meter in
    let columns = c.args.columns in
    let cols = c.args.cols.now in
    let now = c.loop-parts.parts in
    let next = c.next.new.self in
    let rows = c.in-Some.rows in
    let old = c.args.lists.now.items in
    let new = c.loop-parts.lists.items in
    let newer = c.push_some.new.lists.items in
    let found = part_found h columns now next c.in_ok-rows.field-0 rows c.in-Some.is c.in_ok-rows.ensures.exact.0 in
    let counted = rw c.in-Some.is at c.in_ok-rows.ensures.counted in
    let pushed = c.in_ok-push_some.ensures in (
      pushed_next g h k m columns cols c.args.parts now next rows old new newer c.loop-parts.invariant.0 found c.in_ok-rows.ensures.exact.1
          pushed.exact.0 pushed.exact.1 counted pushed.counted,
      record {
        pushed = λ bits full room given.
            let t = head_taken g h k columns (length cols) c.loop-parts.taken bits now next rows c.in_ok-rows.field-0 old new
            (c.loop-parts.invariant.1.pushed bits full room given) c.in-Some.is c.in_ok-rows.ensures.alone in
            let first = t.first in
            let own = (pushed.tame (grind arith)).tame bits (ap (λ (x : Gauge). x.bits) t.meter ∙ full) room t.differences in
            pushed_tame_next g k m columns (length cols) c.loop-parts.taken _ bits next rows old new newer _ t own;
      },
    )

pub push_parts-returns-in_err-rows-clause-tame : goal.push_parts-returns-in_err-rows-clause-tame
push_parts-returns-in_err-rows-clause-tame t c = record {
  tame = λ bits full room given. absurd (pushed_tame_ends c.args.meter.now c.loop-parts.meter c.args.columns (length c.args.cols.now)
      c.loop-parts.taken bits c.loop-parts.parts c.args.lists.now.items c.loop-parts.lists.items
      (c.loop-parts.invariant.1.pushed bits full room given) c.in_err-rows.ensures.alone);
}

pub push_parts-returns-in_err-push_some-clause-tame : goal.push_parts-returns-in_err-push_some-clause-tame
push_parts-returns-in_err-push_some-clause-tame t c = record {
  tame = λ bits full room given.
      let g = c.args.meter.now in
      let k = c.next.new.meter in
      let n = length c.args.cols.now in
      let columns = c.args.columns in
      let old = c.args.lists.now.items in
      let new = c.loop-parts.lists.items in
      let t = head_taken g c.loop-parts.meter k columns n c.loop-parts.taken bits c.loop-parts.parts c.next.new.self c.in-Some.rows
      c.in_ok-rows.field-0 old new (c.loop-parts.invariant.1.pushed bits full room given) c.in-Some.is c.in_ok-rows.ensures.alone in
      let first = t.first in
      let own = (c.in_err-push_some.ensures.tame (grind arith)).tame bits (ap (λ (x : Gauge). x.bits) t.meter ∙ full) room t.differences in
      let p = err_from_is_err_and c.from_residual-in_err-push_some.result c.from_residual-in_err-push_some.ensures.1 in
      rw (p.1, p.2) (pushed_tame_cut g k c.push_some.new.meter (n * (columns * columns)) c.loop-parts.taken bits c.next.new.self c.in-Some.rows old new
      (λ _. AddsFewDifferences (bits + n) new c.push_some.new.lists.items) (λ _. AddsFewDifferences (bits + n) old c.push_some.new.lists.items)
      c.in_err-push_some.field-0.0 t own);
}
