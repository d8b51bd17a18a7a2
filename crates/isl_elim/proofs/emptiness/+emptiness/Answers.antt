use Rattle.std.proofs.Common.{◌≡◌, ◌≢◌, ◌↔◌, ◌<◌, ◌≤◌, ◌-◌, ◌+◌, ◌*◌, ◌∙◌, [], ap, false, Some, None, IfSome, Ok, Err, arith}
use Rattle.isl_meter.specs.Gauge.{Gauge, IsCharged}
use Rattle.isl_meter.proofs.CutLemmas.{IsCharged_trans}
use Rattle.isl_column.specs.Parts.{ArePartsOf, AreNone}
use Rattle.isl_presolve.specs.Emptiness.{HoldNowhere}
use Rattle.isl_column.proofs.PartsLemmas.{parts_kept}
use Rattle.isl_elim.proofs.EmptinessLaws.{some_column, answered_after, head_found, head_holds, head_missing, parts_nowhere, rest_nowhere, some_holds, none_holds, so_far_next}
use Rattle.isl_elim.proofs.PartsLaws.{part_found, parts_after, proper_kept}
use Rattle.isl_ledger.proofs.AnsweredLaws.{tame_more}
use Rattle.isl_elim.proofs.DifferenceColumns.{AreDifferences, column_tame, difference_head}
use Rattle.std.specs.List.{All}
use Rattle.std.proofs.lemmas.Result.{err_from_is_err_and}
use Rattle.isl_ledger.specs.Difference.{IsDifferenceRow}
use Rattle.isl_elim.proofs.TameLaws.{tame_cut, tame_cut_after}
use Rattle.isl_elim.proofs.TameLaws.{tame_ok, tame_after, same_bits, cubes, some_cube, some_cubes, head_of, none_found}
use Rattle.isl_presolve.proofs.ShearLaws.{reduction_after, reduction_some}
use Rattle.isl_elim.proofs.emptiness.+emptiness.Goals as goal

pub column_out-rest_is_empty-requires : goal.column_out-rest_is_empty-requires
column_out-rest_is_empty-requires t c =
    let g = c.args.meter.now in
    let h = c.of.new.meter in
    let columns = c.args.columns in
    let col = c.any_column-col.result in
    let rows = c.args.rows.now in
    let parts = c.in_ok-parts.parts in
    let rest = c.take_head.new.self in
    let inside : col < columns = grind arith in
    let are : ArePartsOf g columns col rows parts = grind arith in
    let charged : IsCharged g h = grind arith in
    let taken = c.take_head.ensures.part h (columns - 1) (parts_after g h columns col rows parts charged are) in
    let same = head_missing h (columns - 1) parts rest c.take_head.result (grind arith) taken in
    let left : HoldNowhere columns rows → AreNone (columns - 1) rest = rw same (parts_nowhere g columns col rows parts inside are).1 in
    (grind arith, (proper_kept g h columns rows charged c.requires.rows, (omega arith, (rw same (parts_after g h columns col rows parts charged are), left))))

pub column_out-returns-in_default : goal.column_out-returns-in_default
column_out-returns-in_default t c =
    let g = c.args.meter.now in
    let h = c.of.new.meter in
    let columns = c.args.columns in
    let col = c.any_column-col.result in
    let rows = c.args.rows.now in
    let parts = c.in_ok-parts.parts in
    let rest = c.take_head.new.self in
    let inside : col < columns = grind arith in
    let are : ArePartsOf g columns col rows parts = grind arith in
    let charged : IsCharged g h = grind arith in
    let taken = c.take_head.ensures.part h (columns - 1) (parts_after g h columns col rows parts charged are) in
    let same = head_missing h (columns - 1) parts rest c.take_head.result (grind arith) taken in
    let both : AreNone (columns - 1) rest ↔ HoldNowhere columns rows = rw same (parts_nowhere g columns col rows parts inside are) in
    record {
      exact = answered_after g h c.rest_is_empty.new.meter (AreNone (columns - 1) rest) (HoldNowhere columns rows) c.rest_is_empty.result both charged
          c.rest_is_empty.ensures.exact;
      tame = record {
        tame = λ bits full room given.
            let slice : c.as_slice-2.result.now ≡ rows = grind arith in
            let e = rw slice at c.in_ok-parts.ensures in
            let are : AreDifferences g columns bits rows = record { proper = c.requires.rows; normal = c.requires.normal; differences = given } in
            let column = column_tame g columns bits col rows inside are h (Ok parts) full (omega (arith, room, inside)) e.tame in
            let head = difference_head g columns bits col rows inside are parts e.exact_column e.solved_column in
            let spent = c.rest_is_empty.ensures.spent (c.take_head.ensures.alone head.head head.alone) in
            tame_after (columns * columns) 0 (columns * (columns * columns)) g h c.rest_is_empty.new.meter (λ _. Unit {0}) (λ _. Unit {0}) c.rest_is_empty.result
            (let few = some_cube columns (omega arith) in omega arith) charged column.within.units (λ value q. q) spent;
      };
    }

pub column_out-hold_nowhere-requires : goal.column_out-hold_nowhere-requires
column_out-hold_nowhere-requires t c =
    let g = c.args.meter.now in
    let h = c.of.new.meter in
    let columns = c.args.columns in
    let col = c.any_column-col.result in
    let rows = c.args.rows.now in
    let parts = c.in_ok-parts.parts in
    let rest = c.take_head.new.self in
    let inside : col < columns = grind arith in
    let are : ArePartsOf g columns col rows parts = grind arith in
    let charged : IsCharged g h = grind arith in
    let taken = c.take_head.ensures.part h (columns - 1) (parts_after g h columns col rows parts charged are) in
    let head = c.in-Some.head in
    let next = head_found h (columns - 1) parts rest c.take_head.result head (grind arith) taken in
    (grind arith, (next.proper, next.normal))

pub column_out-returns-then-not-branch : goal.column_out-returns-then-not-branch
column_out-returns-then-not-branch t c =
    let g = c.args.meter.now in
    let h = c.of.new.meter in
    let columns = c.args.columns in
    let col = c.any_column-col.result in
    let rows = c.args.rows.now in
    let parts = c.in_ok-parts.parts in
    let rest = c.take_head.new.self in
    let inside : col < columns = grind arith in
    let are : ArePartsOf g columns col rows parts = grind arith in
    let charged : IsCharged g h = grind arith in
    let taken = c.take_head.ensures.part h (columns - 1) (parts_after g h columns col rows parts charged are) in
    let head = c.in-Some.head in
    let next = head_found h (columns - 1) parts rest c.take_head.result head (grind arith) taken in
    let answer = c.in_ok-hold_nowhere.ensures.exact in
    let somewhere : c.in_ok-hold_nowhere.field-0 ≡ false = grind arith in
    record {
      exact = head_holds g h h c.hold_nowhere.new.meter columns col rows head parts rest c.in_ok-hold_nowhere.field-0 somewhere inside are next answer.0
          answer.1 charged;
      tame = record {
        tame = λ bits full room given.
            let slice : c.as_slice-2.result.now ≡ rows = grind arith in
            let e = rw slice at c.in_ok-parts.ensures in
            let are : AreDifferences g columns bits rows = record { proper = c.requires.rows; normal = c.requires.normal; differences = given } in
            let column = column_tame g columns bits col rows inside are h (Ok parts) full (omega (arith, room, inside)) e.tame in
            let left = difference_head g columns bits col rows inside are parts e.exact_column e.solved_column in
            let taken : left.head ≡ Some head = head_of left.head head parts c.take_head.result left.alone c.take_head.ensures.head (grind arith) in
            let part = c.in_ok-hold_nowhere.ensures.tame.tame (bits + 1) (same_bits g h charged full) (omega arith) (rw taken at left.rows) in
            tame_ok (columns * (columns * columns)) g c.hold_nowhere.new.meter (λ _. Unit {0}) _
            (let u = column.within.units in let v = part.within.units in let all = cubes columns (omega arith) in omega arith) tt;
      };
    }

pub column_out-rest_is_empty-requires-2 : goal.column_out-rest_is_empty-requires-2
column_out-rest_is_empty-requires-2 t c =
    let g = c.args.meter.now in
    let h = c.of.new.meter in
    let columns = c.args.columns in
    let col = c.any_column-col.result in
    let rows = c.args.rows.now in
    let parts = c.in_ok-parts.parts in
    let rest = c.take_head.new.self in
    let inside : col < columns = grind arith in
    let are : ArePartsOf g columns col rows parts = grind arith in
    let charged : IsCharged g h = grind arith in
    let taken = c.take_head.ensures.part h (columns - 1) (parts_after g h columns col rows parts charged are) in
    let head = c.in-Some.head in
    let next = head_found h (columns - 1) parts rest c.take_head.result head (grind arith) taken in
    let k = c.hold_nowhere.new.meter in
    let answer = c.in_ok-hold_nowhere.ensures.exact in
    let all = IsCharged_trans g h k charged answer.1 in
    let both = rest_nowhere g h columns col rows head parts rest inside are next (answer.0.0 (grind arith)) in
    (grind arith, (proper_kept g k columns rows all c.requires.rows, (omega arith, (parts_kept h k (columns - 1) rest answer.1 next.rest, both.1))))

pub column_out-returns : goal.column_out-returns
column_out-returns t c =
    let g = c.args.meter.now in
    let h = c.of.new.meter in
    let columns = c.args.columns in
    let col = c.any_column-col.result in
    let rows = c.args.rows.now in
    let parts = c.in_ok-parts.parts in
    let rest = c.take_head.new.self in
    let inside : col < columns = grind arith in
    let are : ArePartsOf g columns col rows parts = grind arith in
    let charged : IsCharged g h = grind arith in
    let taken = c.take_head.ensures.part h (columns - 1) (parts_after g h columns col rows parts charged are) in
    let head = c.in-Some.head in
    let next = head_found h (columns - 1) parts rest c.take_head.result head (grind arith) taken in
    let k = c.hold_nowhere.new.meter in
    let answer = c.in_ok-hold_nowhere.ensures.exact in
    let both = rest_nowhere g h columns col rows head parts rest inside are next (answer.0.0 (grind arith)) in
    record {
      exact = answered_after g k c.rest_is_empty-2.new.meter (AreNone (columns - 1) rest) (HoldNowhere columns rows) c.rest_is_empty-2.result both
          (IsCharged_trans g h k charged answer.1) c.rest_is_empty-2.ensures.exact;
      tame = record {
        tame = λ bits full room given.
            let slice : c.as_slice-2.result.now ≡ rows = grind arith in
            let e = rw slice at c.in_ok-parts.ensures in
            let are : AreDifferences g columns bits rows = record { proper = c.requires.rows; normal = c.requires.normal; differences = given } in
            let column = column_tame g columns bits col rows inside are h (Ok parts) full (omega (arith, room, inside)) e.tame in
            let left = difference_head g columns bits col rows inside are parts e.exact_column e.solved_column in
            let taken : left.head ≡ Some head = head_of left.head head parts c.take_head.result left.alone c.take_head.ensures.head (grind arith) in
            let part = c.in_ok-hold_nowhere.ensures.tame.tame (bits + 1) (same_bits g h charged full) (omega arith) (rw taken at left.rows) in
            let spent = c.rest_is_empty-2.ensures.spent (c.take_head.ensures.alone left.head left.alone) in
            tame_after (columns * columns + (columns - 1) * ((columns - 1) * (columns - 1))) 0 (columns * (columns * columns)) g k c.rest_is_empty-2.new.meter
            (λ _. Unit {0}) (λ _. Unit {0}) c.rest_is_empty-2.result (let all = cubes columns (omega arith) in omega arith)
            (IsCharged_trans g h k charged answer.1) (let u = column.within.units in let v = part.within.units in omega arith) (λ value q. q) spent;
      };
    }

pub hold_nowhere-returns-then-columns-eq1 : goal.hold_nowhere-returns-then-columns-eq1
hold_nowhere-returns-then-columns-eq1 t c =
    let one : c.args.columns ≡ 1 = grind arith in
    let g = c.args.meter.now in
    record {
      exact = rw one c.column_nowhere.ensures.exact;
      tame = record {
        tame = λ bits full room given.
            let tested = (c.column_nowhere.ensures.tame c.requires.normal).tame bits full (omega arith) given in
            let more : 1 ≤ c.args.columns * (c.args.columns * c.args.columns) = some_cubes c.args.columns (omega arith) in
            tame_more 1 (c.args.columns * (c.args.columns * c.args.columns)) g c.column_nowhere.new.meter (λ _. Unit {0}) (λ _. Unit {0}) c.column_nowhere.result
            more (λ value q. q) tested;
      };
    }

pub are_empty-returns-then-not-branch : goal.are_empty-returns-then-not-branch
are_empty-returns-then-not-branch t c =
    let g = c.args.meter.now in
    let h = c.loop-parts.meter in
    let k = c.next.new.meter in
    let no : c.in_ok-hold_nowhere.field-0 ≡ false = grind arith in
    let next =
    part_found h c.args.columns c.loop-parts.parts c.next.new.self c.in_ok-rows.field-0 c.in-Some.rows c.in-Some.is
    c.in_ok-rows.ensures.exact.0 in
    let answer = c.in_ok-hold_nowhere.ensures.exact in
    record {
      exact = some_holds g h k c.hold_nowhere.new.meter c.args.columns c.args.parts c.loop-parts.parts c.next.new.self c.in-Some.rows
          c.in_ok-hold_nowhere.field-0 no c.loop-parts.invariant.0 next
          c.in_ok-rows.ensures.exact.1 answer.0 answer.1;
      spent = λ none. absurd (none_found c.loop-parts.parts c.next.new.self c.in_ok-rows.field-0 c.in-Some.rows h k c.in-Some.is
          (c.loop-parts.invariant.1 none).0 c.in_ok-rows.ensures.alone);
    }

pub are_empty-loop-parts-preserved : goal.are_empty-loop-parts-preserved
are_empty-loop-parts-preserved t c =
    let g = c.args.meter.now in
    let h = c.loop-parts.meter in
    let k = c.next.new.meter in
    let m = c.hold_nowhere.new.meter in
    let next =
    part_found h c.args.columns c.loop-parts.parts c.next.new.self c.in_ok-rows.field-0 c.in-Some.rows c.in-Some.is
    c.in_ok-rows.ensures.exact.0 in
    let answer = c.in_ok-hold_nowhere.ensures.exact in (
      so_far_next g h m c.args.columns c.args.parts c.loop-parts.parts c.next.new.self c.in-Some.rows c.loop-parts.invariant.0 next
          (answer.0.0 (grind arith)) (IsCharged_trans h k m c.in_ok-rows.ensures.exact.1 answer.1),
      λ none. absurd (none_found c.loop-parts.parts c.next.new.self c.in_ok-rows.field-0 c.in-Some.rows h k c.in-Some.is
          (c.loop-parts.invariant.1 none).0 c.in_ok-rows.ensures.alone),
    )

pub are_empty-returns : goal.are_empty-returns
are_empty-returns t c =
    let g = c.args.meter.now in
    let h = c.loop-parts.meter in
    let k = c.next.new.meter in
    let none : AreNone c.args.columns c.loop-parts.parts = grind arith in
    record {
      exact = none_holds g h k c.args.columns c.args.parts c.loop-parts.parts c.loop-parts.invariant.0 none
          c.in_ok-rows.ensures.exact.1;
      spent = λ alone.
          let before = c.loop-parts.invariant.1 alone in
          let same = (c.in_ok-rows.ensures.alone None before.0).2 in
          tame_ok 0 g k (λ _. Unit {0}) _ (let u = ap (λ (x : Gauge). x.units) (same ∙ before.1) in omega arith) tt;
    }

pub hold_nowhere-returns-in-Some : goal.hold_nowhere-returns-in-Some
hold_nowhere-returns-in-Some t c =
    let g = c.args.meter.now in
    let h = c.column_out.new.meter in
    let columns = c.args.columns in
    let rows = c.args.rows in
    let short = c.in-Some.short in
    let same : c.shorter.new.meter ≡ g = grind arith in
    let found : c.in_ok-shorter.field-0 ≡ Some short = grind arith in
    let is = reduction_some g columns rows short c.in_ok-shorter.field-0 found c.in_ok-shorter.ensures.exact.0 in
    record {
      exact = reduction_after g h columns rows short c.column_out.result is (rw same at c.column_out.ensures.exact);
      tame = record {
        tame = λ bits full room given.
            let own = rw found at (c.in_ok-shorter.ensures.tame.tame bits full room given).answer in
            (rw same at c.column_out.ensures.tame).tame bits full room own;
      };
    }

pub hold_nowhere-column_out-requires : goal.hold_nowhere-column_out-requires
hold_nowhere-column_out-requires t c =
    let g = c.args.meter.now in
    let columns = c.args.columns in
    let rows = c.args.rows in
    let short = c.in-Some.short in
    let same : c.shorter.new.meter ≡ g = grind arith in
    let found : c.in_ok-shorter.field-0 ≡ Some short = grind arith in
    let is = reduction_some g columns rows short c.in_ok-shorter.field-0 found c.in_ok-shorter.ensures.exact.0 in
    let some : rows ≢ [] = grind arith in
    let wide : 0 < columns = some_column g columns rows c.requires.rows c.requires.normal some in
    (grind arith, (rw same is.are.proper, (is.normal, wide)))

pub hold_nowhere-shorter-requires-clause-some : goal.hold_nowhere-shorter-requires-clause-some
hold_nowhere-shorter-requires-clause-some t c =
    let some : c.args.rows ≢ [] = grind arith in
    some_column c.args.meter.now c.args.columns c.args.rows c.requires.rows c.requires.normal some

pub hold_nowhere-returns-in_err-shorter-clause-tame : goal.hold_nowhere-returns-in_err-shorter-clause-tame
hold_nowhere-returns-in_err-shorter-clause-tame t c = record {
  tame = λ bits full room given.
      let columns = c.args.columns in
      let p = err_from_is_err_and c.from_residual-in_err-shorter.result c.from_residual-in_err-shorter.ensures.1 in
      rw (p.1, p.2) (tame_cut 0 (columns * (columns * columns)) c.args.meter.now c.shorter.new.meter
      (λ found. IfSome found (All (IsDifferenceRow bits))) (λ _. Unit {0}) c.in_err-shorter.field-0.0 (omega arith)
      (c.in_err-shorter.ensures.tame.tame bits full room given));
}

pub hold_nowhere-returns-in-None-clause-tame : goal.hold_nowhere-returns-in-None-clause-tame
hold_nowhere-returns-in-None-clause-tame t c = record {
  tame = λ bits full room given.
      let same : c.shorter.new.meter ≡ c.args.meter.now = grind arith in
      tame_ok (c.args.columns * (c.args.columns * c.args.columns)) c.args.meter.now c.shorter.new.meter (λ _. Unit {0}) _
      (let u = ap (λ (x : Gauge). x.units) same in omega arith) tt;
}

pub column_out-returns-in_err-parts-clause-tame : goal.column_out-returns-in_err-parts-clause-tame
column_out-returns-in_err-parts-clause-tame t c = record {
  tame = λ bits full room given.
      let g = c.args.meter.now in
      let columns = c.args.columns in
      let col = c.any_column-col.result in
      let rows = c.args.rows.now in
      let inside : col < columns = grind arith in
      let slice : c.as_slice-2.result.now ≡ rows = grind arith in
      let are : AreDifferences g columns bits rows = record { proper = c.requires.rows; normal = c.requires.normal; differences = given } in
      let column = column_tame g columns bits col rows inside are c.of.new.meter (Err c.in_err-parts.field-0.0) full (omega (arith, room, inside)) (rw slice at c.in_err-parts.ensures.tame) in
      let p = err_from_is_err_and c.from_residual.result c.from_residual.ensures.1 in
      rw (p.1, p.2) (tame_cut (columns * columns) (columns * (columns * columns)) g c.of.new.meter (λ _. Unit {0}) (λ _. Unit {0}) c.in_err-parts.field-0.0
      (some_cube columns (omega arith)) column);
}

pub column_out-returns-in_err-hold_nowhere-clause-tame : goal.column_out-returns-in_err-hold_nowhere-clause-tame
column_out-returns-in_err-hold_nowhere-clause-tame t c = record {
  tame = λ bits full room given.
      let g = c.args.meter.now in
      let h = c.of.new.meter in
      let columns = c.args.columns in
      let col = c.any_column-col.result in
      let rows = c.args.rows.now in
      let parts = c.in_ok-parts.parts in
      let head = c.in-Some.head in
      let inside : col < columns = grind arith in
      let charged : IsCharged g h = grind arith in
      let slice : c.as_slice-2.result.now ≡ rows = grind arith in
      let e = rw slice at c.in_ok-parts.ensures in
      let are : AreDifferences g columns bits rows = record { proper = c.requires.rows; normal = c.requires.normal; differences = given } in
      let column = column_tame g columns bits col rows inside are h (Ok parts) full (omega (arith, room, inside)) e.tame in
      let left = difference_head g columns bits col rows inside are parts e.exact_column e.solved_column in
      let taken : left.head ≡ Some head = head_of left.head head parts c.take_head.result left.alone c.take_head.ensures.head (grind arith) in
      let part = c.in_err-hold_nowhere.ensures.tame.tame (bits + 1) (same_bits g h charged full) (omega arith) (rw taken at left.rows) in
      let p = err_from_is_err_and c.from_residual-in_err-hold_nowhere.result c.from_residual-in_err-hold_nowhere.ensures.1 in
      rw (p.1, p.2) (tame_cut_after (columns * columns) ((columns - 1) * ((columns - 1) * (columns - 1))) (columns * (columns * columns)) g h
      c.hold_nowhere.new.meter (λ _. Unit {0}) (λ _. Unit {0}) c.in_err-hold_nowhere.field-0.0 (cubes columns (omega arith)) charged column.within.units part);
}
