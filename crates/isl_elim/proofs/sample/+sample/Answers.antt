use Rattle.std.proofs.Common.{◌≤◌, ◌≡◌, ◌≢◌, ◌<◌, ◌-◌, [], pos, arith, refl}
use Rattle.std.specs.Prelude.{replicate}
use Rattle.isl_meter.specs.Gauge.{IsCharged}
use Rattle.isl_meter.proofs.CutLemmas.{IsCharged_refl, IsCharged_trans}
use Rattle.isl_piece.specs.System.{HoldRows}
use Rattle.isl_column.specs.Parts.{AreParts, ArePartsOf, AreNone, HoldsPart}
use Rattle.isl_presolve.specs.Fixed.{HoldAlike}
use Rattle.isl_elim.specs.Sample.{IsSample, IsNowhere}
use Rattle.isl_elim.proofs.EmptinessLaws.{some_column, so_far_next}
use Rattle.isl_elim.proofs.FewerLaws.{sample_alike}
use Rattle.isl_elim.proofs.PartsLaws.{part_found, parts_after}
use Rattle.std.proofs.Common.{◌+◌, ◌*◌, ◌∙◌, ap, get_or, Ok, Err}
use Rattle.std.proofs.lemmas.Result.{err_from_is_err_and}
use Rattle.isl_meter.specs.Gauge.{Gauge}
use Rattle.isl_elim.proofs.DifferenceColumns.{AreDifferences, column_tame, difference_head}
use Rattle.isl_elim.proofs.TameLaws.{tame_ok, tame_cut, tame_cut_after, same_bits, cubes, some_cube, other_kind, same_rows, not_none, not_cut}
use Rattle.isl_elim.proofs.SampleLaws.{head_begun, head_next, head_cut, head_done, head_ends, zeros_left}
use Rattle.isl_elim.proofs.SampleLaws.{none_sample, none_sampled, some_sampled, parts_none}
use Rattle.isl_elim.proofs.sample.+sample.Goals as goal

pub sample_columns-returns-then-is_empty : goal.sample_columns-returns-then-is_empty
sample_columns-returns-then-is_empty t c =
    let g = c.args.meter.now in
    let none : c.args.rows.now ≡ [] = grind arith in
    let zeros : c.in_ok-zeros.zeros.items ≡ replicate c.args.columns (pos 0) = grind arith in
    record {
      exact = (none_sample g c.args.columns c.args.rows.now c.in_ok-zeros.zeros.items none zeros, IsCharged_refl g g refl);
      tame = record {
        tame = λ bits full room given. tame_ok (c.args.columns * (c.args.columns * c.args.columns)) g g _ _ (omega arith)
            (zeros_left bits c.args.columns c.args.columns c.in_ok-zeros.zeros.items zeros);
      };
    }

pub sample_columns-any_column-col-requires : goal.sample_columns-any_column-col-requires
sample_columns-any_column-col-requires t c =
    let some : c.args.rows.now ≢ [] = grind arith in
    some_column c.args.meter.now c.args.columns c.args.rows.now c.requires.rows c.requires.normal some

pub sample_columns-returns-in-None : goal.sample_columns-returns-in-None
sample_columns-returns-in-None t c =
    let g = c.args.meter.now in
    let h = c.of.new.meter in
    let k = c.sample_parts.new.meter in
    let col = c.any_column-col.result in
    let inside : col < c.args.columns = grind arith in
    let are : ArePartsOf g c.args.columns col c.args.rows.now c.in_ok-parts.parts = grind arith in
    let nowhere : IsNowhere (c.args.columns - 1) (HoldsPart c.in_ok-parts.parts) = grind arith in
    let first : IsCharged g h = grind arith in
    let second : IsCharged h k = grind arith in
    record {
      exact =
          (parts_none g c.args.columns col c.args.rows.now c.in_ok-parts.parts inside are nowhere, IsCharged_trans g h k first second);
      tame = record {
        tame = λ bits full room given.
            let columns = c.args.columns in
            let rows = c.args.rows.now in
            let parts = c.in_ok-parts.parts in
            let slice : c.as_slice-2.result.now ≡ rows = grind arith in
            let e = rw slice at c.in_ok-parts.ensures in
            let are : AreDifferences g columns bits rows = record { proper = c.requires.rows; normal = c.requires.normal; differences = given } in
            let column = column_tame g columns bits col rows inside are h (Ok parts) full (omega (arith, room, inside)) e.tame in
            let head = difference_head g columns bits col rows inside are parts e.exact_column e.solved_column in
            let part = c.in_ok-sample_parts.ensures.tame.tame (bits + 1) (same_bits g h first full) (omega arith) head in
            tame_ok (columns * (columns * columns)) g k _ _
            (let u = column.within.units in let v = part.within.units in let all = cubes columns (omega arith) in omega arith) tt;
      };
    }

pub sample_parts-returns-in-Some-2 : goal.sample_parts-returns-in-Some-2
sample_parts-returns-in-Some-2 t c =
    let g = c.args.meter.now in
    let h = c.loop-parts.meter in
    let k = c.next.new.meter in
    let m = c.sample_rows.new.meter in
    let point = c.in-Some-2.point.items in
    let next =
    part_found h c.args.columns c.loop-parts.parts c.next.new.self c.in_ok-rows.field-0 c.in-Some.rows c.in-Some.is
    c.in_ok-rows.ensures.exact.0 in
    let sample : IsSample k c.args.columns (HoldRows c.in-Some.rows) point = (rw c.in-Some-2.is at c.in_ok-point.ensures.exact).0 in
    record {
      exact = some_sampled g h k m c.args.columns c.args.parts c.loop-parts.parts c.next.new.self c.in-Some.rows point
          c.loop-parts.invariant.0 next c.in_ok-rows.ensures.exact.1 sample
          c.in_ok-point.ensures.exact.1;
      tame = record {
        tame = λ bits full room given.
            let begun = head_begun g h k c.args.columns bits c.loop-parts.parts c.next.new.self c.in-Some.rows c.in_ok-rows.field-0
            (c.loop-parts.invariant.1 bits full room given) c.in-Some.is c.in_ok-rows.ensures.alone in
            let own = (rw begun.meter at c.in_ok-point.ensures.tame).tame bits full room begun.differences in
            tame_ok (c.args.columns * (c.args.columns * c.args.columns)) g m _ _ own.within.units (rw c.in-Some-2.is at own.answer);
      };
    }

pub sample_parts-loop-parts-preserved : goal.sample_parts-loop-parts-preserved
sample_parts-loop-parts-preserved t c =
    let g = c.args.meter.now in
    let h = c.loop-parts.meter in
    let k = c.next.new.meter in
    let m = c.sample_rows.new.meter in
    let next =
    part_found h c.args.columns c.loop-parts.parts c.next.new.self c.in_ok-rows.field-0 c.in-Some.rows c.in-Some.is
    c.in_ok-rows.ensures.exact.0 in
    let nowhere : IsNowhere c.args.columns (HoldRows c.in-Some.rows) = grind arith in
    let charged = IsCharged_trans h k m c.in_ok-rows.ensures.exact.1 c.in_ok-point.ensures.exact.1 in (
      so_far_next g h m c.args.columns c.args.parts c.loop-parts.parts c.next.new.self c.in-Some.rows c.loop-parts.invariant.0 next nowhere
          charged,
      λ bits full room given.
          let begun = head_begun g h k c.args.columns bits c.loop-parts.parts c.next.new.self c.in-Some.rows c.in_ok-rows.field-0
          (c.loop-parts.invariant.1 bits full room given) c.in-Some.is c.in_ok-rows.ensures.alone in
          head_next g k m c.args.columns bits c.next.new.self c.in-Some.rows _ _ begun
          (c.in_ok-point.ensures.tame.tame bits (ap (λ (x : Gauge). x.bits) begun.meter ∙ full) room begun.differences),
    )

pub sample_parts-returns : goal.sample_parts-returns
sample_parts-returns t c =
    let g = c.args.meter.now in
    let h = c.loop-parts.meter in
    let k = c.next.new.meter in
    let none : AreNone c.args.columns c.loop-parts.parts = grind arith in
    record {
      exact = none_sampled g h k c.args.columns c.args.parts c.loop-parts.parts c.loop-parts.invariant.0 none
          c.in_ok-rows.ensures.exact.1;
      tame = record {
        tame = λ bits full room given.
            tame_ok (c.args.columns * (c.args.columns * c.args.columns)) g k _ _
            (head_done g h k c.args.columns bits c.loop-parts.parts c.next.new.self c.in_ok-rows.field-0
            (c.loop-parts.invariant.1 bits full room given) c.in_ok-rows.ensures.alone) tt;
      };
    }

pub sample_columns-sample_parts-requires : goal.sample_columns-sample_parts-requires
sample_columns-sample_parts-requires t c =
    let g = c.args.meter.now in
    let h = c.of.new.meter in
    let col = c.any_column-col.result in
    let are : ArePartsOf g c.args.columns col c.args.rows.now c.in_ok-parts.parts = grind arith in
    let parts : AreParts h (c.args.columns - 1) c.in_ok-parts.parts =
    parts_after g h c.args.columns col c.args.rows.now c.in_ok-parts.parts c.in_ok-parts.ensures.exact.1 are in
    (grind arith, parts)

pub sample_rows-sample_columns-requires : goal.sample_rows-sample_columns-requires
sample_rows-sample_columns-requires t c =
    let g = c.args.meter.now in
    let same : c.with_fixed.new.meter ≡ g = grind arith in
    let alike : HoldAlike g c.args.columns c.args.rows c.in-Some.fixed = rw c.in-Some.is at c.in_ok-with_fixed.ensures.exact.0 in
    (grind arith, (rw same alike.proper, alike.normal))

pub sample_rows-returns-in-Some : goal.sample_rows-returns-in-Some
sample_rows-returns-in-Some t c =
    let g = c.args.meter.now in
    let h = c.sample_columns.new.meter in
    let same : c.with_fixed.new.meter ≡ g = grind arith in
    let fixed = c.in-Some.fixed in
    let alike : HoldAlike g c.args.columns c.args.rows fixed = rw c.in-Some.is at c.in_ok-with_fixed.ensures.exact.0 in
    record {
      exact = sample_alike (λ v. v.items) g h c.args.columns c.args.rows fixed c.sample_columns.result alike
          (rw same at c.sample_columns.ensures.exact);
      tame = record {
        tame = λ bits full room given.
            let alone = c.in_ok-with_fixed.ensures.itself (λ k d l. other_kind (get_or c.args.rows k d).kind (given k d l).kind) in
            let is : fixed ≡ c.args.rows = same_rows c.in_ok-with_fixed.field-0 c.args.rows fixed alone.0 c.in-Some.is in
            (rw same at c.sample_columns.ensures.tame).tame bits full room (rw is given);
      };
    }

-- ---- of difference constraints
pub sample_rows-returns-in-None-clause-tame : goal.sample_rows-returns-in-None-clause-tame
sample_rows-returns-in-None-clause-tame t c = record {
  tame = λ bits full room given.
      let alone = c.in_ok-with_fixed.ensures.itself (λ k d l. other_kind (get_or c.args.rows k d).kind (given k d l).kind) in
      absurd (not_none c.in_ok-with_fixed.field-0 c.args.rows alone.0 (grind arith));
}

pub sample_rows-returns-in_err-with_fixed-clause-tame : goal.sample_rows-returns-in_err-with_fixed-clause-tame
sample_rows-returns-in_err-with_fixed-clause-tame t c = record {
  tame = λ bits full room given.
      let alone = c.in_err-with_fixed.ensures.itself (λ k d l. other_kind (get_or c.args.rows k d).kind (given k d l).kind) in
      absurd (not_cut alone.0);
}

pub sample_parts-returns-in_err-rows-clause-tame : goal.sample_parts-returns-in_err-rows-clause-tame
sample_parts-returns-in_err-rows-clause-tame t c = record {
  tame = λ bits full room given. absurd (head_ends c.args.meter.now c.loop-parts.meter c.args.columns bits c.loop-parts.parts
      (c.loop-parts.invariant.1 bits full room given) c.in_err-rows.ensures.alone);
}

pub sample_parts-returns-in_err-point-clause-tame : goal.sample_parts-returns-in_err-point-clause-tame
sample_parts-returns-in_err-point-clause-tame t c = record {
  tame = λ bits full room given.
      let g = c.args.meter.now in
      let k = c.next.new.meter in
      let most = c.args.columns * (c.args.columns * c.args.columns) in
      let begun = head_begun g c.loop-parts.meter k c.args.columns bits c.loop-parts.parts c.next.new.self c.in-Some.rows c.in_ok-rows.field-0
      (c.loop-parts.invariant.1 bits full room given) c.in-Some.is c.in_ok-rows.ensures.alone in
      let p = err_from_is_err_and c.from_residual-in_err-point.result c.from_residual-in_err-point.ensures.1 in
      rw (p.1, p.2) (head_cut g k c.sample_rows.new.meter most bits c.next.new.self c.in-Some.rows _ _ c.in_err-point.field-0.0 begun
      (c.in_err-point.ensures.tame.tame bits (ap (λ (x : Gauge). x.bits) begun.meter ∙ full) room begun.differences));
}

pub sample_columns-returns-in_err-parts-clause-tame : goal.sample_columns-returns-in_err-parts-clause-tame
sample_columns-returns-in_err-parts-clause-tame t c = record {
  tame = λ bits full room given.
      let g = c.args.meter.now in
      let h = c.of.new.meter in
      let columns = c.args.columns in
      let col = c.any_column-col.result in
      let rows = c.args.rows.now in
      let inside : col < columns = grind arith in
      let slice : c.as_slice-2.result.now ≡ rows = grind arith in
      let are : AreDifferences g columns bits rows = record { proper = c.requires.rows; normal = c.requires.normal; differences = given } in
      let column = column_tame g columns bits col rows inside are h (Err c.in_err-parts.field-0.0) full (omega (arith, room, inside)) (rw slice at c.in_err-parts.ensures.tame) in
      let p = err_from_is_err_and c.from_residual-in_err-parts.result c.from_residual-in_err-parts.ensures.1 in
      rw (p.1, p.2) (tame_cut (columns * columns) (columns * (columns * columns)) g h (λ _. Unit {0}) _ c.in_err-parts.field-0.0
      (some_cube columns (omega arith)) column);
}

pub sample_columns-returns-in_err-sample_parts-clause-tame : goal.sample_columns-returns-in_err-sample_parts-clause-tame
sample_columns-returns-in_err-sample_parts-clause-tame t c = record {
  tame = λ bits full room given.
      let g = c.args.meter.now in
      let h = c.of.new.meter in
      let columns = c.args.columns in
      let col = c.any_column-col.result in
      let rows = c.args.rows.now in
      let inside : col < columns = grind arith in
      let slice : c.as_slice-2.result.now ≡ rows = grind arith in
      let are : AreDifferences g columns bits rows = record { proper = c.requires.rows; normal = c.requires.normal; differences = given } in
      let parts = c.in_ok-parts.parts in
      let charged : IsCharged g h = grind arith in
      let e = rw slice at c.in_ok-parts.ensures in
      let column = column_tame g columns bits col rows inside are h (Ok parts) full (omega (arith, room, inside)) e.tame in
      let head = difference_head g columns bits col rows inside are parts e.exact_column e.solved_column in
      let part = c.in_err-sample_parts.ensures.tame.tame (bits + 1) (same_bits g h charged full) (omega arith) head in
      let p = err_from_is_err_and c.from_residual-in_err-sample_parts.result c.from_residual-in_err-sample_parts.ensures.1 in
      rw (p.1, p.2) (tame_cut_after (columns * columns) ((columns - 1) * ((columns - 1) * (columns - 1))) (columns * (columns * columns)) g h
      c.sample_parts.new.meter _ _ c.in_err-sample_parts.field-0.0 (cubes columns (omega arith)) charged column.within.units part);
}

pub sample_columns-returns-in_err-whole-in-Some-clause-tame : goal.sample_columns-returns-in_err-whole-in-Some-clause-tame
sample_columns-returns-in_err-whole-in-Some-clause-tame t c = record {
  tame = λ bits full room given.
      let g = c.args.meter.now in
      let h = c.of.new.meter in
      let columns = c.args.columns in
      let col = c.any_column-col.result in
      let rows = c.args.rows.now in
      let inside : col < columns = grind arith in
      let slice : c.as_slice-2.result.now ≡ rows = grind arith in
      let are : AreDifferences g columns bits rows = record { proper = c.requires.rows; normal = c.requires.normal; differences = given } in
      let parts = c.in_ok-parts.parts in
      let charged : IsCharged g h = grind arith in
      let e = rw slice at c.in_ok-parts.ensures in
      let column = column_tame g columns bits col rows inside are h (Ok parts) full (omega (arith, room, inside)) e.tame in
      let head = difference_head g columns bits col rows inside are parts e.exact_column e.solved_column in
      let k = c.sample_parts.new.meter in
      let point = c.in-Some.point.items in
      let split : ArePartsOf g columns col rows parts = grind arith in
      let part = c.in_ok-sample_parts.ensures.tame.tame (bits + 1) (same_bits g h charged full) (omega arith) head in
      let sample : IsSample h (columns - 1) (HoldsPart parts) point = (rw c.in-Some.is at c.in_ok-sample_parts.ensures.exact).0 in
      let wide : bits + 1 + (columns - 1) ≡ bits + columns = omega arith in
      let left = rw wide at (rw c.in-Some.is at part.answer) in
      let at = (split.points point sample.width).0 sample.holds in
      let both = IsCharged_trans g h k charged c.in_ok-sample_parts.ensures.exact.1 in
      let units : k.units ≤ g.units + columns * (columns * columns) =
      (let u = column.within.units in let v = part.within.units in let all = cubes columns (omega arith) in omega arith) in
      let own = c.in_err-whole-in-Some.ensures.tame bits (bits + columns) (same_bits g k both full) (omega arith) room given left at.0 at.1 in
      let p = err_from_is_err_and c.from_residual-in_err-whole-in-Some.result c.from_residual-in_err-whole-in-Some.ensures.1 in
      rw (p.1, p.2) (tame_cut_after (columns * (columns * columns)) 0 (columns * (columns * columns)) g k c.completed.new.meter _ _
      c.in_err-whole-in-Some.field-0.0 (omega arith) both units own);
}

pub sample_columns-returns-in_ok-whole-in-Some-clause-tame : goal.sample_columns-returns-in_ok-whole-in-Some-clause-tame
sample_columns-returns-in_ok-whole-in-Some-clause-tame t c = record {
  tame = λ bits full room given.
      let g = c.args.meter.now in
      let h = c.of.new.meter in
      let columns = c.args.columns in
      let col = c.any_column-col.result in
      let rows = c.args.rows.now in
      let inside : col < columns = grind arith in
      let slice : c.as_slice-2.result.now ≡ rows = grind arith in
      let are : AreDifferences g columns bits rows = record { proper = c.requires.rows; normal = c.requires.normal; differences = given } in
      let parts = c.in_ok-parts.parts in
      let charged : IsCharged g h = grind arith in
      let e = rw slice at c.in_ok-parts.ensures in
      let column = column_tame g columns bits col rows inside are h (Ok parts) full (omega (arith, room, inside)) e.tame in
      let head = difference_head g columns bits col rows inside are parts e.exact_column e.solved_column in
      let k = c.sample_parts.new.meter in
      let point = c.in-Some.point.items in
      let split : ArePartsOf g columns col rows parts = grind arith in
      let part = c.in_ok-sample_parts.ensures.tame.tame (bits + 1) (same_bits g h charged full) (omega arith) head in
      let sample : IsSample h (columns - 1) (HoldsPart parts) point = (rw c.in-Some.is at c.in_ok-sample_parts.ensures.exact).0 in
      let wide : bits + 1 + (columns - 1) ≡ bits + columns = omega arith in
      let left = rw wide at (rw c.in-Some.is at part.answer) in
      let at = (split.points point sample.width).0 sample.holds in
      let both = IsCharged_trans g h k charged c.in_ok-sample_parts.ensures.exact.1 in
      let units : k.units ≤ g.units + columns * (columns * columns) =
      (let u = column.within.units in let v = part.within.units in let all = cubes columns (omega arith) in omega arith) in
      let own = c.in_ok-whole-in-Some.ensures.tame bits (bits + columns) (same_bits g k both full) (omega arith) room given left at.0 at.1 in
      tame_ok (columns * (columns * columns)) g c.completed.new.meter _ _ (let u = own.within.units in omega arith) own.answer;
}
