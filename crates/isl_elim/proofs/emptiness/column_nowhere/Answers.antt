use Rattle.std.proofs.Common.{◌≡◌, ◌≢◌, ◌∙◌, ap, arith, Ok, Err}
use Rattle.std.proofs.lemmas.Result.{err_from_is_err_and}
use Rattle.isl_elim.proofs.DifferenceColumns.{AreDifferences, column_tame, difference_head}
use Rattle.isl_elim.proofs.TameLaws.{tame_ok, tame_cut}
use Rattle.std.specs.Prelude.{is_none}
use Rattle.isl_math.proofs.Ring.{linear}
use Rattle.isl_meter.specs.Gauge.{Gauge, IsCharged}
use Rattle.isl_meter.proofs.CutLemmas.{IsCharged_trans}
use Rattle.isl_column.specs.Parts.{ArePartsOf, IsFoundIn}
use Rattle.isl_elim.proofs.EmptinessLaws.{column_found}
use Rattle.isl_elim.proofs.PartsLaws.{charged_bits, parts_after, units_then}
use Rattle.isl_meter.specs.declared.Cut.TheVariants.{Overflow}
use Rattle.isl_elim.proofs.emptiness.column_nowhere.Goals as goal

pub returns-clause-exact : goal.returns-clause-exact
returns-clause-exact c =
    let g = c.args.meter.now in
    let h = c.of.new.meter in
    let k = c.next.new.meter in
    let rows = c.args.rows.now in
    let parts = c.in_ok-parts.parts in
    let are : ArePartsOf g 1 0 rows parts = grind arith in
    let charged : IsCharged g h = grind arith in
    let more : IsCharged h k = c.in_ok-next.ensures.exact.1 in
    let found : IsFoundIn h 0 parts c.in_ok-next.field-0 c.next.new.self = c.in_ok-next.ensures.exact.0 in
    let none : c.is_none.result ≡ is_none c.in_ok-next.field-0 = grind arith in
    (rw none (column_found g h rows parts c.next.new.self c.in_ok-next.field-0 are found), IsCharged_trans g h k charged more)

pub returns-clause-units : goal.returns-clause-units
returns-clause-units c =
    let rows_are : c.as_slice.result.now ≡ c.args.rows.now = grind arith in
    units_then c.args.meter.now c.of.new.meter c.next.new.meter c.in_ok-parts.parts c.args.rows.now c.as_slice.result.now 0 rows_are
    c.in_ok-parts.ensures.units c.in_ok-next.ensures.units

pub returns-in_err-next-clause-units : goal.returns-in_err-next-clause-units
returns-in_err-next-clause-units c =
    let rows_are : c.as_slice.result.now ≡ c.args.rows.now = grind arith in
    units_then c.args.meter.now c.of.new.meter c.next.new.meter c.in_ok-parts.parts c.args.rows.now c.as_slice.result.now 0 rows_are
    c.in_ok-parts.ensures.units c.in_err-next.ensures.units

pub returns-clause-equality : goal.returns-clause-equality
returns-clause-equality c = λ q.
    let rows_are : c.as_slice.result.now ≡ c.args.rows.now = grind arith in
    let first = (rw rows_are at c.in_ok-parts.ensures.equality) q in
    let same = first.0 in
    let none = first.1 in
    let later = c.in_ok-next.ensures.units in
    let least = c.in_ok-next.ensures.exact.1.units in
    omega (arith, linear)

pub returns-in_err-next-clause-equality : goal.returns-in_err-next-clause-equality
returns-in_err-next-clause-equality c = λ q.
    let rows_are : c.as_slice.result.now ≡ c.args.rows.now = grind arith in
    let first = (rw rows_are at c.in_ok-parts.ensures.equality) q in
    let same = first.0 in
    let none = first.1 in
    let later = c.in_err-next.ensures.units in
    let least = c.in_err-next.ensures.exact.kept.units in
    omega (arith, linear)

pub returns-in_err-next-clause-magnitude : goal.returns-in_err-next-clause-magnitude
returns-in_err-next-clause-magnitude c = λ bits small one.
    let g = c.args.meter.now in
    let h = c.of.new.meter in
    let rows_are : c.as_slice.result.now ≡ c.args.rows.now = grind arith in
    let parts = (rw rows_are at c.in_ok-parts.ensures.magnitude) bits small one in
    let fact : c.in_err-next.field-0.0 ≢ Overflow =
    c.in_err-next.ensures.magnitude (charged_bits g h c.in_ok-parts.ensures.exact.1 ∙ bits) parts in
    grind arith

pub returns-in_err-parts-clause-magnitude : goal.returns-in_err-parts-clause-magnitude
returns-in_err-parts-clause-magnitude c = λ bits small one.
    let rows_are : c.as_slice.result.now ≡ c.args.rows.now = grind arith in
    let fact : c.in_err-parts.field-0.0 ≢ Overflow = (rw rows_are at c.in_err-parts.ensures.magnitude) bits small one in
    grind arith

pub next-requires : goal.next-requires
next-requires c =
    let g = c.args.meter.now in
    let h = c.of.new.meter in
    let are : ArePartsOf g 1 0 c.args.rows.now c.in_ok-parts.parts = grind arith in
    record { parts = parts_after g h 1 0 c.args.rows.now c.in_ok-parts.parts c.in_ok-parts.ensures.exact.1 are }

pub returns-in_err-parts-clause-tame : goal.returns-in_err-parts-clause-tame
returns-in_err-parts-clause-tame c = λ normal. record {
  tame = λ bits full room given.
      let g = c.args.meter.now in
      let rows = c.args.rows.now in
      let rows_are : c.as_slice.result.now ≡ rows = grind arith in
      let are : AreDifferences g 1 bits rows = record { proper = c.requires.rows; normal = normal; differences = given } in
      let column = column_tame g 1 bits 0 rows (omega arith) are c.of.new.meter (Err c.in_err-parts.field-0.0) full room (rw rows_are at c.in_err-parts.ensures.tame) in
      let p = err_from_is_err_and c.from_residual.result c.from_residual.ensures.1 in
      rw (p.1, p.2) (tame_cut 1 1 g c.of.new.meter (λ _. Unit {0}) (λ _. Unit {0}) c.in_err-parts.field-0.0 (omega arith) column);
}

pub returns-in_err-next-clause-tame : goal.returns-in_err-next-clause-tame
returns-in_err-next-clause-tame c = λ normal. record {
  tame = λ bits full room given.
      let g = c.args.meter.now in
      let rows = c.args.rows.now in
      let rows_are : c.as_slice.result.now ≡ rows = grind arith in
      let are : AreDifferences g 1 bits rows = record { proper = c.requires.rows; normal = normal; differences = given } in
      let e = rw rows_are at c.in_ok-parts.ensures in
      let head = difference_head g 1 bits 0 rows (omega arith) are c.in_ok-parts.parts e.exact_column e.solved_column in
      absurd (c.in_err-next.ensures.alone head.head head.alone);
}

pub returns-clause-tame : goal.returns-clause-tame
returns-clause-tame c = λ normal. record {
  tame = λ bits full room given.
      let g = c.args.meter.now in
      let h = c.of.new.meter in
      let rows = c.args.rows.now in
      let rows_are : c.as_slice.result.now ≡ rows = grind arith in
      let are : AreDifferences g 1 bits rows = record { proper = c.requires.rows; normal = normal; differences = given } in
      let e = rw rows_are at c.in_ok-parts.ensures in
      let column = column_tame g 1 bits 0 rows (omega arith) are h (Ok c.in_ok-parts.parts) full room e.tame in
      let head = difference_head g 1 bits 0 rows (omega arith) are c.in_ok-parts.parts e.exact_column e.solved_column in
      let same = (c.in_ok-next.ensures.alone head.head head.alone).2 in
      tame_ok 1 g c.next.new.meter (λ _. Unit {0}) _ (let u = column.within.units in let v = ap (λ (x : Gauge). x.units) same in omega arith) tt;
}
