use Rattle.std.proofs.Common.{◌≡◌, ◌<◌, ◌+◌, ◌∙◌, sym, ap, subst, arith, take, length, get_or, ◌^◌}
use Rattle.std.specs.List.{All}
use Rattle.std.proofs.lemmas.Grind.{common_steps}
use Rattle.std.proofs.lemmas.List.{take_all}
use Rattle.std.proofs.lemmas.Result.{err_from_is_err_and}
use Rattle.isl_meter.specs.Gauge.{Gauge}
use Rattle.isl_piece.specs.Row.{IsRowWithin}
use Rattle.isl_omega.specs.Column.{IsProper}
use Rattle.isl_ledger.specs.Difference.{IsDifferenceRow}
use Rattle.isl_elim.specs.Solved.{IsUnitEquality, short_image}
use Rattle.isl_elim.proofs.TameLaws.{tame_ok}
use Rattle.isl_elim.proofs.SolvedLaws.{rest_read, take_written, all_written, all_short, substituted_is, short_differences}
use Rattle.isl_elim.proofs.SolvedLaws.{one_fits, one_up_to, one_tame}
use Rattle.isl_elim.proofs.solved.substituted.Goals as goal

pub substitute-requires-clause-row : goal.substitute-requires-clause-row
substitute-requires-clause-row c =
    let rows = c.args.rows in
    let i = c.loop-i.i in
    let row = c.index_mut.result.now in
    let inside : i < length c.loop-i.short.items = grind arith in
    let own : i < length rows = let n = c.loop-i.invariant.long in omega arith in
    let read : row ≡ get_or c.loop-i.short.items i row = grind (arith, common_steps) in
    let is : row ≡ get_or rows i row = read ∙ rest_read c.loop-i.short.items rows i row inside own c.loop-i.invariant.rest in
    rw c.loop-i.invariant.same (subst (IsProper c.args.meter.now c.args.column.columns) (sym is) (c.requires.rows i row own))

pub loop-i-preserved : goal.loop-i-preserved
loop-i-preserved c =
    let g = c.args.meter.now in
    let rows = c.args.rows in
    let short = c.loop-i.short.items in
    let i = c.loop-i.i in
    let col = c.args.column.at in
    let row = c.index_mut.result.now in
    let fixed = c.in_ok-fixed.fixed in
    let made = c.substitute.new.row in
    let inside : i < length short = grind arith in
    let own : i < length rows = let n = c.loop-i.invariant.long in omega arith in
    let read : row ≡ get_or short i row = grind (arith, common_steps) in
    let is : row ≡ get_or rows i row = read ∙ rest_read short rows i row inside own c.loop-i.invariant.rest in
    let image : made ≡ short_image fixed col row = grind arith in
    let within : IsRowWithin g made = rw c.loop-i.invariant.same at c.in_ok-substitute.ensures.exact.0.1 in
    record {
      front = take_written fixed col rows short i row made inside own is image c.loop-i.invariant.front;
      rest = grind (arith, common_steps);
      long = grind (arith, common_steps);
      within = all_written g short i made inside c.loop-i.invariant.within within;
      same = grind arith;
    }

pub returns-clause-exact : goal.returns-clause-exact
returns-clause-exact c =
    let rows = c.args.rows in
    let short = c.loop-i.short.items in
    let i = c.loop-i.i in
    let fixed = c.in_ok-fixed.fixed in
    let col = c.args.column.at in
    let done : i ≡ length short = grind arith in
    let all : take i short ≡ short = take_all i short (omega arith) in
    let left : c.from.result ≡ short = grind arith in
    let images = left ∙ all_short fixed col rows short i done c.loop-i.invariant.long c.loop-i.invariant.front in
    let within : All (IsRowWithin c.args.meter.now) c.from.result = rw left (rw all at c.loop-i.invariant.within) in
    let is : fixed ≡ get_or rows c.args.at fixed = grind (arith, common_steps) in
    let unit = subst (IsUnitEquality col) (sym is) (c.requires.unit fixed) in (
      substituted_is c.args.meter.now c.args.column.columns col c.args.at fixed rows c.from.result unit c.requires.inside is c.requires.rows
          c.args.column.in_range images within,
      c.loop-i.invariant.same,
    )

pub returns-clause-tame : goal.returns-clause-tame
returns-clause-tame c = record {
  tame = λ bits full room given.
      let rows = c.args.rows in
      let short = c.loop-i.short.items in
      let i = c.loop-i.i in
      let fixed = c.in_ok-fixed.fixed in
      let col = c.args.column.at in
      let done : i ≡ length short = grind arith in
      let left : c.from.result ≡ short = grind arith in
      let images = left ∙ all_short fixed col rows short i done c.loop-i.invariant.long c.loop-i.invariant.front in
      let is : fixed ≡ get_or rows c.args.at fixed = grind (arith, common_steps) in
      let unit = subst (IsUnitEquality col) (sym is) (c.requires.unit fixed) in
      tame_ok 0 c.args.meter.now c.loop-i.meter (All (IsDifferenceRow (bits + 1))) c.from.result
      (let u = ap (λ (x : Gauge). x.units) c.loop-i.invariant.same in omega arith)
      (short_differences c.args.meter.now c.args.column.columns bits col c.args.at fixed rows c.from.result unit
      c.requires.inside is c.requires.rows c.args.column.in_range images given);
}

pub returns-in_err-substitute-clause-tame : goal.returns-in_err-substitute-clause-tame
returns-in_err-substitute-clause-tame c = record {
  tame = λ bits full room given.
      let g = c.args.meter.now in
      let rows = c.args.rows in
      let i = c.loop-i.i in
      let col = c.args.column.at in
      let columns = c.args.column.columns in
      let row = c.index_mut.result.now in
      let fixed = c.in_ok-fixed.fixed in
      let inside : i < length c.loop-i.short.items = grind arith in
      let own : i < length rows = let n = c.loop-i.invariant.long in omega arith in
      let read : row ≡ get_or c.loop-i.short.items i row = grind (arith, common_steps) in
      let row_is : row ≡ get_or rows i row = read ∙ rest_read c.loop-i.short.items rows i row inside own c.loop-i.invariant.rest in
      let is : fixed ≡ get_or rows c.args.at fixed = grind (arith, common_steps) in
      let same = c.loop-i.invariant.same in
      let fits = one_fits g c.loop-i.meter bits same full room in
      let wide = c.args.column.in_range in
      let small = one_up_to g columns bits col rows i row c.requires.rows given wide own row_is in
      let pivot = one_up_to g columns bits col rows c.args.at fixed c.requires.rows given wide c.requires.inside is in
      let numbers = c.in_err-substitute.ensures.no_overflow (2 ^ bits) small pivot fits in
      let p = err_from_is_err_and c.from_residual-in_err-substitute.result c.from_residual-in_err-substitute.ensures.1 in
      rw (p.1, p.2) (one_tame g c.loop-i.meter c.substitute.new.meter (λ short. All (IsDifferenceRow (bits + 1)) short)
      c.in_err-substitute.field-0.0 same numbers (c.in_err-substitute.ensures.answered numbers));
}
