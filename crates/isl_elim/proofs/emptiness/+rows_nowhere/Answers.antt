use Rattle.std.proofs.Common.{◌≡◌, ◌+◌, ◌-◌, ◌*◌, ◌<◌, arith}
use Rattle.std.specs.List.{All}
use Rattle.std.proofs.lemmas.Result.{err_from_is_err_and}
use Rattle.isl_ledger.specs.Difference.{IsDifferenceRow}
use Rattle.isl_ledger.proofs.AnsweredLaws.{tame_more}
use Rattle.isl_elim.specs.Solved.{IsSubstituted, IsUnitEqualityOf}
use Rattle.isl_elim.proofs.EmptinessLaws.{equality_inside, substituted_after}
use Rattle.isl_elim.proofs.TameLaws.{cube_more, tame_cut}
use Rattle.isl_elim.proofs.emptiness.+rows_nowhere.Goals as goal

pub invariant_of-column : goal.invariant_of-column
invariant_of-column t c =
    let given = c.in-Some.given in
    let is : IsUnitEqualityOf c.args.rows given = grind arith in
    record { in_range = equality_inside c.args.meter.now c.args.columns c.args.rows given c.requires.rows is }

pub rows_nowhere-requires : goal.rows_nowhere-requires
rows_nowhere-requires t c =
    let g = c.args.meter.now in
    let given = c.in-Some.given in
    let is : IsUnitEqualityOf c.args.rows given = grind arith in
    let low = equality_inside g c.args.columns c.args.rows given c.requires.rows is in
    let same : c.substituted.new.meter ≡ g = grind arith in
    let short : IsSubstituted g c.args.columns given.col c.args.rows c.in_ok-short.short = grind arith in
    (omega (arith, low), rw same short.proper)

pub returns : goal.returns
returns t c =
    let g = c.args.meter.now in
    let columns = c.args.columns in
    let given = c.in-Some.given in
    let is : IsUnitEqualityOf c.args.rows given = grind arith in
    let low = equality_inside g columns c.args.rows given c.requires.rows is in
    let same : c.substituted.new.meter ≡ g = grind arith in
    let short : IsSubstituted g columns given.col c.args.rows c.in_ok-short.short = grind arith in
    let k = c.rows_nowhere.new.meter in
    let e = rw same at c.rows_nowhere.ensures in
    record {
      exact = substituted_after g k columns given.col c.args.rows c.in_ok-short.short c.rows_nowhere.result low short e.exact;
      tame = record {
        tame = λ bits full room given_rows.
            let own = (c.in_ok-short.ensures.tame.tame bits full (omega (arith, low, room)) given_rows).answer in
            let rest = e.tame.tame (bits + 1) full (omega (arith, low, room)) own in
            tame_more ((columns - 1) * ((columns - 1) * (columns - 1))) (columns * (columns * columns)) g k (λ _. Unit {0}) (λ _. Unit {0})
            c.rows_nowhere.result (cube_more (columns - 1) columns (omega arith)) (λ value q. q) rest;
      };
    }

pub returns-in_err-short-clause-tame : goal.returns-in_err-short-clause-tame
returns-in_err-short-clause-tame t c = record {
  tame = λ bits full room given.
      let p = err_from_is_err_and c.from_residual.result c.from_residual.ensures.1 in
      let given_by = c.in-Some.given in
      let is : IsUnitEqualityOf c.args.rows given_by = grind arith in
      let low = equality_inside c.args.meter.now c.args.columns c.args.rows given_by c.requires.rows is in
      rw (p.1, p.2) (tame_cut 0 (c.args.columns * (c.args.columns * c.args.columns)) c.args.meter.now c.substituted.new.meter
      (λ short. All (IsDifferenceRow (bits + 1)) short) (λ _. Unit {0}) c.in_err-short.field-0.0 (omega arith)
      (c.in_err-short.ensures.tame.tame bits full (omega (arith, low, room)) given));
}
