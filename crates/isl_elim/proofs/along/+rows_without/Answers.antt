use Rattle.std.proofs.Common.{◌≡◌, ◌+◌, ◌*◌, arith, length, List, Vec, Global}
use Rattle.std.specs.List.{All}
use Rattle.std.proofs.lemmas.Result.{err_from_is_err_and}
use Rattle.isl_ledger.specs.Difference.{IsDifferenceRow}
use Rattle.isl_piece.specs.declared.row.Row.{Row}
use Rattle.isl_elim.specs.Others.{others_of}
use Rattle.isl_elim.specs.Solved.{IsGivenBy, IsSubstituted}
use Rattle.isl_elim.specs.Tame.{AreFewDifferences}
use Rattle.isl_elim.proofs.OthersLaws.{others_count}
use Rattle.isl_elim.proofs.TameLaws.{tame_memory, tame_cut}
use Rattle.isl_elim.proofs.AlongLaws.{columns_after}
use Rattle.isl_elim.proofs.GivenLaws.{given_among, given_low, solved_after, solved_tame}
use Rattle.isl_elim.proofs.along.+rows_without.Goals as goal

pub rows_without-requires : goal.rows_without-requires
rows_without-requires t c =
    let g = c.args.meter.now in
    let cols = c.args.cols.now in
    let given = c.in-Some.given in
    let is : IsGivenBy c.args.rows cols given = grind arith in
    let low = given_low c.args.columns c.args.rows cols given is c.requires.cols_in in
    let same : c.substituted.new.meter ≡ g = grind arith in
    let short : IsSubstituted g c.args.columns given.col c.args.rows c.in_ok-short.short = grind arith in
    let slice : c.as_slice-2.result.now ≡ others_of given.col cols = grind arith in
    let left = columns_after c.args.columns given.col cols c.as_slice-2.result.now slice c.requires.distinct low c.requires.cols_in in
    (omega (arith, low), (rw same short.proper, left))

pub returns : goal.returns
returns t c =
    let g = c.args.meter.now in
    let cols = c.args.cols.now in
    let given = c.in-Some.given in
    let is : IsGivenBy c.args.rows cols given = grind arith in
    let among = given_among c.args.rows cols given is in
    let low = given_low c.args.columns c.args.rows cols given is c.requires.cols_in in
    let same : c.substituted.new.meter ≡ g = grind arith in
    let short : IsSubstituted g c.args.columns given.col c.args.rows c.in_ok-short.short = grind arith in
    let slice : c.as_slice-2.result.now ≡ others_of given.col cols = grind arith in
    let k = c.rows_without.new.meter in
    let e = rw (slice, same) at c.rows_without.ensures in
    record {
      exact = solved_after g k c.args.columns given.col cols c.args.rows c.in_ok-short.short c.rows_without.result c.requires.distinct
          among low short e.exact;
      counted = e.counted;
      tame = record {
        tame = λ bits full room given_rows.
            let some = is.among in
            let own = (c.in_ok-short.ensures.tame.tame bits full (omega (arith, room, some)) given_rows).answer in
            let count = others_count given.col cols c.requires.distinct among in
            let rest = e.tame.tame (bits + 1) full (omega (arith, room, count)) own in
            solved_tame g k c.args.columns bits (length (others_of given.col cols)) (length cols) c.rows_without.result count rest;
      };
    }

pub returns-in_err-left-clause-tame : goal.returns-in_err-left-clause-tame
returns-in_err-left-clause-tame t c = record {
  tame = λ bits full room given.
      let p = err_from_is_err_and c.from_residual.result c.from_residual.ensures.1 in
      rw (p.1, p.2) (tame_memory (length c.args.cols.now * (c.args.columns * c.args.columns)) c.args.meter.now c.args.meter.now
      (λ (lists : Vec (List Row) Global). AreFewDifferences (bits + length c.args.cols.now) lists.items) (omega arith));
}

pub returns-in_err-short-clause-tame : goal.returns-in_err-short-clause-tame
returns-in_err-short-clause-tame t c = record {
  tame = λ bits full room given.
      let is : IsGivenBy c.args.rows c.args.cols.now c.in-Some.given = grind arith in
      let some = is.among in
      let p = err_from_is_err_and c.from_residual-in_err-short.result c.from_residual-in_err-short.ensures.1 in
      rw (p.1, p.2) (tame_cut 0 (length c.args.cols.now * (c.args.columns * c.args.columns)) c.args.meter.now c.substituted.new.meter
      (λ short. All (IsDifferenceRow (bits + 1)) short)
      (λ (lists : Vec (List Row) Global). AreFewDifferences (bits + length c.args.cols.now) lists.items)
      c.in_err-short.field-0.0 (omega arith) (c.in_err-short.ensures.tame.tame bits full (omega (arith, room, some)) given));
}
