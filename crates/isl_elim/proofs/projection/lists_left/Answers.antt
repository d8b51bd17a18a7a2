use Rattle.std.proofs.Common.{◌≡◌, ◌<◌, ◌+◌, ◌*◌, ℕ, ap, arith, length, get_or, List, Vec, Global}
use Rattle.std.proofs.lemmas.Result.{err_from_is_err_and}
use Rattle.std.specs.List.{All}
use Rattle.isl_ledger.specs.Difference.{IsDifferenceRow}
use Rattle.isl_elim.specs.Tame.{AreFewDifferences}
use Rattle.isl_elim.proofs.TameLaws.{tame_cut}
use Rattle.isl_elim.proofs.TameSystems.{one_column_tame, plain_differences}
use Rattle.isl_piece.specs.declared.row.Row.{Row}
use Rattle.isl_piece.specs.System.{free_columns}
use Rattle.isl_elim.proofs.ProjectionLaws.{answer_one, list_of_one, solved_same}
use Rattle.isl_elim.proofs.projection.lists_left.Goals as goal

pub returns-then-gone-free-clause-exact : goal.returns-then-gone-free-clause-exact
returns-then-gone-free-clause-exact c =
    let g = c.args.meter.now in
    let s = c.args.system.now in
    let gone = c.args.gone.now in
    let count : length gone ≡ 1 = grind arith in
    let low : get_or gone 0 0 < free_columns s = grind arith in
    let slice : c.as_slice.result.now ≡ s.rows = grind arith in
    answer_one (λ (v : Vec (List Row) Global). v.items) g c.eliminate_rows.new.meter s gone (get_or gone 0 0) c.eliminate_rows.result (list_of_one gone count) low
    (rw slice at c.eliminate_rows.ensures.projection) c.eliminate_rows.ensures.proper c.eliminate_rows.ensures.normal c.eliminate_rows.ensures.meter

pub returns-then-gone-free-clause-exact_column : goal.returns-then-gone-free-clause-exact_column
returns-then-gone-free-clause-exact_column c = λ col e low exact no.
    let slice : c.as_slice.result.now ≡ c.args.system.now.rows = grind arith in
    (rw (slice, e) at c.eliminate_rows.ensures.exact_column) exact no

pub returns-then-gone-free-clause-solved_column : goal.returns-then-gone-free-clause-solved_column
returns-then-gone-free-clause-solved_column c = λ col e low equality.
    let rows = c.args.system.now.rows in
    let slice : c.as_slice.result.now ≡ rows = grind arith in
    let same : get_or c.args.gone.now 0 0 ≡ col = ap (λ (cols : List ℕ). get_or cols 0 0) e in
    solved_same (λ (v : Vec (List Row) Global). v.items) rows (get_or c.args.gone.now 0 0) col c.eliminate_rows.result same (rw slice at c.eliminate_rows.ensures.solved_column) equality

pub returns-then-gone-free-clause-tame : goal.returns-then-gone-free-clause-tame
returns-then-gone-free-clause-tame c = λ normal. record {
  tame = λ bits full room given.
      let s = c.args.system.now in
      let gone = c.args.gone.now in
      let col = get_or gone 0 0 in
      let slice : c.as_slice.result.now ≡ s.rows = grind arith in
      let one : length gone ≡ 1 = grind arith in
      let low : col < free_columns s = grind arith in
      let inside : col < s.columns = omega arith in
      let e = rw slice at c.eliminate_rows.ensures in
      one_column_tame (λ (v : Vec (List Row) Global). v.items) c.args.meter.now c.eliminate_rows.new.meter bits s.columns col (length gone) s.rows
      c.eliminate_rows.result inside one full room (plain_differences c.args.meter.now s bits c.requires.well_formed given (normal one)) e.tame e.exact_column e.solved_column;
}

pub returns-in_err-rows-clause-tame : goal.returns-in_err-rows-clause-tame
returns-in_err-rows-clause-tame c = λ normal. record {
  tame = λ bits full room given.
      let s = c.args.system.now in
      let gone = c.args.gone.now in
      let own = c.in_err-rows.ensures.tame.tame bits full room given in
      let p = err_from_is_err_and c.from_residual.result c.from_residual.ensures.1 in
      rw (p.1, p.2) (tame_cut 0 (length gone * (s.columns * s.columns)) c.args.meter.now c.opened_rows.new.meter (All (IsDifferenceRow bits))
      (λ (lists : Vec (List Row) Global). AreFewDifferences (bits + length gone) lists.items) c.in_err-rows.field-0.0 (omega arith) own);
}

pub returns-clause-tame : goal.returns-clause-tame
returns-clause-tame c = λ normal. record {
  tame = λ bits full room given.
      let s = c.args.system.now in
      let same : c.opened_rows.new.meter ≡ c.args.meter.now = c.in_ok-rows.ensures.exact.1 in
      let own = (c.in_ok-rows.ensures.tame.tame bits full room given).answer in
      (rw same at c.rows_without.ensures.tame).tame bits full room own;
}
