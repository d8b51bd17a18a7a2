use Rattle.std.proofs.Common.{◌≡◌, ◌+◌, ◌*◌, ◌<◌, ◌≤◌, ◌++◌, [], ◌∷◌, refl, sym, arith, length, get_or, take}
use Rattle.std.proofs.lemmas.Bool.{false≢true}
use Rattle.std.proofs.lemmas.Grind.{common_steps}
use Rattle.std.proofs.lemmas.List.{nil_from_length, take_all}
use Rattle.std.proofs.lemmas.List.Elements.{All-take}
use Rattle.std.proofs.lemmas.Result.{err_from_is_err_and}
use Rattle.isl_piece.specs.declared.system.System.{System}
use Rattle.isl_ledger.specs.Difference.{IsDifferenceRow}
use Rattle.isl_difference.specs.Bounds.{ImplyRow}
use Rattle.isl_difference.specs.Split.{and_rows}
use Rattle.isl_difference.specs.Tame.{test_work}
use Rattle.isl_difference.proofs.SplitLaws.{before_row, given_at, more_at, not_throughout, throughout, turn_units, turn_within}
use Rattle.isl_difference.proofs.TameLaws.{tame_cut, tame_memory, tame_ok}
use Rattle.isl_difference.proofs.split.hold_throughout.Goals as goal

pub loop-row-preserved-then-is_implied : goal.loop-row-preserved-then-is_implied
loop-row-preserved-then-is_implied c =
    let rows = c.args.rows.now in
    let i = c.loop-row.row-index in
    let r = c.row-item.result in
    let rest = c.loop-row.rest in
    let inside : i < length rows = grind (arith, common_steps) in
    let is : r ≡ get_or rows i r = grind (arith, common_steps) in
    let implied : ImplyRow rest.rows r = rw c.as_slice.ensures at (c.is_implied.ensures.holds c.if-is_implied.true) in
    given_at c.args.meter.now c.loop-row.meter c.args.system.now rows i r rest [] inside is c.loop-row.invariant implied

pub loop-row-preserved : goal.loop-row-preserved
loop-row-preserved c =
    let rows = c.args.rows.now in
    let i = c.loop-row.row-index in
    let r = c.row-item.result in
    let rest = c.loop-row.rest in
    let failed = c.in_ok-failed.failed.items in
    let found = c.in_ok-failed.ensures.exact in
    let inside : i < length rows = grind (arith, common_steps) in
    let is : r ≡ get_or rows i r = grind (arith, common_steps) in
    let more : c.push.new.self ≡ rest.rows ++ r ∷ [] = grind (arith, common_steps) in
    let count : length failed ≡ 0 = grind (arith, common_steps) in
    let next : System = record { columns = rest.columns; definitions = rest.definitions; rows = c.push.new.self } in
    let same : next ≡ and_rows rest (r ∷ []) = rw more refl in
    more_at c.args.meter.now c.loop-row.meter c.args.system.now rows i r rest [] inside is c.loop-row.invariant c.failing.new.meter failed
    next [] c.requires.formed c.requires.rows_within found.1 c.in_ok-failed.ensures.paid c.in_ok-failed.ensures.definitions found.0
    (λ columns bits limit room d row.
    let made = c.in_ok-failed.ensures.tame columns bits limit room d row in
    (made.within.units, made.answer))
    same (sym (nil_from_length failed count))

pub returns-then-not-is_empty-clause-exact : goal.returns-then-not-is_empty-clause-exact
returns-then-not-is_empty-clause-exact c =
    let rows = c.args.rows.now in
    let i = c.loop-row.row-index in
    let r = c.row-item.result in
    let failed = c.in_ok-failed.failed.items in
    let inside : i < length rows = grind (arith, common_steps) in
    let is : r ≡ get_or rows i r = grind (arith, common_steps) in
    let some : 0 < length failed = grind (arith, common_steps) in (
      (λ t. absurd (false≢true t)),
      (λ n. absurd (not_throughout c.args.meter.now c.loop-row.meter c.args.system.now rows i r c.loop-row.rest failed inside is
          c.loop-row.invariant c.in_ok-failed.ensures.exact.0 some n)),
    )

pub returns-clause-exact : goal.returns-clause-exact
returns-clause-exact c =
    let rows = c.args.rows.now in
    let i = c.loop-row.row-index in
    let end : length rows ≤ i = grind (arith, common_steps) in (
      (λ t. throughout c.args.meter.now c.loop-row.meter c.args.system.now rows i c.loop-row.rest end c.loop-row.invariant),
      (λ n. refl),
    )

pub returns-in_err-failed-clause-tame : goal.returns-in_err-failed-clause-tame
returns-in_err-failed-clause-tame c = λ columns bits limit room d all.
    let g = c.args.meter.now in
    let rows = c.args.rows.now in
    let i = c.loop-row.row-index in
    let r = c.row-item.result in
    let work = 2 * test_work columns in
    let used = length (take i rows) * work in
    let inside : i < length rows = grind (arith, common_steps) in
    let is : r ≡ get_or rows i r = grind (arith, common_steps) in
    let before = before_row g c.loop-row.meter c.args.system.now rows i r c.loop-row.rest [] inside is c.loop-row.invariant columns bits
    limit room d all in
    let cut = c.in_err-failed.ensures.tame columns bits before.limit room before.rows before.row in
    let error = err_from_is_err_and c.from_residual-in_err-failed.result c.from_residual-in_err-failed.ensures.1 in
    rw (error.1, error.2) (tame_cut used work (length rows * work) g c.loop-row.meter c.failing.new.meter _ _ c.in_err-failed.field-0.0
    c.loop-row.invariant.charged before.units before.room cut)

pub returns-in_err-copy-clause-tame : goal.returns-in_err-copy-clause-tame
returns-in_err-copy-clause-tame c = λ columns bits limit room d all.
    let g = c.args.meter.now in
    let rows = c.args.rows.now in
    let i = c.loop-row.row-index in
    let r = c.row-item.result in
    let work = 2 * test_work columns in
    let used = length (take i rows) * work in
    let inside : i < length rows = grind (arith, common_steps) in
    let is : r ≡ get_or rows i r = grind (arith, common_steps) in
    let before = before_row g c.loop-row.meter c.args.system.now rows i r c.loop-row.rest [] inside is c.loop-row.invariant columns bits
    limit room d all in
    let made = c.in_ok-failed.ensures.tame columns bits before.limit room before.rows before.row in
    let error = err_from_is_err_and c.from_residual-in_err-copy.result c.from_residual-in_err-copy.ensures.1 in
    rw (error.1, error.2) (tame_memory (used + work) (length rows * work) g c.failing.new.meter _
    (turn_units used work g c.loop-row.meter c.failing.new.meter before.units made.within.units) before.room)

pub returns-in_err-push-clause-tame : goal.returns-in_err-push-clause-tame
returns-in_err-push-clause-tame c = λ columns bits limit room d all.
    let g = c.args.meter.now in
    let rows = c.args.rows.now in
    let i = c.loop-row.row-index in
    let r = c.row-item.result in
    let work = 2 * test_work columns in
    let used = length (take i rows) * work in
    let inside : i < length rows = grind (arith, common_steps) in
    let is : r ≡ get_or rows i r = grind (arith, common_steps) in
    let before = before_row g c.loop-row.meter c.args.system.now rows i r c.loop-row.rest [] inside is c.loop-row.invariant columns bits
    limit room d all in
    let made = c.in_ok-failed.ensures.tame columns bits before.limit room before.rows before.row in
    let error = err_from_is_err_and c.from_residual-in_err-push.result c.from_residual-in_err-push.ensures.1 in
    rw (error.1, error.2) (tame_memory (used + work) (length rows * work) g c.failing.new.meter _
    (turn_units used work g c.loop-row.meter c.failing.new.meter before.units made.within.units) before.room)

pub returns-then-not-is_empty-clause-tame : goal.returns-then-not-is_empty-clause-tame
returns-then-not-is_empty-clause-tame c = λ columns bits limit room d all.
    let g = c.args.meter.now in
    let rows = c.args.rows.now in
    let i = c.loop-row.row-index in
    let r = c.row-item.result in
    let work = 2 * test_work columns in
    let used = length (take i rows) * work in
    let inside : i < length rows = grind (arith, common_steps) in
    let is : r ≡ get_or rows i r = grind (arith, common_steps) in
    let before = before_row g c.loop-row.meter c.args.system.now rows i r c.loop-row.rest [] inside is c.loop-row.invariant columns bits
    limit room d all in
    let made = c.in_ok-failed.ensures.tame columns bits before.limit room before.rows before.row in
    tame_ok (length rows * work) g c.failing.new.meter _ _
    (turn_within used work (length rows * work) g c.loop-row.meter c.failing.new.meter before.units made.within.units before.room) tt

pub returns-clause-tame : goal.returns-clause-tame
returns-clause-tame c = λ columns bits limit room d all.
    let rows = c.args.rows.now in
    let i = c.loop-row.row-index in
    let end : length rows ≤ i = grind (arith, common_steps) in
    let so = rw (take_all i rows end) at
    (c.loop-row.invariant.tame columns bits limit room d (All-take (IsDifferenceRow bits) i rows all)) in
    tame_ok (length rows * (2 * test_work columns)) c.args.meter.now c.loop-row.meter _ _ so.units tt
