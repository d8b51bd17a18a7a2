use Rattle.std.proofs.Common.{◌≡◌, ◌+◌, ◌*◌, ◌<◌, ◌≤◌, ◌++◌, [], ◌∷◌, refl, arith, length, get_or, take}
use Rattle.std.proofs.lemmas.Grind.{common_steps}
use Rattle.std.proofs.lemmas.List.{take_all}
use Rattle.std.proofs.lemmas.List.Elements.{All-take}
use Rattle.std.proofs.lemmas.Result.{err_from_is_err_and}
use Rattle.isl_piece.specs.declared.system.System.{System}
use Rattle.isl_ledger.specs.Difference.{IsDifferenceRow}
use Rattle.isl_difference.specs.Bounds.{ImplyRow}
use Rattle.isl_difference.specs.Split.{and_rows}
use Rattle.isl_difference.specs.Tame.{test_work}
use Rattle.isl_difference.proofs.SplitLaws.{before_row, given_at, more_at, turn_units}
use Rattle.isl_difference.proofs.TameLaws.{tame_cut, tame_memory, tame_ok}
use Rattle.isl_difference.proofs.split.split.Goals as goal

pub loop-row-preserved-then-is_implied : goal.loop-row-preserved-then-is_implied
loop-row-preserved-then-is_implied c =
    let rows = c.args.rows.now in
    let i = c.loop-row.row-index in
    let r = c.row-item.result in
    let rest = c.loop-row.rest in
    let inside : i < length rows = grind (arith, common_steps) in
    let is : r ≡ get_or rows i r = grind (arith, common_steps) in
    let implied : ImplyRow rest.rows r = rw c.as_slice.ensures at (c.is_implied.ensures.holds c.if-is_implied.true) in
    given_at c.args.meter.now c.loop-row.meter c.args.system.now rows i r rest c.loop-row.parts.items inside is c.loop-row.invariant implied

pub loop-row-preserved : goal.loop-row-preserved
loop-row-preserved c =
    let rows = c.args.rows.now in
    let i = c.loop-row.row-index in
    let r = c.row-item.result in
    let rest = c.loop-row.rest in
    let parts = c.loop-row.parts.items in
    let new = c.in_ok-new.new.items in
    let found = c.in_ok-new.ensures.exact in
    let inside : i < length rows = grind (arith, common_steps) in
    let is : r ≡ get_or rows i r = grind (arith, common_steps) in
    let more : c.push.new.self ≡ rest.rows ++ r ∷ [] = grind (arith, common_steps) in
    let all : c.append.new.systems.items ≡ parts ++ new = c.in_ok-append.ensures.items in
    let next : System = record { columns = rest.columns; definitions = rest.definitions; rows = c.push.new.self } in
    let same : next ≡ and_rows rest (r ∷ []) = rw more refl in
    more_at c.args.meter.now c.loop-row.meter c.args.system.now rows i r rest parts inside is c.loop-row.invariant c.failing.new.meter new next
    c.append.new.systems.items c.requires.formed c.requires.rows_within found.1 c.in_ok-new.ensures.paid
    c.in_ok-new.ensures.definitions found.0
    (λ columns bits limit room d row.
    let made = c.in_ok-new.ensures.tame columns bits limit room d row in
    (made.within.units, made.answer))
    same all

pub returns-in_err-new-clause-tame : goal.returns-in_err-new-clause-tame
returns-in_err-new-clause-tame c = λ columns bits limit room d all.
    let g = c.args.meter.now in
    let rows = c.args.rows.now in
    let i = c.loop-row.row-index in
    let r = c.row-item.result in
    let work = 2 * test_work columns in
    let used = length (take i rows) * work in
    let inside : i < length rows = grind (arith, common_steps) in
    let is : r ≡ get_or rows i r = grind (arith, common_steps) in
    let before = before_row g c.loop-row.meter c.args.system.now rows i r c.loop-row.rest c.loop-row.parts.items inside is c.loop-row.invariant
    columns bits limit room d all in
    let cut = c.in_err-new.ensures.tame columns bits before.limit room before.rows before.row in
    let error = err_from_is_err_and c.from_residual-in_err-new.result c.from_residual-in_err-new.ensures.1 in
    rw (error.1, error.2) (tame_cut used work (length rows * work) g c.loop-row.meter c.failing.new.meter _ _ c.in_err-new.field-0.0
    c.loop-row.invariant.charged before.units before.room cut)

pub returns-in_err-append-clause-tame : goal.returns-in_err-append-clause-tame
returns-in_err-append-clause-tame c = λ columns bits limit room d all.
    let g = c.args.meter.now in
    let rows = c.args.rows.now in
    let i = c.loop-row.row-index in
    let r = c.row-item.result in
    let work = 2 * test_work columns in
    let used = length (take i rows) * work in
    let inside : i < length rows = grind (arith, common_steps) in
    let is : r ≡ get_or rows i r = grind (arith, common_steps) in
    let before = before_row g c.loop-row.meter c.args.system.now rows i r c.loop-row.rest c.loop-row.parts.items inside is c.loop-row.invariant
    columns bits limit room d all in
    let made = c.in_ok-new.ensures.tame columns bits before.limit room before.rows before.row in
    let error = err_from_is_err_and c.from_residual-in_err-append.result c.from_residual-in_err-append.ensures.1 in
    rw (error.1, error.2) (tame_memory (used + work) (length rows * work) g c.failing.new.meter _
    (turn_units used work g c.loop-row.meter c.failing.new.meter before.units made.within.units) before.room)

pub returns-in_err-copy-clause-tame : goal.returns-in_err-copy-clause-tame
returns-in_err-copy-clause-tame c = λ columns bits limit room d all.
    let g = c.args.meter.now in
    let rows = c.args.rows.now in
    let i = c.loop-row.row-index in
    let r = c.row-item.result in
    let work = 2 * test_work columns in
    let used = length (take i rows) * work in
    let inside : i < length rows = grind (arith, common_steps) in
    let is : r ≡ get_or rows i r = grind (arith, common_steps) in
    let before = before_row g c.loop-row.meter c.args.system.now rows i r c.loop-row.rest c.loop-row.parts.items inside is c.loop-row.invariant
    columns bits limit room d all in
    let made = c.in_ok-new.ensures.tame columns bits before.limit room before.rows before.row in
    let error = err_from_is_err_and c.from_residual-in_err-copy.result c.from_residual-in_err-copy.ensures.1 in
    rw (error.1, error.2) (tame_memory (used + work) (length rows * work) g c.failing.new.meter _
    (turn_units used work g c.loop-row.meter c.failing.new.meter before.units made.within.units) before.room)

pub returns-in_err-push-clause-tame : goal.returns-in_err-push-clause-tame
returns-in_err-push-clause-tame c = λ columns bits limit room d all.
    let g = c.args.meter.now in
    let rows = c.args.rows.now in
    let i = c.loop-row.row-index in
    let r = c.row-item.result in
    let work = 2 * test_work columns in
    let used = length (take i rows) * work in
    let inside : i < length rows = grind (arith, common_steps) in
    let is : r ≡ get_or rows i r = grind (arith, common_steps) in
    let before = before_row g c.loop-row.meter c.args.system.now rows i r c.loop-row.rest c.loop-row.parts.items inside is c.loop-row.invariant
    columns bits limit room d all in
    let made = c.in_ok-new.ensures.tame columns bits before.limit room before.rows before.row in
    let error = err_from_is_err_and c.from_residual-in_err-push.result c.from_residual-in_err-push.ensures.1 in
    rw (error.1, error.2) (tame_memory (used + work) (length rows * work) g c.failing.new.meter _
    (turn_units used work g c.loop-row.meter c.failing.new.meter before.units made.within.units) before.room)

pub returns-clause-tame : goal.returns-clause-tame
returns-clause-tame c = λ columns bits limit room d all.
    let rows = c.args.rows.now in
    let i = c.loop-row.row-index in
    let end : length rows ≤ i = grind (arith, common_steps) in
    let so = rw (take_all i rows end) at
    (c.loop-row.invariant.tame columns bits limit room d (All-take (IsDifferenceRow bits) i rows all)) in
    tame_ok (length rows * (2 * test_work columns)) c.args.meter.now c.loop-row.meter _ _ so.units so.size
