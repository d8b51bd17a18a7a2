use Rattle.std.proofs.Common.{◌≡◌, ◌∙◌, ◌+◌, ◌*◌, ◌<◌, ◌≤◌, [], ◌∷◌, arith, length, get_or, take}
use Rattle.std.proofs.lemmas.Grind.{common_steps}
use Rattle.std.proofs.lemmas.List.{take_all}
use Rattle.std.proofs.lemmas.List.Elements.{All-nil, All-cons, All-take}
use Rattle.std.proofs.lemmas.Result.{err_from_is_err_and}
use Rattle.isl_meter.specs.Gauge.{IsCharged}
use Rattle.isl_meter.proofs.CutLemmas.{charges}
use Rattle.isl_ledger.specs.Difference.{HasDifferenceRows, IsDifferenceRow}
use Rattle.isl_elim.proofs.PartsLaws.{charged_bits}
use Rattle.isl_difference.specs.Split.{and_rows, IsPushed}
use Rattle.isl_difference.specs.Tame.{test_work}
use Rattle.isl_difference.proofs.SplitLaws.{failing_within, failing_more, one_room, test_room, unit_room, unit_used}
use Rattle.isl_difference.proofs.TameLaws.{and_rows_differences, taken_turn, tame_cut, tame_memory, tame_ok, tame_refused}
use Rattle.isl_difference.proofs.split.holding.Goals as goal

pub push_live-requires : goal.push_live-requires
push_live-requires c =
    let h = c.loop-row.meter in
    let j = c.unit.new.self in
    let s = c.args.system.now in
    let rows = c.args.rows.now in
    let i = c.loop-row.row-index in
    let r = c.row-item.result in
    let both = c.in_ok-both.both in
    let inside : i < length rows = grind (arith, common_steps) in
    let is : r ≡ get_or rows i r = grind (arith, common_steps) in
    let unit : j ≡ record h { units = h.units + 1 } = grind (arith, common_steps) in
    let made : both ≡ and_rows s (r ∷ []) = grind (arith, common_steps) in
    failing_within c.args.meter.now h j s rows i r both c.loop-row.parts.items c.loop-row.invariant unit c.requires.within c.requires.formed
    c.requires.rows_within inside is made

pub loop-row-preserved : goal.loop-row-preserved
loop-row-preserved c =
    let h = c.loop-row.meter in
    let j = c.unit.new.self in
    let k = c.push_live.new.meter in
    let s = c.args.system.now in
    let rows = c.args.rows.now in
    let i = c.loop-row.row-index in
    let r = c.row-item.result in
    let both = c.in_ok-both.both in
    let parts = c.loop-row.parts.items in
    let newer = c.push_live.new.systems.items in
    let inside : i < length rows = grind (arith, common_steps) in
    let is : r ≡ get_or rows i r = grind (arith, common_steps) in
    let unit : j ≡ record h { units = h.units + 1 } = grind (arith, common_steps) in
    let made : both ≡ and_rows s (r ∷ []) = grind (arith, common_steps) in
    let charged : IsCharged j k = grind (arith, common_steps) in
    let pushed : IsPushed j both parts newer = grind (arith, common_steps) in
    failing_more c.args.meter.now h j k s rows i r parts c.requires.exclusive inside is c.loop-row.invariant unit charged newer (rw made at pushed)
    (λ columns bits limit room d.
    let asked = c.in_ok-push_live.ensures.tame columns bits limit room (rw made d) in
    (asked.within.units, asked.answer))

pub returns-in_err-unit-clause-tame : goal.returns-in_err-unit-clause-tame
returns-in_err-unit-clause-tame c = λ columns bits limit room d all.
    let rows = c.args.rows.now in
    let i = c.loop-row.row-index in
    let used = length (take i rows) * test_work columns in
    let most = length rows * test_work columns in
    let inside : i < length rows = grind (arith, common_steps) in
    let so = c.loop-row.invariant.tame columns bits limit room d (All-take (IsDifferenceRow bits) i rows all) in
    let turn = taken_turn i rows (test_work columns) inside in
    let error = err_from_is_err_and c.from_residual.result c.from_residual.ensures.1 in
    rw (error.1, error.2) (tame_refused used most c.args.meter.now c.loop-row.meter c.unit.new.self _ c.loop-row.invariant.charged so.0
    (unit_room used most (columns * (columns * columns)) turn) c.in_err-unit.ensures.0 c.in_err-unit.ensures.1)

pub returns-in_err-both-clause-tame : goal.returns-in_err-both-clause-tame
returns-in_err-both-clause-tame c = λ columns bits limit room d all.
    let g = c.args.meter.now in
    let h = c.loop-row.meter in
    let rows = c.args.rows.now in
    let i = c.loop-row.row-index in
    let used = length (take i rows) * test_work columns in
    let most = length rows * test_work columns in
    let inside : i < length rows = grind (arith, common_steps) in
    let so = c.loop-row.invariant.tame columns bits limit room d (All-take (IsDifferenceRow bits) i rows all) in
    let before = unit_used used g h c.unit.new.self so.0 c.in_ok-unit.ensures.1 in
    let turn = taken_turn i rows (test_work columns) inside in
    let error = err_from_is_err_and c.from_residual-in_err-both.result c.from_residual-in_err-both.ensures.1 in
    rw (error.1, error.2) (tame_memory (used + 1) most g c.unit.new.self _ before
    (one_room used most (columns * (columns * columns)) turn))

pub returns-in_err-push_live-clause-tame : goal.returns-in_err-push_live-clause-tame
returns-in_err-push_live-clause-tame c = λ columns bits limit room d all.
    let g = c.args.meter.now in
    let h = c.loop-row.meter in
    let j = c.unit.new.self in
    let s = c.args.system.now in
    let rows = c.args.rows.now in
    let i = c.loop-row.row-index in
    let r = c.row-item.result in
    let both = c.in_ok-both.both in
    let test = columns * (columns * columns) in
    let used = length (take i rows) * test_work columns in
    let most = length rows * test_work columns in
    let inside : i < length rows = grind (arith, common_steps) in
    let is : r ≡ get_or rows i r = grind (arith, common_steps) in
    let unit : j ≡ record h { units = h.units + 1 } = grind (arith, common_steps) in
    let made : both ≡ and_rows s (r ∷ []) = grind (arith, common_steps) in
    let charged : IsCharged g j = grind (arith, charges) in
    let so = c.loop-row.invariant.tame columns bits limit room d (All-take (IsDifferenceRow bits) i rows all) in
    let turn = taken_turn i rows (test_work columns) inside in
    let row : IsDifferenceRow bits r = rw is (all i r inside) in
    let one = All-cons (IsDifferenceRow bits) r [] row (All-nil (IsDifferenceRow bits)) in
    let system : HasDifferenceRows columns bits both = rw made (and_rows_differences columns bits s (r ∷ []) d one) in
    let cut = c.in_err-push_live.ensures.tame columns bits (charged_bits g j charged ∙ limit) room system in
    let error = err_from_is_err_and c.from_residual-in_err-push_live.result c.from_residual-in_err-push_live.ensures.1 in
    rw (error.1, error.2) (tame_cut (used + 1) test most g j c.push_live.new.meter _ _ c.in_err-push_live.field-0.0 charged
    (unit_used used g h j so.0 unit) (test_room used most test turn) cut)

pub returns-clause-tame : goal.returns-clause-tame
returns-clause-tame c = λ columns bits limit room d all.
    let rows = c.args.rows.now in
    let i = c.loop-row.row-index in
    let end : length rows ≤ i = grind (arith, common_steps) in
    let so = rw (take_all i rows end) at
    (c.loop-row.invariant.tame columns bits limit room d (All-take (IsDifferenceRow bits) i rows all)) in
    tame_ok (length rows * test_work columns) c.args.meter.now c.loop-row.meter _ _ so.0 so.1
