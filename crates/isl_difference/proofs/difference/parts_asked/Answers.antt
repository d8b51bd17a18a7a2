use Rattle.std.proofs.Common.{◌≡◌, ◌+◌, ◌*◌, ◌∙◌, sym, arith, length}
use Rattle.std.proofs.lemmas.Result.{err_from_is_err_and}
use Rattle.isl_meter.specs.Gauge.{IsCharged}
use Rattle.isl_meter.proofs.CutLemmas.{charges}
use Rattle.isl_piece.specs.Meet.{over_same_columns}
use Rattle.isl_elim.proofs.PartsLaws.{charged_bits}
use Rattle.isl_difference.specs.Tame.{part_limit, test_work}
use Rattle.isl_difference.proofs.DifferenceLaws.{asked_more, none_common, other_live, split_left}
use Rattle.isl_difference.proofs.LiveLaws.{not_true}
use Rattle.isl_difference.proofs.SplitLaws.{charged_within, one_room, turn_units, turn_within, unit_room, unit_used}
use Rattle.isl_ledger.proofs.SizeLaws.{differences_of}
use Rattle.isl_difference.proofs.TameLaws.{both_differences, first_within, more_pieces, rows_few_live, rows_parts, rows_work}
use Rattle.isl_difference.proofs.TameLaws.{tame_cut, tame_memory, tame_ok, tame_refused, test_within}
use Rattle.isl_difference.proofs.difference.parts_asked.Goals as goal

pub is_nowhere-requires : goal.is_nowhere-requires
is_nowhere-requires c =
    let g = c.args.meter.now in
    let h = c.unit.new.self in
    let charged : IsCharged g h = grind (arith, charges) in
    c.in_ok-both.ensures.within h (charged_within g h c.args.system.now charged c.requires.within)
    (charged_within g h c.args.other.now charged c.requires.other_within)

pub returns-then-branch-clause-exact : goal.returns-then-branch-clause-exact
returns-then-branch-clause-exact c =
    let s = c.args.system.now in
    let other = c.args.other.now in
    let both = c.in_ok-both.both in
    let same : both ≡ over_same_columns s other = c.in_ok-both.ensures.same (sym c.requires.definitions) in
    (none_common s other c.requires.definitions both same (c.in_ok-is_nowhere.ensures.exact.0.0 c.if-branch.true), grind (arith, charges))

pub returns-clause-exact : goal.returns-clause-exact
returns-clause-exact c =
    let g = c.args.meter.now in
    let h = c.is_nowhere.new.meter in
    let found = c.in_ok-parts.ensures.exact in
    let before : IsCharged g h = grind (arith, charges) in
    let left = split_left c.args.system.now c.args.other.now c.requires.definitions g h c.in_ok-parts.parts.items before found.0 in
    (left, grind (arith, charges))

pub returns-then-branch-clause-asked : goal.returns-then-branch-clause-asked
returns-then-branch-clause-asked c =
    let charged : IsCharged c.unit.new.self c.is_nowhere.new.meter = grind (arith, charges) in
    asked_more c.args.meter.now c.unit.new.self c.is_nowhere.new.meter c.in_ok-unit.ensures.1 charged

pub returns-clause-asked : goal.returns-clause-asked
returns-clause-asked c =
    let charged : IsCharged c.unit.new.self c.split.new.meter = grind (arith, charges) in
    asked_more c.args.meter.now c.unit.new.self c.split.new.meter c.in_ok-unit.ensures.1 charged

pub returns-in_err-unit-clause-tame : goal.returns-in_err-unit-clause-tame
returns-in_err-unit-clause-tame c = λ columns bits limit room d o.
    let g = c.args.meter.now in
    let most = part_limit columns 1 * test_work columns in
    let charged : IsCharged g g = grind (arith, charges) in
    let error = err_from_is_err_and c.from_residual.result c.from_residual.ensures.1 in
    rw (error.1, error.2) (tame_refused 0 most g g c.unit.new.self _ charged (omega arith)
    (unit_room 0 most (columns * (columns * columns)) (first_within (test_work columns) most (test_within columns)))
    c.in_err-unit.ensures.0 c.in_err-unit.ensures.1)

pub returns-in_err-both-clause-tame : goal.returns-in_err-both-clause-tame
returns-in_err-both-clause-tame c = λ columns bits limit room d o.
    let g = c.args.meter.now in
    let most = part_limit columns 1 * test_work columns in
    let one = unit_used 0 g g c.unit.new.self (omega arith) c.in_ok-unit.ensures.1 in
    let error = err_from_is_err_and c.from_residual-in_err-both.result c.from_residual-in_err-both.ensures.1 in
    rw (error.1, error.2) (tame_memory 1 most g c.unit.new.self _ one
    (one_room 0 most (columns * (columns * columns)) (first_within (test_work columns) most (test_within columns))))

pub returns-in_err-is_nowhere-clause-tame : goal.returns-in_err-is_nowhere-clause-tame
returns-in_err-is_nowhere-clause-tame c = λ columns bits limit room d o.
    let g = c.args.meter.now in
    let j = c.unit.new.self in
    let s = c.args.system.now in
    let other = c.args.other.now in
    let both = c.in_ok-both.both in
    let test = columns * (columns * columns) in
    let most = part_limit columns 1 * test_work columns in
    let same : both ≡ over_same_columns s other = c.in_ok-both.ensures.same (sym c.requires.definitions) in
    let charged : IsCharged g j = grind (arith, charges) in
    let one = unit_used 0 g g j (omega arith) c.in_ok-unit.ensures.1 in
    let rows = both_differences columns bits s other both same d o in
    let limit_then = charged_bits g j charged ∙ limit in
    let cut = c.in_err-is_nowhere.ensures.tame columns (bits + 1) limit_then room rows in
    let error = err_from_is_err_and c.from_residual-in_err-is_nowhere.result c.from_residual-in_err-is_nowhere.ensures.1 in
    rw (error.1, error.2) (tame_cut 1 test most g j c.is_nowhere.new.meter _ _ c.in_err-is_nowhere.field-0.0 charged one
    (test_within columns) cut)

pub returns-then-branch-clause-tame : goal.returns-then-branch-clause-tame
returns-then-branch-clause-tame c = λ columns bits limit room d o.
    let g = c.args.meter.now in
    let j = c.unit.new.self in
    let s = c.args.system.now in
    let other = c.args.other.now in
    let both = c.in_ok-both.both in
    let test = columns * (columns * columns) in
    let most = part_limit columns 1 * test_work columns in
    let same : both ≡ over_same_columns s other = c.in_ok-both.ensures.same (sym c.requires.definitions) in
    let charged : IsCharged g j = grind (arith, charges) in
    let one = unit_used 0 g g j (omega arith) c.in_ok-unit.ensures.1 in
    let rows = both_differences columns bits s other both same d o in
    let limit_then = charged_bits g j charged ∙ limit in
    let asked = c.in_ok-is_nowhere.ensures.tame columns (bits + 1) limit_then room rows in
    tame_ok most g c.is_nowhere.new.meter _ _
    (turn_within 1 test most g j c.is_nowhere.new.meter one asked.within.units (test_within columns)) tt

pub returns-in_err-parts-clause-tame : goal.returns-in_err-parts-clause-tame
returns-in_err-parts-clause-tame c = λ columns bits limit room d o.
    let g = c.args.meter.now in
    let j = c.unit.new.self in
    let s = c.args.system.now in
    let other = c.args.other.now in
    let both = c.in_ok-both.both in
    let test = columns * (columns * columns) in
    let most = part_limit columns 1 * test_work columns in
    let same : both ≡ over_same_columns s other = c.in_ok-both.ensures.same (sym c.requires.definitions) in
    let charged : IsCharged g j = grind (arith, charges) in
    let one = unit_used 0 g g j (omega arith) c.in_ok-unit.ensures.1 in
    let rows = both_differences columns bits s other both same d o in
    let limit_then = charged_bits g j charged ∙ limit in
    let k = c.is_nowhere.new.meter in
    let later : IsCharged g k = grind (arith, charges) in
    let asked = c.in_ok-is_nowhere.ensures.tame columns (bits + 1) limit_then room rows in
    let before = turn_units 1 test g j k one asked.within.units in
    let live = other_live s other c.requires.definitions both same c.requires.columns
    (λ none. not_true c.in_ok-is_nowhere.field-0 c.if-branch.false (c.in_ok-is_nowhere.ensures.exact.0.1 none)) in
    let few = rows_few_live g columns bits other c.requires.other_within o live in
    let count = length other.rows in
    let work = rows_work columns count few in
    let own = differences_of columns (bits + 1) s d in
    let cut = c.in_err-parts.ensures.tame columns bits (charged_bits g k later ∙ limit) room own o.rows in
    let error = err_from_is_err_and c.from_residual-in_err-parts.result c.from_residual-in_err-parts.ensures.1 in
    rw (error.1, error.2) (tame_cut (test_work columns) (count * (2 * test_work columns)) most g k c.split.new.meter _ _
    c.in_err-parts.field-0.0 later before work cut)

pub returns-clause-tame : goal.returns-clause-tame
returns-clause-tame c = λ columns bits limit room d o.
    let g = c.args.meter.now in
    let j = c.unit.new.self in
    let s = c.args.system.now in
    let other = c.args.other.now in
    let both = c.in_ok-both.both in
    let test = columns * (columns * columns) in
    let most = part_limit columns 1 * test_work columns in
    let same : both ≡ over_same_columns s other = c.in_ok-both.ensures.same (sym c.requires.definitions) in
    let charged : IsCharged g j = grind (arith, charges) in
    let one = unit_used 0 g g j (omega arith) c.in_ok-unit.ensures.1 in
    let rows = both_differences columns bits s other both same d o in
    let limit_then = charged_bits g j charged ∙ limit in
    let k = c.is_nowhere.new.meter in
    let later : IsCharged g k = grind (arith, charges) in
    let asked = c.in_ok-is_nowhere.ensures.tame columns (bits + 1) limit_then room rows in
    let before = turn_units 1 test g j k one asked.within.units in
    let live = other_live s other c.requires.definitions both same c.requires.columns
    (λ none. not_true c.in_ok-is_nowhere.field-0 c.if-branch.false (c.in_ok-is_nowhere.ensures.exact.0.1 none)) in
    let few = rows_few_live g columns bits other c.requires.other_within o live in
    let count = length other.rows in
    let work = rows_work columns count few in
    let own = differences_of columns (bits + 1) s d in
    let made = c.in_ok-parts.ensures.tame columns bits (charged_bits g k later ∙ limit) room own o.rows in
    tame_ok most g c.split.new.meter _ _
    (turn_within (test_work columns) (count * (2 * test_work columns)) most g k c.split.new.meter before made.within.units work)
    (more_pieces columns (bits + 1) (count * 2) (part_limit columns 1) c.in_ok-parts.parts.items (rows_parts columns count few) made.answer)
