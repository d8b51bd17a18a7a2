use Rattle.std.proofs.Common.{◌-◌, ◌≡◌, ◌≤ℤ◌, [], pos, sym, ap, ◌∙◌, refl, List, ℤ, arith}
use Rattle.std.specs.List.{All}
use Rattle.std.proofs.lemmas.Result.{err_from_is_err_and}
use Rattle.isl_math.proofs.Ring.{linear}
use Rattle.isl_piece.specs.declared.row.Row.{Row}
use Rattle.isl_piece.specs.Normal.{normal_rows}
use Rattle.isl_piece.specs.Row.{IsWellFormed, IsRowWithin}
use Rattle.isl_shadows.specs.Exact.{AreAdded, rows_left, pairs_on}
use Rattle.isl_shadows.specs.RealShadow.{HoldReally}
use Rattle.isl_meter.specs.Gauge.{IsChargedUpTo}
use Rattle.isl_meter.proofs.UnitLemmas.{charged_bits, memory_late}
use Rattle.isl_omega.specs.Units.{paid}
use Rattle.isl_omega.proofs.ExactUnits.{charged_up_to, answered_ok}
use Rattle.isl_omega.proofs.ColumnLemmas.{moduli_of}
use Rattle.isl_piece.proofs.RowMagnitudes.{rows_within_kept}
use Rattle.isl_shadows.proofs.ExactLemmas.{exact_short, real_answer}
use Rattle.isl_shadows.proofs.SplinterLemmas.{answer_kept}
use Rattle.isl_shadows.proofs.TameLemmas.{answered_cut_same, answered_memory}
use Rattle.isl_column.proofs.exact.real_left.Goals as goal

pub normalise-requires-clause-moduli : goal.normalise-requires-clause-moduli
normalise-requires-clause-moduli c =
    let g = c.args.meter.now in
    let columns = c.args.column.columns in
    let rows = c.args.rows.now in
    let made : AreAdded g c.args.column.at (rows_left c.args.column.at rows) [] c.in_ok-short.short = grind arith in
    moduli_of (columns - 1) c.in_ok-short.short (exact_short g columns rows c.args.column.at c.in_ok-short.short c.requires.rows c.requires.none c.args.column.in_range made).0

pub normalise-requires-clause-within : goal.normalise-requires-clause-within
normalise-requires-clause-within c =
    let g = c.args.meter.now in
    let k = c.short_rows.new.meter in
    let columns = c.args.column.columns in
    let rows = c.args.rows.now in
    let made : AreAdded g c.args.column.at (rows_left c.args.column.at rows) [] c.in_ok-short.short = grind arith in
    let used : IsChargedUpTo (pos (pairs_on c.args.column.at rows)) g k = charged_up_to (pairs_on c.args.column.at rows) g k (grind arith) in
    rows_within_kept k g c.in_ok-short.short (sym (charged_bits (pos (pairs_on c.args.column.at rows)) g k used)) (exact_short g columns rows c.args.column.at c.in_ok-short.short c.requires.rows c.requires.none c.args.column.in_range made).1

pub returns-in_err-left-clause-exact : goal.returns-in_err-left-clause-exact
returns-in_err-left-clause-exact c =
    let g = c.args.meter.now in
    let h = c.short_rows.new.meter in
    let n = pairs_on c.args.column.at c.args.rows.now in
    let used : IsChargedUpTo (pos n) g h = charged_up_to n g h (grind arith) in
    let same : (z : ℤ) → z ≤ℤ z = λ z. omega (arith, linear) in
    let cut = memory_late (pos n) (pos n) g h h (same (pos n)) used refl in
    grind arith

pub returns-clause-exact : goal.returns-clause-exact
returns-clause-exact c =
    let g = c.args.meter.now in
    let h = c.short_rows.new.meter in
    let columns = c.args.column.columns in
    let rows = c.args.rows.now in
    let left = c.in_ok-left.left in
    let n = pairs_on c.args.column.at rows in
    let made : AreAdded g c.args.column.at (rows_left c.args.column.at rows) [] c.in_ok-short.short = grind arith in
    let charged : IsChargedUpTo (pos n) g h = charged_up_to n g h (grind arith) in
    let short : All (IsWellFormed (columns - 1)) c.in_ok-short.short × All (IsRowWithin g) c.in_ok-short.short = exact_short g columns rows c.args.column.at c.in_ok-short.short c.requires.rows c.requires.none c.args.column.in_range made in
    let is = real_answer g h columns rows c.args.column.at c.in_ok-short.short left c.requires.rows c.requires.none c.args.column.in_range made c.in_ok-left.ensures.points c.in_ok-left.ensures.normal (c.in_ok-left.ensures.shape (columns - 1) short.0) c.in_ok-left.ensures.within in
    (answer_kept g h (columns - 1) (HoldReally rows c.args.column.at) left (charged_bits (pos n) g h charged) is, grind arith)

pub returns-clause-left : goal.returns-clause-left
returns-clause-left c =
    let rows = c.args.rows.now in
    let added : AreAdded c.args.meter.now c.args.column.at (rows_left c.args.column.at rows) [] c.in_ok-short.short = grind arith in
    c.in_ok-left.ensures.exact ∙ ap (λ (rows : List Row). normal_rows rows) added.pushed

pub returns-in_err-short-clause-no_overflow : goal.returns-in_err-short-clause-no_overflow
returns-in_err-short-clause-no_overflow c = λ u w all room.
    let p = err_from_is_err_and c.from_residual.result c.from_residual.ensures.1 in
    rw (p.1, p.2) (c.in_err-short.ensures.no_overflow u w all room)

pub returns-in_err-short-clause-answered : goal.returns-in_err-short-clause-answered
returns-in_err-short-clause-answered c =
    let n = pairs_on c.args.column.at c.args.rows.now in
    let p = err_from_is_err_and c.from_residual.result c.from_residual.ensures.1 in
    rw (p.1, p.2) (λ few. answered_cut_same n c.args.meter.now c.short_rows.new.meter c.in_err-short.field-0.0 (c.in_err-short.ensures.answered few))

pub returns-in_err-left-clause-answered : goal.returns-in_err-left-clause-answered
returns-in_err-left-clause-answered c =
    let n = pairs_on c.args.column.at c.args.rows.now in
    let used : c.short_rows.new.meter ≡ paid n c.args.meter.now = grind arith in
    let p = err_from_is_err_and c.from_residual-in_err-left.result c.from_residual-in_err-left.ensures.1 in
    rw (p.1, p.2) (λ few. answered_memory n n c.args.meter.now c.short_rows.new.meter (omega arith) used)

pub returns-clause-answered : goal.returns-clause-answered
returns-clause-answered c = λ few.
    let n = pairs_on c.args.column.at c.args.rows.now in
    let used : c.short_rows.new.meter ≡ paid n c.args.meter.now = grind arith in
    answered_ok n c.args.meter.now c.short_rows.new.meter _ used
