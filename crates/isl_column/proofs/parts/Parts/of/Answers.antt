use Rattle.std.proofs.Common.{length, pos, arith}
use Rattle.isl_omega.specs.Equality.{HasEquality}
use Rattle.isl_shadows.specs.Column.{HoldAtSome}
use Rattle.isl_shadows.specs.Exact.{IsExactColumn}
use Rattle.isl_shadows.specs.Solved.{IsLeastAmong}
use Rattle.isl_shadows.specs.Units.{elimination_units}
use Rattle.isl_shadows.proofs.EliminateLemmas.{most_not_negative, equality_from}
use Rattle.isl_shadows.proofs.LeastEquality.{least_equality_at}
use Rattle.isl_column.proofs.PartsLemmas.{begun_weaker, begun_exact, begun_units, begun_none}
use Rattle.isl_shadows.proofs.TameLemmas.{tame_exact, tame_never, tame_solved}
use Rattle.isl_column.proofs.parts.Parts.of.Goals as goal

pub returns-in-Some-clause-exact : goal.returns-in-Some-clause-exact
returns-in-Some-clause-exact c = begun_exact (pos 0) c.args.meter.now c.solved.new.meter c.args.column.columns c.args.column.at c.args.rows.now c.solved.result c.solved.ensures.exact

pub returns-in-Some-clause-units : goal.returns-in-Some-clause-units
returns-in-Some-clause-units c =
    let g = c.args.meter.now in
    let rows = c.args.rows.now in
    let P = HoldAtSome rows c.args.column.at in
    let z = elimination_units rows c.args.column.at in
    begun_units z g c.solved.new.meter c.args.column.columns P c.solved.result
    (begun_weaker (pos 0) z g c.solved.new.meter c.args.column.columns P P c.solved.result (most_not_negative g c.args.column.columns rows c.args.column.at c.requires.rows) (λ point n. ((λ x. x), (λ x. x))) c.solved.ensures.exact)

pub returns-in-Some-clause-equality : goal.returns-in-Some-clause-equality
returns-in-Some-clause-equality c = λ _. (begun_none c.args.meter.now c.solved.new.meter c.args.column.columns (HoldAtSome c.args.rows.now c.args.column.at) c.solved.result c.solved.ensures.exact, c.solved.ensures.none)

pub returns-in-Some-clause-exact_column : goal.returns-in-Some-clause-exact_column
returns-in-Some-clause-exact_column c = λ exact none.
    let rows = c.args.rows.now in
    let equality : IsLeastAmong c.args.column.at rows (length rows) c.in-Some.at = grind arith in
    absurd (none (equality_from c.args.column.at rows c.in-Some.at (least_equality_at c.args.column.at rows (length rows) c.in-Some.at equality)))

pub returns-in-Some-clause-pairs : goal.returns-in-Some-clause-pairs
returns-in-Some-clause-pairs c = λ none.
    let rows = c.args.rows.now in
    let equality : IsLeastAmong c.args.column.at rows (length rows) c.in-Some.at = grind arith in
    absurd (none (equality_from c.args.column.at rows c.in-Some.at (least_equality_at c.args.column.at rows (length rows) c.in-Some.at equality)))

pub returns-then-is_exact-clause-exact : goal.returns-then-is_exact-clause-exact
returns-then-is_exact-clause-exact c = begun_exact (elimination_units c.args.rows.now c.args.column.at) c.args.meter.now c.exact.new.meter c.args.column.columns c.args.column.at c.args.rows.now c.exact.result c.exact.ensures.exact

pub returns-then-is_exact-clause-units : goal.returns-then-is_exact-clause-units
returns-then-is_exact-clause-units c = begun_units (elimination_units c.args.rows.now c.args.column.at) c.args.meter.now c.exact.new.meter c.args.column.columns (HoldAtSome c.args.rows.now c.args.column.at) c.exact.result c.exact.ensures.exact

pub returns-else-is_exact-clause-exact : goal.returns-else-is_exact-clause-exact
returns-else-is_exact-clause-exact c = begun_exact (elimination_units c.args.rows.now c.args.column.at) c.args.meter.now c.by_sides.new.meter c.args.column.columns c.args.column.at c.args.rows.now c.by_sides.result c.by_sides.ensures.exact

pub returns-else-is_exact-clause-units : goal.returns-else-is_exact-clause-units
returns-else-is_exact-clause-units c = begun_units (elimination_units c.args.rows.now c.args.column.at) c.args.meter.now c.by_sides.new.meter c.args.column.columns (HoldAtSome c.args.rows.now c.args.column.at) c.by_sides.result c.by_sides.ensures.exact

pub returns-in-Some-clause-tame : goal.returns-in-Some-clause-tame
returns-in-Some-clause-tame c =
    let col = c.args.column.at in
    let rows = c.args.rows.now in
    let equality : IsLeastAmong col rows (length rows) c.in-Some.at = grind arith in
    let has = equality_from col rows c.in-Some.at (least_equality_at col rows (length rows) c.in-Some.at equality) in
    tame_solved c.args.meter.now c.solved.new.meter rows col c.solved.result has c.solved.ensures.tame

pub returns-then-is_exact-clause-tame : goal.returns-then-is_exact-clause-tame
returns-then-is_exact-clause-tame c =
    let none : ¬ HasEquality c.args.column.at c.args.rows.now = grind arith in
    tame_exact c.args.meter.now c.exact.new.meter c.args.rows.now c.args.column.at c.exact.result none c.exact.ensures.tame

pub returns-else-is_exact-clause-tame : goal.returns-else-is_exact-clause-tame
returns-else-is_exact-clause-tame c =
    let none : ¬ HasEquality c.args.column.at c.args.rows.now = grind arith in
    let other : ¬ IsExactColumn c.args.column.at c.args.rows.now = grind arith in
    tame_never c.args.meter.now c.by_sides.new.meter c.args.rows.now c.args.column.at c.by_sides.result (λ exact _. other exact) none
