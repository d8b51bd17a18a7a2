use Rattle.std.proofs.Common.{◌≡◌, ◌∙◌, ◌<◌, ◌^◌, List, pos, refl, ap, arith, length}
use Rattle.std.proofs.lemmas.Result.{err_from_is_err_and}
use Rattle.isl_meter.specs.Gauge.{Gauge, IsCutUpTo}
use Rattle.isl_meter.proofs.UnitLemmas.{memory_after, cut_weaker}
use Rattle.isl_omega.specs.Sides.{AreSidesOf}
use Rattle.isl_omega.specs.Step.{IsStepOf}
use Rattle.isl_omega.proofs.SideLemmas.{sides_are}
use Rattle.isl_shadows.specs.Column.{HoldAtSome}
use Rattle.isl_piece.specs.declared.row.Row.{Row}
use Rattle.isl_column.specs.Parts.{IsBegun}
use Rattle.isl_shadows.specs.Residue.{HasNumber, sides_units}
use Rattle.isl_shadows.specs.Units.{elimination_units}
use Rattle.isl_shadows.proofs.EliminateLemmas.{formed_of, sides_project, sides_cost, most_not_negative}
use Rattle.isl_column.proofs.PartsLemmas.{begun_weaker}
use Rattle.isl_shadows.proofs.UnitLemmas.{pairs_kept}
use Rattle.isl_shadows.proofs.SmallSides.{sides_up_to, sides_few}
use Rattle.isl_column.proofs.parts.Parts.by_sides.Goals as goal

pub returns-in_err-sides-clause-exact : goal.returns-in_err-sides-clause-exact
returns-in_err-sides-clause-exact c =
    let g = c.args.meter.now in
    let columns = c.args.column.columns in
    let rows = c.args.rows.now in
    let cut = memory_after (elimination_units rows c.args.column.at) g g (most_not_negative g columns rows c.args.column.at c.requires.rows) refl in
    grind arith

pub without_congruences-requires : goal.without_congruences-requires
without_congruences-requires c =
    let rows = c.args.rows.now in
    let sides = c.in_ok-sides.sides in
    let are : AreSidesOf rows c.args.column.at sides = grind arith in
    record { sided = sides_are c.args.meter.now c.args.column.columns c.args.column.at rows sides are c.requires.rows c.requires.none }

pub returns-in_err-new-clause-exact : goal.returns-in_err-new-clause-exact
returns-in_err-new-clause-exact c =
    let g = c.args.meter.now in
    let k = c.without_congruences.new.meter in
    let columns = c.args.column.columns in
    let rows = c.args.rows.now in
    let e = c.in_err-new.field-0.0 in
    let own : IsCutUpTo (pos 0) g k e = grind arith in
    let cut = cut_weaker (pos 0) (elimination_units rows c.args.column.at) g k e (most_not_negative g columns rows c.args.column.at c.requires.rows) own in
    grind arith

pub returns-clause-exact : goal.returns-clause-exact
returns-clause-exact c =
    let g = c.args.meter.now in
    let k = c.of_sides.new.meter in
    let columns = c.args.column.columns in
    let rows = c.args.rows.now in
    let sides = c.in_ok-sides.sides in
    let new = c.in_ok-new.new in
    let are : AreSidesOf rows c.args.column.at sides = grind arith in
    let step : IsStepOf g columns c.args.column.at sides new = grind arith in
    let meter : c.without_congruences.new.meter ≡ g = grind arith in
    let sided = sides_are g columns c.args.column.at rows sides are c.requires.rows c.requires.none in
    let cost = sides_cost g columns rows c.args.column.at sides new c.requires.rows are sided step in
    let own : IsBegun (sides_units c.args.column.at new) columns (HasNumber new c.args.column.at) g k c.of_sides.result = rw meter at c.of_sides.ensures.exact in
    begun_weaker (sides_units c.args.column.at new) (elimination_units rows c.args.column.at) g k columns (HasNumber new c.args.column.at) (HoldAtSome rows c.args.column.at) c.of_sides.result cost (λ point n. sides_project g columns rows c.args.column.at sides new point n are step) own

pub returns-in_err-new-clause-no_overflow : goal.returns-in_err-new-clause-no_overflow
returns-in_err-new-clause-no_overflow c = λ bits small one.
    let columns = c.args.column.columns in
    let rows = c.args.rows.now in
    let sides = c.in_ok-sides.sides in
    let are : AreSidesOf rows c.args.column.at sides = grind arith in
    let few = sides_few columns c.args.column.at rows sides are (formed_of c.args.meter.now columns rows c.requires.rows) one in
    let p = err_from_is_err_and c.from_residual-in_err-new.result c.from_residual-in_err-new.ensures.1 in
    rw (p.1, p.2) (c.in_err-new.ensures.no_overflow bits (sides_up_to (2 ^ 30) c.args.column.at rows sides are small) few.0)

pub returns-clause-no_overflow : goal.returns-clause-no_overflow
returns-clause-no_overflow c = λ bits small one.
    let g = c.args.meter.now in
    let columns = c.args.column.columns in
    let rows = c.args.rows.now in
    let sides = c.in_ok-sides.sides in
    let new = c.in_ok-new.new in
    let are : AreSidesOf rows c.args.column.at sides = grind arith in
    let step : IsStepOf g columns c.args.column.at sides new = grind arith in
    let meter : c.without_congruences.new.meter ≡ g = grind arith in
    let few = sides_few columns c.args.column.at rows sides are (formed_of g columns rows c.requires.rows) one in
    let fewer = step.not_divides in
    let enough = few.1 in
    let rest : length new.not_divides < 2 = omega arith in
    let up = c.in_ok-new.ensures.no_overflow bits (sides_up_to (2 ^ 30) c.args.column.at rows sides are small) few.0 in
    c.of_sides.ensures.no_overflow (ap (λ (x : Gauge). x.bits) meter ∙ bits) up rest

pub returns-clause-pairs : goal.returns-clause-pairs
returns-clause-pairs c =
    let g = c.args.meter.now in
    let k = c.of_sides.new.meter in
    let rows = c.args.rows.now in
    let sides = c.in_ok-sides.sides in
    let new = c.in_ok-new.new in
    let are : AreSidesOf rows c.args.column.at sides = grind arith in
    let step : IsStepOf g c.args.column.columns c.args.column.at sides new = grind arith in
    let meter : c.without_congruences.new.meter ≡ g = grind arith in
    let same = pairs_kept c.args.column.at step.k sides new step.narrowed in
    let lowers = ap (λ (rows : List Row). length rows) are.lowers in
    let uppers = ap (λ (rows : List Row). length rows) are.uppers in
    rw (← lowers, ← uppers, ← same, ← meter) c.of_sides.ensures.pairs
