use Rattle.std.proofs.Common.{◌≡◌, ◌-◌, pos, arith, ◌^◌, []}
use Rattle.isl_shadows.specs.Splinters.{rows_of}
use Rattle.isl_omega.specs.Column.{HoldAt, IsAnswerFor}
use Rattle.isl_column.specs.declared.dark_shadow.DarkShadow.{DarkShadow}
use Rattle.isl_column.proofs.DarkShadowLemmas.{open_is}
use Rattle.std.proofs.lemmas.List.Elements.{All-nil}
use Rattle.isl_shadows.specs.Magnitude.{AreSmallSplinters}
use Rattle.isl_shadows.proofs.SmallSplinters.{rows_small}
use Rattle.isl_column.proofs.dark_shadow.DarkShadow.open.Goals as goal

pub returns-clause-exact : goal.returns-clause-exact
returns-clause-exact c =
    let sides = c.args.sides.now in
    let g = c.args.meter.now in
    let dark_shadow : DarkShadow = record { rows = c.in_ok-rows.rows; dark = c.in_ok-dark.dark; tails = c.new.result } in
    let rows : dark_shadow.rows ≡ rows_of sides = grind arith in
    let dark : IsAnswerFor g (c.args.column.columns - 1) (λ point. HoldAt sides.free c.args.column.at point (pos 0)) dark_shadow.dark = grind arith in
    let both = open_is g c.args.column.columns c.args.neighbours c.args.column.at sides dark_shadow c.requires.sided c.requires.divides c.requires.not_divides c.requires.open c.args.column.in_range rows c.new.ensures.items dark in
    ((both.0, both.1), grind arith)

pub returns-clause-no_overflow : goal.returns-clause-no_overflow
returns-clause-no_overflow c = λ bits small one.
    let sides = c.args.sides.now in
    let rows : c.in_ok-rows.rows ≡ rows_of sides = grind arith in
    let none : c.new.result.items ≡ [] = grind arith in
    record { rows = rw rows (rows_small (2 ^ 61) sides small); tails = rw none (All-nil AreSmallSplinters) }
