use Rattle.std.proofs.Common.{◌≡◌, ◌-◌, ◌++◌, ◌*◌, length, pos, sym, arith, ◌^◌}
use Rattle.std.proofs.lemmas.List.Elements.{All-weaker}
use Rattle.isl_piece.specs.Row.{IsWellFormed, IsRowWithin}
use Rattle.isl_shadows.specs.Splinters.{rows_of}
use Rattle.isl_omega.specs.Column.{HoldAt, IsAnswerFor, IsProper}
use Rattle.isl_column.specs.declared.dark_shadow.DarkShadow.{DarkShadow}
use Rattle.isl_shadows.proofs.SplinterLemmas.{answer_kept}
use Rattle.isl_shadows.proofs.DarkShadowLemmas.{closed_from, left_rows}
use Rattle.isl_column.proofs.DarkShadowLemmas.{closed_is}
use Rattle.isl_meter.proofs.UnitLemmas.{charged_bits}
use Rattle.isl_omega.proofs.ExactUnits.{charged_up_to}
use Rattle.isl_piece.proofs.RowMagnitudes.{rows_within_kept}
use Rattle.isl_shadows.proofs.SmallSplinters.{rows_small, shadows_small}
use Rattle.isl_column.proofs.dark_shadow.DarkShadow.closed.Goals as goal

pub returns-clause-exact : goal.returns-clause-exact
returns-clause-exact c =
    let sides = c.args.sides.now in
    let g = c.args.meter.now in
    let h = c.shadows.new.meter in
    let dark = c.in_ok-pairs.pairs in
    let left = c.append.new.self in
    let dark_shadow : DarkShadow = record { rows = c.in_ok-rows.rows; dark = c.in_ok-dark.dark; tails = c.in_ok-pairs.tails } in
    let shadows = c.in_ok-pairs.ensures.exact in
    let closed = closed_from g c.args.column.columns c.args.neighbours c.args.column.at sides dark dark_shadow.tails.items c.requires.sided c.args.column.in_range c.requires.not_divides shadows.0 in
    let same : left ≡ sides.free ++ dark = grind arith in
    let rows : dark_shadow.rows ≡ rows_of sides = grind arith in
    let settled : IsAnswerFor h (c.args.column.columns - 1) (λ point. HoldAt left c.args.column.at point (pos 0)) dark_shadow.dark = grind arith in
    let kept = answer_kept g h (c.args.column.columns - 1) (λ point. HoldAt left c.args.column.at point (pos 0)) dark_shadow.dark (charged_bits (pos (length sides.lowers * length sides.uppers)) g h (charged_up_to (length sides.lowers * length sides.uppers) g h shadows.1)) settled in
    let both = closed_is g c.args.column.columns c.args.neighbours c.args.column.at sides dark left dark_shadow c.requires.sided c.requires.divides c.requires.uppers c.args.column.in_range closed same rows kept in
    ((both.0, both.1), grind arith)

pub settled-requires-clause-well_formed : goal.settled-requires-clause-well_formed
settled-requires-clause-well_formed c =
    let sides = c.args.sides.now in
    let g = c.args.meter.now in
    let dark = c.in_ok-pairs.pairs in
    let tails = c.in_ok-pairs.tails.items in
    let left = c.append.new.self in
    let shadows = c.in_ok-pairs.ensures.exact in
    let closed = closed_from g c.args.column.columns c.args.neighbours c.args.column.at sides dark tails c.requires.sided c.args.column.in_range c.requires.not_divides shadows.0 in
    let same : left ≡ sides.free ++ dark = grind arith in
    All-weaker (IsProper g c.args.column.columns) (IsWellFormed c.args.column.columns) (λ r p. p.formed) left (left_rows g c.args.column.columns c.args.neighbours c.args.column.at sides dark left tails c.requires.sided closed same).0

pub settled-requires-clause-within : goal.settled-requires-clause-within
settled-requires-clause-within c =
    let sides = c.args.sides.now in
    let g = c.args.meter.now in
    let h = c.shadows.new.meter in
    let dark = c.in_ok-pairs.pairs in
    let tails = c.in_ok-pairs.tails.items in
    let left = c.append.new.self in
    let shadows = c.in_ok-pairs.ensures.exact in
    let closed = closed_from g c.args.column.columns c.args.neighbours c.args.column.at sides dark tails c.requires.sided c.args.column.in_range c.requires.not_divides shadows.0 in
    let same : left ≡ sides.free ++ dark = grind arith in
    let within = All-weaker (IsProper g c.args.column.columns) (IsRowWithin g) (λ r p. p.within) left (left_rows g c.args.column.columns c.args.neighbours c.args.column.at sides dark left tails c.requires.sided closed same).0 in
    rows_within_kept h g left (sym (charged_bits (pos (length sides.lowers * length sides.uppers)) g h (charged_up_to (length sides.lowers * length sides.uppers) g h shadows.1))) within

pub settled-requires-clause-free : goal.settled-requires-clause-free
settled-requires-clause-free c =
    let sides = c.args.sides.now in
    let g = c.args.meter.now in
    let dark = c.in_ok-pairs.pairs in
    let tails = c.in_ok-pairs.tails.items in
    let left = c.append.new.self in
    let shadows = c.in_ok-pairs.ensures.exact in
    let closed = closed_from g c.args.column.columns c.args.neighbours c.args.column.at sides dark tails c.requires.sided c.args.column.in_range c.requires.not_divides shadows.0 in
    let same : left ≡ sides.free ++ dark = grind arith in
    (left_rows g c.args.column.columns c.args.neighbours c.args.column.at sides dark left tails c.requires.sided closed same).1

pub returns-clause-no_overflow : goal.returns-clause-no_overflow
returns-clause-no_overflow c = λ bits small one.
    let sides = c.args.sides.now in
    let shadows = c.in_ok-pairs.ensures.exact in
    let rows : c.in_ok-rows.rows ≡ rows_of sides = grind arith in
    record {
      rows = rw rows (rows_small (2 ^ 61) sides small);
      tails = shadows_small c.args.meter.now c.args.column.columns c.args.column.at c.args.neighbours sides c.in_ok-pairs.pairs c.in_ok-pairs.tails.items one c.requires.sided small shadows.0;
    }
