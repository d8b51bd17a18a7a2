use Rattle.std.proofs.Common.{◌≡◌, ◌∙◌, pos, length, sym, ap, arith}
use Rattle.isl_piece.specs.Row.{IsRowWithin, coef_at}
use Rattle.isl_omega.specs.Column.{dropped}
use Rattle.isl_omega.specs.Equality.{AreFactors}
use Rattle.isl_omega.proofs.ColumnLemmas.{row_within_dropped}
use Rattle.isl_omega.proofs.MovedLemmas.{image_itself}
use Rattle.isl_omega.proofs.SmallLemmas.{at_most}
use Rattle.isl_omega.proofs.equality.image_without.Goals as goal

pub returns-clause-no_overflow : goal.returns-clause-no_overflow
returns-clause-no_overflow c = λ u v w x small large room.
    let row = c.args.row.now in
    let fixed = c.args.fixed.now in
    let are : AreFactors (coef_at fixed c.args.column.at) (coef_at row c.args.column.at) c.factors-m.result.0 c.factors-m.result.1 = grind arith in
    c.combination_without.ensures.no_overflow v u w x (at_most _ _ _ are.m_small large.factor) (at_most _ _ _ are.n_small small.factor)
    small.numbers large.numbers room

pub returns-then-is_zero-clause-exact : goal.returns-then-is_zero-clause-exact
returns-then-is_zero-clause-exact c =
    let row = c.args.row.now in
    let fixed = c.args.fixed.now in
    let gone : coef_at row c.args.column.at ≡ pos 0 = grind arith in
    let wide : length row.coefs ≡ length fixed.coefs = let e = c.requires.row_width in let f = c.requires.fixed_width in omega arith in
    let same : c.in_ok-row_without.field-0 ≡ dropped row c.args.column.at = grind arith in
    let within : IsRowWithin c.args.meter.now c.in_ok-row_without.field-0 = rw same (row_within_dropped c.args.meter.now c.args.column.at row c.requires.row_within) in
    let itself = ap (λ r. dropped r c.args.column.at) (sym (image_itself fixed c.args.column.at row c.requires.occurs gone wide)) in
    ((same ∙ itself, within), grind arith)
