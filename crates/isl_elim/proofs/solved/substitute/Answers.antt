use Rattle.std.proofs.Common.{◌≡◌, ◌∙◌, pos, length, refl, sym, ap, arith, neg_ℤ, ◌*ℤ◌, ◌≤◌, ◌<◌, ◌^◌, ◌*◌, ◌+◌, unsigned_abs}
use Rattle.std.proofs.lemmas.Result.{err_from_is_err_and}
use Rattle.isl_math.specs.Order.{sign_of}
use Rattle.isl_piece.specs.Row.{IsRowWithin, coef_at}
use Rattle.isl_omega.specs.Column.{dropped}
use Rattle.isl_omega.proofs.ColumnLemmas.{row_within_dropped}
use Rattle.isl_omega.proofs.MovedLemmas.{image_itself}
use Rattle.isl_elim.proofs.SolvedLaws.{unit_occurs, short_made, factor_small}
use Rattle.isl_elim.proofs.solved.substitute.Goals as goal

pub returns-then-is_zero-clause-exact : goal.returns-then-is_zero-clause-exact
returns-then-is_zero-clause-exact c =
    let row = c.args.row.now in
    let fixed = c.args.fixed.now in
    let col = c.args.column.at in
    let gone : coef_at row col ≡ pos 0 = grind arith in
    let wide : length row.coefs ≡ length fixed.coefs = c.requires.row.formed.width ∙ sym c.requires.fixed.formed.width in
    let itself = ap (λ r. dropped r col) (sym (image_itself fixed col row (unit_occurs (coef_at fixed col) c.requires.unit.1) gone wide)) in
    ((rw c.remove.ensures.rest itself, rw c.remove.ensures.rest (row_within_dropped c.args.meter.now col row c.requires.row.within)), refl)

pub returns-in_err-coefs-clause-no_overflow : goal.returns-in_err-coefs-clause-no_overflow
returns-in_err-coefs-clause-no_overflow c = λ w own other room.
    let row = c.args.row.now in
    let fixed = c.args.fixed.now in
    let col = c.args.column.at in
    let n : c.neg-n.result ≡ neg_ℤ (sign_of (coef_at fixed col) *ℤ coef_at row col) = grind arith in
    let few = factor_small (coef_at fixed col) (coef_at row col) c.neg-n.result n own.factor in
    let p = err_from_is_err_and c.from_residual.result c.from_residual.ensures.1 in
    rw (p.1, p.2) (c.in_err-coefs.ensures.no_overflow 1 1 w w (omega arith) few (grind arith) (grind arith) room)

pub returns-in_err-constant-clause-no_overflow : goal.returns-in_err-constant-clause-no_overflow
returns-in_err-constant-clause-no_overflow c = λ w own other room.
    let row = c.args.row.now in
    let fixed = c.args.fixed.now in
    let col = c.args.column.at in
    let n : c.neg-n.result ≡ neg_ℤ (sign_of (coef_at fixed col) *ℤ coef_at row col) = grind arith in
    let few = factor_small (coef_at fixed col) (coef_at row col) c.neg-n.result n own.factor in
    let bits : 1 * w + 1 * w < 2 ^ c.weighted_without.new.meter.bits = grind arith in
    let one : unsigned_abs c.constant.result ≤ w = rw c.constant.ensures own.numbers.constant in
    let two : unsigned_abs c.constant-2.result ≤ w = rw c.constant-2.ensures other.numbers.constant in
    absurd (c.in_err-constant.ensures.no_overflow 1 1 w w (omega arith) few one two bits)

pub returns-clause-exact : goal.returns-clause-exact
returns-clause-exact c =
    let row = c.args.row.now in
    let fixed = c.args.fixed.now in
    let col = c.args.column.at in
    let made = c.set_constant.new.self in
    let n : c.neg-n.result ≡ neg_ℤ (sign_of (coef_at fixed col) *ℤ coef_at row col) = grind arith in
    let is = short_made fixed row made col c.neg-n.result c.requires.unit.1 n (grind arith) (grind arith) (grind arith) (grind arith) in
    let within : IsRowWithin c.args.meter.now made = record {
      coefs = grind arith;
      constant = grind arith;
      k = let k = c.requires.row.within.k in grind arith;
    } in
    ((is, within), grind arith)
