use Rattle.std.proofs.Common.{◌≡◌, ◌≤◌, neg_ℤ, refl, ap, unsigned_abs, arith}
use Rattle.std.proofs.lemmas.Result.{err_from_is_err_and}
use Rattle.isl_meter.specs.Gauge.{Gauge}
use Rattle.isl_piece.specs.Row.{coef_at}
use Rattle.isl_math.proofs.MagnitudeLaws.{up_to-neg}
use Rattle.isl_shadows.proofs.TameLemmas.{answered_cut_same}
use Rattle.isl_column.proofs.exact.real_row_without.Goals as goal

pub returns-in_err-coefs-clause-no_overflow : goal.returns-in_err-coefs-clause-no_overflow
returns-in_err-coefs-clause-no_overflow c = λ u w low up room.
    let lower = c.args.lower.now in
    let upper = c.args.upper.now in
    let m : c.neg-b.result ≡ neg_ℤ (coef_at upper c.args.column.at) = grind arith in
    let n : c.get-a.result ≡ coef_at lower c.args.column.at = grind arith in
    let hm : unsigned_abs c.neg-b.result ≤ u = rw m (up_to-neg u (coef_at upper c.args.column.at) up.factor) in
    let hn : unsigned_abs c.get-a.result ≤ u = rw n low.factor in
    let left : c.as_slice.result.now ≡ lower.coefs = grind arith in
    let right : c.as_slice-2.result.now ≡ upper.coefs = grind arith in
    let p = err_from_is_err_and c.from_residual.result c.from_residual.ensures.1 in
    rw (p.1, p.2) (c.in_err-coefs.ensures.no_overflow u u w w hm hn (rw left low.numbers.coefs) (rw right up.numbers.coefs) room)

pub returns-in_err-constant-clause-no_overflow : goal.returns-in_err-constant-clause-no_overflow
returns-in_err-constant-clause-no_overflow c = λ u w low up room.
    let lower = c.args.lower.now in
    let upper = c.args.upper.now in
    let m : c.neg-b.result ≡ neg_ℤ (coef_at upper c.args.column.at) = grind arith in
    let n : c.get-a.result ≡ coef_at lower c.args.column.at = grind arith in
    let hm : unsigned_abs c.neg-b.result ≤ u = rw m (up_to-neg u (coef_at upper c.args.column.at) up.factor) in
    let hn : unsigned_abs c.get-a.result ≤ u = rw n low.factor in
    let same : c.weighted_without.new.meter ≡ c.args.meter.now = grind arith in
    let first : c.constant.result ≡ lower.constant = grind arith in
    let second : c.constant-2.result ≡ upper.constant = grind arith in
    absurd (c.in_err-constant.ensures.no_overflow u u w w hm hn (rw first low.numbers.constant) (rw second up.numbers.constant)
    (rw (ap (λ (x : Gauge). x.bits) same) room))

pub returns-in_err-coefs-clause-answered : goal.returns-in_err-coefs-clause-answered
returns-in_err-coefs-clause-answered c =
    let p = err_from_is_err_and c.from_residual.result c.from_residual.ensures.1 in
    rw (p.1, p.2) (λ few. answered_cut_same 0 c.args.meter.now c.weighted_without.new.meter c.in_err-coefs.field-0.0
    (c.in_err-coefs.ensures.answered few))

pub returns-in_err-constant-clause-answered : goal.returns-in_err-constant-clause-answered
returns-in_err-constant-clause-answered c =
    let p = err_from_is_err_and c.from_residual-in_err-constant.result c.from_residual-in_err-constant.ensures.1 in
    rw (p.1, p.2) (λ few. absurd (few refl))
