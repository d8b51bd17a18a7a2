use Rattle.std.proofs.Common.{◌≡◌, neg_ℤ, arith, ◌^◌, lit<, lit≤}
use Rattle.isl_math.specs.Divide.{floor_div}
use Rattle.isl_piece.specs.Row.{coef_at}
use Rattle.isl_piece.specs.Combine.{combination}
use Rattle.isl_omega.proofs.PairLemmas.{real_row_is}
use Rattle.std.proofs.lemmas.Result.{err_from_is_err_and}
use Rattle.isl_math.proofs.DivideLaws.{gcd_positive}
use Rattle.isl_math.proofs.OrderLaws.{positive_not_zero}
use Rattle.isl_piece.proofs.CombineLaws.{combination_up_to}
use Rattle.isl_omega.proofs.SmallPairs.{real_up_to}
use Rattle.isl_omega.proofs.pair.real_row.Goals as goal

pub returns-clause-exact : goal.returns-clause-exact
returns-clause-exact c =
    let lower = c.args.bounds.now.lower.now in
    let upper = c.args.bounds.now.upper.now in
    let real : c.in_ok-real.real ≡ combination c.floor_div-n.result lower c.floor_div-m.result upper = grind arith in
    let m : c.floor_div-m.result ≡ floor_div (coef_at lower c.args.column.at) c.args.modulus = grind arith in
    let n : c.floor_div-n.result ≡ floor_div (neg_ℤ (coef_at upper c.args.column.at)) c.args.modulus = grind arith in (
      (real_row_is c.args.meter.now c.args.column.columns c.args.column.at lower upper c.args.modulus c.floor_div-m.result c.floor_div-n.result c.in_ok-real.real c.requires.lower c.requires.upper c.args.column.in_range c.requires.gcd m n real, grind arith),
      grind arith,
    )

pub returns-in_err-real-clause-no_overflow : goal.returns-in_err-real-clause-no_overflow
returns-in_err-real-clause-no_overflow c = λ bits low up.
    let lower = c.args.bounds.now.lower.now in
    let upper = c.args.bounds.now.upper.now in
    let m : c.floor_div-m.result ≡ floor_div (coef_at lower c.args.column.at) c.args.modulus = grind arith in
    let n : c.floor_div-n.result ≡ floor_div (neg_ℤ (coef_at upper c.args.column.at)) c.args.modulus = grind arith in
    let positive = gcd_positive (coef_at lower c.args.column.at) (neg_ℤ (coef_at upper c.args.column.at)) c.args.modulus (positive_not_zero (coef_at lower c.args.column.at) c.requires.lower.factor) c.requires.gcd in
    let sizes = real_up_to lower upper c.args.column.at c.args.modulus c.floor_div-m.result c.floor_div-n.result positive low up m n in
    let p = err_from_is_err_and c.from_residual.result c.from_residual.ensures.1 in
    rw (p.1, p.2) (c.in_err-real.ensures.no_overflow (2 ^ 62) (2 ^ 62) (2 ^ 62) (2 ^ 62) sizes.1 sizes.0 low up (rw bits (lit< tt)))

pub returns-clause-no_overflow : goal.returns-clause-no_overflow
returns-clause-no_overflow c = λ bits low up.
    let lower = c.args.bounds.now.lower.now in
    let upper = c.args.bounds.now.upper.now in
    let real : c.in_ok-real.real ≡ combination c.floor_div-n.result lower c.floor_div-m.result upper = grind arith in
    let m : c.floor_div-m.result ≡ floor_div (coef_at lower c.args.column.at) c.args.modulus = grind arith in
    let n : c.floor_div-n.result ≡ floor_div (neg_ℤ (coef_at upper c.args.column.at)) c.args.modulus = grind arith in
    let positive = gcd_positive (coef_at lower c.args.column.at) (neg_ℤ (coef_at upper c.args.column.at)) c.args.modulus (positive_not_zero (coef_at lower c.args.column.at) c.requires.lower.factor) c.requires.gcd in
    let sizes = real_up_to lower upper c.args.column.at c.args.modulus c.floor_div-m.result c.floor_div-n.result positive low up m n in
    rw real (combination_up_to (2 ^ 62) (2 ^ 62) (2 ^ 62) (2 ^ 62) (2 ^ 125) c.floor_div-n.result lower c.floor_div-m.result upper sizes.1 sizes.0 low up (lit≤ tt) (lit≤ tt))
