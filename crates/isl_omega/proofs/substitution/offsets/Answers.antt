use Rattle.std.proofs.Common.{◌≡◌, ◌^◌, ◌≤◌, unsigned_abs, lit<, lit≤, arith}
use Rattle.std.specs.List.{All}
use Rattle.std.proofs.lemmas.Result.{err_from_is_err_and}
use Rattle.isl_omega.proofs.substitution.offsets.Goals as goal

pub returns-in_err-coefs-clause-no_overflow : goal.returns-in_err-coefs-clause-no_overflow
returns-in_err-coefs-clause-no_overflow c = λ bits factor small.
    let same : c.as_slice-numbers.result.now ≡ c.args.one.now.coefs = grind arith in
    let numbers : All (λ z. unsigned_abs z ≤ 2 ^ 30) c.as_slice-numbers.result.now = rw same (small.coefs) in
    let p = err_from_is_err_and c.from_residual.result c.from_residual.ensures.1 in
    rw (p.1, p.2) (c.in_err-coefs.ensures.no_overflow (2 ^ 30) 0 (2 ^ 30) (2 ^ 30) factor (lit≤ tt) numbers numbers (rw bits (lit< tt)))
