use Rattle.std.proofs.Common.{◌≡◌, pos, neg_ℤ, ◌-ℤ◌, ◌*ℤ◌, List, ℤ, IsTrue, arith, ◌^◌, lit<}
use Rattle.isl_piece.specs.Row.{HoldsRow, coef_at}
use Rattle.isl_omega.specs.Shadow.{ceiling, IsRealRow, IsDarkRow}
use Rattle.std.proofs.lemmas.Option.{IfSome_then}
use Rattle.isl_math.specs.Divide.{floor_div}
use Rattle.isl_omega.proofs.CapLemmas.{cap_factor, cap_is}
use Rattle.isl_omega.proofs.PairLemmas.{dark_row_is, exact_is}
use Rattle.std.proofs.lemmas.Result.{err_from_is_err_and}
use Rattle.isl_math.proofs.MagnitudeLaws.{up_to-neg}
use Rattle.isl_omega.proofs.SmallLemmas.{coef_up_to}
use Rattle.isl_omega.proofs.SmallPairs.{slack_up_to}
use Rattle.isl_omega.proofs.pair.Pair.of.Goals as goal

pub returns-clause-exact : goal.returns-clause-exact
returns-clause-exact c =
    let lower = c.args.lower.now in
    let upper = c.args.upper.now in
    let d = c.gcd-modulus.result in
    let real = c.in_ok-real.real in
    let dark = c.in_ok-dark.dark in
    let is : IsRealRow c.args.column.columns c.args.column.at lower upper d real = grind arith in
    let by : c.in_ok-by.by ≡ ceiling ((coef_at lower c.args.column.at -ℤ pos 1) *ℤ (neg_ℤ (coef_at upper c.args.column.at) -ℤ pos 1)) d = grind arith in
    let reduced_by : dark ≡ record real { constant = real.constant -ℤ c.in_ok-by.by } = grind arith in
    let row : IsDarkRow c.args.column.columns c.args.column.at lower upper dark = dark_row_is c.args.meter.now c.args.column.columns c.args.column.at lower upper d real dark c.in_ok-by.by c.requires.lower c.requires.upper c.args.column.in_range is by reduced_by in
    let n : c.floor_div.result ≡ floor_div (neg_ℤ (coef_at upper c.args.column.at)) d = grind arith in
    let same : c.reduced_by.new.meter ≡ c.args.meter.now = grind arith in
    let factor = cap_factor c.args.meter.now c.args.column.columns c.args.column.at lower upper d c.floor_div.result c.requires.lower c.requires.upper (grind arith) n in
    let tight : IsTrue c.in_ok-exact.exact → (xs : List ℤ) → HoldsRow real xs → HoldsRow dark xs = c.in_ok-exact.ensures in (
      (
        row,
        grind arith,
        (λ t. exact_is c.args.meter.now c.args.column.columns c.args.column.at lower upper d real dark c.requires.lower c.requires.upper c.args.column.in_range is row (tight t)),
        IfSome_then c.cap_of-cap.result c.cap_of-cap.ensures (λ z p. (cap_is c.args.meter.now c.args.column.columns c.args.column.at lower upper d c.floor_div.result real z c.requires.lower c.requires.upper c.args.column.in_range is factor.0 p.0 p.1, rw same at p.2)),
      ),
      grind arith,
    )

pub returns-in_err-dark-clause-no_overflow : goal.returns-in_err-dark-clause-no_overflow
returns-in_err-dark-clause-no_overflow c = λ bits low up.
    let lower = c.args.lower.now in
    let upper = c.args.upper.now in
    let a = coef_at lower c.args.column.at in
    let b = neg_ℤ (coef_at upper c.args.column.at) in
    let d = c.gcd-modulus.result in
    let is : IsRealRow c.args.column.columns c.args.column.at lower upper d c.in_ok-real.real = grind arith in
    let by : c.in_ok-by.by ≡ ceiling ((a -ℤ pos 1) *ℤ (b -ℤ pos 1)) d = grind arith in
    let meter : c.slack.new.meter ≡ c.args.meter.now = grind arith in
    let slack = slack_up_to a b d c.in_ok-by.by is.positive (coef_up_to (2 ^ 62) lower c.args.column.at low) (up_to-neg (2 ^ 62) (coef_at upper c.args.column.at) (coef_up_to (2 ^ 62) upper c.args.column.at up)) by in
    let p = err_from_is_err_and c.from_residual-in_err-dark.result c.from_residual-in_err-dark.ensures.1 in
    rw (p.1, p.2) (c.in_err-dark.ensures.no_overflow (2 ^ 125) (2 ^ 125) slack (c.in_ok-real.ensures.no_overflow bits low up) (rw (meter, bits) (lit< tt)))

pub cap_of-cap-requires-clause-positive : goal.cap_of-cap-requires-clause-positive
cap_of-cap-requires-clause-positive c =
    let lower = c.args.lower.now in
    let upper = c.args.upper.now in
    let d = c.gcd-modulus.result in
    let n : c.floor_div.result ≡ floor_div (neg_ℤ (coef_at upper c.args.column.at)) d = grind arith in
    (cap_factor c.args.meter.now c.args.column.columns c.args.column.at lower upper d c.floor_div.result c.requires.lower c.requires.upper (grind arith) n).1
