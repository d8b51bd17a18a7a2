use Rattle.std.proofs.Common.{◌≡◌, ◌+◌, ◌<◌, ◌^◌, ◌++◌, ◌∷◌, [], length, take, sym, ◌∙◌, ap, neg_ℤ, ◌*ℤ◌, lit<, arith}
use Rattle.std.proofs.lemmas.Grind.{common_steps}
use Rattle.std.proofs.lemmas.List.{take_more}
use Rattle.std.proofs.lemmas.List.Elements.{All-push}
use Rattle.std.proofs.lemmas.Result.{err_from_is_err_and}
use Rattle.isl_piece.specs.declared.row.Row.{Row}
use Rattle.isl_piece.specs.Row.{IsRowUpTo, IsRowWithin, coef_at}
use Rattle.isl_shadows.specs.Splinters.{shifted_row}
use Rattle.isl_math.proofs.MagnitudeLaws.{up_to-neg}
use Rattle.isl_omega.proofs.SmallLemmas.{coef_up_to}
use Rattle.isl_shadows.proofs.SmallSplinters.{neighbours_up_to}
use Rattle.isl_column.proofs.dark_shadow.DarkShadow.shifted.Goals as goal

pub returns-in_err-reduced_by-clause-no_overflow : goal.returns-in_err-reduced_by-clause-no_overflow
returns-in_err-reduced_by-clause-no_overflow c = λ bits small one.
    let u = c.upper-item.result in
    let by : c.in_ok-by.by ≡ c.args.neighbours *ℤ neg_ℤ (coef_at u c.args.column.at) = grind arith in
    let up : IsRowUpTo (2 ^ 61) u = grind (arith, common_steps, small) in
    let meter : c.mul.new.meter ≡ c.args.meter.now = grind arith in
    let p = err_from_is_err_and c.from_residual-in_err-reduced_by.result c.from_residual-in_err-reduced_by.ensures.1 in
    rw (p.1, p.2) (c.in_err-reduced_by.ensures.no_overflow (2 ^ 61) (2 ^ 61) (rw by (neighbours_up_to (2 ^ 61) c.args.neighbours (neg_ℤ (coef_at u c.args.column.at)) one (up_to-neg (2 ^ 61) (coef_at u c.args.column.at) (coef_up_to (2 ^ 61) u c.args.column.at up)))) up (rw (meter, bits) (lit< tt)))

pub loop-upper-preserved : goal.loop-upper-preserved
loop-upper-preserved c =
    let uppers = c.args.uppers.now in
    let u = c.upper-item.result in
    let i = c.loop-upper.upper-index in
    let low = c.in_ok-reduced_by.field-0 in
    let inside : i < length uppers = grind (arith, common_steps) in
    let is : low ≡ shifted_row c.args.neighbours c.args.column.at u = grind arith in
    let within : IsRowWithin c.args.meter.now low = grind arith in
    let pushed : c.push.new.self ≡ c.loop-upper.rows ++ low ∷ [] = grind arith in
    let taken : take (i + 1) uppers ≡ take i uppers ++ u ∷ [] = take_more uppers i u inside ∙ ap (λ (s : Row). take i uppers ++ s ∷ []) (sym c.upper-item.is) in (
      rw (pushed, taken) (grind (arith, common_steps)),
      rw pushed (All-push (IsRowWithin c.args.meter.now) c.loop-upper.rows low c.loop-upper.invariant.1 within),
      grind arith,
    )
