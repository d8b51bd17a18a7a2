use Rattle.std.proofs.Common.{◌≡◌, pos, neg_ℤ, arith}
use Rattle.isl_math.specs.Divide.{floor_div}
use Rattle.isl_piece.specs.Row.{coef_at}
use Rattle.isl_piece.specs.Combine.{combination}
use Rattle.isl_omega.specs.Congruence.{reduced_row}
use Rattle.isl_omega.proofs.ReduceLemmas.{IsRemainderRow, remainder_row}
use Rattle.isl_omega.proofs.congruence.remainder.Goals as goal

pub returns : goal.returns
returns c =
    let p = c.args.p.now in
    let q = c.args.q.now in
    let small = c.in_ok-reduced_copy.field-0 in
    let times : c.floor_div-times.result ≡ floor_div (coef_at p c.args.column.at) (coef_at q c.args.column.at) = grind arith in
    let rest : c.in_ok-rest.rest ≡ combination (pos 1) p (neg_ℤ c.floor_div-times.result) q = grind arith in
    let is : small ≡ reduced_row c.in_ok-rest.rest = grind arith in
    let row : IsRemainderRow c.args.column.columns c.args.column.at p.k p q small =
    remainder_row c.args.column.columns c.args.column.at p.k c.floor_div-times.result p q c.in_ok-rest.rest small c.requires.p_reduced c.requires.q_reduced c.requires.positive c.args.column.in_range c.requires.occurs times rest is in
    ((row.is_reduced, row.same, row.smaller), grind arith)
