use Rattle.std.proofs.Common.{◌≡◌, subst, arith, take, ℤ, neg_ℤ, to_z-of_z, to_z, of_z}
use Rattle.std.specs.Int.{w128}
use Rattle.std.specs.Prelude.{IfOk}
use Rattle.std.proofs.lemmas.Grind.{common_steps}
use Rattle.isl_piece.specs.Row.{coef_at}
use Rattle.isl_greatest.specs.State.{full, number}
use Rattle.isl_greatest.proofs.CandidateLaws.{floor_same}
use Rattle.isl_greatest.proofs.candidate.top_candidate.Goals as goal

pub returns-clause-number : goal.returns-clause-number
returns-clause-number c v =
    let row = c.args.row.now in
    let n = c.args.chosen.now.columns in
    let slice : c.as_slice-2.result.now ≡ take n row.coefs = grind (arith, common_steps) in
    let constant : to_z w128 (of_z w128 row.constant) ≡ row.constant = grind (arith, common_steps, to_z-of_z) in
    let k : to_z w128 (of_z w128 c.get-2.result) ≡ neg_ℤ (coef_at row n) = grind (arith, common_steps, to_z-of_z) in
    subst (λ (z : ℤ). IfOk c.candidate.result (λ cur. number cur v ≡ z))
    (floor_same c.as_slice-2.result.now (take n row.coefs) (full c.args.chosen.now v) (to_z w128 (of_z w128 row.constant)) row.constant
    (to_z w128 (of_z w128 c.get-2.result)) (neg_ℤ (coef_at row n)) slice constant k) (c.candidate.ensures.number v)
