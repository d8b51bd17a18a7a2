use Rattle.std.proofs.Common.{◌≡◌, unsigned_abs}
use Rattle.isl_piece.specs.Row.{coef_at}
use Rattle.isl_omega.specs.Congruence.{IsReducedCongruence, SayTheSame}
use Rattle.isl_omega.proofs.congruence.merged_pair.Given as goal

abbrev pub invariant-steps : goal.invariant-steps
invariant-steps l = record {
  first_reduced : IsReducedCongruence l.column.columns l.fn.p.k l.first;
  second_reduced : IsReducedCongruence l.column.columns l.fn.p.k l.second;
  same : SayTheSame l.fn.p l.fn.q l.first l.second;
  kept : l.meter ≡ l.fn.meter;
}

abbrev pub decreases-steps : goal.decreases-steps
decreases-steps l = unsigned_abs (coef_at l.second l.column.at)
