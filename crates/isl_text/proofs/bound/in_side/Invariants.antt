use Rattle.std.proofs.Common.{◌≡◌, ◌+◌, ◌≤◌, drop}
use Rattle.isl_text.specs.Bound.{in_side, capped}
use Rattle.isl_text.proofs.bound.in_side.Given as goal

abbrev pub invariant-loop-term : goal.invariant-loop-term
invariant-loop-term l = record {
  same : capped (in_side l.side) ≡ capped (l.total + in_side (drop l.term-index l.side));
  within : l.total ≤ 65;
}
