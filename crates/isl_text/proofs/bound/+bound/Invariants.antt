use Rattle.std.proofs.Common.{◌≡◌, ◌+◌, ◌≤◌, drop}
use Rattle.isl_text.specs.Bound.{in_term, capped}
use Rattle.isl_text.proofs.bound.+bound.Given as goal

abbrev pub invariant-in_term-loop-part : goal.invariant-in_term-loop-part
invariant-in_term-loop-part l = record {
  same : capped (in_term l.term) ≡ capped (l.total + in_term (drop l.part-index l.term));
  within : l.total ≤ 65;
}
