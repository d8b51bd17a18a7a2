use Rattle.std.proofs.Common.{◌≡◌, ◌+◌, ◌≤◌, drop}
use Rattle.isl_text.specs.Bound.{in_formulas, capped}
use Rattle.isl_text.proofs.bound.+formula.Given as goal

abbrev pub invariant-in_formulas-loop-formula : goal.invariant-in_formulas-loop-formula
invariant-in_formulas-loop-formula l = record {
  same : capped (in_formulas l.formulas) ≡ capped (l.total + in_formulas (drop l.formula-index l.formulas));
  within : l.total ≤ 65;
}
