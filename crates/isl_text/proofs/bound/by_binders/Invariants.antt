use Rattle.std.proofs.Common.{◌≡◌, ◌+◌, ◌≤◌, drop}
use Rattle.isl_text.specs.Bound.{by_binders, capped}
use Rattle.isl_text.proofs.bound.by_binders.Given as goal

abbrev pub invariant-loop-binder : goal.invariant-loop-binder
invariant-loop-binder l = record {
  same : capped (by_binders l.binders) ≡ capped (l.total + by_binders (drop l.binder-index l.binders));
  within : l.total ≤ 65;
}
