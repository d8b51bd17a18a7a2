use Rattle.std.proofs.Common.{◌≡◌, ◌↔◌, ℤ, take}
use Rattle.std.specs.List.{All}
use Rattle.isl_points.specs.Progression.{IsOn, IsProgression, MeetsCongruence}
use Rattle.isl_points.proofs.progression.Progression.of.Given as goal

abbrev pub invariant-loop-row : goal.invariant-loop-row
invariant-loop-row l = record {
  steps : IsProgression l.fn.meter l.found;
  exact : (x : ℤ) → IsOn l.found x ↔ All (MeetsCongruence x) (take l.row-index l.rows);
  meter : l.meter ≡ l.fn.meter;
}
