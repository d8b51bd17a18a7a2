use Rattle.std.proofs.Common.{◌≡◌}
use Rattle.std.specs.List.{All}
use Rattle.isl_piece.specs.Normal.{IsNormal}
use Rattle.isl_alternatives.proofs.RestrictedLaws.{AreDone}
use Rattle.isl_alternatives.proofs.lists.normal_forms.Given as goal

abbrev pub invariant-loop-system : goal.invariant-loop-system
invariant-loop-system l = record {
  done : AreDone l.fn.meter l.meter l.scope l.fn.systems.items l.system-iterator.rest.items (λ point env. Unit {0}) l.forms.items;
  normal : All (λ s. IsNormal s.rows) l.forms.items;
  meter : l.meter ≡ l.fn.meter;
}
