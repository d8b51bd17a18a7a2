use Rattle.std.proofs.Common.{◌≡◌, map, take}
use Rattle.isl_space.specs.Space.{space_form_of}
use Rattle.isl_pip.proofs.order.ordered_spaces.Given as goal

abbrev pub invariant-loop-space : goal.invariant-loop-space
invariant-loop-space l = map (λ t. space_form_of t.space) l.ordered.items ≡ map space_form_of (take l.space-index l.space-items)
