use Rattle.std.proofs.Common.{◌≡◌, take}
use Rattle.std.specs.List.{All}
use Rattle.isl_space.specs.Space.{space_form_of}
use Rattle.isl_by_space.proofs.spaces.is_among.Given as goal

abbrev pub invariant-loop-other : goal.invariant-loop-other
invariant-loop-other l = All (λ other. ¬ (space_form_of l.space ≡ space_form_of other)) (take l.other-index l.spaces)
