use Rattle.std.proofs.Common.{take}
use Rattle.std.specs.List.{Any}
use Rattle.isl_space.specs.Space.{space_form_of}
use Rattle.isl_images.specs.Pairing.{IsWideJoin}
use Rattle.isl_images.proofs.joined.is_wide_among.Given as goal

abbrev pub invariant-loop-other : goal.invariant-loop-other
invariant-loop-other l = ¬ Any (λ other. IsWideJoin (space_form_of l.space) other.space) (take l.other-index l.others)
