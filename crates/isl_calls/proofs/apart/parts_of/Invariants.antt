use Rattle.std.proofs.Common.{◌≡◌, map}
use Rattle.std.specs.List.{All}
use Rattle.isl_calls.specs.Apart.{IsLike}
use Rattle.isl_calls.proofs.apart.parts_of.Given as goal

abbrev pub invariant-loop-system : goal.invariant-loop-system
invariant-loop-system l = (map (λ part. part.system) l.parts.items ≡ l.yielded) × All (IsLike l.calls) l.parts.items
