use Rattle.std.proofs.Common.{map, take}
use Rattle.isl_space.specs.Shape.{form_of}
use Rattle.isl_calls.specs.Apart.{AreSystemsFor}
use Rattle.isl_calls.proofs.apart.systems_for.Given as goal

abbrev pub invariant-loop-one : goal.invariant-loop-one
invariant-loop-one l = AreSystemsFor (form_of l.shape) (take l.one-index l.calls) (map (λ system. system.now) l.systems.items)
