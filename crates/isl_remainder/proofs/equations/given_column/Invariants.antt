use Rattle.std.specs.Prelude.{◌<◌, IfSome}
use Rattle.isl_remainder.proofs.equations.given_column.Given as goal

abbrev pub invariant-loop-col : goal.invariant-loop-col
invariant-loop-col l = IfSome l.found (λ col. col < l.free)
