use Rattle.std.proofs.Common.{take}
use Rattle.std.specs.List.{Any}
use Rattle.isl_precedence.specs.WideAccess.{IsWideAccess}
use Rattle.isl_precedence.proofs.wide.has_wide_access.Given as goal

abbrev pub invariant-loop-sink : goal.invariant-loop-sink
invariant-loop-sink l = ¬ Any (λ other. IsWideAccess l.source.space other.space) (take l.sink-index l.sinks)
