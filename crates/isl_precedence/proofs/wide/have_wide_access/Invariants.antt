use Rattle.std.proofs.Common.{take}
use Rattle.std.specs.List.{Any}
use Rattle.isl_precedence.specs.WideAccess.{IsWideAccess}
use Rattle.isl_precedence.proofs.wide.have_wide_access.Given as goal

abbrev pub invariant-loop-source : goal.invariant-loop-source
invariant-loop-source l =
    ¬ Any (λ piece. Any (λ other. IsWideAccess piece.space other.space) l.sinks) (take l.source-index l.sources)
