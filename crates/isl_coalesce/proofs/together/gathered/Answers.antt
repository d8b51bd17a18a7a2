use Rattle.std.proofs.Common.{subst, sym}
use Rattle.std.specs.List.{All}
use Rattle.isl_assumed.specs.Assumed.{Assumes}
use Rattle.isl_coalesce.specs.Found.{IsKnownFor, IsPlainPiece}
use Rattle.isl_coalesce.proofs.ValueLaws.{gathered_is, plain_pieces}
use Rattle.isl_coalesce.proofs.together.gathered.Goals as goal

pub all_together-requires-clause-known : goal.all_together-requires-clause-known
all_together-requires-clause-known c =
    subst (λ names. IsKnownFor c.args.meter.now names c.args.known.now) (sym c.params-params.ensures.content) c.requires.known

pub all_together-requires-clause-pieces : goal.all_together-requires-clause-pieces
all_together-requires-clause-pieces c =
    let g = c.args.meter.now in
    let pieces = c.pieces-pieces.result.now in
    subst (λ names. All (IsPlainPiece g names) pieces) (sym c.params-params.ensures.content)
    (plain_pieces g c.args.a.now pieces c.pieces-pieces.ensures.content c.requires.plain c.requires.within
    c.pieces-pieces.ensures.well_formed)

pub returns-clause-gathered : goal.returns-clause-gathered
returns-clause-gathered c =
    gathered_is c.args.meter.now (Assumes c.args.known.now) c.args.a.now c.from_normal.result c.params-params.result.now
    c.in_ok-copy.field-0 c.pieces-pieces.result.now c.in_ok-kept.kept.items c.params-params.ensures.content c.in_ok-copy.ensures
    c.from_normal.ensures c.pieces-pieces.ensures.content c.params-params.ensures.well_formed c.in_ok-kept.ensures.joined
