use Rattle.isl_claim.proofs.FoundLaws.{AreFound}
use Rattle.isl_claim.proofs.claim.proofs_of.Given as goal

abbrev pub invariant-loop-piece : goal.invariant-loop-piece
invariant-loop-piece l =
    AreFound (λ part. part.piece) (λ part. part.cert) l.params l.pieces l.others l.fn.meter l.meter l.piece-index l.parts.items
