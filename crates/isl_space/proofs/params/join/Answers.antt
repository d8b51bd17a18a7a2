use Rattle.isl_space.proofs.NamesLaws.{join_next}
use Rattle.isl_space.proofs.params.join.Goals as goal

-- one more of the others is joined
pub loop-other-preserved : goal.loop-other-preserved
loop-other-preserved c =
    let stored = c.in_ok-at.ensures.stored in
    join_next _ _ _ _ _ _ _ _ _ _ _ c.requires c.loop-other-test.true c.other-item.is c.in_ok-copy.ensures c.loop-other.invariant
    c.in_ok-at.ensures.keys stored.1 stored.2 c.in_ok-push.ensures.items
