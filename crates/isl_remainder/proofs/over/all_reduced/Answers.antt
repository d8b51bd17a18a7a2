use Rattle.isl_meter.proofs.CutLemmas.{IsCharged_trans}
use Rattle.isl_remainder.proofs.OverLaws.{reduced_more, remainder_later}
use Rattle.isl_remainder.proofs.over.all_reduced.Goals as goal

pub reduced-requires : goal.reduced-requires
reduced-requires c =
    remainder_later c.args.meter.now c.loop.meter c.args.kept c.loop.left c.loop.invariant.charged c.loop.invariant.reduced.is

pub loop-preserved : goal.loop-preserved
loop-preserved c =
    let g = c.args.meter.now in
    let h = c.loop.meter in
    let so_far = c.loop.invariant in
    record {
      reduced = reduced_more g h c.args.kept c.args.asked c.loop.left c.in-Some.next so_far.charged so_far.reduced
          (rw c.in-Some.is at c.in_ok-next.ensures.made);
      charged = IsCharged_trans g h c.reduced.new.meter so_far.charged c.in_ok-next.ensures.meter;
    }
