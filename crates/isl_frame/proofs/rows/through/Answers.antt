use Rattle.std.proofs.Common.{arith, length}
use Rattle.isl_frame.proofs.SumLaws.{sum_whole}
use Rattle.isl_frame.proofs.rows.through.Goals as goal

pub returns : goal.returns
returns c =
    let made = c.in_ok-sum.ensures in
    let sum = c.in_ok-sum.sum in (
      (
        sum_whole c.args.variables c.args.row.now c.args.frame.now (length c.args.frame.now) c.args.meter.now sum made.0.0 made.0.1
            c.requires.row.width (omega arith),
        made.0.0.within,
      ),
      made.1,
    )
