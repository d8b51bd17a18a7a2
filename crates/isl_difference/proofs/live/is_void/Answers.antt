use Rattle.std.proofs.Common.{arith}
use Rattle.isl_ledger.proofs.SizeLaws.{differences_of}
use Rattle.isl_difference.proofs.live.is_void.Goals as goal

pub returns-clause-tame : goal.returns-clause-tame
returns-clause-tame c = λ columns bits limit room d.
    c.is_normal_empty.ensures.tame (record { pieces = 1; columns = columns; bits = bits }) limit room
    (record { some = omega arith; rows = differences_of columns bits c.args.system.now d })
