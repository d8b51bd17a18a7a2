use Rattle.isl_piece.proofs.PlacedLaws.{first_inside}
use Rattle.isl_piece.proofs.meeting.over_columns.Goals as goal

pub append_placed-requires : goal.append_placed-requires
append_placed-requires c = rw c.in_ok-own.ensures (first_inside c.args.a.now.columns c.args.meeting.columns c.requires.own)
