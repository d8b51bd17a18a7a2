use Rattle.isl_plain.specs.Code.{written_of}
use Rattle.isl_plain.specs.Width.{PassesIn}
use Rattle.isl_plain.proofs.JoinLaws.{fails_one}
use Rattle.isl_plain.proofs.rows.push_row.Goals as goal

pub returns-in-Err : goal.returns-in-Err
returns-in-Err c =
    fails_one (PassesIn c.args.meter.now c.args.places.now) (written_of c.args.written) c.args.meter.now c.made_row.new.meter c.in-Err.cut
    c.in-Err.ensures
