use Rattle.isl_points.proofs.LineLaws.{after_is}
use Rattle.isl_points.proofs.line.Line.after.Goals as goal

pub returns : goal.returns
returns c = after_is c.args.self.now c.args.x c.up_to.result c.requires.step c.requires.x_in c.up_to.ensures
