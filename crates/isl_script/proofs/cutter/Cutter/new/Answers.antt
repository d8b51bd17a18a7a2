use Rattle.isl_script.proofs.CutterLaws.{at_start}
use Rattle.isl_script.proofs.cutter.Cutter.new.Goals as goal

pub returns : goal.returns
returns c = at_start
