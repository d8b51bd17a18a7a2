use Rattle.isl_span.proofs.FormLaws.{settled_kept}
use Rattle.isl_span.proofs.forms.divided.Goals as goal

pub returns : goal.returns
returns c = settled_kept c.args.form c.settle.new.row c.requires.kind c.requires.contingent c.settle.result c.settle.ensures
