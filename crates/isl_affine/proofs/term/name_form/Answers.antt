use Rattle.isl_affine.proofs.TermLaws.{name_column}
use Rattle.isl_affine.proofs.term.name_form.Goals as goal

pub returns : goal.returns
returns c =
    name_column c.args.meter.now c.args.scope.now c.args.system.now c.args.name.now c.in-Some.column c.in_ok-form-in-Some.form
    c.requires.ready c.in-Some.ensures.column c.in-Some.ensures.inside c.in_ok-form-in-Some.ensures
