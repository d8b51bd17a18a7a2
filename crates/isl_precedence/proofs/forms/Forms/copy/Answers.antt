use Rattle.std.proofs.Common.{ap}
use Rattle.isl_space.specs.Shape.{form_of}
use Rattle.isl_precedence.proofs.forms.Forms.copy.Goals as goal

pub returns : goal.returns
returns c = record {
  source = ap form_of c.in_ok-clone.ensures.cases;
  sink = ap form_of c.in_ok-clone-2.ensures.cases;
  access = ap form_of c.in_ok-clone-3.ensures.cases;
  time = ap form_of c.in_ok-clone-4.ensures.cases;
}
