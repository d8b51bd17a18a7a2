use Rattle.std.proofs.Common.{ap}
use Rattle.isl_space.specs.Shape.{form_of}
use Rattle.isl_space.specs.Space.{space_form_of}
use Rattle.isl_images.proofs.NearLaws.{none_near}
use Rattle.isl_images.proofs.pairing.near.Goals as goal

pub returns-in_default : goal.returns-in_default
returns-in_default c =
    none_near c.args.pairing (space_form_of c.args.space.now) (form_of c.in_default.field-0.value) c.args.others.now
    (ap space_form_of c.in_default.is)
