use Rattle.std.proofs.Common.{◌∙◌, ap, filter, Some, None, arith}
use Rattle.std.proofs.lemmas.Grind.{common_steps}
use Rattle.isl_space.specs.Shape.{form_of}
use Rattle.isl_index.specs.Found.{begins_with}
use Rattle.isl_index.proofs.GroupLaws.{taken_with}
use Rattle.isl_index.proofs.index.ShapeIndex.with_shape.Goals as goal

pub returns-in-Some : goal.returns-in-Some
returns-in-Some c =
    c.as_slice.ensures
    ∙ taken_with (form_of c.args.shape.now) c.self.inside.pieces.items c.self.inside.groups.entries c.in_ok-title.title
    (Some c.in-Some.group.now) c.requires c.self.invariant.0 c.self.invariant.1 (grind (arith, common_steps)) (grind (arith, common_steps))
    ∙ ap (filter (begins_with (form_of c.args.shape.now))) c.self.view_is

pub returns : goal.returns
returns c =
    taken_with (form_of c.args.shape.now) c.self.inside.pieces.items c.self.inside.groups.entries c.in_ok-title.title
    None c.requires c.self.invariant.0 c.self.invariant.1 (grind (arith, common_steps)) (grind (arith, common_steps))
    ∙ ap (filter (begins_with (form_of c.args.shape.now))) c.self.view_is
