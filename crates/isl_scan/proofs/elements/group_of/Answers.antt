use Rattle.std.proofs.Common.{◌≡◌, arith, string_bytes}
use Rattle.std.proofs.lemmas.Grind.{common_steps}
use Rattle.isl_space.specs.Space.{space_form_of}
use Rattle.isl_space.specs.SpaceForm.{space_text_of}
use Rattle.isl_scan.proofs.GatheredLaws.{group_is}
use Rattle.isl_scan.proofs.elements.group_of.Goals as goal

pub returns-clause-exact : goal.returns-clause-exact
returns-clause-exact c = λ numbers listable fibre.
    let piece = c.args.piece.now in
    let space : space_form_of c.in_ok-space.space ≡ piece.space = grind (arith, common_steps) in
    let title : string_bytes c.in_ok-title.title ≡ space_text_of (space_form_of c.in_ok-space.space) = grind (arith, common_steps) in
    group_is c.args.meter.now numbers piece listable _ title space (c.in_ok-points.ensures.listed piece.system numbers fibre)
