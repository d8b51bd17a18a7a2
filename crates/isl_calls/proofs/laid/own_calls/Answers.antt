use Rattle.std.proofs.Common.{refl, ap, ◌∙◌, true}
use Rattle.isl_space.specs.Shape.{form_of}
use Rattle.isl_schedule.specs.Schedule.{domain_form}
use Rattle.isl_calls.proofs.LaidLaws.{set_laid}
use Rattle.isl_calls.proofs.laid.own_calls.Goals as goal

pub returns : goal.returns
returns c =
    let piece = c.args.piece.now in
    let domain = c.domain_of-domain.ensures ∙ ap domain_form c.space.ensures in
    set_laid piece
    (record {
      domain = c.in_ok-clone.field-0;
      time = c.in_ok-clone-2.field-0;
      is_own = true;
      system = c.in_ok-copy.field-0;
    })
    piece.space refl c.requires.set (ap form_of c.in_ok-clone.ensures.cases ∙ domain) (ap form_of c.in_ok-clone-2.ensures.cases ∙ domain) refl
    (c.in_ok-copy.ensures ∙ c.system.ensures) c.requires.plain
