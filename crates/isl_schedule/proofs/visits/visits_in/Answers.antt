use Rattle.std.proofs.Common.{refl, ap, ◌∙◌}
use Rattle.isl_space.specs.Shape.{form_of}
use Rattle.isl_schedule.specs.Schedule.{domain_form, time_form}
use Rattle.isl_schedule.proofs.VisitLaws.{visits_made}
use Rattle.isl_schedule.proofs.visits.visits_in.Goals as goal

pub returns-clause-visits : goal.returns-clause-visits
returns-clause-visits c g bits within =
    let piece = c.args.piece.now in
    visits_made g c.args.params.now piece c.requires.piece
    (record { domain = c.in_ok-clone.field-0; time = c.in_ok-clone-2.field-0; system = c.in_ok-timed_system.field-0 })
    (ap form_of c.in_ok-clone.ensures.cases ∙ c.domain_of.ensures ∙ ap domain_form c.space-space.ensures)
    (ap form_of c.in_ok-clone-2.ensures.cases ∙ c.time_of.ensures ∙ ap time_form c.space-space.ensures)
    piece.space refl (c.in_ok-timed_system.ensures.timed g bits within) within
