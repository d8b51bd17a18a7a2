use Rattle.std.proofs.Common.{ap, length, refl, subst, sym}
use Rattle.std.specs.List.{All}
use Rattle.isl_meter.specs.Gauge.{Gauge}
use Rattle.isl_meter.proofs.CutLemmas.{IsCharged_refl}
use Rattle.isl_span.specs.Forms.{IsForm}
use Rattle.isl_span.specs.Points.{AreFormsFor, IsPoint}
use Rattle.isl_span.proofs.PointLaws.{all_over_later}
use Rattle.isl_span.proofs.StartLaws.{begin}
use Rattle.isl_span.proofs.hull.rows_through.Goals as goal

pub loop-at-init : goal.loop-at-init
loop-at-init c =
    let g = c.args.meter.now in
    let point = c.args.point.now in
    let n = length point in
    let systems = c.args.systems.now in
    record {
      forms = subst (AreFormsFor g n (IsPoint n systems) n) (sym c.in_ok-forms.ensures.exact)
          (begin g (IsPoint n systems) point (subst (All (IsForm g n)) c.in_ok-forms.ensures.exact c.in_ok-forms.ensures.forms)
          (record { long = refl; holds = c.requires.point.holds }));
      charged = IsCharged_refl g g refl;
    }

pub asked-requires-clause-systems : goal.asked-requires-clause-systems
asked-requires-clause-systems c =
    all_over_later c.args.meter.now c.loop-at.meter (length c.args.point.now) c.args.systems.now
    (ap (λ (x : Gauge). x.bits) c.loop-at.invariant.charged.same) c.requires.systems
