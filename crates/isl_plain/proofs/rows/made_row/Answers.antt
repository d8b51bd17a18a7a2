use Rattle.std.proofs.Common.{◌∙◌, pos, ◌+◌, replicate, subst}
use mathlib.Core.Logic.{inl}
use Rattle.isl_meter.specs.Gauge.{Gauge}
use Rattle.isl_piece.specs.Row.{IsRowWithin}
use Rattle.isl_plain.specs.Code.{written_of}
use Rattle.isl_plain.specs.Linear.{multiplied_out}
use Rattle.isl_plain.specs.Passes.{DifferencePasses}
use Rattle.isl_plain.specs.Width.{width_of, place_in, PassesIn}
use Rattle.isl_plain.proofs.JoinLaws.{fails_later}
use Rattle.isl_plain.proofs.PassLaws.{match_weaker}
use Rattle.isl_plain.proofs.rows.made_row.Goals as goal

pub returns : goal.returns
returns c =
    let n = width_of c.args.places.now in
    let place = place_in c.args.places.now in
    let w = written_of c.args.written in
    let same = c.in-Ok.ensures.2 in
    match_weaker c.difference_row.result _ _ _ _
    (λ row h. (h.0, subst (λ (g : Gauge). IsRowWithin g row) same h.1, h.2 ∙ same))
    (λ cut h. fails_later
    (λ g. DifferencePasses g n place (replicate (n + 1) (pos 0)) (multiplied_out w.greater) (multiplied_out w.less) w.last)
    (PassesIn c.args.meter.now c.args.places.now w) c.args.meter.now c.within.new.meter c.difference_row.new.meter cut same (λ p. inl p) h)
    c.difference_row.ensures
