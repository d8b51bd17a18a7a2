use Rattle.std.proofs.Common.{◌≡◌, ◌∙◌, sym}
use Rattle.isl_meter.specs.Gauge.{overflown}
use Rattle.isl_points.proofs.LineLaws.{allowed}
use Rattle.isl_points.proofs.line.allows.Goals as goal

pub returns-in-NotDivides : goal.returns-in-NotDivides
returns-in-NotDivides c =
    let g = c.args.meter.now in
    allowed c.args.row.now c.args.x (c.spares.new.meter ≡ g) (c.spares.new.meter ≡ overflown g) c.spares.result
    (sym c.kind.ensures ∙ c.in-NotDivides.is) c.spares.ensures
