use Rattle.std.proofs.Common.{rules, subst, sym}
use Rattle.std.specs.Prelude.{unsigned_abs}
use Rattle.isl_meter.specs.Gauge.{limit_of}
use Rattle.isl_values.specs.Three.{IsMadeFlat}
use Rattle.isl_outcome.proofs.PaidLaws.{unmade_later}
use Rattle.isl_values.proofs.flat.flat_copy.Goals as goal

pub returns-in_err-new-in-Ok : goal.returns-in_err-new-in-Ok
returns-in_err-new-in-Ok c =
    unmade_later c.from_residual.result _ c.args.meter.now c.flat.new.meter (search rules) c.in-Ok.ensures.meter

pub returns-in_ok-new-in-Ok : goal.returns-in_ok-new-in-Ok
returns-in_ok-new-in-Ok c =
    let e = c.in-Ok.ensures in (
      subst (IsMadeFlat (unsigned_abs (limit_of c.args.meter.now)) c.args.value.now) (sym (search rules)) (record {
        flat = e.pieces;
        kept = e.kept;
        numbers = e.numbers;
        definitions = e.definitions;
      }),
      e.meter,
    )
