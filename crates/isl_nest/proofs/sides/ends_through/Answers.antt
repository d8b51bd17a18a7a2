use Rattle.std.proofs.Common.{subst, List}
use Rattle.std.specs.List.{AllZip}
use Rattle.isl_meter.specs.Gauge.{Gauge}
use Rattle.isl_piece.specs.declared.row.Row.{Row}
use Rattle.isl_frame.specs.Frame.{IsThroughBehind}
use Rattle.isl_bounds.specs.Ends.{AreEndsOf}
use Rattle.isl_nest.proofs.SidesLaws.{behind_formed, ends_through_is}
use Rattle.isl_nest.proofs.sides.ends_through.Goals as goal

pub of_rows-requires-clause-rows : goal.of_rows-requires-clause-rows
of_rows-requires-clause-rows c =
    let place = c.args.place.now in
    behind_formed c.args.meter.now place c.args.rows.now c.in_ok-through.through
    (subst (λ (frame : List Row). AllZip (λ r t. IsThroughBehind place.variables r frame t) c.args.rows.now c.in_ok-through.through)
    c.as_slice.ensures c.in_ok-through.ensures.0.0)

pub returns : goal.returns
returns c =
    let place = c.args.place.now in
    let made = c.in_ok-through.ensures in
    let zip = subst (λ (frame : List Row). AllZip (λ r t. IsThroughBehind place.variables r frame t) c.args.rows.now c.in_ok-through.through)
    c.as_slice.ensures made.0.0 in (
      ends_through_is c.args.meter.now place c.args.rows.now c.in_ok-through.through c.in_ok-of_rows.field-0 zip made.0.1
          (subst (λ (g : Gauge). AreEndsOf g place.variables c.in_ok-through.through c.in_ok-of_rows.field-0) made.1 c.in_ok-of_rows.ensures),
      made.1,
    )
