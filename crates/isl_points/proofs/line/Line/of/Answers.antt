use Rattle.std.proofs.Common.{◌≡◌, arith, true}
use Rattle.isl_meter.specs.Gauge.{IsWithin}
use Rattle.isl_points.proofs.LineLaws.{line_is, rows_parts}
use Rattle.isl_points.proofs.line.Line.of.Goals as goal

pub returns-in-None : goal.returns-in-None
returns-in-None c =
    let none = rw c.in-None.is at c.in_ok-of.ensures in (
      (λ l u x h. none.0 x ((rows_parts c.args.rows.now x).0 h).0.1),
      grind arith,
    )

pub returns-in-Some : goal.returns-in-Some
returns-in-Some c =
    let g = c.args.meter.now in
    let interval = c.of-interval.result in
    let within = c.of-interval.ensures.within in
    let kept : c.excludes_all.new.meter ≡ g = grind arith in
    let low : IsWithin g c.in-Some-Some.low = rw kept at (rw c.in-Some-Some.is-0 at within.0) in
    let high : IsWithin g c.in-Some-Some.high = rw kept at (rw c.in-Some-Some.is-1 at within.1) in
    let some = rw c.in-Some.is at c.in_ok-of.ensures in (
      (
        record { low = low; high = high; steps = rw kept at some.0.0 },
        (λ x. line_is c.in-Some-Some.low c.in-Some-Some.high interval.low interval.high c.in-Some.steps c.args.rows.now x
            c.in-Some-Some.is-0 c.in-Some-Some.is-1 (c.of-interval.ensures.exact x) (some.0.1 x)),
      ),
      grind arith,
    )

pub returns-then-branch : goal.returns-then-branch
returns-then-branch c =
    let yes : c.in_ok-excludes_all.field-0 ≡ true = grind arith in (
      (λ l u x h. c.in_ok-excludes_all.ensures.0 yes x ((rows_parts c.args.rows.now x).0 h).1),
      grind arith,
    )
