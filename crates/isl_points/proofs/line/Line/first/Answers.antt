use Rattle.std.proofs.Common.{◌≡◌, ◌-ℤ◌, arith}
use Rattle.isl_points.proofs.LineLaws.{first_number}
use Rattle.isl_points.proofs.line.Line.first.Goals as goal

pub returns : goal.returns
returns c =
    let apart : c.in_ok-sub.field-0 ≡ c.remainder-first.result -ℤ c.remainder-low.result = grind arith in (
      first_number c.args.self.now c.remainder-ahead.result c.remainder-first.result c.remainder-low.result c.in_ok-sub.field-0 c.up_to.result
          c.requires.steps.positive c.remainder-ahead.ensures.not_negative c.remainder-first.ensures.value c.remainder-low.ensures.value apart
          c.remainder-ahead.ensures.value c.up_to.ensures,
      grind arith,
    )
