use Rattle.std.proofs.Common.{rules}
use Rattle.isl_text.proofs.WideLaws.{wide_digits}
use Rattle.isl_text.proofs.wide.is_wide.Goals as goal

pub returns-in-Some : goal.returns-in-Some
returns-in-Some c = wide_digits c.args.rest.now _ c.args.limit c.in-Some.digits.now c.is_above.result c.in-Some.ensures (search rules)
