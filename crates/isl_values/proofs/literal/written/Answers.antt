use Rattle.std.proofs.Common.{rules}
use Rattle.isl_values.proofs.KeptLaws.{literal_value}
use Rattle.isl_values.proofs.ValueLaws.{value_same, paid_works}
use Rattle.isl_values.proofs.literal.written.Goals as goal

pub returns-in_ok-new-in-Ok : goal.returns-in_ok-new-in-Ok
returns-in_ok-new-in-Ok c =
    let e = c.in-Ok.ensures in (
      value_same c.in-Ok.value c.in_ok-new-in-Ok.field-0.value _ _ _ _ (search rules)
          (literal_value _ c.args.literal.now c.in-Ok.value e.exact e.kept e.definitions e.within),
      paid_works c.args.meter.now c.lower.new.meter e.meter,
    )
