use Rattle.std.proofs.Common.{◌≡◌, ◌≤◌, arith, sym, ap, ◌∙◌, Some}
use Rattle.std.proofs.lemmas.Bool.{false≢true}
use Rattle.std.proofs.lemmas.Grind.{common_steps}
use Rattle.isl_meter.specs.Gauge.{Gauge}
use Rattle.isl_quotient.proofs.ToldLaws.{plain_within, system_wider}
use Rattle.isl_quotient.proofs.told.without_definitions.Goals as goal

pub without_defined-requires : goal.without_defined-requires
without_defined-requires c =
    let g = c.args.meter.now in
    let h = c.new-calculator.result in
    let low = c.limit-bits.ensures.bits_high in
    let bits : h.bits ≡ 127 = ap (λ (k : Gauge). k.bits) c.new-calculator.ensures in
    record { well_formed = system_wider g h (omega (arith, low, bits)) c.args.system.now c.requires.well_formed }

pub returns-then-are_rows_within-clause-plain : goal.returns-then-are_rows_within-clause-plain
returns-then-are_rows_within-clause-plain c =
    let plain = c.in-Ok-Some.plain in
    let rows : c.as_slice.result.now ≡ plain.rows = grind (arith, common_steps) in
    let within = rw rows at (c.are_rows_within.ensures (grind (arith, common_steps))) in
    let is : c.in-Ok-Some.field-0 ≡ Some plain = grind (arith, common_steps) in
    plain_within c.args.meter.now c.new-calculator.result c.args.system.now plain (rw is at c.in-Ok-Some.ensures.left) within

pub returns-then-are_rows_within-clause-none : goal.returns-then-are_rows_within-clause-none
returns-then-are_rows_within-clause-none c = λ none. absurd (false≢true (sym c.if-is_empty.false ∙ c.is_empty.ensures.1 none))
