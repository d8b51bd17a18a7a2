-- Kept values that can be written.
use Rattle.std.proofs.Common.{◌≡◌, ◌≤◌, ◌-◌, ◌^◌, true, arith, pow_mono}
use Rattle.isl_meter.specs.Gauge.{Gauge}
use Rattle.isl_union.specs.KeptValue.{KeptValue, HasNoDefinitions, IsKeptValue}
use Rattle.isl_union.specs.Numbers.{IsWithinLimit}
use Rattle.isl_token.specs.Number.{too_great}
use Rattle.isl_tree.specs.declared.tree.Literal.{Literal}
use Rattle.isl_text.specs.Formed.{are_alike}
use Rattle.isl_lower.specs.Value.{HasSameElements}
use Rattle.isl_kinds.specs.Typed.{kind_of_pieces}
use Rattle.isl_round_trip.specs.Written.{HasWritableNumbers}
use Rattle.isl_round_trip.specs.RoundTrip.{IsWritableValue}
use Rattle.isl_round_trip.proofs.BoundLaws.{numbers_more}
use Rattle.isl_round_trip.proofs.KindLaws.{in_pieces, of_kind_uniform}
use Rattle.isl_round_trip.proofs.PieceKinds.{value_kind}

pub writable_numbers : (gauge : Gauge) (value : KeptValue) → gauge.bits ≤ 127 → IsWithinLimit gauge value → HasWritableNumbers value
writable_numbers gauge value bits small =
    let large : 2 ^ gauge.bits ≤ 2 ^ 127 = pow_mono bits in
    numbers_more (2 ^ gauge.bits - 1) (too_great - 1) value (omega (arith, large)) small

-- ---- a value with the elements of a literal
pub lowered_writable : (gauge : Gauge) (literal : Literal) (value : KeptValue) → gauge.bits ≤ 127 → are_alike literal.pieces ≡ true → IsKeptValue value
    → HasNoDefinitions value → HasSameElements literal value → IsWithinLimit gauge value → IsWritableValue value
lowered_writable gauge literal value bits alike kept none same small = record {
  kept = kept;
  definitions = none;
  numbers = writable_numbers gauge value bits small;
  uniform = of_kind_uniform value (kind_of_pieces literal.pieces)
      (value_kind (kind_of_pieces literal.pieces) value kept (λ valuation element has.
      in_pieces literal.params valuation element literal.pieces alike ((same valuation element).0 has)));
}
