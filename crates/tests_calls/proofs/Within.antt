-- Values whose pieces are within a limit.
use Rattle.std.proofs.Common.{◌≡◌, subst, List, All, get_or, map, unsigned_abs, ◌^◌, ◌-◌, ◌≤◌}
use Rattle.std.proofs.lemmas.List.Elements.{All-map, All-weaker}
use Rattle.isl_meter.specs.Gauge.{Gauge, IsCharged, IsWithin, limit_of}
use Rattle.isl_meter.proofs.LimitLemmas.{within_up_to}
use Rattle.isl_piece.proofs.RowMagnitudes.{up_to_limit}
use Rattle.isl_piece.specs.declared.definition.Definition.{Definition}
use Rattle.isl_piece.specs.Piece.{PieceView}
use Rattle.isl_piece.specs.Row.{IsRowUpTo, IsRowWithin}
use Rattle.isl_union.proofs.MeetSteps.{charged_bits}
use Rattle.isl_union.specs.KeptValue.{KeptValue}
use Rattle.isl_union.specs.Numbers.{IsPieceUpTo, IsWithinLimit}
use Rattle.isl_union.specs.Piece.{kept_piece}

pub piece_up_to : (g : Gauge) (piece : PieceView)
    → All (IsRowWithin g) piece.system.rows
    → All (λ (d : Definition). All (IsWithin g) d.coefs) piece.system.definitions
    → All (λ (d : Definition). IsWithin g d.constant) piece.system.definitions
    → All (λ (d : Definition). IsWithin g d.k) piece.system.definitions
    → IsPieceUpTo (unsigned_abs (limit_of g)) (kept_piece piece)
piece_up_to g piece rows coefs constants moduli = record {
  rows = All-weaker (IsRowWithin g) (IsRowUpTo (2 ^ g.bits - 1)) (up_to_limit g) piece.system.rows rows;
  definitions = λ k d low. record {
    coefs = All-weaker (IsWithin g) (λ z. unsigned_abs z ≤ 2 ^ g.bits - 1) (within_up_to g)
        (get_or piece.system.definitions k d).coefs (coefs k d low);
    constant = within_up_to g (get_or piece.system.definitions k d).constant (constants k d low);
    k = within_up_to g (get_or piece.system.definitions k d).k (moduli k d low);
  };
}

pub value_within : (g : Gauge) (value : KeptValue) (pieces : List PieceView) → map kept_piece pieces ≡ value.pieces
    → All (λ (piece : PieceView). IsPieceUpTo (unsigned_abs (limit_of g)) (kept_piece piece)) pieces → IsWithinLimit g value
value_within g value pieces is within =
    subst (All (IsPieceUpTo (unsigned_abs (limit_of g)))) is (All-map (IsPieceUpTo (unsigned_abs (limit_of g))) kept_piece pieces within)

-- so are they after more work under the meter
pub value_later : (g h : Gauge) (value : KeptValue) → IsCharged g h → IsWithinLimit g value → IsWithinLimit h value
value_later g h value charged within = subst (λ n. All (IsPieceUpTo (2 ^ n - 1)) value.pieces) (charged_bits g h charged) within
