use Rattle.std.proofs.Common.{◌≡◌, length, map, take}
use Rattle.std.specs.Prelude.{All}
use Rattle.isl_meter.specs.Gauge.{IsWithin}
use Rattle.isl_plain.specs.Linear.{turned, amounts_of, with_amounts}
use Rattle.isl_plain.specs.Width.{width_of, place_in}
use Rattle.isl_plain.proofs.rows.add_term.Given as goal

abbrev pub invariant-loop-i : goal.invariant-loop-i
invariant-loop-i l =
    (l.row ≡ with_amounts l.fn.row (map (turned l.takes) (amounts_of (width_of l.places) (place_in l.places) (take l.i l.term))))
    × All (IsWithin l.fn.meter) l.row × (l.meter ≡ l.fn.meter) × (length l.row ≡ length l.fn.row)
