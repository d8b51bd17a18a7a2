-- Systems within the limit of a meter of 127 bits.
use Rattle.std.proofs.Common.{◌≡◌, ◌≤◌, sym, List, []}
use Rattle.std.specs.List.{All}
use Rattle.isl_meter.specs.Gauge.{Gauge}
use Rattle.isl_piece.specs.declared.system.System.{System}
use Rattle.isl_piece.specs.System.{IsSystemWithin}
use Rattle.isl_difference.proofs.SplitLaws.{system_kept}
use Rattle.isl_redundant.proofs.SumLaws.{all_within_calculator}
use Rattle.isl_redundant.specs.Redundant.{calculator}

-- without definitions
at_calculator : (g : Gauge) (s : System) → g.bits ≤ 127 → s.definitions ≡ [] → IsSystemWithin g s → IsSystemWithin calculator s
at_calculator g s few plain w = record {
  rows = w.rows;
  within = all_within_calculator g s.rows few w.within;
  count = w.count;
  definitions = rw plain tt;
}

pub within_own : (g own : Gauge) (s : System) → g.bits ≤ 127 → own.bits ≡ 127 → s.definitions ≡ [] → IsSystemWithin g s
    → IsSystemWithin own s
within_own g own s few is plain w = system_kept own calculator s (sym is) (at_calculator g s few plain w)

pub all_within_own : (g own : Gauge) (systems : List System) → g.bits ≤ 127 → own.bits ≡ 127 → All (λ s. s.definitions ≡ []) systems
    → All (IsSystemWithin g) systems → All (IsSystemWithin own) systems
all_within_own g own systems few is plain within = λ k d low. within_own g own _ few is (plain k d low) (within k d low)
