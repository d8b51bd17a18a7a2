-- Systems within the limit of a meter, of which units were used.
use Rattle.std.proofs.Common.{sym, ap, List, get_or}
use Rattle.std.specs.List.{All}
use Rattle.isl_meter.specs.Gauge.{Gauge, IsCharged}
use Rattle.isl_piece.specs.declared.system.System.{System}
use Rattle.isl_piece.specs.System.{IsSystemWithin}
use Rattle.isl_piece.proofs.FormedLaws.{system_within_kept}

pub within_after : (g h : Gauge) (s : System) → IsCharged g h → IsSystemWithin g s → IsSystemWithin h s
within_after g h s c w = system_within_kept h g s (sym (ap (λ (m : Gauge). m.bits) c.same)) w

pub within_before : (g h : Gauge) (systems : List System) → IsCharged g h → All (IsSystemWithin h) systems → All (IsSystemWithin g) systems
within_before g h systems c all = λ k d l. system_within_kept g h (get_or systems k d) (ap (λ (m : Gauge). m.bits) c.same) (all k d l)
