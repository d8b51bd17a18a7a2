-- The limit of a meter, of which units alone were used.
use Rattle.std.proofs.Common.{◌≡◌, sym, ap}
use Rattle.isl_meter.specs.Gauge.{Gauge, IsCharged}

pub charged_bits : (g h : Gauge) → IsCharged g h → g.bits ≡ h.bits
charged_bits g h p = sym (ap (λ (x : Gauge). x.bits) p.same)
