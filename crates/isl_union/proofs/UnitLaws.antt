-- How many units were used.
use Rattle.std.proofs.Common.{◌≡◌, ap, arith, ℕ, ◌+◌}
use Rattle.isl_meter.specs.Gauge.{Gauge, IsCharged}
use Rattle.isl_meter.proofs.CutLemmas.{charges, IsCharged_refl, IsCharged_trans, IsCharged-unit}
use Rattle.isl_union.specs.Fault.{IsChargedFrom}

pub from_charged : (g h : Gauge) → IsCharged g h → IsChargedFrom 0 g h
from_charged g h p = record { charged = p; least = let u = p.units in omega arith }

pub from_none : (g h : Gauge) → h ≡ g → IsChargedFrom 0 g h
from_none g h e = from_charged g h (IsCharged_refl g h e)

-- a unit, and then others
pub from_unit : (g h k : Gauge) → h ≡ record g { units = g.units + 1 } → IsCharged h k → IsChargedFrom 1 g k
from_unit g h k e p = record {
  charged = IsCharged_trans g h k (IsCharged-unit g h e) p;
  least = let u = ap (λ (x : Gauge). x.units) e in let v = p.units in omega arith;
}

pub from_more : (m n k : ℕ) (g h i : Gauge) → k ≡ m + n → IsChargedFrom m g h → IsChargedFrom n h i → IsChargedFrom k g i
from_more m n k g h i e p q = record {
  charged = IsCharged_trans g h i p.charged q.charged;
  least = let a = p.least in let b = q.least in omega arith;
}

pub ruleset unit_steps = (charges, from_charged, from_none, from_unit, from_more)
