-- What is known of points, under a meter after others.
use Rattle.std.proofs.Common.{◌≡◌, ap, arith, ℕ, ◌<◌, ◌≤◌, List, [], get_or, length}
use Rattle.isl_meter.specs.Gauge.{Gauge, IsCharged}
use Rattle.isl_space.specs.Name.{Name}
use Rattle.isl_piece.specs.declared.system.System.{System}
use Rattle.isl_piece.specs.System.{IsSystemWithin, free_columns}
use Rattle.isl_difference.specs.Split.{IsLive}
use Rattle.isl_difference.proofs.DifferenceLaws.{system_at}
use Rattle.isl_difference.proofs.SplitLaws.{charged_within}
use Rattle.isl_assumed.specs.declared.assumed.Assumed.{Assumed}
use Rattle.isl_assumed.specs.declared.assumed.Assumed.TheVariants.{Nothing, Where}
use Rattle.isl_assumed.specs.declared.region.Region.{Region}
use Rattle.isl_assumed.proofs.MeterLaws.{sound_later}
use Rattle.isl_coalesce.specs.Found.{IsKnownFor, IsKnownOf, IsPlain}

pub plain_after : (g h : Gauge) (s : System) → IsCharged g h → IsPlain g s → IsPlain h s
plain_after g h s charged plain = record { definitions = plain.definitions; within = charged_within g h s charged plain.within }

pub known_later : (g h : Gauge) (columns : ℕ) (known : Assumed) → IsCharged g h → IsKnownOf g columns known → IsKnownOf h columns known
known_later g h columns known charged is = record { sound = sound_later g h known charged is.sound; plain = is.plain; fits = is.fits }

pub names_later : (g h : Gauge) (params : List Name) (known : Assumed) → IsCharged g h → IsKnownFor g params known
    → IsKnownFor h params known
names_later g h params known charged is = record { sound = sound_later g h known charged is.sound; plain = is.plain; over = is.over }

-- it speaks of columns of each piece
pub known_of : (g : Gauge) (params : List Name) (known : Assumed) (columns : ℕ) → length params ≤ columns → IsKnownFor g params known
    → IsKnownOf g columns known
known_of g params Nothing columns few is = record { sound = tt; plain = tt; fits = omega arith }
known_of g params (Where region) columns few is =
    let same = ap (λ (names : List Name). length names) is.over in
    record { sound = is.sound; plain = is.plain; fits = omega (arith, same, few) }

-- ---- one of the systems of a region
module _ (g h : Gauge) (columns : ℕ) (region : Region) (is : IsKnownOf g columns (Where region)) (i : ℕ) (s : System)
    (low : i < length region.systems.items) (at : s ≡ get_or region.systems.items i s) where
  live_at : IsLive g (length region.params) s
  live_at = system_at (IsLive g (length region.params)) region.systems.items i s is.sound.live low at

  pub region_within : IsCharged g h → IsSystemWithin h s
  region_within charged = charged_within g h s charged live_at.within

  pub region_free : free_columns s ≡ length region.params
  region_free = live_at.free

  pub region_flat : s.definitions ≡ []
  region_flat = system_at (λ (t : System). t.definitions ≡ []) region.systems.items i s is.plain low at
