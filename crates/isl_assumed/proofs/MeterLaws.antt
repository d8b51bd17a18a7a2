-- What is assumed, under a meter before others.
use Rattle.std.proofs.Common.{◌≡◌, ℕ, ◌+◌, ◌*◌, ◌≤◌, arith, subst, sym, get_or, length}
use Rattle.isl_meter.specs.Gauge.{Gauge, IsCharged}
use Rattle.isl_difference.proofs.SplitLaws.{live_kept}
use Rattle.isl_union.proofs.MeetSteps.{charged_bits}
use Rattle.isl_assumed.specs.declared.assumed.Assumed.{Assumed}
use Rattle.isl_assumed.specs.declared.assumed.Assumed.TheVariants.{Nothing, Where}
use Rattle.isl_assumed.specs.Assumed.{systems_of, IsSound, PaysPairs}

-- the limit alone counts
pub sound_kept : (g h : Gauge) (assumed : Assumed) → h.bits ≡ g.bits → IsSound h assumed → IsSound g assumed
sound_kept g h Nothing same sound = tt
sound_kept g h (Where region) same sound = record {
  named = sound.named;
  live = λ k d l. live_kept g h (length region.params) (get_or region.systems.items k d) same (sound.live k d l);
}

pub sound_before : (g h : Gauge) (assumed : Assumed) → IsCharged g h → IsSound h assumed → IsSound g assumed
sound_before g h assumed charged sound = sound_kept g h assumed (sym (charged_bits g h charged)) sound

pub sound_later : (g h : Gauge) (assumed : Assumed) → IsCharged g h → IsSound g assumed → IsSound h assumed
sound_later g h assumed charged sound = sound_kept h g assumed (charged_bits g h charged) sound

-- what pairs took is still paid
pub pays_later : (g h k : Gauge) (own same set : Assumed) → own ≡ same → h.units ≤ k.units → PaysPairs own set g h → PaysPairs same set g k
pays_later g h k own same set is later paid =
    subst (λ a. PaysPairs a set g k) is (by (g.units + length (systems_of own) * length (systems_of set)) h.units k.units paid later)
  where
    by : (a b c : ℕ) → a ≤ b → b ≤ c → a ≤ c
    by a b c first second = omega (arith, first, second)
