-- public: what is left of a system without its last columns. (isl manual, on projecting out)
use Rattle.std.specs.Prelude.{◌≡◌, ◌↔◌, ◌++◌, ℕ, ℤ, List, [], All, length}
use Rattle.isl_meter.specs.Gauge.{Gauge}
use Rattle.isl_piece.specs.declared.system.System.{System}
use Rattle.isl_piece.specs.System.{HoldsSystem}
use Rattle.isl_difference.specs.Split.{IsLive}
use Rattle.isl_elim.specs.Elimination.{HoldsAtAny}

-- some `count` numbers behind those of the point make the system hold
abbrev pub HoldsBefore : System → ℕ → List ℤ → Type 0
HoldsBefore system count point = (behind : List ℤ) × (length behind ≡ count) × HoldsSystem system (point ++ behind)

-- normal systems over so many columns, each with a point, of which some holds where some of the others does; they define no column where
-- these define none
pub record AreLiveOf (g : Gauge) (columns : ℕ) (systems live : List System) : Type 0 where
  pub points : (point : List ℤ) → length point ≡ columns → HoldsAtAny live point ↔ HoldsAtAny systems point
  pub each : All (IsLive g columns) live
  pub definitions : All (λ s. s.definitions ≡ []) systems → All (λ s. s.definitions ≡ []) live

-- normal systems over the first `kept` columns, each with a point, of which some holds at a point exactly where some `count` numbers behind
-- it make the system hold
pub record IsLeftWithout (g : Gauge) (system : System) (kept count : ℕ) (left : List System) : Type 0 where
  pub points : (point : List ℤ) → length point ≡ kept → HoldsAtAny left point ↔ HoldsBefore system count point
  pub live : All (IsLive g kept) left
  pub definitions : system.definitions ≡ [] → All (λ s. s.definitions ≡ []) left
