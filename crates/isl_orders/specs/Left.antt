-- inner: what is left of a system with one of several others, without its last columns.
use Rattle.std.specs.Prelude.{◌≡◌, ◌↔◌, ◌++◌, ℕ, ℤ, List, All, length}
use Rattle.isl_meter.specs.Gauge.{Gauge}
use Rattle.isl_piece.specs.declared.system.System.{System}
use Rattle.isl_piece.specs.System.{HoldsSystem, IsSystemWithin, free_columns}
use Rattle.isl_elim.specs.Elimination.{HoldsAtAny}

-- some `count` numbers behind those of the point make the system hold, and one of the others
abbrev pub HoldWith : System → List System → ℕ → List ℤ → Type 0
HoldWith system cases count point =
    (behind : List ℤ) × (length behind ≡ count) × HoldsSystem system (point ++ behind) × HoldsAtAny cases (point ++ behind)

pub record AreLeftWith (g : Gauge) (system : System) (cases : List System) (kept count : ℕ) (left : List System) : Type 0 where
  pub points : (point : List ℤ) → length point ≡ kept → HoldsAtAny left point ↔ HoldWith system cases count point
  pub free : All (λ s. free_columns s ≡ kept) left
  pub within : All (IsSystemWithin g) left
