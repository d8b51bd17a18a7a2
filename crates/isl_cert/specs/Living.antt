-- inner: of systems those that hold somewhere.
use Rattle.std.specs.Prelude.{◌≡◌, ◌⊎◌, ◌≤◌, ℤ, All, Contains, List, [], ◌∷◌, ◌++◌, length}
use Rattle.isl_elim.specs.Elimination.{HoldsAtAny}
use Rattle.isl_elim.specs.Sample.{IsNowhere}
use Rattle.isl_piece.specs.declared.system.System.{System}
use Rattle.isl_piece.specs.System.{HoldsSystem, free_columns}

-- the system holds at some point
abbrev pub HasPoint : System → Type 0
HasPoint system = ¬ IsNowhere (free_columns system) (HoldsSystem system)

-- the system is put behind the others where it holds somewhere
abbrev pub IsPutLiving : System → List System → List System → Type 0
IsPutLiving system old new =
    (IsNowhere (free_columns system) (HoldsSystem system) × (new ≡ old)) ⊎ (HasPoint system × (new ≡ old ++ system ∷ []))

-- some of the systems, those that hold somewhere: one of them holds at a point where one of all does
pub record AreLiving (systems living : List System) : Type 0 where
  pub among : All (Contains systems) living
  pub few : length living ≤ length systems
  pub each : All HasPoint living
  pub points : (point : List ℤ) → All (λ s. free_columns s ≡ length point) systems → HoldsAtAny systems point → HoldsAtAny living point
