-- inner: contexts, and what they tell of questions.
use Rattle.std.specs.Prelude.{◌≡◌, ◌↔◌, ℕ, ℤ, List, length}
use Rattle.isl_meter.specs.Gauge.{Gauge}
use Rattle.isl_piece.specs.declared.system.System.{System}
use Rattle.isl_piece.specs.System.{HoldsSystem, IsSystemWithin, free_columns}
use Rattle.isl_elim.specs.Sample.{IsNowhere}
use Rattle.isl_greatest.specs.declared.decide.Decision.{Decision}
use Rattle.isl_greatest.specs.declared.decide.Decision.TheVariants.{Yes, No, Both}

-- a system over so many free columns that has a point
pub record IsContext (g : Gauge) (n : ℕ) (s : System) : Type 0 where
  pub within : IsSystemWithin g s
  pub free : free_columns s ≡ n
  pub somewhere : ¬ IsNowhere n (HoldsSystem s)

-- it holds exactly where the question does not
pub record IsNegation (g : Gauge) (question negated : System) : Type 0 where
  pub within : IsSystemWithin g negated
  pub free : free_columns negated ≡ free_columns question
  pub points : (v : List ℤ) → HoldsSystem negated v ↔ (¬ HoldsSystem question v)

-- the points of the context at which the question holds, and those at which it fails
pub record AreParted (g : Gauge) (n : ℕ) (context question inside outside : System) : Type 0 where
  pub first : IsContext g n inside
  pub second : IsContext g n outside
  pub holds : (v : List ℤ) → length v ≡ n → HoldsSystem inside v → HoldsSystem context v × HoldsSystem question v
  pub fails : (v : List ℤ) → length v ≡ n → HoldsSystem outside v → HoldsSystem context v × (¬ HoldsSystem question v)
  pub either : (v : List ℤ) → length v ≡ n → HoldsSystem context v → HoldsSystem question v → HoldsSystem inside v
  pub other : (v : List ℤ) → length v ≡ n → HoldsSystem context v → (¬ HoldsSystem question v) → HoldsSystem outside v

abbrev pub IsDecision : Gauge → ℕ → System → System → Decision → Type 0
IsDecision g n context question Yes = (v : List ℤ) → length v ≡ n → HoldsSystem context v → HoldsSystem question v
IsDecision g n context question No = (v : List ℤ) → length v ≡ n → HoldsSystem context v → ¬ HoldsSystem question v
IsDecision g n context question (Both inside outside) = AreParted g n context question inside outside
