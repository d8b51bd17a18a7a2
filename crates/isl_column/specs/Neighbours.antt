-- inner: numbers in a row from which some are left out, for one row after another that a modulus must not divide. (Jacobsthal's function, for
-- any periods)
use Rattle.std.specs.Prelude.{◌≡◌, ℕ, ◌-◌, ℤ, List, ◌++◌, All, Any, drop, length}
use Rattle.isl_piece.specs.declared.row.Row.{Row}
use Rattle.isl_column.specs.declared.neighbours.Choice.{Choice}
use Rattle.isl_shadows.specs.Neighbours.{IsMetAmong, others_than}

-- numbers and a level of their own
abbrev pub IsChoice : List ℤ → ℕ → Choice → Type 0
IsChoice numbers level choice = (choice.numbers.items ≡ numbers) × (choice.level ≡ level)

-- choices of the level were pushed: for each of some numbers those of all the numbers that leave something else when divided by the period
pub record ArePushedFor (period : ℤ) (level : ℕ) (numbers some : List ℤ) (old new : List Choice) : Type 0 where
  pub more : List Choice
  pub pushed : new ≡ old ++ more
  pub each : All (λ n. Any (IsChoice (others_than period n numbers) level) more) some

-- for each of the numbers
abbrev pub ArePushed : ℤ → ℕ → List ℤ → List Choice → List Choice → Type 0
ArePushed period level numbers old new = ArePushedFor period level numbers numbers old new

-- where each choice leaves a number that meets the rows from its level on, one of the numbers meets all rows
abbrev pub AreEnough : ℕ → ℕ → List Row → List Choice → List ℤ → Type 0
AreEnough columns col rows choices numbers =
    (point : List ℤ) (x : ℤ) → length point ≡ columns - 1 → All (λ c. IsMetAmong (drop c.level rows) col point x c.numbers.items) choices
    → IsMetAmong rows col point x numbers
