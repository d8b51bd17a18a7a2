-- public: good loops: each call of what has a time once, in the order of their times. (isl manual, on abstract syntax trees)
use Rattle.std.specs.Prelude.{◌↔◌, ◌≢◌, ℤ, List, AllPairs, Contains}
use Rattle.isl_math.specs.Order.{IsBefore}
use Rattle.isl_loop.specs.Run.{Event}

-- the calls are those that have a time, each once, and no later one's time is before an earlier one's
pub record AreGood (At : Event → List ℤ → Type 0) (calls : List Event) : Type 0 where
  pub exact : (e : Event) → Contains calls e ↔ ((time : List ℤ) × At e time)
  pub once : AllPairs (λ d e. d ≢ e) calls
  pub ordered : AllPairs (λ d e. (s t : List ℤ) → At d s → At e t → ¬ IsBefore t s) calls
