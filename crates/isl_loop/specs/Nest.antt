-- inner: what calls list, in the order of time: the invariant of code generation.
use Rattle.std.specs.Prelude.{◌≡◌, ◌↔◌, ◌≢◌, ℤ, List, map, AllPairs, Contains}
use Rattle.isl_math.specs.Order.{IsBefore}
use Rattle.isl_loop.specs.Run.{Event}

-- a time, and the call that comes at it
abbrev pub Timed : Type 0
Timed = List ℤ × Event

-- s may stand before t: they are two, and t's time is not before
abbrev pub MayPrecede : Timed → Timed → Type 0
MayPrecede s t = (s ≢ t) × (¬ IsBefore t.0 s.0)

-- The calls are exactly those that P has, each once, and no later one's time is before an earlier one's.
pub record Lists (P : Timed → Type 0) (calls : List Event) : Type 0 where
  pub timed : List Timed
  pub called : map (λ t. t.1) timed ≡ calls
  pub exact : (t : Timed) → Contains timed t ↔ P t
  pub ordered : AllPairs MayPrecede timed
