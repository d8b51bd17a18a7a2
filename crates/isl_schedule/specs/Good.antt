-- public: trees of loops that are good for a value, and what is answered of one. (isl manual, on code generation)
use Rattle.std.specs.Prelude.{ℤ, List, Result, MatchResult, length}
use Rattle.isl_meter.specs.Gauge.{Gauge, IsCharged}
use Rattle.isl_space.specs.Valuation.{Valuation, values_of}
use Rattle.isl_loop.specs.declared.tree.Loop.{Loop}
use Rattle.isl_loop.specs.Formed.{IsLoopOver}
use Rattle.isl_loop.specs.Good.{AreGood}
use Rattle.isl_loop.specs.Nest.{Lists}
use Rattle.isl_loop.specs.Run.{Event, trace}
use Rattle.isl_union.specs.KeptValue.{KeptValue, Has}
use Rattle.isl_schedule.specs.Refused.{IsRefused}
use Rattle.isl_schedule.specs.declared.fault.GenFault.{GenFault}
use Rattle.isl_schedule.specs.Due.{IsDue}

-- the call of a point that the value tells to be visited at these numbers
abbrev pub HasCallAt : KeptValue → Valuation → Event → List ℤ → Type 0
HasCallAt value valuation event time = IsDue (Has value valuation) (time, event)

-- at every valuation the tree calls each point that is visited once, and nothing else, and no later call's time is before an earlier one's
abbrev pub IsGoodTree : KeptValue → Loop → Type 0
IsGoodTree value tree = (valuation : Valuation) → AreGood (HasCallAt value valuation) (trace tree (values_of value.params valuation))

-- at every valuation the calls of the tree are those that are due, in the order of their times
abbrev pub ListsCalls : KeptValue → Loop → Type 0
ListsCalls value tree = (valuation : Valuation) → Lists (IsDue (Has value valuation)) (trace tree (values_of value.params valuation))

-- a good tree over the parameters, for which units alone were used; or the first cause why there is none
abbrev pub IsGenerated : KeptValue → Gauge → Gauge → Result Loop GenFault → Type 0
IsGenerated value old new result = MatchResult result
    (λ tree. IsGoodTree value tree × IsLoopOver old (length value.params) tree × IsCharged old new) (IsRefused value old new)
