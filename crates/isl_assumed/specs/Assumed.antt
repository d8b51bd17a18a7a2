-- public: what is assumed of parameters: a set of valuations that depends on some names alone. (isl manual, on parameter domains)
use Rattle.std.specs.Prelude.{◌≡◌, ◌+◌, ◌*◌, ◌≤◌, List, [], All, Any, length}
use Rattle.isl_meter.specs.Gauge.{Gauge}
use Rattle.isl_space.specs.Name.{Name}
use Rattle.isl_space.specs.Valuation.{Valuation, values_of}
use Rattle.isl_piece.specs.declared.system.System.{System}
use Rattle.isl_piece.specs.System.{SystemPassesLimit}
use Rattle.isl_elim.specs.Elimination.{HoldsAtAny}
use Rattle.isl_assumed.specs.Region.{IsRegion}
use Rattle.isl_assumed.specs.declared.assumed.Assumed.{Assumed}
use Rattle.isl_assumed.specs.declared.assumed.Assumed.TheVariants.{Nothing, Where}

-- the names that it depends on
abbrev pub names_of : Assumed → List Name
names_of Nothing = []
names_of (Where region) = region.params

-- the systems of which one holds wherever a valuation is assumed; none where nothing is assumed
abbrev pub systems_of : Assumed → List System
systems_of Nothing = []
systems_of (Where region) = region.systems.items

-- a unit at least was used for each system of the one with each of the other
abbrev pub PaysPairs : Assumed → Assumed → Gauge → Gauge → Type 0
PaysPairs assumed other old new = old.units + length (systems_of assumed) * length (systems_of other) ≤ new.units

-- the valuation is assumed: one of the systems holds at the numbers of the names
abbrev pub Assumes : Assumed → Valuation → Type 0
Assumes Nothing valuation = Unit {0}
Assumes (Where region) valuation = HoldsAtAny region.systems.items (values_of region.params valuation)

-- some assumed valuation has the same numbers of these names
abbrev pub AssumesSome : Assumed → List Name → Valuation → Type 0
AssumesSome assumed names valuation = (other : Valuation) × (values_of names other ≡ values_of names valuation) × Assumes assumed other

-- it depends on exactly these names, unless nothing is assumed
abbrev pub IsOver : List Name → Assumed → Type 0
IsOver names Nothing = Unit {0}
IsOver names (Where region) = region.params ≡ names

-- no column is defined
abbrev pub IsPlain : Assumed → Type 0
IsPlain Nothing = Unit {0}
IsPlain (Where region) = All (λ s. s.definitions ≡ []) region.systems.items

-- its names are ones that a value may declare, and its systems normal ones, each with a point, within the limit
abbrev pub IsSound : Gauge → Assumed → Type 0
IsSound g Nothing = Unit {0}
IsSound g (Where region) = IsRegion g region.params region.systems.items

-- a form of one of the systems passes the limit at the numbers of the valuation
abbrev pub PassesLimitAt : Gauge → Assumed → Valuation → Type 0
PassesLimitAt g Nothing valuation = ⊥
PassesLimitAt g (Where region) valuation = Any (λ s. SystemPassesLimit g s (values_of region.params valuation)) region.systems.items
