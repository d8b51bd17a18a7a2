-- inner: the elements of values at the valuations of a region.
use Rattle.std.specs.Prelude.{◌≡◌, ◌↔◌, List, [], All}
use Rattle.isl_meter.specs.Gauge.{Gauge}
use Rattle.isl_space.specs.Element.{Element}
use Rattle.isl_space.specs.Name.{Name}
use Rattle.isl_space.specs.Valuation.{Valuation, values_of}
use Rattle.isl_piece.specs.declared.system.System.{System}
use Rattle.isl_elim.specs.Elimination.{HoldsAtAny}
use Rattle.isl_union.specs.KeptValue.{KeptValue, Has, HasNoDefinitions, IsKeptValue}
use Rattle.isl_union.specs.Numbers.{IsWithinLimit}
use Rattle.isl_assumed.specs.Values.{AreLiveAt}

-- the elements of the value where one of the systems holds
pub record IsUnder (g : Gauge) (value : KeptValue) (names : List Name) (systems : List System) (under : KeptValue) : Type 0 where
  pub kept : IsKeptValue under
  pub params : under.params ≡ value.params
  pub elements : (valuation : Valuation) (element : Element)
      → Has under valuation element ↔ (Has value valuation element × HoldsAtAny systems (values_of names valuation))
  pub definitions : HasNoDefinitions value → All (λ s. s.definitions ≡ []) systems → HasNoDefinitions under
  pub numbers : IsWithinLimit g under

-- the pieces of the value that have an element where one of the systems holds
pub record IsLiveValue (g : Gauge) (value : KeptValue) (names : List Name) (systems : List System) (live : KeptValue) : Type 0 where
  pub kept : IsKeptValue live
  pub params : live.params ≡ value.params
  pub pieces : AreLiveAt (λ valuation. HoldsAtAny systems (values_of names valuation)) value.params value.pieces live.pieces
