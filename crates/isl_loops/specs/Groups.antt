-- inner: groups of items.
use Rattle.std.specs.Prelude.{◌↔◌, ℕ, List, All, AllPairs, Contains, flat_map, map}
use Rattle.std.specs.Global.{Vec}
use Rattle.isl_meter.specs.Gauge.{Gauge}
use Rattle.isl_nest.specs.declared.item.Item.{Item}
use Rattle.isl_nest.specs.declared.place.Place.{Place}
use Rattle.isl_loops.specs.declared.groups.Extent.{Extent}
use Rattle.isl_loops.specs.Together.{AreApart, AreOrdered, IsOver}

abbrev pub items_of : Vec Item → List Item
items_of group = group.items

-- the items of all groups
abbrev pub members_of : List (Vec Item) → List Item
members_of groups = flat_map items_of groups

abbrev pub AreGroupsOver : Gauge → Extent → List (Vec Item) → Type 0
AreGroupsOver g extent groups = All (λ group. All (IsOver g extent.params extent.times) group.items) groups

-- Groups of the items, no others, and in each the items stand apart if all do. They are ordered if the former ones were.
pub record AreGroupsOf (place : Place) (items : List Item) (former groups : List (Vec Item)) : Type 0 where
  pub same : (item : Item) → Contains (members_of groups) item ↔ Contains items item
  pub apart : (params : ℕ) → AllPairs (AreApart params) items → All (λ group. AllPairs (AreApart params) group.items) groups
  pub ordered : AreOrdered place (map items_of former) → AreOrdered place (map items_of groups)
