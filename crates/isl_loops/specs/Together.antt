-- public: loops of several items: in one loop, or one after another. (Bastoul, code generation in the polyhedral model; isl manual, on
-- abstract syntax trees)
use Rattle.std.specs.Prelude.{◌≡◌, ℕ, ◌≤◌, ℤ, ◌<ℤ◌, List, [], ◌∷◌, ◌++◌, All, AllPairs, Any, IfSome, length}
use Rattle.isl_meter.specs.Gauge.{Gauge}
use Rattle.isl_space.specs.Name.{IsLiteralName}
use Rattle.isl_frame.specs.Frame.{columns_at}
use Rattle.isl_loop.specs.declared.tree.Loop.{Loop}
use Rattle.isl_loop.specs.Nest.{Lists, Timed}
use Rattle.isl_loop.specs.Run.{trace}
use Rattle.isl_nest.specs.Covered.{view_of, IsCovered}
use Rattle.isl_nest.specs.Item.{IsBegun, IsCalledBehind}
use Rattle.isl_nest.specs.Places.{Stands}
use Rattle.isl_nest.specs.declared.item.Item.{Item}
use Rattle.isl_nest.specs.declared.place.Place.{Place}

-- an item with covers, over so many parameters, whose times have so many numbers; what it calls has no name, or one that may stand in a literal
pub record IsOver (g : Gauge) (params times : ℕ) (item : Item) : Type 0 where
  pub covered : IsCovered g item
  pub params_are : item.params ≡ params
  pub times_are : item.times ≡ times
  pub named : IfSome item.name IsLiteralName

-- ---- calls
-- some item calls this behind the columns
abbrev pub IsCalledBySome : List Item → List ℤ → Timed → Type 0
IsCalledBySome items columns t = Any (λ item. IsCalledBehind (view_of item) columns t) items

-- the columns begin a point of some item
abbrev pub SomeBegins : List Item → List ℤ → Type 0
SomeBegins items columns = Any (λ item. IsBegun (view_of item) columns) items

-- the tree lists the calls of all items behind the place's columns, in the order of their times, wherever the place stands
abbrev pub ListsAll : List Item → Place → Loop → Type 0
ListsAll items place tree = (point : List ℤ) → Stands place point
    → Lists (IsCalledBySome items (columns_at place.frame point)) (trace tree point)

-- ---- two items
-- behind the same parameters they never call the same at one time
abbrev pub AreApart : ℕ → Item → Item → Type 0
AreApart params a b = (columns : List ℤ) (t : Timed) → params ≤ length columns → IsCalledBehind (view_of a) columns t
    → ¬ IsCalledBehind (view_of b) columns t

-- behind the columns the next number of each point of the one is less than that of each point of the other
abbrev pub PrecedesBehind : List ℤ → Item → Item → Type 0
PrecedesBehind columns a b = (x y : ℤ) → IsBegun (view_of a) (columns ++ x ∷ []) → IsBegun (view_of b) (columns ++ y ∷ []) → x <ℤ y

-- so wherever the place stands
abbrev pub ComesBefore : Place → Item → Item → Type 0
ComesBefore place a b = (point : List ℤ) → Stands place point → PrecedesBehind (columns_at place.frame point) a b

-- ---- groups
-- all of the items come before each of the others
abbrev pub AllComeBefore : Place → List Item → List Item → Type 0
AllComeBefore place items others = All (λ a. All (ComesBefore place a) others) items

-- groups of which each comes before all later ones
abbrev pub AreOrdered : Place → List (List Item) → Type 0
AreOrdered place groups = AllPairs (AllComeBefore place) groups
