-- No more loops stand in one another than there are levels.
use Rattle.std.proofs.Common.{inl, inr, arith, ℕ, zero, suc, ◌≤◌, ◌++◌}
use Rattle.isl_nest.specs.declared.nested.Nested.{Nested}
use Rattle.isl_nest.specs.declared.place.Place.{Place}
use Rattle.isl_loop.specs.Depth.{depth_of}
use Rattle.isl_nest.specs.Item.{ItemView}
use Rattle.isl_nest.specs.Nest.{with_entry, with_loop, IsNest}

pub nest_depth : (item : ItemView) (left : ℕ) (place : Place) (nested : Nested) → IsNest item left place nested
    → depth_of nested.tree ≤ left
nest_depth item zero place nested nest = let none = nest.2.depth in omega (arith, none)
nest_depth item (suc left) place nested (inl s) =
    let few = nest_depth item left (with_entry place s.0 s.1) (record { rows = s.2; tree = nested.tree; inside = nested.inside }) s.5 in
    omega (arith, few)
nest_depth item (suc left) place nested (inr s) =
    let few = nest_depth item left (with_loop place (nested.inside ++ s.1)) s.2 s.6 in
    let one = s.5.depth in
    omega (arith, few, one)
