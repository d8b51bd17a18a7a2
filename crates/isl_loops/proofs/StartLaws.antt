-- Items that are apart, and trees behind the parameters alone.
use Rattle.std.proofs.Common.{◌≡◌, sym, subst, ℕ, ℤ, arith, List, [], ◌++◌, length, take, drop}
use Rattle.std.proofs.lemmas.List.{length-take-le, take-append-drop}
use Rattle.isl_piece.specs.declared.row.Row.{Row}
use Rattle.isl_piece.specs.System.{HoldRows}
use Rattle.isl_frame.specs.Frame.{IsOwnFrame}
use Rattle.isl_loop.specs.declared.tree.Loop.{Loop}
use Rattle.isl_loop.specs.Nest.{Lists, Timed}
use Rattle.isl_loop.specs.Run.{trace}
use Rattle.isl_nest.specs.Covered.{view_of}
use Rattle.isl_nest.specs.Item.{IsCalledBehind}
use Rattle.isl_nest.specs.declared.item.Item.{Item}
use Rattle.isl_nest.specs.declared.place.Place.{Place}
use Rattle.isl_loops.specs.Together.{AreApart, IsCalledBySome, ListsAll}
use Rattle.isl_loops.proofs.CallLaws.{behind_front}

-- what never calls the same behind the parameters alone, never does behind more columns
pub apart_behind : (params : ℕ) (a b : Item)
    → ((front : List ℤ) (t : Timed) → length front ≡ params → IsCalledBehind (view_of a) front t → ¬ IsCalledBehind (view_of b) front t)
    → AreApart params a b
apart_behind params a b apart columns t low p q =
    let front = take params columns in
    let more = drop params columns in
    let split : columns ≡ front ++ more = sym (take-append-drop params columns) in
    apart front t (length-take-le params columns low)
    (behind_front (view_of a) front more t (subst (λ (xs : List ℤ). IsCalledBehind (view_of a) xs t) split p))
    (behind_front (view_of b) front more t (subst (λ (xs : List ℤ). IsCalledBehind (view_of b) xs t) split q))

-- behind the parameters alone the tree lists the calls of all items at each of their numbers
pub lists_at_params : (items : List Item) (place : Place) (tree : Loop) → IsOwnFrame place.variables place.frame → place.context ≡ []
    → ListsAll items place tree → (point : List ℤ) → length point ≡ place.variables → Lists (IsCalledBySome items point) (trace tree point)
lists_at_params items place tree own bare lists point width =
    subst (λ (xs : List ℤ). Lists (IsCalledBySome items xs) (trace tree point)) (own.columns point width)
    (lists point (record {
      width = width;
      context = subst (λ (rows : List Row). HoldRows rows point) (sym bare) (λ i r low. absurd (omega (arith, low)));
      whole = own.whole point width;
    }))
