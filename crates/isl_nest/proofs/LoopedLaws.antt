-- A column that a loop goes through.
use Rattle.std.proofs.Common.{◌≡◌, ◌↔◌, refl, sym, ap, ◌∙◌, subst, arith, Bool, true, false, ◌+◌, ◌<◌, ◌≤◌, ℤ}
use Rattle.std.proofs.Common.{List, [], ◌∷◌, ◌++◌, length, length-append}
use Rattle.std.specs.Prelude.{if◌then◌else◌, map}
use Rattle.std.specs.List.{All, Contains}
use Rattle.std.proofs.lemmas.Bool.{false≢true}
use Rattle.std.proofs.lemmas.List.{length-map}
use Rattle.std.proofs.lemmas.List.Elements.{All-append}
use Rattle.isl_math.proofs.ListLaws.{All-parts}
use Rattle.isl_piece.specs.declared.row.Row.{Row}
use Rattle.isl_piece.specs.Row.{HoldsRow, IsWellFormed}
use Rattle.isl_piece.specs.System.{HoldRows, widened}
use Rattle.isl_piece.proofs.DefinedLaws.{widened_hold}
use Rattle.isl_frame.specs.Frame.{column_at, columns_at}
use Rattle.isl_frame.proofs.FrameLaws.{with_variable_is}
use Rattle.isl_loop.specs.Nest.{Lists, Timed}
use Rattle.isl_loop.specs.Run.{each_in, rows_hold, trace, Event}
use Rattle.isl_loop.proofs.NestLaws.{each_lists, lists_none, lists_same}
use Rattle.isl_loop.proofs.RowLaws.{rows_tell}
use Rattle.isl_nest.specs.declared.nested.Nested.{Nested}
use Rattle.isl_nest.specs.declared.place.Place.{Place}
use Rattle.isl_nest.specs.Covered.{IsItem}
use Rattle.isl_nest.specs.Item.{HoldFront, IsCalledBehind, ItemView}
use Rattle.isl_nest.specs.Nest.{with_loop, IsHere, IsLoopedAt, IsLoopOf, ListsNest}
use Rattle.isl_nest.proofs.BehindLaws.{begun_behind, behind_less, behind_next, calls_precede}
use Rattle.isl_nest.proofs.FixedLaws.{front_more, hold_false, hold_true}

module _ (item : ItemView) (place : Place) (turns : List ℤ → List ℤ) (inside guards : List Row)
    (looped : IsLoopedAt item place turns inside guards) where
  -- where the guards hold at a turn, the place of the body holds
  pub here_inside : (point : List ℤ) (x : ℤ) → IsHere item place point → Contains (turns point) x → HoldRows guards (point ++ x ∷ [])
      → IsHere item (with_loop place (inside ++ guards)) (point ++ x ∷ [])
  here_inside point x here turn holds =
      let made = with_variable_is place.variables place.frame looped.framed in
      let H : Row → Type 0 = λ r. HoldsRow r (point ++ x ∷ []) in
      let formed : All (IsWellFormed (length point)) place.context =
      subst (λ n. All (IsWellFormed n) place.context) (sym here.width) looped.formed.0 in
      let columns = made.columns point x here.width in
      let own = looped.own point x here turn holds in record {
        width = length_more point x here.width;
        context = All-append H (map widened place.context) (inside ++ guards)
            ((widened_hold place.context point x formed).1 here.context)
            (All-append H inside guards (looped.known point x here.width turn) holds);
        whole = (made.whole point x here.width).1 here.whole;
        front = subst (HoldFront item.rows) (sym columns)
            (front_more item.rows (columns_at place.frame point) x here.front own);
      }
    where
      length_more : (point : List ℤ) (x : ℤ) → length point ≡ place.variables → length (point ++ x ∷ []) ≡ place.variables + 1
      length_more point x e = length-append point (x ∷ []) ∙ ap (λ n. n + 1) e

  module _ (is : IsItem item) (nested body : Nested) (bare : nested.rows ≡ [])
      (tree : IsLoopOf item place nested.tree turns (guards ++ body.rows) body.tree)
      (low : item.params ≤ length place.frame) (room : length place.frame < item.params + item.levels)
      (body_lists : ListsNest item (with_loop place (inside ++ guards)) body) where
    module _ (point : List ℤ) (here : IsHere item place point) where
      abbrev columns : List ℤ
      columns = columns_at place.frame point

      abbrev Q : ℤ → Timed → Type 0
      Q x = IsCalledBehind item (columns ++ x ∷ [])

      abbrev at_turn : ℤ → List Event
      at_turn x = if rows_hold (guards ++ body.rows) (point ++ x ∷ []) then trace body.tree (point ++ x ∷ []) else []

      long : length columns ≡ length place.frame
      long = length-map place.frame (column_at point)

      formed : All (IsWellFormed (place.variables + 1)) guards
      formed = (All-parts (IsWellFormed (place.variables + 1)) inside guards looped.formed.1).1

      turn_lists : (x : ℤ) → Contains (turns point) x → Lists (Q x) (at_turn x)
      turn_lists x turn = by (rows_hold guards (point ++ x ∷ [])) refl
        where
          decided : (rows_hold guards (point ++ x ∷ []) ≡ true → HoldRows guards (point ++ x ∷ []))
              × (HoldRows guards (point ++ x ∷ []) → rows_hold guards (point ++ x ∷ []) ≡ true)
          decided = rows_tell guards (point ++ x ∷ []) (λ k d l. (formed k d l).modulus)

          by : (b : Bool) → rows_hold guards (point ++ x ∷ []) ≡ b → Lists (Q x) (at_turn x)
          by true e =
              let there = here_inside point x here turn (decided.0 e) in
              let same = (with_variable_is place.variables place.frame looped.framed).columns point x here.width in
              subst (λ (b : Bool). Lists (Q x) (if b then trace body.tree (point ++ x ∷ []) else []))
              (sym (hold_true guards body.rows (point ++ x ∷ []) e))
              (subst (λ (xs : List ℤ). Lists (IsCalledBehind item xs)
              (if rows_hold body.rows (point ++ x ∷ []) then trace body.tree (point ++ x ∷ []) else []))
              same (body_lists (point ++ x ∷ []) there))
          by false e =
              subst (λ (b : Bool). Lists (Q x) (if b then trace body.tree (point ++ x ∷ []) else []))
              (sym (hold_false guards body.rows (point ++ x ∷ []) e))
              (lists_none (Q x) (λ t p. false≢true (sym e ∙ decided.1
              (looped.cover point x here (begun_behind item (columns ++ x ∷ []) t p)).1)))

      some_turn : (t : Timed) → ((x : ℤ) × Contains (turns point) x × Q x t) ↔ IsCalledBehind item columns t
      some_turn t = (
        (λ z. behind_less item columns t z.0 z.2),
        (λ p.
            let room_here : length columns < item.params + item.levels = (let e = long in omega (arith, e, room)) in
            let next = behind_next item columns t room_here p in
            (next.0, (looped.cover point next.0 here (begun_behind item (columns ++ next.0 ∷ []) t next.1)).0, next.1)),
      )

      all_turns : Lists (IsCalledBehind item columns) (each_in at_turn (turns point))
      all_turns =
          let low_here : item.params ≤ length columns = (let e = long in omega (arith, e, low)) in
          let room_here : length columns < item.params + item.levels = (let e = long in omega (arith, e, room)) in
          lists_same (λ t. (x : ℤ) × Contains (turns point) x × Q x t) (IsCalledBehind item columns) (each_in at_turn (turns point)) some_turn
          (each_lists Q at_turn (turns point) (looped.up point) turn_lists (calls_precede item is columns low_here room_here))

    pub lists_looped : ListsNest item place nested
    lists_looped point here =
        subst (λ (rows : List Row). Lists (IsCalledBehind item (columns_at place.frame point))
        (if rows_hold rows point then trace nested.tree point else [])) (sym bare)
        (subst (Lists (IsCalledBehind item (columns_at place.frame point))) (sym (tree.calls point here)) (all_turns point here))
