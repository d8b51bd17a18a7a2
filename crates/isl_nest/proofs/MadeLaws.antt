-- What rows tell makes the shape of a nest.
use Rattle.std.proofs.Common.{◌≡◌, inl, inr, refl, sym, ap, ◌∙◌, subst, arith, ℕ, suc, ◌+◌, ◌<◌, ℤ, List, [], ◌∷◌, ◌++◌}
use Rattle.std.proofs.Common.{length, length-append}
use Rattle.std.proofs.lemmas.List.{length-map, map-append}
use Rattle.std.proofs.lemmas.List.Elements.{All-append}
use Rattle.isl_meter.specs.Gauge.{Gauge}
use Rattle.isl_piece.specs.declared.row.Row.{Row}
use Rattle.isl_piece.specs.Row.{IsWellFormed}
use Rattle.isl_piece.specs.System.{HoldRows}
use Rattle.isl_frame.specs.Frame.{column_at, columns_at}
use Rattle.isl_frame.proofs.FrameLaws.{with_variable_is}
use Rattle.isl_loop.specs.Expr.{expr_value}
use Rattle.isl_loop.specs.Turns.{turn_count}
use Rattle.isl_loop.proofs.TurnLaws.{from_up}
use Rattle.isl_bounds.specs.Bound.{HoldSome}
use Rattle.isl_nest.specs.declared.around.Around.{Around}
use Rattle.isl_nest.specs.declared.nested.Nested.{Nested}
use Rattle.isl_nest.specs.declared.place.Place.{Place}
use Rattle.isl_nest.specs.declared.told.Told.{Told}
use Rattle.isl_nest.specs.Around.{turns_at, IsAround, IsAroundNothing}
use Rattle.isl_nest.specs.Covered.{IsCover}
use Rattle.isl_nest.specs.Equality.{IsSaidBy, MayTell}
use Rattle.isl_nest.specs.Item.{HoldOwn, IsBegun, ItemView}
use Rattle.isl_nest.specs.LoopedNest.{IsLoopedNest}
use Rattle.isl_nest.specs.Naming.{AreNaming}
use Rattle.isl_nest.specs.Nest.{with_entry, with_loop, IsFixedAt, IsLoopedAt, IsLoopOf, IsNest, IsNowhere}
use Rattle.isl_nest.specs.Places.{IsPlace}
use Rattle.isl_nest.specs.Told.{IsTold, IsUntold}
use Rattle.isl_nest.proofs.BehindLaws.{begun_next}
use Rattle.isl_nest.proofs.FixedLaws.{begun_own, here_entry}
use Rattle.isl_nest.proofs.LoopedLaws.{here_inside}
use Rattle.isl_nest.proofs.NamingLaws.{own_holds}
use Rattle.isl_nest.proofs.PlaceLaws.{here_stands}
use Rattle.isl_nest.proofs.StridingLaws.{own_named, own_striding}

module _ (g : Gauge) (item : ItemView) (place : Place) (is_place : IsPlace g place) (room : length place.frame < item.params + item.levels)
    (own : List Row) (naming : AreNaming (length place.frame + 1) (length place.frame + 1) item.rows own) (systems : List (List Row))
    (cover : IsCover g item (length place.frame + 1) systems) where
  long : (point : List ℤ) → length (columns_at place.frame point) ≡ length place.frame
  long point = length-map place.frame (column_at point)

  one_longer : (point : List ℤ) (x : ℤ) → length (columns_at place.frame point ++ x ∷ []) ≡ length place.frame + 1
  one_longer point x = length-append (columns_at place.frame point) (x ∷ []) ∙ ap (λ n. n + 1) (long point)

  -- at numbers that begin a point the own rows and a system hold
  begun_holds : (point : List ℤ) (x : ℤ) → IsBegun item (columns_at place.frame point ++ x ∷ [])
      → HoldRows own (columns_at place.frame point ++ x ∷ []) × HoldSome systems (columns_at place.frame point ++ x ∷ [])
  begun_holds point x begun =
      let front = columns_at place.frame point ++ x ∷ [] in (
        (own_holds item.rows own (length place.frame + 1) naming front (one_longer point x)).1 (begun_own item front begun),
        cover.begun front (one_longer point x) begun,
      )

  own_at : (point : List ℤ) (x : ℤ) → HoldRows own (columns_at place.frame point ++ x ∷ [])
      → HoldOwn item.rows (columns_at place.frame point ++ x ∷ [])
  own_at point x holds =
      (own_holds item.rows own (length place.frame + 1) naming (columns_at place.frame point ++ x ∷ []) (one_longer point x)).0 holds

  next : (point : List ℤ) → IsBegun item (columns_at place.frame point)
      → (x : ℤ) × IsBegun item (columns_at place.frame point ++ x ∷ [])
  next point begun =
      begun_next item (columns_at place.frame point) (let e = long point in omega (arith, e, room)) begun

  -- ---- a column that an equality tells
  module _ (equality : Row) (said : IsSaidBy own systems equality) where
    pub untold_nowhere : IsUntold place equality own → IsNowhere item place
    untold_nowhere none point here begun =
        let y = next point begun in
        let h = begun_holds point y.0 y.1 in
        none point y.0 (here_stands item place point here) (said (columns_at place.frame point ++ y.0 ∷ []) h.0 h.1) h.0

    module _ (told : Told) (is : IsTold g place equality own told) (may : MayTell item place equality) where
      pub fixed_at : IsFixedAt item place told.entry told.rows
      fixed_at = record {
        framed = is.framed;
        formed = is.guards.over.formed;
        only = λ point x here begun.
            let stands = here_stands item place point here in
            let h = begun_holds point x begun in
            let s = (is.solved point x stands).0 (said (columns_at place.frame point ++ x ∷ []) h.0 h.1) in (
              s.1,
              (is.rows point stands).1 (s.0, subst (λ y. HoldRows own (columns_at place.frame point ++ y ∷ [])) s.1 h.0),
            );
        own = λ point here holds.
            let h = (is.rows point (here_stands item place point here)).0 holds in
            (h.0, own_at point (column_at point told.entry) h.1);
        form = elim may [ inl form ↦ inl (is.form form) | inr other ↦ inr other ];
      }

      pub fixed_nowhere : IsNowhere item (with_entry place told.entry told.rows) → IsNowhere item place
      fixed_nowhere none point here begun =
          let y = next point begun in
          let only = fixed_at.only point y.0 here y.1 in
          let there = here_entry item place told.entry told.rows fixed_at point here only.1 in
          let same : columns_at (place.frame ++ told.entry ∷ []) point ≡ columns_at place.frame point ++ column_at point told.entry ∷ [] =
          map-append (column_at point) place.frame (told.entry ∷ []) in
          none point there (subst (IsBegun item) (sym same)
          (subst (λ z. IsBegun item (columns_at place.frame point ++ z ∷ [])) only.0 y.1))

      pub fixed_nest : (left : ℕ) (nested made : Nested) → IsNest item left (with_entry place told.entry told.rows) nested
          → made ≡ record { rows = told.rows ++ nested.rows; tree = nested.tree; inside = nested.inside } → IsNest item (suc left) place made
      fixed_nest left nested made inner e = rw e (inl (told.entry, told.rows, nested.rows, fixed_at, refl, inner))

  -- ---- a column that a loop goes through
  pub nothing_nowhere : IsAroundNothing place own systems → IsNowhere item place
  nothing_nowhere none point here begun =
      let y = next point begun in
      let h = begun_holds point y.0 y.1 in
      none point y.0 (here_stands item place point here) h.0 h.1

  module _ (around : Around) (is : IsAround g place own systems around) where
    pub looped_at : IsLoopedAt item place (turns_at around.head) around.inside around.guards
    looped_at = record {
      framed = is_place.frame;
      formed = (
        is_place.context.formed,
        All-append (IsWellFormed (place.variables + 1)) around.inside around.guards is.over.inside.formed is.over.guards.over.formed,
      );
      up = λ point. from_up (expr_value around.head.low point) around.head.step
          (turn_count (expr_value around.head.low point) (expr_value around.head.high point) around.head.step) is.over.positive;
      cover = λ point x here begun.
          let h = begun_holds point x begun in
          is.cover point x (here_stands item place point here) h.0 h.1;
      own = λ point x here turn guarded. own_at point x (is.own point x (here_stands item place point here) turn guarded);
      known = is.known;
      full = λ striding point x here turn.
          is.full (own_named place.frame item.rows own naming) (own_striding place.frame item.rows own naming striding) point x
          (here_stands item place point here) turn;
    }

    pub looped_nowhere : (rows : List Row) → rows ≡ around.inside ++ around.guards → IsNowhere item (with_loop place rows)
        → IsNowhere item place
    looped_nowhere rows e none point here begun =
        let y = next point begun in
        let c = looped_at.cover point y.0 here y.1 in
        let there = here_inside item place (turns_at around.head) around.inside around.guards looped_at point y.0 here c.0 c.1 in
        let same = (with_variable_is place.variables place.frame is_place.frame).columns point y.0 here.width in
        (subst (λ (rs : List Row). IsNowhere item (with_loop place rs)) e none) (point ++ y.0 ∷ []) there
        (subst (IsBegun item) (sym same) y.1)

    pub looped_nest : (left : ℕ) (rows : List Row) (body made : Nested) → rows ≡ around.inside ++ around.guards
        → IsNest item left (with_loop place rows) body → IsLoopedNest place.variables around body made → IsNest item (suc left) place made
    looped_nest left rows body made e inner tree =
        inr (turns_at around.head, around.guards, body, looped, tree.rows, loop, there)
      where
        looped : IsLoopedAt item place (turns_at around.head) made.inside around.guards
        looped = subst (λ (ins : List Row). IsLoopedAt item place (turns_at around.head) ins around.guards) (sym tree.inside) looped_at

        loop : IsLoopOf item place made.tree (turns_at around.head) (around.guards ++ body.rows) body.tree
        loop = record {
          calls = λ point here. tree.calls point here.width;
          none = tree.none;
          turned = tree.turned;
          idle = tree.idle;
          depth = tree.depth;
        }

        there : IsNest item left (with_loop place (made.inside ++ around.guards)) body
        there = subst (λ (rs : List Row). IsNest item left (with_loop place rs) body)
            (e ∙ ap (λ (ins : List Row). ins ++ around.guards) (sym tree.inside)) inner
