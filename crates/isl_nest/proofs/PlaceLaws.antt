-- Places.
use Rattle.std.proofs.Common.{refl, arith, ℕ, ◌+◌, ◌≤◌, ℤ, pos, List, [], ◌∷◌, ◌++◌, get_or}
use Rattle.std.proofs.Common.{length-append}
use Rattle.std.specs.Prelude.{map}
use Rattle.std.proofs.lemmas.List.{length-map}
use Rattle.std.proofs.lemmas.List.Elements.{All-append, All-cons, All-map, All-nil}
use Rattle.isl_meter.specs.Gauge.{Gauge, IsCharged}
use Rattle.isl_meter.proofs.LimitLemmas.{IsWithin-small}
use Rattle.isl_piece.specs.declared.row.Row.{Row}
use Rattle.isl_piece.specs.Row.{IsRowWithin, IsWellFormed}
use Rattle.isl_piece.specs.System.{widened}
use Rattle.isl_frame.specs.Frame.{own_column, IsFrame}
use Rattle.isl_frame.specs.Needed.{AreRowsOver}
use Rattle.isl_frame.proofs.FrameLaws.{variable_within, widened_formed, widened_within, with_variable_is}
use Rattle.isl_frame.proofs.NeededLaws.{over_later}
use Rattle.isl_bounds.proofs.PrunedLaws.{both_over}
use Rattle.isl_nest.specs.declared.place.Place.{Place}
use Rattle.isl_nest.specs.Item.{ItemView}
use Rattle.isl_nest.specs.Nest.{with_context, with_entry, with_loop, IsHere}
use Rattle.isl_nest.specs.Places.{IsPlace, Stands}

pub here_stands : (item : ItemView) (place : Place) (point : List ℤ) → IsHere item place point → Stands place point
here_stands item place point here = record { width = here.width; context = here.context; whole = here.whole }

-- while units are used
pub place_later : (g h : Gauge) (place : Place) → IsCharged g h → IsPlace g place → IsPlace h place
place_later g h place charged is = record {
  frame = is.frame;
  within = (over_later g h place.variables place.frame charged (record { formed = is.frame.formed; within = is.within })).within;
  context = over_later g h place.variables place.context charged is.context;
  few = is.few;
}

pub widened_over : (g : Gauge) (variables : ℕ) (rows : List Row) → 8 ≤ g.bits → AreRowsOver g variables rows
    → AreRowsOver g (variables + 1) (map widened rows)
widened_over g variables rows wide over = record {
  formed = All-map (IsWellFormed (variables + 1)) widened rows (λ k d l. widened_formed variables (get_or rows k d) (over.formed k d l));
  within = All-map (IsRowWithin g) widened rows
      (λ k d l. widened_within g (get_or rows k d) (over.within k d l) (IsWithin-small g (pos 0) wide (omega arith)));
}

module _ (g : Gauge) (place : Place) (is : IsPlace g place) where
  pub place_with_context : (rows : List Row) → AreRowsOver g place.variables rows → IsPlace g (with_context place rows)
  place_with_context rows over = record {
    frame = is.frame;
    within = is.within;
    context = both_over g place.variables place.context rows (place.context ++ rows) refl is.context over;
    few = is.few;
  }

  pub place_with_entry : (entry : Row) (rows : List Row) → IsFrame place.variables (place.frame ++ entry ∷ []) → IsRowWithin g entry
      → AreRowsOver g place.variables rows → IsPlace g (with_entry place entry rows)
  place_with_entry entry rows framed within over = record {
    frame = framed;
    within = All-append (IsRowWithin g) place.frame (entry ∷ []) is.within
        (All-cons (IsRowWithin g) entry [] within (All-nil (IsRowWithin g)));
    context = both_over g place.variables place.context rows (place.context ++ rows) refl is.context over;
    few = (let few = is.few in let long = length-append place.frame (entry ∷ []) in omega (arith, few, long));
  }

  pub place_with_loop : (rows : List Row) → 8 ≤ g.bits → AreRowsOver g (place.variables + 1) rows → IsPlace g (with_loop place rows)
  place_with_loop rows wide over = record {
    frame = (with_variable_is place.variables place.frame is.frame).framed;
    within = variable_within g place.variables place.frame wide is.within;
    context = both_over g (place.variables + 1) (map widened place.context) rows (map widened place.context ++ rows) refl
        (widened_over g place.variables place.context wide is.context) over;
    few =
        let few = is.few in
        let long = length-append (map widened place.frame) (own_column place.variables ∷ []) in
        let same = length-map place.frame widened in
        omega (arith, few, long, same);
  }
