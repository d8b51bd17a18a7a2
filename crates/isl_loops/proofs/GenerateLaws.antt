-- The items of a value, and the tree of all of them.
use Rattle.std.proofs.Common.{◌≡◌, sym, ap, ◌∙◌, subst, arith, ℕ, ◌<◌, ◌≤◌, ◌^◌, ℤ, pos, List, [], ◌∷◌, length, get_or}
use Rattle.std.specs.Prelude.{replicate, slice_get, IfOk, None, Some, Result, Ok, Err}
use Rattle.std.proofs.lemmas.Option.{same_Some}
use Rattle.std.specs.List.{zip, All, AllPairs}
use Rattle.std.proofs.lemmas.List.{length-map, length-replicate}
use Rattle.std.proofs.lemmas.List.Elements.{All-nil, All-weaker}
use Rattle.isl_meter.specs.Gauge.{Gauge, IsCharged, IsCutBy}
use Rattle.isl_meter.specs.declared.Cut.{Cut}
use Rattle.isl_meter.proofs.CutLemmas.{IsCutBy-after}
use Rattle.isl_space.specs.Name.{Name}
use Rattle.isl_space.specs.Names.{IsParameterList}
use Rattle.isl_space.specs.Valuation.{Valuation, values_of}
use Rattle.isl_space.proofs.ValuationLaws.{length-values_of, values_of-zip}
use Rattle.isl_piece.specs.declared.row.Row.{Row}
use Rattle.isl_piece.specs.Row.{IsRowWithin, IsWellFormed}
use Rattle.isl_frame.specs.Frame.{column_at, IsOwnFrame}
use Rattle.isl_loop.specs.declared.tree.Loop.{Loop}
use Rattle.isl_loop.specs.Formed.{IsLoopOver}
use Rattle.isl_loop.specs.Printable.{IsPrintable}
use Rattle.isl_loop.specs.Program.{IsProgram}
use Rattle.isl_loop.specs.Run.{trace}
use Rattle.isl_loop.proofs.NestLaws.{lists_same}
use Rattle.isl_loop.proofs.PrintLaws.{printable_depth, printable_named}
use Rattle.isl_nest.specs.Covered.{view_of, IsCovered}
use Rattle.isl_nest.specs.Item.{IsCalledBehind}
use Rattle.isl_nest.specs.Places.{IsPlace}
use Rattle.isl_nest.specs.declared.item.Item.{Item}
use Rattle.isl_nest.specs.declared.place.Place.{Place}
use Rattle.isl_nest.proofs.LevelLaws.{covered_later}
use Rattle.isl_schedule.specs.Refused.{IsRefused}
use Rattle.isl_schedule.specs.Schedule.{IsSchedule}
use Rattle.isl_schedule.specs.declared.fault.GenFault.TheVariants as gen_fault
use Rattle.isl_union.specs.KeptValue.{Has, KeptValue}
use Rattle.isl_schedule.specs.Due.{IsDue}
use Rattle.isl_schedule.specs.Good.{ListsCalls}
use Rattle.isl_calls.specs.Items.{AreItemsOf}
use Rattle.isl_loops.specs.Together.{AreApart, IsCalledBySome, IsOver, ListsAll}
use Rattle.isl_loops.proofs.StartLaws.{apart_behind, lists_at_params}

-- ---- the times
-- as many numbers as the first time has
pub first_times : (items : List Item) (first : Item) → slice_get items 0 ≡ Some first → All (λ a. All (λ b. a.times ≡ b.times) items) items
    → All (λ item. item.times ≡ first.times) items
first_times [] first read alike = All-nil (λ item. item.times ≡ first.times)
first_times (x ∷ items) first read alike = λ k d low.
    sym (alike 0 x (omega arith) k d low) ∙ ap (λ (item : Item). item.times) (same_Some x first read)

pub first_few : (items : List Item) (first : Item) → slice_get items 0 ≡ Some first → (most : ℕ) → All (λ item. item.times ≤ most) items
    → first.times ≤ most
first_few [] first read most all = cc
first_few (x ∷ items) first read most all =
    subst (λ (item : Item). item.times ≤ most) (same_Some x first read) (all 0 x (omega arith))

pub none_times : (items : List Item) → slice_get items 0 ≡ None → All (λ item. item.times ≡ 0) items
none_times [] read = All-nil (λ item. item.times ≡ 0)
none_times (x ∷ items) read = cc

-- ---- the items
module _ (g : Gauge) (value : KeptValue) (items : List Item) (are : AreItemsOf g value items) where
  -- while units are used
  pub items_later : (h : Gauge) → IsCharged g h → AreItemsOf h value items
  items_later h charged = record {
    covered = All-weaker (IsCovered g) (IsCovered h) (λ item is. covered_later g h item charged is) items are.covered;
    params = are.params;
    times = are.times;
    narrow = are.narrow;
    named = are.named;
    exact = are.exact;
    once = are.once;
    sets = are.sets;
    own = are.own;
  }

  pub items_over : (params times : ℕ) → params ≡ length value.params → All (λ item. item.times ≡ times) items
      → All (IsOver g params times) items
  items_over params times e same = λ k d low.
      record {
        covered = are.covered k d low;
        params_are = are.params k d low ∙ sym e;
        times_are = same k d low;
        named = are.named k d low;
      }

  -- distinct parameters may have any numbers, and at each the items never call the same at one time
  pub items_apart : (params : ℕ) → params ≡ length value.params → IsParameterList value.params → AllPairs (AreApart params) items
  items_apart params e names i j d below low =
      apart_behind params (get_or items i d) (get_or items j d) (λ front t width p q.
      let v : Valuation = zip value.params front in
      let valued : values_of value.params v ≡ front = values_of-zip value.params front names.distinct (sym (width ∙ e)) in
      are.once v t i j d below low
      (subst (λ (xs : List ℤ). IsCalledBehind (view_of (get_or items i d)) xs t) (sym valued) p)
      (subst (λ (xs : List ℤ). IsCalledBehind (view_of (get_or items j d)) xs t) (sym valued) q))

  -- the tree of all items behind the parameters lists the calls of the value
  pub lists_value : (place : Place) (tree : Loop) → place.variables ≡ length value.params → IsOwnFrame place.variables place.frame
      → place.context ≡ [] → ListsAll items place tree → ListsCalls value tree
  lists_value place tree e own bare lists v =
      let point = values_of value.params v in
      lists_same (IsCalledBySome items point) (IsDue (Has value v)) (trace tree point) (are.exact v)
      (lists_at_params items place tree own bare lists point (length-values_of value.params v ∙ sym e))

-- ---- the place
-- as many columns as parameters
pub own_long : (variables : ℕ) (frame : List Row) → IsOwnFrame variables frame → length frame ≡ variables
own_long variables frame own =
    let point = replicate variables (pos 0) in
    let width : length point ≡ variables = length-replicate variables (pos 0) in
    sym (length-map frame (column_at point)) ∙ ap (λ (xs : List ℤ). length xs) (own.columns point width) ∙ width

pub own_place : (g : Gauge) (place : Place) → IsOwnFrame place.variables place.frame → All (IsRowWithin g) place.frame
    → place.context ≡ [] → IsPlace g place
own_place g place own within bare =
    let long = own_long place.variables place.frame own in
    record {
      frame = own.framed;
      within = within;
      context = record {
        formed = subst (All (IsWellFormed place.variables)) (sym bare) (All-nil (IsWellFormed place.variables));
        within = subst (All (IsRowWithin g)) (sym bare) (All-nil (IsRowWithin g));
      };
      few = omega (arith, long);
    }

-- ---- the answer
-- the value was found to be a schedule, and then the work was cut
pub cut_later : (g h k : Gauge) (value : KeptValue) (cut : Cut) → IsSchedule value → IsCharged g h → IsCutBy h k cut
    → IsRefused value g k (gen_fault.Cut cut)
cut_later g h k value cut schedule charged by = (schedule.flat, schedule.one_form, IsCutBy-after g h k cut charged by)

-- ---- what is printed
pub program_made : (g : Gauge) → g.bits ≤ 127 → (params : List Name) (n : ℕ) → n ≡ length params → n < 2 ^ 64 → (r : Result Loop Cut)
    → IfOk r (IsLoopOver g n) → IfOk r (IsPrintable n) → IfOk r (IsProgram params)
program_made g bits params n e few (Ok tree) over printable =
    let deep = printable_depth n tree few printable in
    record {
      gauge = g;
      bits = bits;
      over = subst (λ (k : ℕ). IsLoopOver g k tree) e over;
      named = printable_named n tree printable;
      nested = omega (arith, deep);
    }
program_made g bits params n e few (Err cut) over printable = tt
