-- Trees under rows, and loops whose bodies ask what does not change in front of them.
use Rattle.std.proofs.Common.{◌≡◌, ◌≢◌, ◌∙◌, refl, sym, ap, subst, arith, Bool, true, false, ◌&&◌, ℕ, suc, ◌+◌, ◌≤◌, ℤ, pos}
use Rattle.std.proofs.Common.{List, [], ◌∷◌, ◌++◌, append-nil, length}
use Rattle.std.specs.Prelude.{if◌then◌else◌}
use Rattle.std.specs.List.{All, sum_by}
use Rattle.std.proofs.lemmas.List.Elements.{All-append, All-nil}
use Rattle.isl_meter.specs.Gauge.{Gauge}
use Rattle.isl_piece.specs.declared.row.Row.{Row}
use Rattle.isl_piece.specs.Row.{coef_at}
use Rattle.isl_loop.specs.declared.tree.Loop.{If, Loop}
use Rattle.isl_loop.specs.Formed.{IsLoopOver, IsRowOver}
use Rattle.isl_loop.specs.Printable.{IsPrintable}
use Rattle.isl_loop.specs.Run.{each_in, idle_of, idle_turn, row_holds, rows_hold, trace, turns_of, Event}
use Rattle.isl_loop.proofs.TreeLaws.{each_same, over-If}
use Rattle.isl_loop.proofs.PrintLaws.{printable_of-If}
use Rattle.isl_nest.specs.Changing.{asked_first, AsksWhatChanges}
use Rattle.isl_loop.specs.Depth.{depth_of}
use Rattle.isl_nest.specs.Opened.{AreParted, IsOpened, RunsUnder}
use Rattle.isl_nest.proofs.ChangingLaws.{changing_of-If}
use Rattle.isl_nest.proofs.CountLaws.{sum_same, under_depth, under_idle, under_turned}
use Rattle.isl_nest.proofs.NestedLaws.{under_over, under_trace}

-- ---- rows behind one another
hold_both : (rows more : List Row) (point : List ℤ) → rows_hold (rows ++ more) point ≡ (rows_hold rows point && rows_hold more point)
hold_both [] more point = refl
hold_both (r ∷ rows) more point = by (row_holds point r) (hold_both rows more point)
  where
    by : (b : Bool) → rows_hold (rows ++ more) point ≡ (rows_hold rows point && rows_hold more point)
        → (b && rows_hold (rows ++ more) point) ≡ ((b && rows_hold rows point) && rows_hold more point)
    by true e = e
    by false e = refl

chosen_twice : {X : Type 0} (a b both : Bool) (v w u : X) → both ≡ (a && b) → u ≡ (if b then v else w)
    → (if both then v else w) ≡ (if a then u else w)
chosen_twice true b both v w u e f = ap (λ (c : Bool). if c then v else w) e ∙ sym f
chosen_twice false b both v w u e f = ap (λ (c : Bool). if c then v else w) e

runs_if : (asked rows : List Row) (inner tree : Loop) → asked ≡ rows → inner ≡ tree → RunsUnder rows tree (If asked inner)
runs_if asked rows inner tree rows_are tree_is = record {
  calls = under_trace asked rows inner tree rows_are tree_is;
  turned = under_turned asked rows inner tree rows_are tree_is;
  idle = under_idle asked rows inner tree rows_are tree_is;
  depth = under_depth asked rows inner tree rows_are tree_is;
}

pub runs_none : (rows : List Row) (tree : Loop) → rows ≡ [] → RunsUnder rows tree tree
runs_none rows tree none = rw none (record { calls = λ point. refl; turned = λ point. refl; idle = λ point. refl; depth = refl })

runs_through : (rows more : List Row) (inner tree made : Loop) → RunsUnder (rows ++ more) inner made → RunsUnder more inner tree
    → RunsUnder rows tree made
runs_through rows more inner tree made whole below = record {
  calls = λ point.
      whole.calls point ∙ chosen_twice (rows_hold rows point) (rows_hold more point) (rows_hold (rows ++ more) point)
      (trace inner point) [] (trace tree point) (hold_both rows more point) (below.calls point);
  turned = λ point.
      whole.turned point ∙ chosen_twice (rows_hold rows point) (rows_hold more point) (rows_hold (rows ++ more) point)
      (turns_of inner point) 0 (turns_of tree point) (hold_both rows more point) (below.turned point);
  idle = λ point.
      whole.idle point ∙ chosen_twice (rows_hold rows point) (rows_hold more point) (rows_hold (rows ++ more) point)
      (idle_of inner point) 0 (idle_of tree point) (hold_both rows more point) (below.idle point);
  depth = whole.depth ∙ sym below.depth;
}

-- ---- a tree, taken apart
pub opened_if : (tree : Loop) (rows : List Row) (body inner : Loop) → tree ≡ If rows body → inner ≡ body → IsOpened tree rows inner
opened_if tree rows body inner is same = rw (is, same) (record {
  runs = runs_if rows rows body body refl refl;
  first = refl;
  over = λ g n over. over-If g n rows body over;
  changing = λ n asks. (changing_of-If n rows body).0 asks;
  printable = λ n h. (printable_of-If n rows body).0 h;
})

-- ---- a tree under more rows
module _ (rows more all : List Row) (tree inner boxed : Loop) (opened : IsOpened tree more inner) (all_are : all ≡ rows ++ more)
    (boxed_is : boxed ≡ inner) where
  pub joined_runs : RunsUnder rows tree (If all boxed)
  joined_runs = runs_through rows more inner tree (If all boxed) (runs_if all (rows ++ more) boxed inner all_are boxed_is) opened.runs

  pub joined_over : (g : Gauge) (n : ℕ) → All (IsRowOver g n) rows → IsLoopOver g n tree → IsLoopOver g n (If all boxed)
  joined_over g n rows_over tree_over =
      let parts = opened.over g n tree_over in
      under_over all (rows ++ more) boxed inner all_are boxed_is g n
      (All-append (IsRowOver g n) rows more rows_over parts.0) parts.1

  pub joined_changing : (n : ℕ) → AsksWhatChanges n tree → AsksWhatChanges n (If all boxed)
  joined_changing n asks =
      (changing_of-If n all boxed).1
      (subst (λ (l : Loop). (asked_first l ≡ []) × AsksWhatChanges n l) (sym boxed_is) (opened.changing n asks))

  pub joined_printable : (n : ℕ) → IsPrintable n tree → IsPrintable n (If all boxed)
  joined_printable n h = (printable_of-If n all boxed).1 (subst (λ (l : Loop). IsPrintable n l) (sym boxed_is) (opened.printable n h))

-- ---- a loop
each_none : (f : ℤ → List Event) (xs : List ℤ) → ((x : ℤ) → f x ≡ []) → each_in f xs ≡ []
each_none f [] none = refl
each_none f (x ∷ xs) none = rw (none x, each_none f xs none) refl

-- what a loop over turns counts where a body does
abbrev turns_over : Loop → List ℤ → List ℤ → ℕ
turns_over body point xs = sum_by (λ x. 1 + turns_of body (point ++ x ∷ [])) xs

abbrev idle_over : Loop → List ℤ → List ℤ → ℕ
idle_over body point xs = sum_by (λ x. idle_turn (trace body (point ++ x ∷ [])) + idle_of body (point ++ x ∷ [])) xs

module _ (variables : ℕ) (rows outside inside : List Row) (body tree inner made whole : Loop) (xs : List ℤ) (point : List ℤ)
    (long : length point ≡ variables) (parted : AreParted variables rows outside inside) (opened : IsOpened body rows tree)
    (within : RunsUnder inside tree inner) (around : RunsUnder outside made whole) where
  held : (x : ℤ) → rows_hold outside point ≡ true → rows_hold rows (point ++ x ∷ []) ≡ rows_hold inside (point ++ x ∷ [])
  held x e = parted.hold point x long ∙ ap (λ (b : Bool). b && rows_hold inside (point ++ x ∷ [])) e

  failed : (x : ℤ) → rows_hold outside point ≡ false → rows_hold rows (point ++ x ∷ []) ≡ false
  failed x e = parted.hold point x long ∙ ap (λ (b : Bool). b && rows_hold inside (point ++ x ∷ [])) e

  same_calls : (x : ℤ) → rows_hold outside point ≡ true → trace inner (point ++ x ∷ []) ≡ trace body (point ++ x ∷ [])
  same_calls x e =
      within.calls (point ++ x ∷ [])
      ∙ ap (λ (b : Bool). if b then trace tree (point ++ x ∷ []) else []) (sym (held x e)) ∙ sym (opened.runs.calls (point ++ x ∷ []))

  same_turns : (x : ℤ) → rows_hold outside point ≡ true → turns_of inner (point ++ x ∷ []) ≡ turns_of body (point ++ x ∷ [])
  same_turns x e =
      within.turned (point ++ x ∷ [])
      ∙ ap (λ (b : Bool). if b then turns_of tree (point ++ x ∷ []) else 0) (sym (held x e)) ∙ sym (opened.runs.turned (point ++ x ∷ []))

  same_idle : (x : ℤ) → rows_hold outside point ≡ true → idle_of inner (point ++ x ∷ []) ≡ idle_of body (point ++ x ∷ [])
  same_idle x e =
      within.idle (point ++ x ∷ [])
      ∙ ap (λ (b : Bool). if b then idle_of tree (point ++ x ∷ []) else 0) (sym (held x e)) ∙ sym (opened.runs.idle (point ++ x ∷ []))

  no_calls : (x : ℤ) → rows_hold outside point ≡ false → trace body (point ++ x ∷ []) ≡ []
  no_calls x e =
      opened.runs.calls (point ++ x ∷ []) ∙ ap (λ (b : Bool). if b then trace tree (point ++ x ∷ []) else []) (failed x e)

  pub front_calls : trace made point ≡ each_in (λ x. trace inner (point ++ x ∷ [])) xs
      → trace whole point ≡ each_in (λ x. trace body (point ++ x ∷ [])) xs
  front_calls loop = around.calls point ∙ by (rows_hold outside point) refl
    where
      by : (b : Bool) → rows_hold outside point ≡ b
          → (if b then trace made point else []) ≡ each_in (λ x. trace body (point ++ x ∷ [])) xs
      by true e =
          loop ∙ each_same (λ x. trace inner (point ++ x ∷ [])) (λ x. trace body (point ++ x ∷ [])) xs (λ x. same_calls x e)
      by false e = sym (each_none (λ x. trace body (point ++ x ∷ [])) xs (λ x. no_calls x e))

  pub front_turned : turns_of made point ≡ turns_over inner point xs → turns_of whole point ≤ turns_over body point xs
  front_turned loop =
      subst (λ (n : ℕ). n ≤ turns_over body point xs) (sym (around.turned point)) (by (rows_hold outside point) refl)
    where
      by : (b : Bool) → rows_hold outside point ≡ b → (if b then turns_of made point else 0) ≤ turns_over body point xs
      by true e =
          let same = loop ∙ sum_same (λ x. 1 + turns_of inner (point ++ x ∷ [])) (λ x. 1 + turns_of body (point ++ x ∷ [])) xs
          (λ x. ap (λ (n : ℕ). 1 + n) (same_turns x e)) in
          omega (arith, same)
      by false e = omega arith

  pub front_idle : idle_of made point ≡ idle_over inner point xs → idle_of whole point ≤ idle_over body point xs
  front_idle loop =
      subst (λ (n : ℕ). n ≤ idle_over body point xs) (sym (around.idle point)) (by (rows_hold outside point) refl)
    where
      by : (b : Bool) → rows_hold outside point ≡ b → (if b then idle_of made point else 0) ≤ idle_over body point xs
      by true e =
          let same = loop ∙ sum_same (λ x. idle_turn (trace inner (point ++ x ∷ [])) + idle_of inner (point ++ x ∷ []))
          (λ x. idle_turn (trace body (point ++ x ∷ [])) + idle_of body (point ++ x ∷ [])) xs
          (λ x. ap (λ (es : List Event). idle_turn es + idle_of inner (point ++ x ∷ [])) (same_calls x e)
          ∙ ap (λ (n : ℕ). idle_turn (trace body (point ++ x ∷ [])) + n) (same_idle x e)) in
          omega (arith, same)
      by false e = omega arith

-- without a turn nothing is called
pub front_none : (outside : List Row) (made whole : Loop) (point : List ℤ) → RunsUnder outside made whole → trace made point ≡ []
    → trace whole point ≡ []
front_none outside made whole point around none = around.calls point ∙ by (rows_hold outside point)
  where
    by : (b : Bool) → (if b then trace made point else []) ≡ []
    by true = none
    by false = refl
