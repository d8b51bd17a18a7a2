-- Trees under rows, and a body in a loop.
use Rattle.std.proofs.Common.{◌≡◌, ◌∙◌, refl, sym, ap, subst, ℕ, suc, ◌+◌, ◌≤◌, ℤ, pos, ◌<ℤ◌, List, [], ◌∷◌, ◌++◌, length}
use Rattle.std.specs.Prelude.{if◌then◌else◌}
use Rattle.std.specs.List.{All, sum_by}
use Rattle.std.proofs.lemmas.List.Elements.{All-append, All-nil}
use Rattle.isl_meter.specs.Gauge.{Gauge, IsWithin}
use Rattle.isl_piece.specs.declared.row.Row.{Row}
use Rattle.isl_piece.specs.Row.{IsRowWithin, IsWellFormed}
use Rattle.isl_piece.specs.Normal.{normal_row, Kept}
use Rattle.isl_ast.proofs.FormedLaws.{for_parts, if_parts}
use Rattle.isl_loop.specs.declared.tree.Expr.{Expr}
use Rattle.isl_loop.specs.declared.tree.Loop.{For, If, Loop}
use Rattle.isl_loop.specs.Expr.{expr_value}
use Rattle.isl_loop.specs.Formed.{IsExprOver, IsLoopOver, IsRowOver}
use Rattle.isl_loop.specs.Run.{each_in, idle_of, idle_turn, rows_hold, trace, turns_of, Event}
use Rattle.isl_loop.specs.Turns.{turns}
use Rattle.isl_loop.proofs.TreeLaws.{trace_of-For, trace_of-If}
use Rattle.isl_nest.specs.declared.around.Around.{Around}
use Rattle.isl_nest.specs.declared.nested.Nested.{Nested}
use Rattle.isl_nest.specs.Around.{turns_at}
use Rattle.isl_loop.specs.Depth.{depth_of}
use Rattle.isl_nest.specs.TurnsAt.{idle_at_turn, turns_at_turn}
use Rattle.isl_nest.proofs.CountLaws.{sum_same}
use Rattle.isl_nest.specs.LoopedNest.{IsLoopedNest}
use Rattle.isl_nest.specs.Places.{AreGuards}

-- ---- a tree under rows
module _ (asked rows : List Row) (inner tree : Loop) (rows_are : asked ≡ rows) (tree_is : inner ≡ tree) where
  pub under_trace : (point : List ℤ) → trace (If asked inner) point ≡ (if rows_hold rows point then trace tree point else [])
  under_trace point = rw (rows_are, tree_is) (trace_of-If rows tree point)

  pub under_over : (g : Gauge) (n : ℕ) → All (IsRowOver g n) rows → IsLoopOver g n tree → IsLoopOver g n (If asked inner)
  under_over g n over tree_over = (if_parts g n (If asked inner) asked rows inner tree refl (sym rows_are) (sym tree_is)).1 (over, tree_over)

-- ---- a loop
module _ (low high : Expr) (step made : ℤ) (inner body : Loop) (step_is : made ≡ step) (body_is : inner ≡ body) where
  pub for_trace : (point : List ℤ) → trace (For low high made inner) point
      ≡ each_in (λ x. trace body (point ++ x ∷ [])) (turns (expr_value low point) (expr_value high point) step)
  for_trace point = rw (step_is, body_is) (trace_of-For low high step body point)

  pub for_over : (g : Gauge) (n : ℕ) → IsExprOver g n low → IsExprOver g n high → pos 0 <ℤ step → IsWithin g step
      → IsLoopOver g (n + 1) body → IsLoopOver g n (For low high made inner)
  for_over g n over_low over_high positive within over =
      (for_parts g n (n + 1) (For low high made inner) low high made step inner body refl (sym body_is) (sym step_is) refl).1
      (over_low, over_high, (positive, within), over)

each_equal : (f h : ℤ → List Event) (xs : List ℤ) → ((x : ℤ) → f x ≡ h x) → each_in f xs ≡ each_in h xs
each_equal f h [] same = refl
each_equal f h (x ∷ xs) same = rw (same x, each_equal f h xs same) refl

module _ (around : Around) (body nested : Nested) (rows : List Row) (tree : Loop) (rows_are : rows ≡ around.guards ++ body.rows)
    (inner : (point : List ℤ) → trace tree point ≡ (if rows_hold rows point then trace body.tree point else []))
    (variables : ℕ) (outer : (point : List ℤ) → length point ≡ variables
    → trace nested.tree point ≡ each_in (λ x. trace tree (point ++ x ∷ [])) (turns_at around.head point)) where
  called : (point : List ℤ) → trace tree point ≡ (if rows_hold (around.guards ++ body.rows) point then trace body.tree point else [])
  called point = inner point ∙ ap (λ (rs : List Row). if rows_hold rs point then trace body.tree point else []) rows_are

  counted : (n : ℕ) (m : ℕ) (point : List ℤ) → n ≡ (if rows_hold rows point then m else 0)
      → n ≡ (if rows_hold (around.guards ++ body.rows) point then m else 0)
  counted n m point e = e ∙ ap (λ (rs : List Row). if rows_hold rs point then m else 0) rows_are

  pub looped_is : ((point : List ℤ) → turns_of tree point ≡ (if rows_hold rows point then turns_of body.tree point else 0))
      → ((point : List ℤ) → idle_of tree point ≡ (if rows_hold rows point then idle_of body.tree point else 0))
      → depth_of tree ≡ depth_of body.tree
      → ((point : List ℤ) → turns_at around.head point ≡ [] → trace nested.tree point ≡ [])
      → ((point : List ℤ) → length point ≡ variables → turns_of nested.tree point
      ≤ sum_by (λ x. 1 + turns_of tree (point ++ x ∷ [])) (turns_at around.head point))
      → ((point : List ℤ) → length point ≡ variables → idle_of nested.tree point
      ≤ sum_by (λ x. idle_turn (trace tree (point ++ x ∷ [])) + idle_of tree (point ++ x ∷ [])) (turns_at around.head point))
      → depth_of nested.tree ≡ suc (depth_of tree) → nested.rows ≡ [] → nested.inside ≡ around.inside
      → IsLoopedNest variables around body nested
  looped_is turned idle deep none all_turned all_idle deeper bare inside = record {
    rows = bare;
    inside = inside;
    none = none;
    calls = λ point long.
        outer point long
        ∙ each_equal (λ x. trace tree (point ++ x ∷ []))
        (λ x. if rows_hold (around.guards ++ body.rows) (point ++ x ∷ []) then trace body.tree (point ++ x ∷ []) else [])
        (turns_at around.head point) (λ x. called (point ++ x ∷ []));
    turned = λ point long. subst (λ (n : ℕ). turns_of nested.tree point ≤ n)
        (sum_same (λ x. 1 + turns_of tree (point ++ x ∷ []))
        (λ x. turns_at_turn (around.guards ++ body.rows) body.tree (point ++ x ∷ [])) (turns_at around.head point)
        (λ x. ap (λ (n : ℕ). 1 + n)
        (counted (turns_of tree (point ++ x ∷ [])) (turns_of body.tree (point ++ x ∷ [])) (point ++ x ∷ []) (turned (point ++ x ∷ [])))))
        (all_turned point long);
    idle = λ point long. subst (λ (n : ℕ). idle_of nested.tree point ≤ n)
        (sum_same (λ x. idle_turn (trace tree (point ++ x ∷ [])) + idle_of tree (point ++ x ∷ []))
        (λ x. idle_at_turn (around.guards ++ body.rows) body.tree (point ++ x ∷ [])) (turns_at around.head point)
        (λ x. idle_same (point ++ x ∷ []))) (all_idle point long);
    depth = deeper ∙ ap suc deep;
  }
    where
      idle_same : (point : List ℤ) → idle_turn (trace tree point) + idle_of tree point
          ≡ idle_at_turn (around.guards ++ body.rows) body.tree point
      idle_same point =
          ap (λ (es : List Event). idle_turn es + idle_of tree point) (called point)
          ∙ ap (λ (n : ℕ). idle_turn (if rows_hold (around.guards ++ body.rows) point then trace body.tree point else []) + n)
          (counted (idle_of tree point) (idle_of body.tree point) point (idle point))

rows_over : (g : Gauge) (n : ℕ) (rows : List Row) → AreGuards g n rows → All (IsRowOver g n) rows
rows_over g n rows is = λ k d l. record { shape = is.over.formed k d l; within = is.over.within k d l; normal = is.normal k d l }

pub asked_over : (g : Gauge) (n : ℕ) (guards rows both : List Row) → both ≡ guards ++ rows → AreGuards g n guards → AreGuards g n rows
    → All (IsRowOver g n) both
asked_over g n guards rows both e first second =
    rw e (All-append (IsRowOver g n) guards rows (rows_over g n guards first) (rows_over g n rows second))

pub nothing_over : (g : Gauge) (n : ℕ) → AreGuards g n []
nothing_over g n = record {
  over = record { formed = All-nil (IsWellFormed n); within = All-nil (IsRowWithin g) };
  normal = All-nil (λ r. normal_row r ≡ Kept r);
}
