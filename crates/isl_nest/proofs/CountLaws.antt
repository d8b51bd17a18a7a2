-- Turns, idle turns and depth of trees under rows, and of loops.
use mathlib.Core.Former.{Count}
use Rattle.std.proofs.Common.{◌≡◌, ◌∙◌, refl, ap, arith, ℕ, suc, ◌+◌, ℤ, List, [], ◌∷◌, ◌++◌, append-nil, length}
use Rattle.std.specs.Prelude.{if◌then◌else◌}
use Rattle.std.specs.List.{sum_by}
use Rattle.std.proofs.lemmas.List.Sums.{sum_by-cons}
use Rattle.isl_piece.specs.declared.row.Row.{Row}
use Rattle.isl_loop.specs.declared.tree.Expr.{Expr}
use Rattle.isl_loop.specs.declared.tree.Loop.{Block, For, If, Loop, Row_of-Loop, end_of-Loop, more_of-Loop}
use Rattle.isl_loop.specs.declared.tree.Loop.{items-the_row-Loop, items_hidden-the_row-Loop-0}
use Rattle.isl_loop.specs.declared.tree.Loop.TheBlock.{hidden-the_row-Loop-0, hidden-the_row-Loop-1}
use Rattle.isl_loop.specs.Expr.{expr_value}
use Rattle.isl_loop.specs.Lists.{calls_of, turns_through}
use Rattle.isl_loop.specs.Run.{idle_in, idle_of, idle_turn, rows_hold, trace, traces, turns_of, Event}
use Rattle.isl_loop.specs.Turns.{turns}
use Rattle.isl_loop.proofs.TreeLaws.{trace_of-Block, turns_of-Block, turns_of-For, turns_of-If}
use Rattle.isl_loop.specs.Depth.{depth_in, depth_of}
use Rattle.isl_nest.specs.Separate.{IsStill}

-- ---- sums
pub sum_same : (f h : ℤ → ℕ) (xs : List ℤ) → ((x : ℤ) → f x ≡ h x) → sum_by f xs ≡ sum_by h xs
sum_same f h [] same = refl
sum_same f h (x ∷ xs) same = rw (sum_by-cons f x xs, sum_by-cons h x xs, same x, sum_same f h xs same) refl

-- ---- bodies
one_trace : (body : Loop) (point : List ℤ) → traces (hidden-the_row-Loop-1 body) point ≡ trace body point
unfolding hidden-the_row-Loop-1 denote.Hole.Carrier.hidden
one_trace body point = append-nil (trace body point)

one_idle : (body : Loop) (point : List ℤ) → idle_in (hidden-the_row-Loop-1 body) point ≡ idle_of body point
unfolding hidden-the_row-Loop-1 denote.Hole.Carrier.hidden
one_idle body point = omega arith

one_depth : (body : Loop) → depth_in (hidden-the_row-Loop-1 body) ≡ depth_of body
unfolding hidden-the_row-Loop-1 denote.Hole.Carrier.hidden
one_depth body = omega arith

-- ---- nothing
pub empty_trace : (parts : List Loop) → parts ≡ [] → (point : List ℤ) → trace (Block parts) point ≡ []
empty_trace parts e point = trace_of-Block parts point ∙ ap (λ (l : List Loop). calls_of l point) e

empty_turned : (parts : List Loop) → parts ≡ [] → (point : List ℤ) → turns_of (Block parts) point ≡ 0
empty_turned parts e point = turns_of-Block parts point ∙ ap (λ (l : List Loop). turns_through l point) e

pub none_idle : (m : Count) (row : Row_of-Loop m) (point : List ℤ) → items-the_row-Loop m row ≡ [] → idle_in row point ≡ 0
none_idle m end_of-Loop point e = refl
none_idle m (more_of-Loop part row) point e = let l = ap length e in absurd (omega (arith, l))

pub none_deep : (m : Count) (row : Row_of-Loop m) → items-the_row-Loop m row ≡ [] → depth_in row ≡ 0
none_deep m end_of-Loop e = refl
none_deep m (more_of-Loop part row) e = let l = ap length e in absurd (omega (arith, l))

empty_idle : (parts : List Loop) → parts ≡ [] → (point : List ℤ) → idle_of (Block parts) point ≡ 0
empty_idle parts e point = none_idle _ (hidden-the_row-Loop-0 parts) point (items_hidden-the_row-Loop-0 parts ∙ e)

empty_depth : (parts : List Loop) → parts ≡ [] → depth_of (Block parts) ≡ 0
empty_depth parts e = none_deep _ (hidden-the_row-Loop-0 parts) (items_hidden-the_row-Loop-0 parts ∙ e)

pub empty_still : (parts : List Loop) → parts ≡ [] → IsStill (Block parts)
empty_still parts e = record {
  calls = empty_trace parts e;
  turned = empty_turned parts e;
  idle = empty_idle parts e;
  depth = empty_depth parts e;
}

-- ---- a tree under rows
module _ (asked rows : List Row) (inner tree : Loop) (rows_are : asked ≡ rows) (tree_is : inner ≡ tree) where
  pub under_turned : (point : List ℤ) → turns_of (If asked inner) point ≡ (if rows_hold rows point then turns_of tree point else 0)
  under_turned point = rw (rows_are, tree_is) (turns_of-If rows tree point)

  pub under_idle : (point : List ℤ) → idle_of (If asked inner) point ≡ (if rows_hold rows point then idle_of tree point else 0)
  under_idle point = rw (rows_are, tree_is) (ap (λ (n : ℕ). if rows_hold rows point then n else 0) (one_idle tree point))

  pub under_depth : depth_of (If asked inner) ≡ depth_of tree
  under_depth = rw (rows_are, tree_is) (one_depth tree)

-- ---- a loop
module _ (low high : Expr) (step made : ℤ) (inner body : Loop) (step_is : made ≡ step) (body_is : inner ≡ body) where
  pub for_turned : (point : List ℤ) → turns_of (For low high made inner) point
      ≡ sum_by (λ x. 1 + turns_of body (point ++ x ∷ [])) (turns (expr_value low point) (expr_value high point) step)
  for_turned point = rw (step_is, body_is) (turns_of-For low high step body point)

  pub for_idle : (point : List ℤ) → idle_of (For low high made inner) point
      ≡ sum_by (λ x. idle_turn (trace body (point ++ x ∷ [])) + idle_of body (point ++ x ∷ []))
      (turns (expr_value low point) (expr_value high point) step)
  for_idle point = rw (step_is, body_is) (sum_same
      (λ x. idle_turn (traces (hidden-the_row-Loop-1 body) (point ++ x ∷ [])) + idle_in (hidden-the_row-Loop-1 body) (point ++ x ∷ []))
      (λ x. idle_turn (trace body (point ++ x ∷ [])) + idle_of body (point ++ x ∷ []))
      (turns (expr_value low point) (expr_value high point) step)
      (λ x. ap (λ (es : List Event). idle_turn es + idle_in (hidden-the_row-Loop-1 body) (point ++ x ∷ [])) (one_trace body (point ++ x ∷ []))
      ∙ ap (λ (n : ℕ). idle_turn (trace body (point ++ x ∷ [])) + n) (one_idle body (point ++ x ∷ []))))

  pub for_depth : depth_of (For low high made inner) ≡ suc (depth_of body)
  for_depth = rw body_is (ap suc (one_depth body))
