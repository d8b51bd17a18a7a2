-- public: what loops execute: their calls, in order; their turns, and those in which nothing is called.
-- (isl manual, on abstract syntax trees; Bastoul, code generation in the polyhedral model)
use Rattle.std.specs.Prelude.{ℕ, ◌+◌, ℤ, pos, Bool, not, if◌then◌else◌, int_lt, List, [], ◌∷◌, ◌++◌, map, Option}
use Rattle.std.specs.List.{list_all, sum_by}
use Rattle.std.specs.Ordering.{int_eq}
use Rattle.isl_math.specs.Divide.{floor_mod}
use Rattle.isl_piece.specs.declared.row.RowKind.{RowKind}
use Rattle.isl_piece.specs.declared.row.RowKind.TheVariants.{Zero, AtLeast, Divides, NotDivides}
use Rattle.isl_piece.specs.declared.row.Row.{Row}
use Rattle.isl_piece.specs.Row.{value_at}
use Rattle.isl_loop.specs.declared.tree.Loop.{Loop, Block', For', If', Call, Row_of-Loop, end_of-Loop, more_of-Loop}
use Rattle.isl_loop.specs.Expr.{expr_value}
use Rattle.isl_loop.specs.Turns.{turns}

-- what is called, and the numbers that it gets
pub record Event : Type 0 where
  pub name : Option (List ℕ)
  pub args : List ℤ

-- whether a row holds at a point: the test of `HoldsRow`
abbrev pub holds_value : RowKind → ℤ → ℤ → Bool
holds_value Zero k z = int_eq z (pos 0)
holds_value AtLeast k z = not (int_lt z (pos 0))
holds_value Divides k z = int_eq (floor_mod z k) (pos 0)
holds_value NotDivides k z = not (int_eq (floor_mod z k) (pos 0))

abbrev pub row_holds : List ℤ → Row → Bool
row_holds point r = holds_value r.kind r.k (value_at r point)

abbrev pub rows_hold : List Row → List ℤ → Bool
rows_hold rows point = list_all (row_holds point) rows

-- the lists of each number, one behind another
abbrev pub each_in : {X : Type 0} → (ℤ → List X) → List ℤ → List X
each_in f [] = []
each_in f (x ∷ xs) = f x ++ each_in f xs

-- ---- calls
abbrev mutual
  pub trace : Loop → List ℤ → List Event
  trace (Block' s row) point = traces row point
  trace (For' low high step s body) point =
      each_in (λ x. traces body (point ++ x ∷ [])) (turns (expr_value low point) (expr_value high point) step)
  trace (If' rows s body) point = if rows_hold rows point then traces body point else []
  trace (Call name args) point = record { name = name; args = map (λ e. expr_value e point) args } ∷ []

  -- of parts one behind another; a body is a row of one
  pub traces : {m : _} → Row_of-Loop m → List ℤ → List Event
  traces end_of-Loop point = []
  traces (more_of-Loop part rest) point = trace part point ++ traces rest point

-- ---- turns
abbrev mutual
  pub turns_of : Loop → List ℤ → ℕ
  turns_of (Block' s row) point = turns_in row point
  turns_of (For' low high step s body) point =
      sum_by (λ x. 1 + turns_in body (point ++ x ∷ [])) (turns (expr_value low point) (expr_value high point) step)
  turns_of (If' rows s body) point = if rows_hold rows point then turns_in body point else 0
  turns_of (Call name args) point = 0

  pub turns_in : {m : _} → Row_of-Loop m → List ℤ → ℕ
  turns_in end_of-Loop point = 0
  turns_in (more_of-Loop part rest) point = turns_of part point + turns_in rest point

-- one, where nothing is called
abbrev pub idle_turn : List Event → ℕ
idle_turn [] = 1
idle_turn (call ∷ calls) = 0

-- ---- turns in which nothing is called
abbrev mutual
  pub idle_of : Loop → List ℤ → ℕ
  idle_of (Block' s row) point = idle_in row point
  idle_of (For' low high step s body) point =
      sum_by (λ x. idle_turn (traces body (point ++ x ∷ [])) + idle_in body (point ++ x ∷ []))
      (turns (expr_value low point) (expr_value high point) step)
  idle_of (If' rows s body) point = if rows_hold rows point then idle_in body point else 0
  idle_of (Call name args) point = 0

  pub idle_in : {m : _} → Row_of-Loop m → List ℤ → ℕ
  idle_in end_of-Loop point = 0
  idle_in (more_of-Loop part rest) point = idle_of part point + idle_in rest point
