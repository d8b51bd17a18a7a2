-- What each form of loop lists.
use Rattle.std.proofs.Common.{◌≡◌, ◌↔◌, ◌⊎◌, refl, ℤ, pos, ◌<ℤ◌, Bool, true, false}
use Rattle.std.proofs.Common.{List, [], ◌∷◌, ◌++◌}
use Rattle.std.specs.List.{Contains}
use Rattle.isl_piece.specs.declared.row.Row.{Row}
use Rattle.isl_loop.specs.declared.tree.Expr.{Expr}
use Rattle.isl_loop.specs.declared.tree.Loop.{Loop, For', If', Row_of-Loop, more_of-Loop}
use Rattle.isl_loop.specs.Expr.{expr_value}
use Rattle.isl_loop.specs.Turns.{turns, turn_count}
use Rattle.isl_loop.specs.Run.{Event, each_in, trace, traces, rows_hold}
use Rattle.isl_loop.specs.Nest.{Timed, MayPrecede, Lists}
use Rattle.isl_loop.proofs.TurnLaws.{from_up}
use Rattle.isl_loop.proofs.NestLaws.{lists_same, lists_none, lists_append, each_lists}

-- a loop lists what is listed at some turn
pub for_lists : (P : Timed → Type 0) (Q : ℤ → Timed → Type 0) (low high : Expr) (step : ℤ) (m : _) (body : _) (loop : Loop) (point : List ℤ)
    → loop ≡ For' low high step m body → pos 0 <ℤ step
    → ((x : ℤ) → Contains (turns (expr_value low point) (expr_value high point) step) x → Lists (Q x) (traces body (point ++ x ∷ [])))
    → ((x y : ℤ) (s t : Timed) → x <ℤ y → Q x s → Q y t → MayPrecede s t)
    → ((t : Timed) → ((x : ℤ) × Contains (turns (expr_value low point) (expr_value high point) step) x × Q x t) ↔ P t)
    → Lists P (trace loop point)
for_lists P Q low high step m body loop point e p turn across is =
    let f : ℤ → List Event = λ x. traces body (point ++ x ∷ []) in
    let xs = turns (expr_value low point) (expr_value high point) step in
    rw e (lists_same (λ t. (x : ℤ) × Contains xs x × Q x t) P (each_in f xs) is
    (each_lists Q f xs
    (from_up (expr_value low point) step (turn_count (expr_value low point) (expr_value high point) step) p) turn across))

-- under rows, what is listed where they hold; nothing may be there where they don't
pub if_lists : (P : Timed → Type 0) (rows : List Row) (m : _) (body : _) (loop : Loop) (point : List ℤ) → loop ≡ If' rows m body
    → (rows_hold rows point ≡ true → Lists P (traces body point)) → (rows_hold rows point ≡ false → (t : Timed) → ¬ P t)
    → Lists P (trace loop point)
if_lists P rows m body loop point is holds fails = rw is (by (rows_hold rows point) refl)
  where
    by : (b : Bool) → rows_hold rows point ≡ b → Lists P (trace (If' rows m body) point)
    by true e = rw e (holds e)
    by false e = rw e (lists_none P (fails e))

-- parts that may stand one before the other
pub parts_list : (P Q : Timed → Type 0) (m : _) (part : Loop) (rest : Row_of-Loop m) (point : List ℤ) → Lists P (trace part point)
    → Lists Q (traces rest point) → ((s t : Timed) → P s → Q t → MayPrecede s t)
    → Lists (λ t. P t ⊎ Q t) (traces (more_of-Loop part rest) point)
parts_list P Q m part rest point first more cross = lists_append P Q (trace part point) (traces rest point) first more cross
