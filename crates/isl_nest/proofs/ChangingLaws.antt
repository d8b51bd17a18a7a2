-- Trees that ask in loops only what changes, and rows that are asked first.
use mathlib.Core.Former.{Count}
use Rattle.std.proofs.Common.{◌≡◌, ◌≢◌, ◌↔◌, refl, sym, subst, ℕ, ◌+◌, ℤ, pos, ◌<ℤ◌, List, []}
use Rattle.std.specs.List.{All}
use Rattle.std.proofs.lemmas.List.Elements.{All-head, All-nil, All-tail}
use Rattle.isl_piece.specs.declared.row.Row.{Row}
use Rattle.isl_piece.specs.Row.{coef_at}
use Rattle.isl_loop.specs.declared.tree.Expr.{Expr}
use Rattle.isl_loop.specs.declared.tree.Loop.{Block, For, If, Loop, Row_of-Loop, end_of-Loop, more_of-Loop}
use Rattle.isl_loop.specs.declared.tree.Loop.{items-the_row-Loop, items_hidden-the_row-Loop-0}
use Rattle.isl_loop.specs.declared.tree.Loop.TheBlock.{hidden-the_row-Loop-0, hidden-the_row-Loop-1}
use Rattle.isl_nest.specs.Changing.{asked_first, asked_within, AskWhatChanges, AsksWhatChanges}

pub changing_of-If : (n : ℕ) (rows : List Row) (body : Loop)
    → AsksWhatChanges n (If rows body) ↔ ((asked_first body ≡ []) × AsksWhatChanges n body)
unfolding hidden-the_row-Loop-1 denote.Hole.Carrier.hidden
changing_of-If n rows body = ((λ a. (a.0, a.1.0)), (λ b. (b.0, (b.1, tt))))

pub changing_of-For : (n : ℕ) (low high : Expr) (step : ℤ) (body : Loop) → All (λ r. coef_at r n ≢ pos 0) (asked_first body)
    → AsksWhatChanges (n + 1) body → AsksWhatChanges n (For low high step body)
unfolding hidden-the_row-Loop-1 denote.Hole.Carrier.hidden
changing_of-For n low high step body names body_asks = (names, (body_asks, tt))

parts_ask : (n : ℕ) (m : Count) (row : Row_of-Loop m) → All (AsksWhatChanges n) (items-the_row-Loop m row) → AskWhatChanges n row
parts_ask n m end_of-Loop all = tt
parts_ask n m (more_of-Loop part row) all = (
  All-head (AsksWhatChanges n) part (items-the_row-Loop _ row) all,
  parts_ask n _ row (All-tail (AsksWhatChanges n) part (items-the_row-Loop _ row) all),
)

pub changing_of-Block : (n : ℕ) (parts : List Loop) → All (AsksWhatChanges n) parts → AsksWhatChanges n (Block parts)
changing_of-Block n parts all =
    parts_ask n _ (hidden-the_row-Loop-0 parts) (subst (All (AsksWhatChanges n)) (sym (items_hidden-the_row-Loop-0 parts)) all)

pub empty_changing : (n : ℕ) (parts : List Loop) → parts ≡ [] → AsksWhatChanges n (Block parts)
empty_changing n parts none = changing_of-Block n parts (rw none (All-nil (AsksWhatChanges n)))
