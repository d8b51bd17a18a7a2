-- Trees whose text tells what they execute.
use mathlib.Core.Former.{Count}
use Rattle.std.proofs.Common.{◌≡◌, ◌↔◌, ◌<◌, ◌^◌, ◌+◌, ℕ, ℤ, arith, sym, subst, List, []}
use Rattle.std.specs.List.{All}
use Rattle.std.proofs.lemmas.List.Elements.{All-head, All-nil, All-tail}
use Rattle.isl_piece.specs.declared.row.Row.{Row}
use Rattle.isl_loop.specs.declared.tree.Expr.{Expr}
use Rattle.isl_loop.specs.declared.tree.Loop.{Loop, Block, For, If, Block', For', If', Call, Row_of-Loop, end_of-Loop, more_of-Loop}
use Rattle.isl_loop.specs.declared.tree.Loop.{items-the_row-Loop, items_hidden-the_row-Loop-0}
use Rattle.isl_loop.specs.declared.tree.Loop.TheBlock.{hidden-the_row-Loop-0, hidden-the_row-Loop-1}
use Rattle.isl_loop.specs.Depth.{depth_of, depth_in}
use Rattle.isl_loop.specs.Printable.{IsPrintable, ArePrintable}
use Rattle.isl_loop.specs.Program.{HasNames, HaveNames}

-- ---- at the constructors of the code
pub printable_of-If : (n : ℕ) (rows : List Row) (body : Loop) → IsPrintable n (If rows body) ↔ IsPrintable n body
unfolding hidden-the_row-Loop-1 denote.Hole.Carrier.hidden
printable_of-If n rows body = ((λ a. a.0), (λ b. (b, tt)))

pub printable_of-For : (n : ℕ) (low high : Expr) (step : ℤ) (body : Loop) → n + 1 < 2 ^ 64 → IsPrintable (n + 1) body
    → IsPrintable n (For low high step body)
unfolding hidden-the_row-Loop-1 denote.Hole.Carrier.hidden
printable_of-For n low high step body few h = (few, (h, tt))

parts_printable : (n : ℕ) (m : Count) (row : Row_of-Loop m) → All (IsPrintable n) (items-the_row-Loop m row) → ArePrintable n row
parts_printable n m end_of-Loop all = tt
parts_printable n m (more_of-Loop part row) all = (
  All-head (IsPrintable n) part (items-the_row-Loop _ row) all,
  parts_printable n _ row (All-tail (IsPrintable n) part (items-the_row-Loop _ row) all),
)

pub printable_of-Block : (n : ℕ) (parts : List Loop) → All (IsPrintable n) parts → IsPrintable n (Block parts)
printable_of-Block n parts all =
    parts_printable n _ (hidden-the_row-Loop-0 parts) (subst (All (IsPrintable n)) (sym (items_hidden-the_row-Loop-0 parts)) all)

pub empty_printable : (n : ℕ) (parts : List Loop) → parts ≡ [] → IsPrintable n (Block parts)
empty_printable n parts none = printable_of-Block n parts (rw none (All-nil (IsPrintable n)))

-- ---- names and depth
mutual
  pub printable_named : (n : ℕ) (tree : Loop) → IsPrintable n tree → HasNames tree
  printable_named n (Block' s row) h = printables_named n row h
  printable_named n (For' low high step s body) h = printables_named (n + 1) body h.1
  printable_named n (If' rows s body) h = printables_named n body h
  printable_named n (Call name args) h = h

  pub printables_named : {m : _} → (n : ℕ) (row : Row_of-Loop m) → ArePrintable n row → HaveNames row
  printables_named n end_of-Loop h = h
  printables_named n (more_of-Loop part rest) h = (printable_named n part h.0, printables_named n rest h.1)

mutual
  -- few variables in scope are few inside
  pub printable_depth : (n : ℕ) (tree : Loop) → n < 2 ^ 64 → IsPrintable n tree → n + depth_of tree < 2 ^ 64
  printable_depth n (Block' s row) few h = printables_depth n row few h
  printable_depth n (For' low high step s body) few h =
      let inner = printables_depth (n + 1) body h.0 h.1 in omega (arith, inner)
  printable_depth n (If' rows s body) few h = printables_depth n body few h
  printable_depth n (Call name args) few h = omega (arith, few)

  pub printables_depth : {m : _} → (n : ℕ) (row : Row_of-Loop m) → n < 2 ^ 64 → ArePrintable n row → n + depth_in row < 2 ^ 64
  printables_depth n end_of-Loop few h = omega (arith, few)
  printables_depth n (more_of-Loop part rest) few h =
      let one = printable_depth n part few h.0 in
      let others = printables_depth n rest few h.1 in
      omega (arith, one, others)
