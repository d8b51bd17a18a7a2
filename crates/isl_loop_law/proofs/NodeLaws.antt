-- Trees without their blocks: the loops, conditions and calls that they hold, one behind another.
use Rattle.std.proofs.Common.{◌≡◌, ◌≤◌, ◌+◌, ◌∙◌, ◌^◌, ℕ, List, [], ◌∷◌, ◌++◌, refl, sym, ap, ap₂, arith, ℤ}
use Rattle.std.specs.List.{AllByRecursion}
use Rattle.std.proofs.lemmas.List.{append_assoc, append-nil}
use Rattle.isl_meter.specs.Gauge.{Gauge}
use Rattle.isl_space.specs.Name.{Name}
use Rattle.isl_row_text.specs.Joined.{Text}
use Rattle.isl_loop.specs.declared.tree.Loop.{Loop, Block', For', If', Call, Row_of-Loop, end_of-Loop, more_of-Loop}
use Rattle.isl_loop.specs.Depth.{depth_of, depth_in}
use Rattle.isl_loop.specs.Formed.{IsLoopOver, AreLoopsOver}
use Rattle.isl_loop.specs.Lists.{calls_of, turns_through}
use Rattle.isl_loop.specs.Program.{HasNames, HaveNames}
use Rattle.isl_loop.specs.Run.{Event, trace, traces, turns_of, turns_in}
use Rattle.isl_loop_text.specs.LoopText.{loop_lines, lines_in}
use Rattle.isl_loop_text.specs.Rest.{lines_of}
use Rattle.isl_loop_text.specs.Size.{loop_size, loops_size}

abbrev mutual
  pub nodes : Loop → List Loop
  nodes (Block' s row) = nodes_in row
  nodes (For' low high step s body) = For' low high step s body ∷ []
  nodes (If' rows s body) = If' rows s body ∷ []
  nodes (Call name args) = Call name args ∷ []

  pub nodes_in : {m : _} → Row_of-Loop m → List Loop
  nodes_in end_of-Loop = []
  nodes_in (more_of-Loop part rest) = nodes part ++ nodes_in rest

abbrev pub IsNode : Loop → Type 0
IsNode (Block' s row) = ⊥
IsNode (For' low high step s body) = Unit {0}
IsNode (If' rows s body) = Unit {0}
IsNode (Call name args) = Unit {0}

-- ---- lines, calls and turns
lines-append : (params : List Name) (depth : ℕ) (margin : Text) (xs ys : List Loop)
    → lines_of params depth margin (xs ++ ys) ≡ lines_of params depth margin xs ++ lines_of params depth margin ys
lines-append params depth margin [] ys = refl
lines-append params depth margin (x ∷ xs) ys =
    ap (λ t. loop_lines params depth margin x ++ t) (lines-append params depth margin xs ys)
    ∙ sym (append_assoc (loop_lines params depth margin x) (lines_of params depth margin xs) (lines_of params depth margin ys))

calls-append : (xs ys : List Loop) (point : List ℤ) → calls_of (xs ++ ys) point ≡ calls_of xs point ++ calls_of ys point
calls-append [] ys point = refl
calls-append (x ∷ xs) ys point =
    ap (λ l. trace x point ++ l) (calls-append xs ys point) ∙ sym (append_assoc (trace x point) (calls_of xs point) (calls_of ys point))

turns-append : (xs ys : List Loop) (point : List ℤ) → turns_through (xs ++ ys) point ≡ turns_through xs point + turns_through ys point
turns-append [] ys point = omega arith
turns-append (x ∷ xs) ys point = let rest = turns-append xs ys point in omega (arith, rest)

mutual
  pub lines_nodes : (x : Loop) (params : List Name) (depth : ℕ) (margin : Text)
      → loop_lines params depth margin x ≡ lines_of params depth margin (nodes x)
  lines_nodes (Block' s row) params depth margin = lines_nodes_in row params depth margin
  lines_nodes (For' low high step s body) params depth margin =
      sym (append-nil (loop_lines params depth margin (For' low high step s body)))
  lines_nodes (If' rows s body) params depth margin = sym (append-nil (loop_lines params depth margin (If' rows s body)))
  lines_nodes (Call name args) params depth margin = sym (append-nil (loop_lines params depth margin (Call name args)))

  pub lines_nodes_in : {m : _} → (row : Row_of-Loop m) (params : List Name) (depth : ℕ) (margin : Text)
      → lines_in params depth margin row ≡ lines_of params depth margin (nodes_in row)
  lines_nodes_in end_of-Loop params depth margin = refl
  lines_nodes_in (more_of-Loop part rest) params depth margin =
      ap₂ (λ (t u : Text). t ++ u) (lines_nodes part params depth margin) (lines_nodes_in rest params depth margin)
      ∙ sym (lines-append params depth margin (nodes part) (nodes_in rest))

mutual
  pub calls_nodes : (x : Loop) (point : List ℤ) → trace x point ≡ calls_of (nodes x) point
  calls_nodes (Block' s row) point = calls_nodes_in row point
  calls_nodes (For' low high step s body) point = sym (append-nil (trace (For' low high step s body) point))
  calls_nodes (If' rows s body) point = sym (append-nil (trace (If' rows s body) point))
  calls_nodes (Call name args) point = refl

  pub calls_nodes_in : {m : _} → (row : Row_of-Loop m) (point : List ℤ) → traces row point ≡ calls_of (nodes_in row) point
  calls_nodes_in end_of-Loop point = refl
  calls_nodes_in (more_of-Loop part rest) point =
      ap₂ (λ (t u : List Event). t ++ u) (calls_nodes part point) (calls_nodes_in rest point)
      ∙ sym (calls-append (nodes part) (nodes_in rest) point)

plus-none : (n : ℕ) → n ≡ n + 0
plus-none n = omega arith

mutual
  pub turns_nodes : (x : Loop) (point : List ℤ) → turns_of x point ≡ turns_through (nodes x) point
  turns_nodes (Block' s row) point = turns_nodes_in row point
  turns_nodes (For' low high step s body) point = plus-none (turns_of (For' low high step s body) point)
  turns_nodes (If' rows s body) point = plus-none (turns_of (If' rows s body) point)
  turns_nodes (Call name args) point = refl

  pub turns_nodes_in : {m : _} → (row : Row_of-Loop m) (point : List ℤ) → turns_in row point ≡ turns_through (nodes_in row) point
  turns_nodes_in end_of-Loop point = refl
  turns_nodes_in (more_of-Loop part rest) point =
      ap₂ (λ (m n : ℕ). m + n) (turns_nodes part point) (turns_nodes_in rest point) ∙ sym (turns-append (nodes part) (nodes_in rest) point)

-- ---- well formed
-- over n columns, inside of so many loops, and no larger than k
pub record IsPart (g : Gauge) (n depth k : ℕ) (x : Loop) : Type 0 where
  pub over : IsLoopOver g n x
  pub named : HasNames x
  pub nested : depth + depth_of x ≤ 2 ^ 64
  pub sized : loop_size x ≤ k
  pub node : IsNode x

abbrev pub AreParts : Gauge → ℕ → ℕ → ℕ → List Loop → Type 0
AreParts g n depth k xs = AllByRecursion (IsPart g n depth k) xs

parts-append : (g : Gauge) (n depth k : ℕ) (xs ys : List Loop) → AreParts g n depth k xs → AreParts g n depth k ys
    → AreParts g n depth k (xs ++ ys)
parts-append g n depth k [] ys a b = b
parts-append g n depth k (x ∷ xs) ys a b = (a.0, parts-append g n depth k xs ys a.1 b)

mutual
  pub parts_nodes : (x : Loop) (g : Gauge) (n depth k : ℕ) → IsLoopOver g n x → HasNames x → depth + depth_of x ≤ 2 ^ 64 → loop_size x ≤ k
      → AreParts g n depth k (nodes x)
  parts_nodes (Block' s row) g n depth k over named nested sized = parts_nodes_in row g n depth k over named nested (omega (arith, sized))
  parts_nodes (For' low high step s body) g n depth k over named nested sized =
      (record { over = over; named = named; nested = nested; sized = sized; node = tt }, tt)
  parts_nodes (If' rows s body) g n depth k over named nested sized =
      (record { over = over; named = named; nested = nested; sized = sized; node = tt }, tt)
  parts_nodes (Call name args) g n depth k over named nested sized =
      (record { over = over; named = named; nested = nested; sized = sized; node = tt }, tt)

  pub parts_nodes_in : {m : _} → (row : Row_of-Loop m) (g : Gauge) (n depth k : ℕ) → AreLoopsOver g n row → HaveNames row
      → depth + depth_in row ≤ 2 ^ 64 → loops_size row ≤ k → AreParts g n depth k (nodes_in row)
  parts_nodes_in end_of-Loop g n depth k over named nested sized = tt
  parts_nodes_in (more_of-Loop part rest) g n depth k over named nested sized =
      parts-append g n depth k (nodes part) (nodes_in rest)
      (parts_nodes part g n depth k over.0 named.0 (omega (arith, nested)) (omega (arith, sized)))
      (parts_nodes_in rest g n depth k over.1 named.1 (omega (arith, nested)) (omega (arith, sized)))
