-- inner: where so many variables are in scope, what the text of a tree of loops needs: names of calls, and variables that can be counted.
use Rattle.std.specs.Prelude.{ℕ, ◌+◌, ◌<◌, ◌^◌, IfSome}
use Rattle.isl_space.specs.Name.{IsLiteralName}
use Rattle.isl_loop.specs.declared.tree.Loop.{Loop, Block', For', If', Call, Row_of-Loop, end_of-Loop, more_of-Loop}

abbrev mutual
  -- what is called has no name, or one that may stand inside a literal; at each loop's body the variables can be counted
  pub IsPrintable : ℕ → Loop → Type 0
  IsPrintable n (Block' s row) = ArePrintable n row
  IsPrintable n (For' low high step s body) = (n + 1 < 2 ^ 64) × ArePrintable (n + 1) body
  IsPrintable n (If' rows s body) = ArePrintable n body
  IsPrintable n (Call name args) = IfSome name IsLiteralName

  pub ArePrintable : {m : _} → ℕ → Row_of-Loop m → Type 0
  ArePrintable n end_of-Loop = Unit {0}
  ArePrintable n (more_of-Loop part rest) = IsPrintable n part × ArePrintable n rest
