-- public: trees of loops whose text tells what they execute: calls have names that may stand in a literal, and variables can be counted.
-- (isl manual, on printing abstract syntax trees)
use Rattle.std.specs.Prelude.{◌≤◌, ◌^◌, List, length, IfSome}
use Rattle.isl_meter.specs.Gauge.{Gauge}
use Rattle.isl_space.specs.Name.{Name, IsLiteralName}
use Rattle.isl_loop.specs.declared.tree.Loop.{Loop, Block', For', If', Call, Row_of-Loop, end_of-Loop, more_of-Loop}
use Rattle.isl_loop.specs.Depth.{depth_of}
use Rattle.isl_loop.specs.Formed.{IsLoopOver}

abbrev mutual
  -- what is called has no name, or one that may stand inside a literal
  pub HasNames : Loop → Type 0
  HasNames (Block' s row) = HaveNames row
  HasNames (For' low high step s body) = HaveNames body
  HasNames (If' rows s body) = HaveNames body
  HasNames (Call name args) = IfSome name IsLiteralName

  pub HaveNames : {m : _} → Row_of-Loop m → Type 0
  HaveNames end_of-Loop = Unit {0}
  HaveNames (more_of-Loop part rest) = HasNames part × HaveNames rest

-- The tree is over the parameters, with numbers of at most 127 bits; its variables can be counted by a `usize`.
pub record IsProgram (params : List Name) (tree : Loop) : Type 0 where
  pub gauge : Gauge
  pub bits : gauge.bits ≤ 127
  pub over : IsLoopOver gauge (length params) tree
  pub named : HasNames tree
  pub nested : depth_of tree ≤ 2 ^ 64
