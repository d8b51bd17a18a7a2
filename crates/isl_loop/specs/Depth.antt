-- public: how deep loops stand in one another.
use Rattle.std.specs.Prelude.{ℕ, suc, max}
use Rattle.isl_loop.specs.declared.tree.Loop.{Loop, Block', For', If', Call, Row_of-Loop, end_of-Loop, more_of-Loop}

abbrev mutual
  -- most loops of which one stands in another
  pub depth_of : Loop → ℕ
  depth_of (Block' s row) = depth_in row
  depth_of (For' low high step s body) = suc (depth_in body)
  depth_of (If' rows s body) = depth_in body
  depth_of (Call name args) = 0

  pub depth_in : {m : _} → Row_of-Loop m → ℕ
  depth_in end_of-Loop = 0
  depth_in (more_of-Loop part rest) = max (depth_of part) (depth_in rest)
