use Rattle.std.proofs.Common.{◌≡◌, take}
use Rattle.isl_blocks.specs.Blocks.{total}
use Rattle.isl_blocks.proofs.picks.total_of.Given as goal

abbrev pub invariant-loop-width : goal.invariant-loop-width
invariant-loop-width l = l.sum ≡ total (take l.width-index l.widths)
