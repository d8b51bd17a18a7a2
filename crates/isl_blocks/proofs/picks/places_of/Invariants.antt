use Rattle.std.proofs.Common.{◌≡◌, take}
use Rattle.isl_blocks.specs.Blocks.{places_of}
use Rattle.isl_blocks.proofs.picks.places_of.Given as goal

abbrev pub invariant-loop-pick : goal.invariant-loop-pick
invariant-loop-pick l = l.places.items ≡ places_of l.widths (take l.pick-index l.picks)
