use Rattle.std.proofs.Common.{◌≡◌, ◌+◌, length, drop}
use Rattle.isl_scan.specs.Groups.{elements_of}
use Rattle.isl_scan.proofs.listing.count.Given as goal

-- those that are counted, and those that are left
abbrev pub invariant-loop-group : goal.invariant-loop-group
invariant-loop-group l = l.count + length (elements_of (drop l.group-index l.groups)) ≡ length (elements_of l.groups)
