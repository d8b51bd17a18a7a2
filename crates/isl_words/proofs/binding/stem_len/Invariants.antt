use Rattle.std.proofs.Common.{◌≡◌, ◌+◌, ◌-◌, ◌≤◌, length, drop}
use Rattle.std.specs.List.{prefix_len}
use Rattle.isl_space.specs.Name.{goes_on_name}
use Rattle.isl_words.proofs.binding.stem_len.Given as goal

abbrev pub invariant-loop-end : goal.invariant-loop-end
invariant-loop-end l = record {
  same : l.end + prefix_len goes_on_name (drop l.end l.name) ≡ prefix_len goes_on_name l.name;
  high : l.end ≤ length l.name;
}

abbrev pub decreases-loop-end : goal.decreases-loop-end
decreases-loop-end l = length l.name - l.end
