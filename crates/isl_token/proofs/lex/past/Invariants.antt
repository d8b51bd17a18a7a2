use Rattle.std.proofs.Common.{◌≡◌, ◌+◌, ◌-◌, ◌≤◌, length, drop}
use Rattle.std.specs.List.{prefix_len}
use Rattle.isl_token.specs.Lex.{is_in}
use Rattle.isl_token.proofs.lex.past.Given as goal

abbrev pub invariant-loop-end : goal.invariant-loop-end
invariant-loop-end l = record {
  same : l.end + prefix_len (is_in l.class) (drop l.end l.z) ≡ l.at + prefix_len (is_in l.class) (drop l.at l.z);
  low : l.at ≤ l.end;
  high : l.end ≤ length l.z;
}

abbrev pub decreases-loop-end : goal.decreases-loop-end
decreases-loop-end l = length l.z - l.end
