use Rattle.std.proofs.Common.{◌≡◌, ◌+◌, ◌≤◌, length}
use Rattle.std.specs.Prelude.{nat_lt}
use Rattle.std.specs.List.{list_any}
use Rattle.isl_token.specs.Depth.{depths, start}
use Rattle.isl_token.proofs.depth.is_too_deep.Given as goal

abbrev pub invariant-loop-rest : goal.invariant-loop-rest
invariant-loop-rest l = record {
  same : list_any (nat_lt 200) (depths start l.tokens) ≡ list_any (nat_lt 200) (depths l.place l.rest);
  within : l.place.brackets + l.place.words ≤ 200;
}

abbrev pub decreases-loop-rest : goal.decreases-loop-rest
decreases-loop-rest l = length l.rest
