use Rattle.std.proofs.Common.{◌≡◌, ◌+◌, ◌≤◌, drop}
use Rattle.isl_text.specs.Bound.{in_links, capped}
use Rattle.isl_text.proofs.bound.in_links.Given as goal

abbrev pub invariant-loop-side : goal.invariant-loop-side
invariant-loop-side l = record {
  same : capped (in_links l.links) ≡ capped (l.total + in_links (drop l.side-index l.links));
  within : l.total ≤ 65;
}
