use Rattle.std.proofs.Common.{◌≡◌, ◌+◌, ◌*◌, ◌≤◌, length, reverse}
use Rattle.isl_flat.specs.Flat.{past_row, past_post}
use Rattle.isl_flat.specs.Size.{size_of, size_of_links, size_of_postfix, size_of_postfixes}
use Rattle.isl_flat.proofs.flattening.Flattening.+flat.Given as goal

abbrev pub decreases-nested : goal.decreases-nested
decreases-nested l = 2 * size_of l.expr + 1

abbrev pub decreases-flattened : goal.decreases-flattened
decreases-flattened l = 2 * size_of l.expr

abbrev pub decreases-operand : goal.decreases-operand
decreases-operand l = 2 * size_of l.operand + 2

abbrev pub decreases-row : goal.decreases-row
decreases-row l = 2 * (size_of l.first + size_of_links l.links) + 2

abbrev pub decreases-past_link : goal.decreases-past_link
decreases-past_link l = 2 * size_of l.link.operand + 2

abbrev pub decreases-post : goal.decreases-post
decreases-post l = 2 * (size_of l.operand + size_of_postfixes l.postfixes) + 3

abbrev pub decreases-postfixes : goal.decreases-postfixes
decreases-postfixes l = 2 * size_of_postfixes l.postfixes + 2

abbrev pub decreases-postfix : goal.decreases-postfix
decreases-postfix l = 2 * size_of_postfix l.postfix + 1

abbrev pub invariant-row-loop-link : goal.invariant-row-loop-link
invariant-row-loop-link l = record {
  same : past_row (record { statements = l.self; first = l.row.first; links = l.row.links }) (reverse l.rest) ≡
      past_row (record { statements = l.initial.self; first = l.initial.row.first; links = l.initial.row.links }) (reverse l.initial.rest);
  smaller : size_of_links l.rest ≤ size_of_links l.initial.rest;
}

abbrev pub decreases-row-loop-link : goal.decreases-row-loop-link
decreases-row-loop-link l = length l.rest

abbrev pub invariant-postfixes-loop-postfix : goal.invariant-postfixes-loop-postfix
invariant-postfixes-loop-postfix l = record {
  same : past_post (record { statements = l.self; postfixes = l.kept }) (reverse l.rest) ≡
      past_post (record { statements = l.initial.self; postfixes = l.initial.kept }) (reverse l.initial.rest);
  smaller : size_of_postfixes l.rest ≤ size_of_postfixes l.initial.rest;
}

abbrev pub decreases-postfixes-loop-postfix : goal.decreases-postfixes-loop-postfix
decreases-postfixes-loop-postfix l = length l.rest
