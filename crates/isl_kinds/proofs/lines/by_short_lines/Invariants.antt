use Rattle.std.proofs.Common.{◌≡◌, drop}
use Rattle.isl_kinds.specs.Lines.{by_short_lines}
use Rattle.isl_kinds.proofs.lines.by_short_lines.Given as goal

abbrev pub invariant-loop-line : goal.invariant-loop-line
invariant-loop-line l = by_short_lines (drop l.line-index l.lines) l.operand ≡ by_short_lines l.lines l.operand
