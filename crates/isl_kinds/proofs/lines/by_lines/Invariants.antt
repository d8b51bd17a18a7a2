use Rattle.std.proofs.Common.{◌≡◌, drop}
use Rattle.isl_kinds.specs.Lines.{by_lines}
use Rattle.isl_kinds.proofs.lines.by_lines.Given as goal

abbrev pub invariant-loop-line : goal.invariant-loop-line
invariant-loop-line l = by_lines (drop l.line-index l.lines) l.left l.right ≡ by_lines l.lines l.left l.right
