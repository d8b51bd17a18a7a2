use Rattle.std.proofs.Common.{◌≡◌, get_or}
use Rattle.isl_piece.specs.declared.row.Row.{Row}
use Rattle.isl_remainder.specs.Solved.{AreAlike}
use Rattle.isl_remainder.proofs.equations.put_into_others.Given as goal

abbrev pub invariant-loop-into : goal.invariant-loop-into
invariant-loop-into l = record {
  alike : AreAlike l.fn.meter l.fn.rows l.made;
  equation : (d : Row) → get_or l.made l.at d ≡ get_or l.fn.rows l.at d;
  meter : l.meter ≡ l.fn.meter;
}
