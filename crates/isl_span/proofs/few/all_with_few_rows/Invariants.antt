use Rattle.std.proofs.Common.{take}
use Rattle.isl_span.proofs.FewLaws.{AreFewer}
use Rattle.isl_span.proofs.few.all_with_few_rows.Given as goal

abbrev pub invariant-loop-system : goal.invariant-loop-system
invariant-loop-system l = AreFewer l.meter l.columns (take l.system-index l.systems) l.few.items
