use Rattle.std.proofs.Common.{arith}
use Rattle.isl_column.proofs.exact.is_exact_row.Goals as goal

pub returns-else-ne : goal.returns-else-ne
returns-else-ne c = grind arith
