use Rattle.std.proofs.Common.{arith}
use Rattle.isl_row_text.proofs.DistinctLaws.{columns_are_distinct}
use Rattle.isl_row_text.proofs.LiteralNameLaws.{columns_named}
use Rattle.isl_print.proofs.laws.columns_have_names.Goals as goal

pub returns-clause-distinct : goal.returns-clause-distinct
returns-clause-distinct c =
    λ params space list narrow. let few = narrow.coordinates in columns_are_distinct params space list.distinct (omega arith)

pub returns-clause-named : goal.returns-clause-named
returns-clause-named c = λ params space list narrow. let few = narrow.coordinates in columns_named params space list.named (omega arith)
