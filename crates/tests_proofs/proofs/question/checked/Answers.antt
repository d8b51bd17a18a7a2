use Rattle.std.proofs.Common.{arith, rules}
use Rattle.std.proofs.lemmas.Grind.{common_steps}
use Rattle.tests_proofs.proofs.PlainLaws.{all_within, all_columns, all_free}
use Rattle.tests_proofs.proofs.question.checked.Goals as goal

pub check-requires : goal.check-requires
check-requires c = search (rules, all_within, all_columns, all_free)
