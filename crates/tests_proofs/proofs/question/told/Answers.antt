use Rattle.std.proofs.Common.{arith, rules}
use Rattle.std.proofs.lemmas.Grind.{common_steps}
use Rattle.tests_proofs.proofs.PlainLaws.{all_within, all_columns, all_free}
use Rattle.tests_proofs.proofs.question.told.Goals as goal

pub certify-requires : goal.certify-requires
certify-requires c = search (rules, all_within, all_columns, all_free)
