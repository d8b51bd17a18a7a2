use Rattle.std.proofs.Common.{◌≡◌, true, arith, rules}
use Rattle.std.proofs.lemmas.Grind.{common_steps}
use Rattle.tests_proofs.proofs.PlainLaws.{plain_is}
use Rattle.tests_proofs.proofs.question.plain.Goals as goal

pub returns : goal.returns
returns c =
    let proper : c.are_proper.result ≡ true = grind (arith, common_steps) in
    let found = plain_is c.args.meter.now c.args.columns c.args.rows c.from_rows.result c.from_rows.ensures in
    search (rules, found, c.are_proper.ensures.formed proper, c.are_proper.ensures.within proper, c.as_slice.ensures)
