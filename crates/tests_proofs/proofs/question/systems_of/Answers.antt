use Rattle.std.proofs.Common.{rules}
use Rattle.tests_proofs.proofs.PlainLaws.{own_plain}
use Rattle.tests_proofs.proofs.question.systems_of.Goals as goal

pub returns : goal.returns
returns c =
    let own = own_plain c.args.meter.now c.number-columns.result c.in-Some.system c.in-Some.ensures in
    search (rules, own)
