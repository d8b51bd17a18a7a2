use Rattle.std.proofs.Common.{rules}
use Rattle.isl_refute.proofs.WithinLaws.{and_row_facts}
use Rattle.isl_refute.proofs.facts.Facts.push.Goals as goal

pub returns-clause-facts : goal.returns-clause-facts
returns-clause-facts c =
    let found = and_row_facts c.args.meter.now c.in_ok-made.ensures.bits c.args.self.now.columns c.args.self.now.rows c.args.row.now
    c.requires.facts c.requires.fact in
    search (rules, found)
