use Rattle.isl_lower.proofs.EntryLaws.{divisors_one}
use Rattle.isl_lower.proofs.entries.with_equation.Goals as goal

pub with_entry-requires-clause-divisors : goal.with_entry-requires-clause-divisors
with_entry-requires-clause-divisors c = rw c.entry_term-term.ensures (divisors_one c.args.entry.now c.requires.divisors)
