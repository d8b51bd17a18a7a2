use Rattle.tests_proofs.proofs.reader.Words.+read.Given as goal

abbrev pub decreases-cert : goal.decreases-cert
decreases-cert l = l.fuel

abbrev pub decreases-part : goal.decreases-part
decreases-part l = l.fuel

abbrev pub decreases-parts : goal.decreases-parts
decreases-parts l = l.fuel

abbrev pub decreases-add : goal.decreases-add
decreases-add l = l.fuel

abbrev pub decreases-tie : goal.decreases-tie
decreases-tie l = l.fuel

abbrev pub decreases-divided : goal.decreases-divided
decreases-divided l = l.fuel

abbrev pub decreases-fresh : goal.decreases-fresh
decreases-fresh l = l.fuel

abbrev pub decreases-split : goal.decreases-split
decreases-split l = l.fuel

abbrev pub decreases-residue : goal.decreases-residue
decreases-residue l = l.fuel

abbrev pub decreases-outside : goal.decreases-outside
decreases-outside l = l.fuel
