use Rattle.isl_assumed.proofs.assumed.Assumed.holds.Goals as goal

pub returns-in-Where : goal.returns-in-Where
returns-in-Where c = rw c.in-Where.is c.holds.ensures
