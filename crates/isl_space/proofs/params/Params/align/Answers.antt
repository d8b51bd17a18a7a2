use Rattle.std.proofs.Common.{rules}
use Rattle.isl_space.specs.Names.{IsParameterList}
use Rattle.isl_space.proofs.NamesLaws.{parameters_join}
use Rattle.isl_space.proofs.params.Params.align.Goals as goal

-- what was joined are the names of the two lists
pub returns-clause-joins : goal.returns-clause-joins
returns-clause-joins c =
    let first : IsParameterList c.args.self.now = rw (← c.self.view_is) c.self.invariant in
    let second : IsParameterList c.args.other.now = rw (← c.other.view_is) c.other.invariant in
    parameters_join _ _ _ first second (search rules)
