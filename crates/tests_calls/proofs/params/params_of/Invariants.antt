use Rattle.isl_space.specs.Names.{IsParameterList}
use Rattle.tests_calls.proofs.params.params_of.Given as goal

abbrev pub invariant-loop-word : goal.invariant-loop-word
invariant-loop-word l = IsParameterList l.params
