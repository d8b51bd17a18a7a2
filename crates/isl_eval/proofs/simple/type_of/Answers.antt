use Rattle.isl_values.specs.State.{scope_of}
use Rattle.isl_eval.proofs.ShownLaws.{type_found}
use Rattle.isl_eval.proofs.simple.type_of.Goals as goal

pub returns : goal.returns
returns c =
    type_found (scope_of c.args.state.now) c.scope.result.now c.args.stmt.now c.typed_statement.result c.scope.ensures c.requires
    c.typed_statement.ensures
