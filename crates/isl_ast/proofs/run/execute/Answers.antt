use Rattle.std.proofs.Common.{◌≡◌, ◌∙◌, ◌++◌, ap, arith, List}
use Rattle.std.proofs.lemmas.Grind.{common_steps}
use Rattle.isl_loop.specs.Run.{Event, trace}
use Rattle.isl_ast.proofs.CalledLaws.{called_list}
use Rattle.isl_ast.proofs.run.execute.Goals as goal

pub returns-clause-exact : goal.returns-clause-exact
returns-clause-exact c =
    let calls = trace c.args.tree.now c.args.at.now in
    let all : c.run_loops.new.callee ≡ calls =
    called_list c.new-calls.result c.run_loops.new.callee calls c.in_ok-run_loops.ensures.exact.0
    ∙ ap (λ (before : List Event). before ++ calls) c.new-calls.ensures in
    (grind (arith, common_steps, all), c.in_ok-run_loops.ensures.exact.1)
