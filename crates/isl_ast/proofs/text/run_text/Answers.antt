use Rattle.std.proofs.Common.{◌≡◌, ◌∙◌, ◌++◌, ap, List, ℕ}
use Rattle.std.specs.Prelude.{string_bytes}
use Rattle.isl_loop.specs.Run.{trace}
use Rattle.isl_ast.specs.CallText.{call_lines}
use Rattle.isl_ast.proofs.TextLaws.{called_lines}
use Rattle.isl_ast.proofs.text.run_text.Goals as goal

pub returns-clause-exact : goal.returns-clause-exact
returns-clause-exact c =
    let calls = trace c.args.tree.now c.args.at.now in
    let all : c.run_loops.new.callee ≡ call_lines calls =
    called_lines (string_bytes c.new.result) c.run_loops.new.callee calls c.in_ok-run_loops.ensures.exact.0
    ∙ ap (λ (text : List ℕ). text ++ call_lines calls) c.new.ensures.bytes in
    (c.lines.view_is ∙ all, c.in_ok-run_loops.ensures.exact.1)
