use Rattle.std.proofs.Common.{refl}
use Rattle.std.specs.Prelude.{string_bytes}
use Rattle.isl_eval.proofs.CodedLaws.{code_written, tree_later}
use Rattle.isl_eval.proofs.loops.code_of.Goals as goal

pub text_of_loops-requires : goal.text_of_loops-requires
text_of_loops-requires c =
    tree_later c.args.meter.now c.generated.new.meter c.args.value.now c.in_ok-tree.tree _ c.params.result.now c.in_ok-tree.ensures.1.charged
    refl c.params.ensures.content c.in_ok-tree.ensures.0

pub returns : goal.returns
returns c =
    code_written string_bytes c.text_of_loops.result c.args.options.now c.args.value.now c.in_ok-tree.tree _ c.params.result.now
    c.args.meter.now c.generated.new.meter c.text_of_loops.new.meter refl c.params.ensures.content c.in_ok-tree.ensures.0
    c.in_ok-tree.ensures.2 c.in_ok-tree.ensures.1.charged c.text_of_loops.ensures
