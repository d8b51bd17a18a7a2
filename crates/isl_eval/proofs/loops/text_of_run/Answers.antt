use Rattle.std.proofs.Common.{◌∙◌, ap, sym, subst, length, List, ℤ, ℕ}
use Rattle.isl_space.proofs.ValuationLaws.{length-values_of}
use Rattle.isl_loop.specs.Formed.{IsLoopOver}
use Rattle.isl_eval.proofs.loops.text_of_run.Goals as goal

pub run_text-requires : goal.run_text-requires
run_text-requires c =
    subst (λ (n : ℕ). IsLoopOver c.args.meter.now n c.args.tree.now)
    (sym (ap (λ (xs : List ℤ). length xs) (c.as_slice.ensures.value ∙ c.in_ok-numbers.ensures)
    ∙ length-values_of c.args.params.now c.args.options.now.at)) c.requires
