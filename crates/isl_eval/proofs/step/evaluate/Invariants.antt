use Rattle.std.proofs.Common.{◌∷◌, ◌++◌, [], drop, take}
use Rattle.isl_eval.specs.Evaluation.{AreLeft}
use Rattle.isl_eval.proofs.step.evaluate.Given as goal

abbrev pub invariant-loop-stmt : goal.invariant-loop-stmt
invariant-loop-stmt l =
    AreLeft (record { state = l.fn.state; meter = l.fn.meter; options = l.options })
    (record { state = l.state; meter = l.meter; options = l.options }) (take l.stmt-index l.others) (drop l.stmt-index l.others ++ l.last ∷ [])
    l.typed
