use Rattle.std.specs.List.{All}
use Rattle.tests_proofs.specs.Question.{IsPlain}
use Rattle.tests_proofs.proofs.question.outs_of.Given as goal

abbrev pub invariant-loop-at : goal.invariant-loop-at
invariant-loop-at l = All (IsPlain l.meter l.columns) l.outs.items
