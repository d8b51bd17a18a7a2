use Rattle.std.proofs.Common.{◌≡◌, ◌++◌, replicate, pos}
use Rattle.isl_refute.proofs.forms.padded.Given as goal

abbrev pub invariant-loop-turn : goal.invariant-loop-turn
invariant-loop-turn l = l.coefs ≡ l.initial.coefs ++ replicate l.turn (pos 0)
