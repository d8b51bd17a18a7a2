use Rattle.std.proofs.Common.{◌≡◌, take}
use Rattle.isl_nest.specs.Item.{named}
use Rattle.isl_nest.proofs.naming.named.Given as goal

abbrev pub invariant-loop-i : goal.invariant-loop-i
invariant-loop-i l = l.count ≡ named (take l.i l.coefs)
