use Rattle.std.proofs.Common.{◌≡◌, ◌++◌, ◌∷◌, [], drop, take}
use Rattle.isl_pip.proofs.lift.inserted.Given as goal

abbrev pub invariant-loop-coef : goal.invariant-loop-coef
invariant-loop-coef l = l.made ≡ (take l.column l.coefs ++ l.fn.number ∷ []) ++ take l.coef-index (drop l.column l.coefs)
