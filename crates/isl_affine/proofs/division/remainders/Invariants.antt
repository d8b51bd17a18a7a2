use Rattle.std.proofs.Common.{◌≡◌, take}
use Rattle.isl_tree.specs.Term.{remainder_of}
use Rattle.isl_affine.specs.Form.{IsStep}
use Rattle.isl_affine.proofs.division.remainders.Given as goal

abbrev pub invariant-loop-i : goal.invariant-loop-i
invariant-loop-i l =
    IsStep l.fn.meter l.fn.system l.system l.fn.form (λ z. remainder_of z (take l.i l.moduli)) l.made × (l.meter ≡ l.fn.meter)
