use Rattle.std.proofs.Common.{◌≡◌, ◌*ℤ◌, take}
use Rattle.isl_tree.specs.Term.{product_of}
use Rattle.isl_affine.proofs.term.times.Given as goal

abbrev pub invariant-loop-i : goal.invariant-loop-i
invariant-loop-i l = (l.product ≡ l.fn.first *ℤ product_of (take l.i l.numbers)) × (l.meter ≡ l.fn.meter)
