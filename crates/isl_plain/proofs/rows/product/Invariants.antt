use Rattle.std.proofs.Common.{◌≡◌, take}
use Rattle.isl_tree.specs.Term.{product_of}
use Rattle.isl_plain.proofs.rows.product.Given as goal

abbrev pub invariant-loop-i : goal.invariant-loop-i
invariant-loop-i l = (l.product ≡ product_of (take l.i l.numbers)) × (l.meter ≡ l.fn.meter)
