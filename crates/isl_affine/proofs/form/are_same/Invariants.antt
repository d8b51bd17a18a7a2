use Rattle.std.proofs.Common.{take}
use Rattle.isl_affine.specs.Form.{AreSame}
use Rattle.isl_affine.proofs.form.are_same.Given as goal

abbrev pub invariant-loop-i : goal.invariant-loop-i
invariant-loop-i l = AreSame (take l.i l.left) (take l.i l.right)
