use Rattle.std.proofs.Common.{◌≡◌, drop}
use Rattle.isl_tree.specs.Plain.{is_linear}
use Rattle.isl_plain.proofs.plain.+linear.Given as goal

abbrev pub invariant-is_linear-loop-part : goal.invariant-is_linear-loop-part
invariant-is_linear-loop-part l = is_linear (drop l.part-index l.term) ≡ is_linear l.term
