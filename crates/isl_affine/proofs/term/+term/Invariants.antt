use Rattle.std.proofs.Common.{◌≡◌, take}
use Rattle.isl_tree.specs.Term.{term_value}
use Rattle.isl_affine.specs.Form.{GivesForm}
use Rattle.isl_affine.specs.Size.{factor_size, part_size, term_size}
use Rattle.isl_affine.proofs.term.+term.Given as goal

abbrev pub invariant-term_form-loop-part : goal.invariant-term_form-loop-part
invariant-term_form-loop-part l =
    GivesForm l.fn.meter l.scope l.fn.system l.system (term_value (take l.part-index l.term)) l.form × (l.meter ≡ l.fn.meter)

abbrev pub decreases-factor_form : goal.decreases-factor_form
decreases-factor_form l = factor_size l.factor.now

abbrev pub decreases-inner_form : goal.decreases-inner_form
decreases-inner_form l = part_size l.part.now

abbrev pub decreases-term_form : goal.decreases-term_form
decreases-term_form l = term_size l.term.now
