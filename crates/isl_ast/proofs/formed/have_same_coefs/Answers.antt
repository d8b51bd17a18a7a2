use Rattle.std.proofs.Common.{sym, ◌∙◌}
use Rattle.std.proofs.lemmas.Bool.Decides.{Decides-int_eq}
use Rattle.std.proofs.lemmas.Slice.Eq.{slice_eq-Decides}
use Rattle.isl_ast.proofs.formed.have_same_coefs.Goals as goal

pub returns : goal.returns
returns c =
    let same = slice_eq-Decides Decides-int_eq c.as_slice.result.now c.as_slice-2.result.now c.eq.result c.eq.ensures in (
      (λ h. sym c.as_slice-2.ensures ∙ sym (same.0 h) ∙ c.as_slice.ensures),
      (λ e. same.1 (c.as_slice.ensures ∙ sym e ∙ sym c.as_slice-2.ensures)),
    )
