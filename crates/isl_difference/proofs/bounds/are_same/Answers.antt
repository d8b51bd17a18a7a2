use Rattle.std.proofs.Common.{sym}
use Rattle.std.proofs.lemmas.Bool.Decides.{Decides-int_eq}
use Rattle.std.proofs.lemmas.Slice.Eq.{slice_eq-Decides}
use Rattle.isl_difference.proofs.bounds.are_same.Goals as goal

pub returns : goal.returns
returns c =
    let same = slice_eq-Decides Decides-int_eq c.args.one.now c.args.other.now c.eq.result c.eq.ensures in
    ((λ h. sym (same.0 h)), (λ e. same.1 (sym e)))
