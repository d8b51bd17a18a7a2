use Rattle.std.proofs.Common.{arith}
use Rattle.std.proofs.lemmas.Slice.Eq.{slice_eq-Decides}
use Rattle.std.proofs.lemmas.Bool.Decides.{Decides-int_eq}
use Rattle.isl_loops.proofs.only.has_same_form.Goals as goal

pub returns-then-eq : goal.returns-then-eq
returns-then-eq c =
    let forms = slice_eq-Decides Decides-int_eq c.as_slice.result.now c.as_slice-2.result.now c.eq.result c.eq.ensures in
    let constants = Decides-int_eq c.constant.result c.constant-then-eq.result in
    grind arith
