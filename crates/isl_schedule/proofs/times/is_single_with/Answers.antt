use Rattle.std.proofs.Common.{◌≡◌, ◌↔◌, arith, Bool, IsTrue}
use Rattle.std.proofs.lemmas.Grind.{common_steps}
use Rattle.std.proofs.lemmas.Result.{IfOk-weaker}
use Rattle.isl_space.specs.Shape.{form_of}
use Rattle.isl_schedule.specs.Differ.{IsNeverBefore, IsSingleWith}
use Rattle.isl_schedule.proofs.times.is_single_with.Goals as goal

pub returns-then-same-clause-exact : goal.returns-then-same-clause-exact
returns-then-same-clause-exact c =
    let params = c.args.params.now in
    let one = c.args.one.now in
    let other = c.args.other.now in
    let same : form_of one.domain.value ≡ form_of other.domain.value = grind (arith, common_steps) in
    IfOk-weaker c.is_never_before.result (λ (never : Bool). IsTrue never ↔ IsNeverBefore params one other)
    (λ (single : Bool). IsTrue single ↔ IsSingleWith params one other)
    (λ b told. ((λ t e. told.0 t), (λ so. told.1 (so same)))) c.is_never_before.ensures.exact
