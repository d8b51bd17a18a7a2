use Rattle.std.proofs.Common.{◌≡◌, sym, ◌∙◌, subst, inl, inr}
use Rattle.std.proofs.lemmas.Result.{IfOk-weaker}
use Rattle.isl_maps.specs.Change.{IsChangedSystem}
use Rattle.isl_maps.specs.declared.change.Change.{Change}
use Rattle.isl_maps.proofs.SystemImages.{wrap_changed, unwrap_changed}
use Rattle.isl_maps.proofs.change.Change.system.Goals as goal

pub returns-in-Wrap : goal.returns-in-Wrap
returns-in-Wrap c =
    let params = c.args.params.now in
    let piece = c.args.piece.now in
    IfOk-weaker c.copy.result (λ new. new ≡ c.system.result.now) (IsChangedSystem c.args.self params piece)
    (λ new is. elim c.in-Wrap.is [
      | inl e ↦ subst (λ (change : Change). IsChangedSystem change params piece new) (sym e)
          (wrap_changed params piece c.requires new (is ∙ c.system.ensures))
      | inr e ↦ subst (λ (change : Change). IsChangedSystem change params piece new) (sym e)
          (unwrap_changed params piece c.requires new (is ∙ c.system.ensures))
    ])
    c.copy.ensures
