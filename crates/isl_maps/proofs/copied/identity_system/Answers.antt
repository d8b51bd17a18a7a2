use Rattle.std.proofs.Common.{◌≡◌, ap, sym, ◌∙◌, length}
use Rattle.std.proofs.lemmas.Result.{IfOk-weaker}
use Rattle.isl_space.specs.Form.{width_of}
use Rattle.isl_space.specs.Shape.{form_of}
use Rattle.isl_space.specs.Space.{space_form_of}
use Rattle.isl_maps.specs.Change.{IsChangedSystem}
use Rattle.isl_maps.specs.Copied.{copied_system}
use Rattle.isl_maps.specs.declared.change.Change.TheVariants.{Identity}
use Rattle.isl_maps.proofs.SystemImages.{identity_changed}
use Rattle.isl_maps.proofs.copied.identity_system.Goals as goal

pub returns-in-Set : goal.returns-in-Set
returns-in-Set c =
    let params = c.args.params.now in
    let piece = c.args.piece.now in
    IfOk-weaker c.copied_system.result _ (IsChangedSystem Identity params piece)
    (λ new is.
    let made : new ≡ copied_system (length params) (width_of (form_of c.in-Set.shape.value)) piece.system = cc in
    identity_changed params piece c.requires new (form_of c.in-Set.shape.value)
    (sym c.space.ensures ∙ ap space_form_of c.in-Set.is) made)
    c.copied_system.ensures
