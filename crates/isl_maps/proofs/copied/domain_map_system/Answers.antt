use Rattle.std.proofs.Common.{◌≡◌, ap, sym, ◌∙◌, length}
use Rattle.std.proofs.lemmas.Result.{IfOk-weaker}
use Rattle.isl_space.specs.Form.{width_of}
use Rattle.isl_space.specs.Shape.{form_of}
use Rattle.isl_space.specs.Space.{space_form_of}
use Rattle.isl_maps.specs.Change.{IsChangedSystem}
use Rattle.isl_maps.specs.Copied.{copied_system}
use Rattle.isl_maps.specs.declared.change.Change.TheVariants.{DomainMap}
use Rattle.isl_maps.proofs.SystemImages.{domain_map_changed}
use Rattle.isl_maps.proofs.copied.domain_map_system.Goals as goal

pub returns-in-Map : goal.returns-in-Map
returns-in-Map c =
    let params = c.args.params.now in
    let piece = c.args.piece.now in
    IfOk-weaker c.copied_system.result _ (IsChangedSystem DomainMap params piece)
    (λ new is.
    let made : new ≡ copied_system (length params) (width_of (form_of c.in-Map.from.value)) piece.system = cc in
    domain_map_changed params piece c.requires new (form_of c.in-Map.from.value) (form_of c.in-Map.field-1.value)
    (sym c.space.ensures ∙ ap space_form_of c.in-Map.is) made)
    c.copied_system.ensures
