use Rattle.std.proofs.Common.{◌≡◌, ap, sym, ◌∙◌, length, ◌+◌}
use Rattle.std.proofs.lemmas.Result.{IfOk-weaker}
use Rattle.isl_space.specs.Form.{Form, width_of}
use Rattle.isl_space.specs.Shape.{form_of}
use Rattle.isl_space.specs.Space.{space_form_of}
use Rattle.isl_maps.specs.Change.{IsChangedSystem}
use Rattle.isl_maps.specs.Copied.{copied_system}
use Rattle.isl_maps.specs.declared.change.Change.TheVariants.{RangeMap}
use Rattle.isl_maps.proofs.SystemImages.{range_map_changed}
use Rattle.isl_maps.proofs.copied.range_map_system.Goals as goal

pub returns-in-Map : goal.returns-in-Map
returns-in-Map c =
    let params = c.args.params.now in
    let piece = c.args.piece.now in
    let x : Form = form_of c.in-Map.from.value in
    let y : Form = form_of c.in-Map.to.value in
    IfOk-weaker c.copied_system.result _ (IsChangedSystem RangeMap params piece)
    (λ new is.
    let made : new ≡ copied_system (length params + width_of x) (width_of y) piece.system = cc in
    range_map_changed params piece c.requires new x y
    (sym c.space.ensures ∙ ap space_form_of c.in-Map.is) made)
    c.copied_system.ensures
