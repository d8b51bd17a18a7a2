use Rattle.std.proofs.Common.{◌≡◌, ap, ap₂, sym, ◌∙◌, length, ◌+◌}
use Rattle.std.proofs.lemmas.Result.{IfOk-weaker}
use Rattle.isl_space.specs.Form.{Form, pair, width_of}
use Rattle.isl_space.specs.Shape.{form_of}
use Rattle.isl_space.specs.Space.{space_form_of}
use Rattle.isl_space.specs.SpaceForm.{map_of}
use Rattle.isl_maps.specs.Change.{IsChangedSystem}
use Rattle.isl_maps.specs.Places.{exchanged_system}
use Rattle.isl_maps.specs.declared.change.Change.TheVariants.{Zip}
use Rattle.isl_maps.proofs.SystemImages.{zip_changed}
use Rattle.isl_maps.proofs.zipped.zipped_system.Goals as goal

pub returns-in-Pair-Pair : goal.returns-in-Pair-Pair
returns-in-Pair-Pair c =
    let params = c.args.params.now in
    let piece = c.args.piece.now in
    let x : Form = form_of c.in-Pair-Pair.x.value in
    let y : Form = form_of c.in-Pair-Pair.y.value in
    let u : Form = form_of c.in-Pair-Pair.u.value in
    let w : Form = form_of c.in-Pair-Pair.field-1-1.value in
    let from : form_of c.in-Map.from.value ≡ pair x y = ap form_of (sym c.as_ref.ensures ∙ c.in-Pair-Pair.is-0) in
    let to : form_of c.in-Map.to.value ≡ pair u w = ap form_of (sym c.as_ref-2.ensures ∙ c.in-Pair-Pair.is-1) in
    let at : piece.space ≡ map_of (pair x y) (pair u w) = sym c.space.ensures ∙ ap space_form_of c.in-Map.is ∙ ap₂ map_of from to in
    IfOk-weaker c.exchanged_system.result _ (IsChangedSystem Zip params piece)
    (λ new is.
    let made : new ≡ exchanged_system (length params + width_of x) (width_of y) (width_of u) piece.system = cc in
    zip_changed params piece c.requires new x y u w at made)
    c.exchanged_system.ensures
