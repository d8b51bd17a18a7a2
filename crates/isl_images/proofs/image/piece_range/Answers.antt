use Rattle.std.proofs.Common.{◌≡◌, ap, ◌∙◌}
use Rattle.std.proofs.lemmas.Result.{IfOk-weaker}
use Rattle.isl_space.specs.Form.{width_of}
use Rattle.isl_space.specs.Shape.{form_of}
use Rattle.isl_space.specs.SpaceForm.{set_of}
use Rattle.isl_space.specs.declared.shape.Shape.{Shape}
use Rattle.isl_relation.specs.Maps.{RangeHas}
use Rattle.isl_images.specs.Made.{elements_of, ArePiecesOf}
use Rattle.isl_images.specs.Shadow.{IsShadow}
use Rattle.isl_images.proofs.ImageLaws.{range_same}
use Rattle.isl_images.proofs.MadeLaws.{of_same}
use Rattle.isl_images.proofs.image.piece_range.Goals as goal

pub returns-clause-made : goal.returns-clause-made
returns-clause-made c =
    let g = c.args.meter.now in
    let params = c.args.params.now in
    let p = c.args.piece.now in
    let x = form_of c.args.from.now.value in
    let y = form_of c.args.to.now.value in
    let form : form_of c.in_ok-clone.field-0.value ≡ y = ap form_of c.in_ok-clone.ensures.cases in
    let first : c.width.result ≡ width_of x = c.width.ensures ∙ ap (λ (s : Shape). width_of (form_of s)) c.deref.ensures in
    let told = rw (form, c.system.ensures, first) at c.pieces_without.ensures.made in
    let shadow = IsShadow params (set_of y) p.system (record { from = 0; count = width_of x }) in
    IfOk-weaker c.pieces_without.result
    (λ made. ArePiecesOf g params ⊥ shadow made.items)
    (λ made. ArePiecesOf g params ⊥ (λ v. RangeHas (elements_of params p v)) made.items)
    (λ made are. of_same g params ⊥ ⊥ shadow (λ v. RangeHas (elements_of params p v)) made.items (λ never. never)
    (λ v e. range_same params p x y c.requires.space v e) are)
    told
