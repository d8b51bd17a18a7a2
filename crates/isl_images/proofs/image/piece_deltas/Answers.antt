use Rattle.std.proofs.Common.{◌≡◌, ap, sym, ◌∙◌, subst, refl, ◌*◌, length}
use Rattle.std.proofs.lemmas.Result.{IfOk-weaker}
use Rattle.isl_space.specs.Form.{width_of}
use Rattle.isl_space.specs.Shape.{form_of}
use Rattle.isl_space.specs.SpaceForm.{map_of, set_of}
use Rattle.isl_space.specs.declared.shape.Shape.{Shape}
use Rattle.isl_piece.specs.System.{IsSystemWithin}
use Rattle.isl_relation.specs.Maps.{DeltasHas}
use Rattle.isl_images.specs.Differences.{IsWithDifferences}
use Rattle.isl_images.specs.Made.{elements_of, ArePiecesOf}
use Rattle.isl_images.specs.Shadow.{IsShadow}
use Rattle.isl_images.proofs.ImageLaws.{deltas_same}
use Rattle.isl_images.proofs.MadeLaws.{of_same}
use Rattle.isl_images.proofs.image.piece_deltas.Goals as goal

pub returns-clause-made : goal.returns-clause-made
returns-clause-made c =
    let g = c.args.meter.now in
    let params = c.args.params.now in
    let p = c.args.piece.now in
    let x = form_of c.args.from.now.value in
    let moved = c.in_ok-moved.moved in
    let same : x ≡ form_of c.args.to.now.value =
    ap form_of (sym c.deref.ensures) ∙ c.if-not-same.ensures.0 refl ∙ ap form_of c.deref-2.ensures in
    let lies : p.space ≡ map_of x x = c.requires.space ∙ ap (map_of x) (sym same) in
    let form : form_of c.in_ok-clone.field-0.value ≡ x = ap form_of c.in_ok-clone.ensures.cases in
    let width : c.width-width.result ≡ width_of x = c.width-width.ensures ∙ ap (λ (s : Shape). width_of (form_of s)) c.deref-3.ensures in
    let within = subst (IsSystemWithin g) (sym c.system.ensures) c.requires.within in
    let with : IsWithDifferences g p.system (length params) (width_of x) moved =
    rw (c.system.ensures, c.len.ensures.len, width) at (c.in_ok-moved.ensures g c.limit-limit.ensures.bits_low within) in
    let told = rw (form, width) at c.pieces_without.ensures.made in
    let shadow = IsShadow params (set_of x) moved (record { from = width_of x; count = 2 * width_of x }) in
    IfOk-weaker c.pieces_without.result
    (λ made. ArePiecesOf g params ⊥ shadow made.items)
    (λ made. ArePiecesOf g params ⊥ (λ v. DeltasHas (elements_of params p v)) made.items)
    (λ made are. of_same g params ⊥ ⊥ shadow (λ v. DeltasHas (elements_of params p v)) made.items
    (λ never. never) (λ v e. deltas_same g params p x lies moved with v e) are)
    told
