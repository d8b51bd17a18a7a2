use Rattle.std.proofs.Common.{◌≡◌, ap, sym, ◌∙◌, refl}
use Rattle.isl_space.specs.Shape.{form_of}
use Rattle.isl_space.specs.Space.{space_form_of}
use Rattle.isl_space.specs.SpaceForm.{set_of}
use Rattle.isl_operators.proofs.PairingLaws.{wide_same}
use Rattle.isl_operators.proofs.wide.is_wide_same.Goals as goal

pub returns : goal.returns
returns c =
    let x = form_of c.in-Set-Set.x.value in
    let same : x ≡ form_of c.in-Set-Set.y.value =
    ap form_of (sym c.deref.ensures) ∙ c.if-not-same.ensures.0 refl ∙ ap form_of c.deref-2.ensures in
    let first = ap space_form_of c.in-Set-Set.is-0 in
    let second = ap space_form_of c.in-Set-Set.is-1 ∙ ap set_of (sym same) in
    let one : form_of c.in_ok-clone.field-0.value ≡ x = ap form_of c.in_ok-clone.ensures.cases in
    let two : form_of c.in_ok-clone-2.field-0.value ≡ x = ap form_of c.in_ok-clone-2.ensures.cases in
    let told = rw (one, two) at c.map.ensures.made in
    let wide = rw (one, two) at c.map.ensures.too_wide in
    wide_same (space_form_of c.args.first.now) (space_form_of c.args.second.now) c.map.result c.is_err.result c.is_err.ensures.value
    c.map.ensures.well_formed x first second told wide
