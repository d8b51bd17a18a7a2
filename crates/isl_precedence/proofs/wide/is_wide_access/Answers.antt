use Rattle.std.proofs.Common.{◌≡◌, ap, sym, ◌∙◌, refl}
use Rattle.isl_space.specs.Form.{Form}
use Rattle.isl_space.specs.Shape.{form_of}
use Rattle.isl_space.specs.Space.{space_form_of}
use Rattle.isl_space.specs.SpaceForm.{map_of}
use Rattle.isl_precedence.proofs.WideLaws.{wide_access}
use Rattle.isl_precedence.proofs.wide.is_wide_access.Goals as goal

pub returns : goal.returns
returns c =
    let x = form_of c.in-Map-Map.from.value in
    let a = form_of c.in-Map-Map.access.value in
    let y = form_of c.in-Map-Map.to.value in
    let same : a ≡ form_of c.in-Map-Map.other.value =
    ap form_of (sym c.deref.ensures) ∙ c.if-not-same.ensures.0 refl ∙ ap form_of c.deref-2.ensures in
    let first = ap space_form_of c.in-Map-Map.is-0 in
    let second = ap space_form_of c.in-Map-Map.is-1 ∙ ap (λ (f : Form). map_of y f) (sym same) in
    let one : form_of c.in_ok-clone.field-0.value ≡ x = ap form_of c.in_ok-clone.ensures.cases in
    let two : form_of c.in_ok-clone-2.field-0.value ≡ y = ap form_of c.in_ok-clone-2.ensures.cases in
    let told = rw (one, two) at c.map.ensures.made in
    let wide = rw (one, two) at c.map.ensures.too_wide in
    wide_access (space_form_of c.args.source.now) (space_form_of c.args.sink.now) x y a first second c.map.result c.is_err.result
    c.is_err.ensures.value told c.map.ensures.well_formed wide
