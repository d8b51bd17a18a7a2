use Rattle.std.proofs.Common.{◌≡◌, ◌+◌, ◌*◌, ◌∙◌, ap, ap₂, arith, subst, map, ℕ}
use Rattle.isl_space.specs.Form.{width_of}
use Rattle.isl_space.specs.Shape.{form_of}
use Rattle.isl_space.specs.SpaceForm.{SpaceForm, map_of}
use Rattle.isl_space.specs.declared.shape.Shape.{Shape}
use Rattle.isl_union.specs.KeptValue.{columns_of}
use Rattle.isl_union.specs.Minus.{piece_in}
use Rattle.isl_blocks.specs.Left.{IsLeftWithout}
use Rattle.isl_precedence.proofs.PieceLaws.{pieces_made}
use Rattle.isl_precedence.proofs.before.pieces_of.Goals as goal

pub returns-clause-made : goal.returns-clause-made
returns-clause-made c =
    let g = c.args.meter.now in
    let params = c.args.params.now in
    let r = c.args.precedence.now in
    let systems = c.in_ok-systems.systems.items in
    let x = form_of r.forms.source.value in
    let y = form_of r.forms.sink.value in
    let wide = λ (s : Shape). width_of (form_of s) in
    let wx : c.width.result ≡ width_of x = c.width.ensures ∙ ap wide c.deref.ensures in
    let wy : c.width-2.result ≡ width_of y = c.width-2.ensures ∙ ap wide c.deref-2.ensures in
    let wa : c.width-3.result ≡ width_of (form_of r.forms.access.value) = c.width-3.ensures ∙ ap wide c.deref-3.ensures in
    let wp : c.width-4.result ≡ width_of (form_of r.forms.time.value) = c.width-4.ensures ∙ ap wide c.deref-4.ensures in
    let l = c.len.ensures.len in
    let kept : c.len.result + c.width.result + c.width-2.result ≡ columns_of params (map_of x y) = omega (arith, l, wx, wy) in
    let rest : c.width-3.result + 2 * c.width-4.result ≡ width_of (form_of r.forms.access.value) + 2 * width_of (form_of
    r.forms.time.value) =
    omega (arith, wa, wp) in
    let left = subst (λ (n : ℕ). IsLeftWithout g r.system (columns_of params (map_of x y)) n systems) rest
    (subst (λ (n : ℕ). IsLeftWithout g r.system n (c.width-3.result + 2 * c.width-4.result) systems) kept c.in_ok-systems.ensures.left) in
    let at = ap₂ map_of (ap form_of c.in_ok-clone.ensures.cases) (ap form_of c.in_ok-clone-2.ensures.cases) in
    pieces_made g params r c.requires.precedence systems left c.in_ok-pieces_in.field-0.items
    (c.in_ok-pieces_in.ensures ∙ ap (λ (s : SpaceForm). map (piece_in s) systems) at)
