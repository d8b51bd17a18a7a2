use Rattle.std.proofs.Common.{◌≡◌, ◌↔◌, ◌+◌, ◌*◌, ◌++◌, ◌∙◌, refl, sym, ap, ap₂, arith, subst, length, map, ℕ, ℤ, List}
use Rattle.std.specs.List.{All}
use Rattle.isl_space.specs.Form.{width_of}
use Rattle.isl_space.specs.Shape.{form_of}
use Rattle.isl_space.specs.SpaceForm.{SpaceForm, map_of}
use Rattle.isl_space.specs.declared.shape.Shape.{Shape}
use Rattle.isl_piece.specs.declared.system.System.{System}
use Rattle.isl_elim.specs.Elimination.{HoldsAtAny}
use Rattle.isl_difference.specs.Difference.{IsOutside}
use Rattle.isl_difference.specs.Split.{IsLive}
use Rattle.isl_images.specs.Made.{IsPlain}
use Rattle.isl_union.specs.KeptValue.{columns_of}
use Rattle.isl_union.specs.Minus.{piece_in}
use Rattle.isl_blocks.specs.Blocks.{total}
use Rattle.isl_precedence.specs.Forms.{widths_for}
use Rattle.isl_precedence.specs.Later.{ShowsLeft, ShowsWith}
use Rattle.isl_precedence.specs.Later.{IsPlainLater}
use Rattle.isl_precedence.specs.Precedence.{HasAt, IsPlainPrecedence, IsSound}
use Rattle.isl_precedence.proofs.LastLaws.{asked_is, shown_left}
use Rattle.isl_remainder.proofs.MadeLaws.{made_same}
use Rattle.isl_precedence.proofs.PieceLaws.{pieces_with}
use Rattle.isl_precedence.proofs.lasts.lasts_of.Goals as goal

pub all_later_systems-requires-clause-columns : goal.all_later_systems-requires-clause-columns
all_later_systems-requires-clause-columns c = λ k d l. (c.requires.laters k d l).free

pub left_over-requires : goal.left_over-requires
left_over-requires c =
    let g = c.args.meter.now in
    let params = c.args.params.now in
    let r = c.args.precedence.now in
    let wide = λ (s : Shape). width_of (form_of s) in
    let wx : c.width.result ≡ width_of (form_of r.forms.source.value) = c.width.ensures ∙ ap wide c.deref.ensures in
    let wy : c.width-2.result ≡ width_of (form_of r.forms.sink.value) = c.width-2.ensures ∙ ap wide c.deref-2.ensures in
    let wa : c.width-3.result ≡ width_of (form_of r.forms.access.value) = c.width-3.ensures ∙ ap wide c.deref-3.ensures in
    let wp : c.width-4.result ≡ width_of (form_of r.forms.time.value) = c.width-4.ensures ∙ ap wide c.deref-4.ensures in
    let l = c.len.ensures.len in
    let kept = c.len.result + c.width.result + c.width-2.result in
    let count = c.width-3.result + 2 * c.width-4.result in
    let same : kept + count ≡ total (widths_for params r.forms) = omega (arith, l, wx, wy, wa, wp) in
    asked_is g params r c.requires.precedence c.args.laters.now c.in_ok-others.others.items (c.in_ok-others.ensures g c.requires.laters)
    kept count (record { system = c.in_ok-system.system; others = c.in_ok-others.others; count = count }) c.in_ok-system.ensures refl refl
    same

pub returns-clause-made : goal.returns-clause-made
returns-clause-made c =
    let g = c.args.meter.now in
    let params = c.args.params.now in
    let r = c.args.precedence.now in
    let laters = c.args.laters.now in
    let others = c.in_ok-others.others.items in
    let later = c.in_ok-others.ensures g c.requires.laters in
    let systems = c.in_ok-systems.systems.items in
    let x = form_of r.forms.source.value in
    let y = form_of r.forms.sink.value in
    let wide = λ (s : Shape). width_of (form_of s) in
    let wx : c.width.result ≡ width_of x = c.width.ensures ∙ ap wide c.deref.ensures in
    let wy : c.width-2.result ≡ width_of y = c.width-2.ensures ∙ ap wide c.deref-2.ensures in
    let wa : c.width-3.result ≡ width_of (form_of r.forms.access.value) = c.width-3.ensures ∙ ap wide c.deref-3.ensures in
    let wp : c.width-4.result ≡ width_of (form_of r.forms.time.value) = c.width-4.ensures ∙ ap wide c.deref-4.ensures in
    let l = c.len.ensures.len in
    let kept : c.len.result + c.width.result + c.width-2.result ≡ columns_of params (map_of x y) = omega (arith, l, wx, wy) in
    let rest : c.width-3.result + 2 * c.width-4.result ≡ width_of (form_of r.forms.access.value) + 2 * width_of (form_of
    r.forms.time.value) =
    omega (arith, wa, wp) in
    let left = c.in_ok-systems.ensures.made in
    let Plain = IsPlainPrecedence r × All IsPlainLater laters in
    let P = IsOutside r.system others in
    let at = ap₂ map_of (ap form_of c.in_ok-clone.ensures.cases) (ap form_of c.in_ok-clone-2.ensures.cases) in
    let made = c.in_ok-pieces_in.field-0.items in
    let is = pieces_with g params r c.requires.precedence P systems
    (λ point long. subst (λ (n : ℕ). (λ (m : ℕ). HoldsAtAny systems point ↔ ((behind : List ℤ) × (length behind ≡ m) × P (point ++ behind)))
    n) rest (subst (λ (s : System). HoldsAtAny systems point ↔ ((behind : List ℤ)
    × (length behind ≡ c.width-3.result + 2 * c.width-4.result) × IsOutside s others (point ++ behind))) c.in_ok-system.ensures
    (left.points point (long ∙ sym kept))))
    Plain (subst (λ (n : ℕ). All (IsLive g n) systems) kept left.live)
    (λ p. left.definitions (record { system = ap (λ (s : System). s.definitions) c.in_ok-system.ensures ∙ p.0; others = later.plain p.1 }))
    made (c.in_ok-pieces_in.ensures ∙ ap (λ (s : SpaceForm). map (piece_in s) systems) at) in
    made_same (HasAt params) (IsSound g params) IsPlain Plain (IsSound g params) Plain (λ at. ShowsWith params r.forms P at.0 at.1)
    (λ at. ShowsLeft params laters at.0 at.1 r) (λ p s. s) (λ p. p)
    (λ at. shown_left g params r c.requires.precedence laters others later at.0 at.1) made is
