use Rattle.std.proofs.Common.{◌≡◌, ◌<◌, ◌≤◌, ◌∙◌, sym, ap, arith, [], ◌∷◌, length, get_or, Any}
use Rattle.std.proofs.lemmas.List.FromFn.{length-range_with_len, get_or-range_with_len}
use Rattle.isl_meter.proofs.CutLemmas.{IsCharged_trans}
use Rattle.isl_space.specs.Form.{width_of}
use Rattle.isl_space.specs.Shape.{form_of}
use Rattle.isl_space.specs.declared.shape.Shape.{Shape}
use Rattle.isl_piece.proofs.FormedLaws.{system_within_kept}
use Rattle.isl_union.proofs.MeetSteps.{charged_bits}
use Rattle.isl_blocks.specs.Blocks.{IsSpread}
use Rattle.isl_precedence.specs.Later.{behind_blocks, wide_widths, ComesLater, ComesLaterAt, HasLater, IsLater, IsPlainLater}
use Rattle.isl_precedence.specs.Precedence.{IsPlainPrecedence}
use Rattle.isl_precedence.proofs.LaterLaws.{later_before, later_somewhere}
use Rattle.isl_remainder.proofs.MadeLaws.{made_all, made_more, made_same}
use Rattle.isl_precedence.proofs.OrderLaws.{places_in}
use Rattle.isl_precedence.proofs.later.laters_of.Goals as goal

pub later_at-requires-clause-within : goal.later_at-requires-clause-within
later_at-requires-clause-within c =
    let g = c.args.meter.now in
    let params = c.args.params.now in
    let f = c.args.precedence.now.forms in
    let s = c.in_ok-system.system in
    let spread : IsSpread g (wide_widths params f) behind_blocks c.args.precedence.now.system s =
    rw (c.as_slice.ensures.value, c.in_ok-widths.ensures.exact) at (c.in_ok-system.ensures g c.requires.precedence.within) in
    system_within_kept c.loop-at.meter g s (charged_bits g c.loop-at.meter c.loop-at.invariant.charged) spread.within

pub loop-at-preserved : goal.loop-at-preserved
loop-at-preserved c =
    let g = c.args.meter.now in
    let h = c.loop-at.meter in
    let params = c.args.params.now in
    let f = c.args.precedence.now.forms in
    let s = c.in_ok-system.system in
    let i = c.loop-at.at in
    let so_far = c.loop-at.invariant in
    let width : c.width-at-end.result ≡ width_of (form_of f.time.value) =
    c.width-at-end.ensures ∙ ap (λ (x : Shape). width_of (form_of x)) c.deref.ensures in
    let low : i < width_of (form_of f.time.value) = omega (arith, width) in
    let long = length-range_with_len 0 (width_of (form_of f.time.value)) in
    let inside : i < length (places_in f) = omega (arith, low, long) in
    let at : i ≡ get_or (places_in f) i i = omega arith ∙ sym (get_or-range_with_len 0 (width_of (form_of f.time.value)) i i low) in
    let k = c.in_ok-later_at.field-0 in
    record {
      made = made_more (HasLater params) (IsLater g params) IsPlainLater (s.definitions ≡ []) (λ o n. ComesLaterAt params f s n o)
          (places_in f) i i inside at (IsLater h params) (s.definitions ≡ []) (λ o. ComesLaterAt params f s i o)
          (λ k is. later_before g h params k so_far.charged is) (λ e. e) (λ o. ((λ x. x), (λ x. x))) c.loop-at.made.items (k ∷ [])
          c.push.new.self.items c.in_ok-push.ensures.items so_far.made c.in_ok-later_at.ensures.made;
      charged = IsCharged_trans g h c.later_at.new.meter so_far.charged c.in_ok-later_at.ensures.meter;
    }

pub returns-clause-made : goal.returns-clause-made
returns-clause-made c =
    let g = c.args.meter.now in
    let params = c.args.params.now in
    let r = c.args.precedence.now in
    let f = r.forms in
    let s = c.in_ok-system.system in
    let i = c.loop-at.at in
    let width : c.width-at-end.result ≡ width_of (form_of f.time.value) =
    c.width-at-end.ensures ∙ ap (λ (x : Shape). width_of (form_of x)) c.deref.ensures in
    let long = length-range_with_len 0 (width_of (form_of f.time.value)) in
    let end : length (places_in f) ≤ i = omega (arith, width, long) in
    let spread : IsSpread g (wide_widths params f) behind_blocks r.system s =
    rw (c.as_slice.ensures.value, c.in_ok-widths.ensures.exact) at (c.in_ok-system.ensures g c.requires.precedence.within) in
    let made = c.loop-at.made.items in
    made_same (HasLater params) (IsLater g params) IsPlainLater (s.definitions ≡ []) (IsLater g params) (IsPlainPrecedence r)
    (λ o. Any (λ n. ComesLaterAt params f s n o) (places_in f)) (λ o. ComesLater params o r) (λ k is. is) spread.definitions
    (λ o. later_somewhere g params r s spread o) made
    (made_all (HasLater params) (IsLater g params) IsPlainLater (s.definitions ≡ []) (λ o n. ComesLaterAt params f s n o) (places_in f)
    i end made c.loop-at.invariant.made)
