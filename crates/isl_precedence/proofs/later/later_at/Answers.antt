use Rattle.std.proofs.Common.{◌≡◌, ◌+◌, ◌*◌, ◌∙◌, ap, arith, subst, ℕ, [], Result, Ok}
use Rattle.isl_meter.proofs.CutLemmas.{IsCharged-unit}
use Rattle.isl_space.specs.Form.{width_of}
use Rattle.isl_space.specs.Shape.{form_of}
use Rattle.isl_space.specs.declared.shape.Shape.{Shape}
use Rattle.isl_piece.specs.declared.system.System.{System}
use Rattle.isl_piece.specs.System.{HoldsSystem}
use Rattle.isl_piece.proofs.FormedLaws.{system_within_kept}
use Rattle.isl_union.proofs.MeetSteps.{charged_bits}
use Rattle.isl_blocks.specs.Blocks.{block_at, numbers_of, total}
use Rattle.isl_blocks.specs.Cases.{IsBeforeAt}
use Rattle.isl_blocks.specs.Left.{IsLeftWithout}
use Rattle.isl_precedence.specs.declared.later.Later.{Later}
use Rattle.isl_precedence.specs.Later.{later_widths, wide_widths}
use Rattle.isl_precedence.proofs.LaterLaws.{later_made, left_before}
use Rattle.isl_precedence.proofs.OrderLaws.{case_over, itself_over}
use Rattle.isl_precedence.proofs.SpreadLaws.{meet_made}
use Rattle.isl_precedence.proofs.later.later_at.Goals as goal

pub live_without-requires : goal.live_without-requires
live_without-requires c =
    let g = c.args.meter.now in
    let h = c.unit.new.self in
    let params = c.args.params.now in
    let f = c.args.forms.now in
    let s = c.args.system.now in
    let both = c.in_ok-both.both in
    let within = c.requires.within in
    let case = (rw (c.as_slice.ensures.value, c.in_ok-widths.ensures.exact) at c.in_ok-case.ensures).within g
    c.limit-limit.ensures.bits_low in
    let charged = IsCharged-unit g h c.in_ok-unit.ensures.1 in
    let wide = λ (s : Shape). width_of (form_of s) in
    let wp : c.width-time.result ≡ width_of (form_of f.time.value) = c.width-time.ensures ∙ ap wide c.deref.ensures in
    let wy : c.width.result ≡ width_of (form_of f.sink.value) = c.width.ensures ∙ ap wide c.deref-2.ensures in
    let wa : c.width-2.result ≡ width_of (form_of f.access.value) = c.width-2.ensures ∙ ap wide c.deref-3.ensures in
    let wx : c.width-3.result ≡ width_of (form_of f.source.value) = c.width-3.ensures ∙ ap wide c.deref-4.ensures in
    let l = c.len.ensures.len in
    let free = c.in_ok-both.ensures.free g within case in
    let own = c.requires.free in
    record {
      within = system_within_kept h g both (charged_bits g h charged) (c.in_ok-both.ensures.within g within case);
      columns = omega (arith, free, own, l, wp, wy, wa, wx);
    }

pub returns-clause-made : goal.returns-clause-made
returns-clause-made c =
    let g = c.args.meter.now in
    let h = c.unit.new.self in
    let params = c.args.params.now in
    let f = c.args.forms.now in
    let s = c.args.system.now in
    let i = c.args.at in
    let widths = wide_widths params f in
    let case = c.in_ok-case.case in
    let both = c.in_ok-both.both in
    let own = itself_over g widths s c.requires.within c.requires.free in
    let other = case_over g widths 3 6 i case c.limit-limit.ensures.bits_low
    (rw (c.as_slice.ensures.value, c.in_ok-widths.ensures.exact) at c.in_ok-case.ensures) in
    let made : Result System (Unit {0}) = Ok both in
    let over = meet_made g widths (s.definitions ≡ []) (Unit {0}) (λ blocks. HoldsSystem s (numbers_of blocks))
    (λ blocks. IsBeforeAt i (block_at blocks 3) (block_at blocks 6)) s case own other made
    (λ point l. c.in_ok-both.ensures.points g point own.within other.within l) (c.in_ok-both.ensures.within g own.within other.within)
    (c.in_ok-both.ensures.free g own.within other.within) c.in_ok-both.ensures.same in
    let charged = IsCharged-unit g h c.in_ok-unit.ensures.1 in
    let wide = λ (s : Shape). width_of (form_of s) in
    let wp : c.width-time.result ≡ width_of (form_of f.time.value) = c.width-time.ensures ∙ ap wide c.deref.ensures in
    let wy : c.width.result ≡ width_of (form_of f.sink.value) = c.width.ensures ∙ ap wide c.deref-2.ensures in
    let wa : c.width-2.result ≡ width_of (form_of f.access.value) = c.width-2.ensures ∙ ap wide c.deref-3.ensures in
    let wx : c.width-3.result ≡ width_of (form_of f.source.value) = c.width-3.ensures ∙ ap wide c.deref-4.ensures in
    let l = c.len.ensures.len in
    let kept : c.len.result + (c.width.result + c.width-2.result) + 2 * c.width-time.result ≡ total (later_widths params f) =
    omega (arith, l, wp, wy, wa) in
    let rest : c.width-3.result + c.width-time.result ≡ width_of (form_of f.source.value) + width_of (form_of f.time.value) =
    omega (arith, wx, wp) in
    let k : Later = record { forms = c.in_ok-copy.field-0; systems = c.in_ok-live_without.field-0 } in
    let left = subst (λ (n : ℕ). IsLeftWithout h both (total (later_widths params f)) n k.systems.items) rest
    (subst (λ (n : ℕ). IsLeftWithout h both n (c.width-3.result + c.width-time.result) k.systems.items) kept
    c.in_ok-live_without.ensures.left) in
    later_made g params f s both i k c.in_ok-copy.ensures over
    (left_before g h both (total (later_widths params f)) _ k.systems.items charged left)
