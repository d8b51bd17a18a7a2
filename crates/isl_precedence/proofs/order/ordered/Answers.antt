use Rattle.std.proofs.Common.{◌≡◌, ◌<◌, ◌≤◌, ◌∙◌, sym, ap, arith, [], ◌∷◌, length, get_or, Any, Result, Ok}
use Rattle.std.proofs.lemmas.List.FromFn.{length-range_with_len, get_or-range_with_len}
use Rattle.isl_meter.proofs.CutLemmas.{IsCharged_trans, IsCharged-unit}
use Rattle.isl_space.specs.Form.{width_of}
use Rattle.isl_space.specs.Shape.{form_of}
use Rattle.isl_space.specs.declared.shape.Shape.{Shape}
use Rattle.isl_math.specs.Order.{IsBefore}
use Rattle.isl_math.proofs.ListLaws.{All-last, Any-first, Any-one}
use Rattle.isl_piece.specs.declared.system.System.{System}
use Rattle.isl_piece.specs.System.{HoldsSystem}
use Rattle.isl_blocks.specs.Blocks.{block_at, numbers_of}
use Rattle.isl_blocks.specs.Cases.{IsBeforeAt}
use Rattle.isl_precedence.specs.declared.precedence.Precedence.{Precedence}
use Rattle.isl_precedence.specs.Forms.{widths_for}
use Rattle.isl_precedence.specs.Precedence.{HasOccurrence, HoldsFor, IsPlainPrecedence, IsAccessed}
use Rattle.isl_remainder.proofs.MadeLaws.{made_all, made_more, made_same}
use Rattle.isl_precedence.proofs.OrderLaws.{accessed_before, accessed_later, case_made, case_over, itself_over, places_in, some_place}
use Rattle.isl_precedence.proofs.OrderLaws.{DiffersFirst}
use Rattle.isl_precedence.proofs.SpreadLaws.{meet_made}
use Rattle.isl_precedence.proofs.order.ordered.Goals as goal

pub kept-requires : goal.kept-requires
kept-requires c =
    let g = c.args.meter.now in
    let h = c.loop-at.meter in
    let k = c.unit.new.self in
    let params = c.args.params.now in
    let f = c.args.forms.now in
    let s = c.args.system.now in
    let i = c.loop-at.at in
    let so_far = c.loop-at.invariant in
    let widths = widths_for params f in
    let case = c.in_ok-case.case in
    let r : Precedence = record { forms = c.in_ok-copy.field-0; system = c.in_ok-meet.field-0 } in
    let own = itself_over g widths s c.requires.within c.requires.columns in
    let other = case_over g widths 4 5 i case c.limit-limit.ensures.bits_low
    (rw (c.as_slice.ensures.value, c.in_ok-widths.ensures.exact) at c.in_ok-case.ensures) in
    let made : Result System (Unit {0}) = Ok c.in_ok-meet.field-0 in
    let both = meet_made g widths (s.definitions ≡ []) (Unit {0}) (λ blocks. HoldsSystem s (numbers_of blocks))
    (λ blocks. IsBeforeAt i (block_at blocks 4) (block_at blocks 5)) s case own other made
    (λ point l. c.in_ok-meet.ensures.points g point own.within other.within l) (c.in_ok-meet.ensures.within g own.within other.within)
    (c.in_ok-meet.ensures.free g own.within other.within) c.in_ok-meet.ensures.same in
    let one = case_made g params f s r i c.requires.narrow c.requires.space c.requires.place c.in_ok-copy.ensures both in
    let charged = IsCharged_trans g h k so_far.charged (IsCharged-unit h k c.in_ok-unit.ensures.1) in
    record { precedence = accessed_later g k params r charged (All-last (IsAccessed g params) [] r one.sound).1 }

pub loop-at-preserved : goal.loop-at-preserved
loop-at-preserved c =
    let g = c.args.meter.now in
    let h = c.loop-at.meter in
    let k = c.unit.new.self in
    let params = c.args.params.now in
    let f = c.args.forms.now in
    let s = c.args.system.now in
    let i = c.loop-at.at in
    let so_far = c.loop-at.invariant in
    let widths = widths_for params f in
    let width : c.width-at-end.result ≡ width_of (form_of f.time.value) =
    c.width-at-end.ensures ∙ ap (λ (x : Shape). width_of (form_of x)) c.deref.ensures in
    let low : i < width_of (form_of f.time.value) = omega (arith, width) in
    let long = length-range_with_len 0 (width_of (form_of f.time.value)) in
    let inside : i < length (places_in f) = omega (arith, low, long) in
    let at : i ≡ get_or (places_in f) i i = omega arith ∙ sym (get_or-range_with_len 0 (width_of (form_of f.time.value)) i i low) in
    let case = c.in_ok-case.case in
    let r : Precedence = record { forms = c.in_ok-copy.field-0; system = c.in_ok-meet.field-0 } in
    let own = itself_over g widths s c.requires.within c.requires.columns in
    let other = case_over g widths 4 5 i case c.limit-limit.ensures.bits_low
    (rw (c.as_slice.ensures.value, c.in_ok-widths.ensures.exact) at c.in_ok-case.ensures) in
    let made : Result System (Unit {0}) = Ok c.in_ok-meet.field-0 in
    let both = meet_made g widths (s.definitions ≡ []) (Unit {0}) (λ blocks. HoldsSystem s (numbers_of blocks))
    (λ blocks. IsBeforeAt i (block_at blocks 4) (block_at blocks 5)) s case own other made
    (λ point l. c.in_ok-meet.ensures.points g point own.within other.within l) (c.in_ok-meet.ensures.within g own.within other.within)
    (c.in_ok-meet.ensures.free g own.within other.within) c.in_ok-meet.ensures.same in
    let one = case_made g params f s r i c.requires.narrow c.requires.space c.requires.place c.in_ok-copy.ensures both in
    let charged = IsCharged_trans g h k so_far.charged (IsCharged-unit h k c.in_ok-unit.ensures.1) in
    record {
      made = made_more (HasOccurrence params) (IsAccessed g params) IsPlainPrecedence (s.definitions ≡ []) (λ o n. DiffersFirst
          params f s o n)
          (places_in f) i i inside at (IsAccessed k params) (IsPlainPrecedence r) (λ o. HasOccurrence params o r)
          (λ p is. accessed_before g k params p charged is) (λ e. (All-last IsPlainPrecedence [] r (one.plain e)).1)
          (λ o.
          let a = one.has o in
          ((λ x. a.0 (Any-first (HasOccurrence params o) r [] x)), (λ d. Any-one (HasOccurrence params o) r (a.1 d))))
          c.loop-at.made.items c.in_ok-more.more.items c.append.new.precedences.items c.in_ok-append.ensures.items so_far.made
          c.in_ok-more.ensures.made;
      charged = IsCharged_trans g k c.kept.new.meter charged c.in_ok-more.ensures.meter;
    }

pub returns-clause-made : goal.returns-clause-made
returns-clause-made c =
    let g = c.args.meter.now in
    let params = c.args.params.now in
    let f = c.args.forms.now in
    let s = c.args.system.now in
    let i = c.loop-at.at in
    let width : c.width-at-end.result ≡ width_of (form_of f.time.value) =
    c.width-at-end.ensures ∙ ap (λ (x : Shape). width_of (form_of x)) c.deref.ensures in
    let long = length-range_with_len 0 (width_of (form_of f.time.value)) in
    let end : length (places_in f) ≤ i = omega (arith, width, long) in
    let made = c.loop-at.made.items in
    made_same (HasOccurrence params) (IsAccessed g params) IsPlainPrecedence (s.definitions ≡ []) (IsAccessed g params)
    (s.definitions ≡ [])
    (λ o. Any (DiffersFirst params f s o) (places_in f)) (λ o. HoldsFor params f s o × IsBefore o.time.numbers o.sink_time.numbers) (λ
    r is. is)
    (λ e. e) (λ o. some_place g params f s o) made
    (made_all (HasOccurrence params) (IsAccessed g params) IsPlainPrecedence (s.definitions ≡ []) (λ o n. DiffersFirst params f s o
    n) (places_in f)
    i end made c.loop-at.invariant.made)
