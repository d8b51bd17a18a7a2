use Rattle.std.proofs.Common.{refl, arith, ◌<◌, ◌≤◌, length}
use Rattle.std.specs.List.{All}
use Rattle.isl_meter.proofs.CutLemmas.{IsCharged_refl, IsCharged_trans}
use Rattle.isl_piece.specs.System.{IsSystemWithin}
use Rattle.isl_piece.proofs.FormedLaws.{system_within_kept}
use Rattle.isl_union.proofs.MeetSteps.{charged_bits, item_has, pieces_later}
use Rattle.isl_images.specs.Made.{IsPlain}
use Rattle.isl_precedence.specs.Precedence.{HasOccurrence, IsPlainPrecedence, IsAccessed, StopsAt}
use Rattle.isl_remainder.proofs.MadeLaws.{made_all, made_more, made_none}
use Rattle.isl_precedence.proofs.OrderLaws.{accessed_before}
use Rattle.isl_precedence.proofs.precedence.of_accesses.Goals as goal

pub from_start-requires-clause-source_within : goal.from_start-requires-clause-source_within
from_start-requires-clause-source_within c =
    system_within_kept c.loop-start.meter c.args.meter.now c.args.accesses.now.source.now.system
    (charged_bits c.args.meter.now c.loop-start.meter c.loop-start.invariant.charged) c.requires.source_within

pub from_start-requires-clause-sink_within : goal.from_start-requires-clause-sink_within
from_start-requires-clause-sink_within c =
    system_within_kept c.loop-start.meter c.args.meter.now c.args.accesses.now.sink.now.system
    (charged_bits c.args.meter.now c.loop-start.meter c.loop-start.invariant.charged) c.requires.sink_within

pub from_start-requires-clause-start_within : goal.from_start-requires-clause-start_within
from_start-requires-clause-start_within c =
    let low : c.loop-start.start-index < length c.args.times.now = omega arith in
    system_within_kept c.loop-start.meter c.args.meter.now c.start-item.result.system
    (charged_bits c.args.meter.now c.loop-start.meter c.loop-start.invariant.charged)
    (item_has (λ p. IsSystemWithin c.args.meter.now p.system) c.args.times.now c.loop-start.start-index c.start-item.result low
    c.start-item.is
    c.requires.times_within)

pub from_start-requires-clause-times_within : goal.from_start-requires-clause-times_within
from_start-requires-clause-times_within c =
    pieces_later c.args.meter.now c.loop-start.meter c.args.times.now c.loop-start.invariant.charged c.requires.times_within

pub loop-start-init : goal.loop-start-init
loop-start-init c =
    let params = c.args.params.now in
    record {
      made = made_none (HasOccurrence params) (IsAccessed c.args.meter.now params) IsPlainPrecedence ((IsPlain
          c.args.accesses.now.source.now × IsPlain c.args.accesses.now.sink.now) × All IsPlain c.args.times.now)
          (λ o p. StopsAt c.args.params.now c.args.accesses.now.source.now c.args.accesses.now.sink.now p c.args.times.now o)
          (c.args.times.now) c.new-made.result.items c.new-made.ensures.items;
      charged = IsCharged_refl c.args.meter.now c.args.meter.now refl;
    }

pub loop-start-preserved : goal.loop-start-preserved
loop-start-preserved c =
    let g = c.args.meter.now in
    let h = c.loop-start.meter in
    let params = c.args.params.now in
    let items = c.args.times.now in
    let i = c.loop-start.start-index in
    let item = c.start-item.result in
    let so_far = c.loop-start.invariant in
    let low : i < length items = omega arith in
    record {
      made = made_more (HasOccurrence params) (IsAccessed g params) IsPlainPrecedence ((IsPlain c.args.accesses.now.source.now ×
          IsPlain c.args.accesses.now.sink.now) × All IsPlain c.args.times.now)
          (λ o p. StopsAt c.args.params.now c.args.accesses.now.source.now c.args.accesses.now.sink.now p c.args.times.now o) items i
          item low c.start-item.is (IsAccessed h params)
          ((IsPlain c.args.accesses.now.source.now × IsPlain c.args.accesses.now.sink.now) × (IsPlain item × All IsPlain c.args.times.now))
          (λ o. StopsAt c.args.params.now c.args.accesses.now.source.now c.args.accesses.now.sink.now item c.args.times.now o) (λ r is.
          accessed_before g h params r so_far.charged is)
          (λ all. (all.0, (item_has IsPlain items i item low c.start-item.is all.1, all.1))) (λ o. ((λ x. x), (λ x. x)))
          c.loop-start.made.items
          c.in_ok-more.more.items c.append.new.precedences.items c.in_ok-append.ensures.items so_far.made c.in_ok-more.ensures.made;
      charged = IsCharged_trans g h c.from_start.new.meter so_far.charged c.in_ok-more.ensures.meter;
    }

pub returns-clause-made : goal.returns-clause-made
returns-clause-made c =
    let params = c.args.params.now in
    let items = c.args.times.now in
    let end : length items ≤ c.loop-start.start-index = omega arith in
    made_all (HasOccurrence params) (IsAccessed c.args.meter.now params) IsPlainPrecedence ((IsPlain c.args.accesses.now.source.now ×
    IsPlain c.args.accesses.now.sink.now) × All IsPlain c.args.times.now)
    (λ o p. StopsAt c.args.params.now c.args.accesses.now.source.now c.args.accesses.now.sink.now p c.args.times.now o) items
    c.loop-start.start-index end c.loop-start.made.items c.loop-start.invariant.made
