use Rattle.std.proofs.Common.{refl, arith, ◌<◌, ◌≤◌, length}
use Rattle.std.specs.List.{All}
use Rattle.isl_meter.proofs.CutLemmas.{IsCharged_refl, IsCharged_trans}
use Rattle.isl_piece.specs.System.{IsSystemWithin}
use Rattle.isl_piece.proofs.FormedLaws.{system_within_kept}
use Rattle.isl_union.proofs.MeetSteps.{charged_bits, item_has, pieces_later}
use Rattle.isl_images.specs.Made.{IsPlain}
use Rattle.isl_precedence.specs.Precedence.{HasOccurrence, IsPlainPrecedence, IsAccessed, StartsAt}
use Rattle.isl_precedence.specs.WideAccess.{IsWideAccess}
use Rattle.isl_remainder.proofs.MadeLaws.{made_all, made_more, made_none}
use Rattle.isl_precedence.proofs.OrderLaws.{accessed_before}
use Rattle.isl_precedence.proofs.precedence.of_source.Goals as goal

pub of_accesses-requires-clause-narrow : goal.of_accesses-requires-clause-narrow
of_accesses-requires-clause-narrow c =
    let low : c.loop-sink.sink-index < length c.args.sinks.now = omega arith in
    item_has (λ p. ¬ IsWideAccess c.args.source.now.space p.space) c.args.sinks.now c.loop-sink.sink-index c.sink-item.result low
    c.sink-item.is
    c.requires.narrow

pub of_accesses-requires-clause-source_within : goal.of_accesses-requires-clause-source_within
of_accesses-requires-clause-source_within c =
    system_within_kept c.loop-sink.meter c.args.meter.now c.args.source.now.system
    (charged_bits c.args.meter.now c.loop-sink.meter c.loop-sink.invariant.charged) c.requires.source_within

pub of_accesses-requires-clause-sink_within : goal.of_accesses-requires-clause-sink_within
of_accesses-requires-clause-sink_within c =
    let low : c.loop-sink.sink-index < length c.args.sinks.now = omega arith in
    system_within_kept c.loop-sink.meter c.args.meter.now c.sink-item.result.system
    (charged_bits c.args.meter.now c.loop-sink.meter c.loop-sink.invariant.charged)
    (item_has (λ p. IsSystemWithin c.args.meter.now p.system) c.args.sinks.now c.loop-sink.sink-index c.sink-item.result low c.sink-item.is
    c.requires.sinks_within)

pub of_accesses-requires-clause-times_within : goal.of_accesses-requires-clause-times_within
of_accesses-requires-clause-times_within c =
    pieces_later c.args.meter.now c.loop-sink.meter c.args.times.now c.loop-sink.invariant.charged c.requires.times_within

pub loop-sink-init : goal.loop-sink-init
loop-sink-init c =
    let params = c.args.params.now in
    record {
      made = made_none (HasOccurrence params) (IsAccessed c.args.meter.now params) IsPlainPrecedence ((IsPlain c.args.source.now ×
          All IsPlain c.args.sinks.now) × All IsPlain c.args.times.now)
          (λ o p. StartsAt c.args.params.now c.args.source.now p c.args.times.now o) (c.args.sinks.now) c.new-made.result.items
          c.new-made.ensures.items;
      charged = IsCharged_refl c.args.meter.now c.args.meter.now refl;
    }

pub loop-sink-preserved : goal.loop-sink-preserved
loop-sink-preserved c =
    let g = c.args.meter.now in
    let h = c.loop-sink.meter in
    let params = c.args.params.now in
    let items = c.args.sinks.now in
    let i = c.loop-sink.sink-index in
    let item = c.sink-item.result in
    let so_far = c.loop-sink.invariant in
    let low : i < length items = omega arith in
    record {
      made = made_more (HasOccurrence params) (IsAccessed g params) IsPlainPrecedence ((IsPlain c.args.source.now × All IsPlain
          c.args.sinks.now) × All IsPlain c.args.times.now)
          (λ o p. StartsAt c.args.params.now c.args.source.now p c.args.times.now o) items i item low c.sink-item.is (IsAccessed h params)
          ((IsPlain c.args.source.now × IsPlain item) × All IsPlain c.args.times.now)
          (λ o. StartsAt c.args.params.now c.args.source.now item c.args.times.now o) (λ r is. accessed_before g h params r
          so_far.charged is)
          (λ all. ((all.0.0, item_has IsPlain items i item low c.sink-item.is all.0.1), all.1)) (λ o. ((λ x. x), (λ x. x)))
          c.loop-sink.made.items
          c.in_ok-more.more.items c.append.new.precedences.items c.in_ok-append.ensures.items so_far.made c.in_ok-more.ensures.made;
      charged = IsCharged_trans g h c.of_accesses.new.meter so_far.charged c.in_ok-more.ensures.meter;
    }

pub returns-clause-made : goal.returns-clause-made
returns-clause-made c =
    let params = c.args.params.now in
    let items = c.args.sinks.now in
    let end : length items ≤ c.loop-sink.sink-index = omega arith in
    made_all (HasOccurrence params) (IsAccessed c.args.meter.now params) IsPlainPrecedence ((IsPlain c.args.source.now × All IsPlain
    c.args.sinks.now) × All IsPlain c.args.times.now)
    (λ o p. StartsAt c.args.params.now c.args.source.now p c.args.times.now o) items c.loop-sink.sink-index end c.loop-sink.made.items
    c.loop-sink.invariant.made
