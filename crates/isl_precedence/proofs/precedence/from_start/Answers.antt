use Rattle.std.proofs.Common.{refl, arith, ◌<◌, ◌≤◌, length}
use Rattle.std.specs.List.{All}
use Rattle.isl_meter.proofs.CutLemmas.{IsCharged_refl, IsCharged_trans}
use Rattle.isl_piece.specs.System.{IsSystemWithin}
use Rattle.isl_piece.proofs.FormedLaws.{system_within_kept}
use Rattle.isl_union.proofs.MeetSteps.{charged_bits, item_has}
use Rattle.isl_images.specs.Made.{IsPlain}
use Rattle.isl_precedence.specs.Precedence.{HasOccurrence, IsPlainPrecedence, IsAccessed, AreOrdered}
use Rattle.isl_remainder.proofs.MadeLaws.{made_all, made_more, made_none}
use Rattle.isl_precedence.proofs.OrderLaws.{accessed_before}
use Rattle.isl_precedence.proofs.precedence.from_start.Goals as goal

pub between-requires-clause-source_within : goal.between-requires-clause-source_within
between-requires-clause-source_within c =
    system_within_kept c.loop-stop.meter c.args.meter.now c.args.accesses.now.source.now.system
    (charged_bits c.args.meter.now c.loop-stop.meter c.loop-stop.invariant.charged) c.requires.source_within

pub between-requires-clause-sink_within : goal.between-requires-clause-sink_within
between-requires-clause-sink_within c =
    system_within_kept c.loop-stop.meter c.args.meter.now c.args.accesses.now.sink.now.system
    (charged_bits c.args.meter.now c.loop-stop.meter c.loop-stop.invariant.charged) c.requires.sink_within

pub between-requires-clause-start_within : goal.between-requires-clause-start_within
between-requires-clause-start_within c =
    system_within_kept c.loop-stop.meter c.args.meter.now c.args.start.now.system
    (charged_bits c.args.meter.now c.loop-stop.meter c.loop-stop.invariant.charged) c.requires.start_within

pub between-requires-clause-stop_within : goal.between-requires-clause-stop_within
between-requires-clause-stop_within c =
    let low : c.loop-stop.stop-index < length c.args.times.now = omega arith in
    system_within_kept c.loop-stop.meter c.args.meter.now c.stop-item.result.system
    (charged_bits c.args.meter.now c.loop-stop.meter c.loop-stop.invariant.charged)
    (item_has (λ p. IsSystemWithin c.args.meter.now p.system) c.args.times.now c.loop-stop.stop-index c.stop-item.result low c.stop-item.is
    c.requires.times_within)

pub loop-stop-init : goal.loop-stop-init
loop-stop-init c =
    let params = c.args.params.now in
    record {
      made = made_none (HasOccurrence params) (IsAccessed c.args.meter.now params) IsPlainPrecedence ((IsPlain
          c.args.accesses.now.source.now × IsPlain c.args.accesses.now.sink.now) × (IsPlain c.args.start.now × All IsPlain
          c.args.times.now))
          (λ o p. AreOrdered c.args.params.now c.args.accesses.now.source.now c.args.accesses.now.sink.now c.args.start.now p o)
          (c.args.times.now) c.new-made.result.items c.new-made.ensures.items;
      charged = IsCharged_refl c.args.meter.now c.args.meter.now refl;
    }

pub loop-stop-preserved : goal.loop-stop-preserved
loop-stop-preserved c =
    let g = c.args.meter.now in
    let h = c.loop-stop.meter in
    let params = c.args.params.now in
    let items = c.args.times.now in
    let i = c.loop-stop.stop-index in
    let item = c.stop-item.result in
    let so_far = c.loop-stop.invariant in
    let low : i < length items = omega arith in
    record {
      made = made_more (HasOccurrence params) (IsAccessed g params) IsPlainPrecedence ((IsPlain c.args.accesses.now.source.now ×
          IsPlain c.args.accesses.now.sink.now) × (IsPlain c.args.start.now × All IsPlain c.args.times.now))
          (λ o p. AreOrdered c.args.params.now c.args.accesses.now.source.now c.args.accesses.now.sink.now c.args.start.now p o) items
          i item low c.stop-item.is (IsAccessed h params)
          ((IsPlain c.args.accesses.now.source.now × IsPlain c.args.accesses.now.sink.now) × (IsPlain c.args.start.now × IsPlain item))
          (λ o. AreOrdered c.args.params.now c.args.accesses.now.source.now c.args.accesses.now.sink.now c.args.start.now item o) (λ r
          is. accessed_before g h params r so_far.charged is)
          (λ all. (all.0, (all.1.0, item_has IsPlain items i item low c.stop-item.is all.1.1))) (λ o. ((λ x. x), (λ x. x)))
          c.loop-stop.made.items
          c.in_ok-more.more.items c.append.new.precedences.items c.in_ok-append.ensures.items so_far.made c.in_ok-more.ensures.made;
      charged = IsCharged_trans g h c.between.new.meter so_far.charged c.in_ok-more.ensures.meter;
    }

pub returns-clause-made : goal.returns-clause-made
returns-clause-made c =
    let params = c.args.params.now in
    let items = c.args.times.now in
    let end : length items ≤ c.loop-stop.stop-index = omega arith in
    made_all (HasOccurrence params) (IsAccessed c.args.meter.now params) IsPlainPrecedence ((IsPlain c.args.accesses.now.source.now ×
    IsPlain c.args.accesses.now.sink.now) × (IsPlain c.args.start.now × All IsPlain c.args.times.now))
    (λ o p. AreOrdered c.args.params.now c.args.accesses.now.source.now c.args.accesses.now.sink.now c.args.start.now p o) items
    c.loop-stop.stop-index end c.loop-stop.made.items c.loop-stop.invariant.made
