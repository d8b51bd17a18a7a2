use Rattle.std.proofs.Common.{refl, arith, ◌<◌, ◌≤◌, length}
use Rattle.std.specs.List.{All}
use Rattle.isl_meter.proofs.CutLemmas.{IsCharged_refl, IsCharged_trans}
use Rattle.isl_piece.specs.System.{IsSystemWithin}
use Rattle.isl_piece.proofs.FormedLaws.{system_within_kept}
use Rattle.isl_union.proofs.MeetSteps.{charged_bits, item_has, pieces_later}
use Rattle.isl_images.specs.Made.{IsPlain}
use Rattle.isl_precedence.specs.Precedence.{HasOccurrence, IsPlainPrecedence, IsAccessed, SinksIn}
use Rattle.isl_precedence.specs.WideAccess.{IsWideAccess}
use Rattle.isl_remainder.proofs.MadeLaws.{made_all, made_more, made_none}
use Rattle.isl_precedence.proofs.OrderLaws.{accessed_before}
use Rattle.isl_precedence.proofs.precedence.precedences.Goals as goal

pub of_source-requires-clause-narrow : goal.of_source-requires-clause-narrow
of_source-requires-clause-narrow c =
    let low : c.loop-source.source-index < length c.args.sources.now = omega arith in
    item_has (λ p. All (λ q. ¬ IsWideAccess p.space q.space) c.args.sinks.now) c.args.sources.now c.loop-source.source-index
    c.source-item.result low
    c.source-item.is c.requires.narrow

pub of_source-requires-clause-source_within : goal.of_source-requires-clause-source_within
of_source-requires-clause-source_within c =
    let low : c.loop-source.source-index < length c.args.sources.now = omega arith in
    system_within_kept c.loop-source.meter c.args.meter.now c.source-item.result.system
    (charged_bits c.args.meter.now c.loop-source.meter c.loop-source.invariant.charged)
    (item_has (λ p. IsSystemWithin c.args.meter.now p.system) c.args.sources.now c.loop-source.source-index c.source-item.result low
    c.source-item.is
    c.requires.sources_within)

pub of_source-requires-clause-sinks_within : goal.of_source-requires-clause-sinks_within
of_source-requires-clause-sinks_within c =
    pieces_later c.args.meter.now c.loop-source.meter c.args.sinks.now c.loop-source.invariant.charged c.requires.sinks_within

pub of_source-requires-clause-times_within : goal.of_source-requires-clause-times_within
of_source-requires-clause-times_within c =
    pieces_later c.args.meter.now c.loop-source.meter c.args.times.now c.loop-source.invariant.charged c.requires.times_within

pub loop-source-init : goal.loop-source-init
loop-source-init c =
    let params = c.args.params.now in
    record {
      made = made_none (HasOccurrence params) (IsAccessed c.args.meter.now params) IsPlainPrecedence ((All IsPlain c.args.sources.now
          × All IsPlain c.args.sinks.now) × All IsPlain c.args.times.now)
          (λ o p. SinksIn c.args.params.now p c.args.sinks.now c.args.times.now o) (c.args.sources.now) c.new-made.result.items
          c.new-made.ensures.items;
      charged = IsCharged_refl c.args.meter.now c.args.meter.now refl;
    }

pub loop-source-preserved : goal.loop-source-preserved
loop-source-preserved c =
    let g = c.args.meter.now in
    let h = c.loop-source.meter in
    let params = c.args.params.now in
    let items = c.args.sources.now in
    let i = c.loop-source.source-index in
    let item = c.source-item.result in
    let so_far = c.loop-source.invariant in
    let low : i < length items = omega arith in
    record {
      made = made_more (HasOccurrence params) (IsAccessed g params) IsPlainPrecedence ((All IsPlain c.args.sources.now × All IsPlain
          c.args.sinks.now) × All IsPlain c.args.times.now)
          (λ o p. SinksIn c.args.params.now p c.args.sinks.now c.args.times.now o) items i item low c.source-item.is (IsAccessed h params)
          ((IsPlain item × All IsPlain c.args.sinks.now) × All IsPlain c.args.times.now)
          (λ o. SinksIn c.args.params.now item c.args.sinks.now c.args.times.now o) (λ r is. accessed_before g h params r
          so_far.charged is)
          (λ all. ((item_has IsPlain items i item low c.source-item.is all.0.0, all.0.1), all.1)) (λ o. ((λ x. x), (λ x. x)))
          c.loop-source.made.items
          c.in_ok-more.more.items c.append.new.precedences.items c.in_ok-append.ensures.items so_far.made c.in_ok-more.ensures.made;
      charged = IsCharged_trans g h c.of_source.new.meter so_far.charged c.in_ok-more.ensures.meter;
    }

pub returns-clause-made : goal.returns-clause-made
returns-clause-made c =
    let params = c.args.params.now in
    let items = c.args.sources.now in
    let end : length items ≤ c.loop-source.source-index = omega arith in
    made_all (HasOccurrence params) (IsAccessed c.args.meter.now params) IsPlainPrecedence ((All IsPlain c.args.sources.now × All
    IsPlain c.args.sinks.now) × All IsPlain c.args.times.now)
    (λ o p. SinksIn c.args.params.now p c.args.sinks.now c.args.times.now o) items c.loop-source.source-index end
    c.loop-source.made.items c.loop-source.invariant.made
