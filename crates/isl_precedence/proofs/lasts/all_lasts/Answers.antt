use Rattle.std.proofs.Common.{refl, sym, subst, arith, ◌<◌, ◌≤◌, length, get_or}
use Rattle.std.specs.List.{All}
use Rattle.isl_meter.proofs.CutLemmas.{IsCharged_refl, IsCharged_trans}
use Rattle.isl_images.specs.Made.{IsPlain}
use Rattle.isl_remainder.proofs.MadeLaws.{made_all, made_more, made_none}
use Rattle.isl_precedence.specs.Later.{ShowsLeft}
use Rattle.isl_precedence.specs.Later.{IsPlainLater}
use Rattle.isl_precedence.specs.Precedence.{HasAt, IsPlainPrecedence, IsPrecedence, IsSound}
use Rattle.isl_precedence.proofs.LaterLaws.{later_after}
use Rattle.isl_precedence.proofs.OrderLaws.{precedence_later, sound_before}
use Rattle.isl_precedence.proofs.lasts.all_lasts.Goals as goal

pub lasts_of-requires : goal.lasts_of-requires
lasts_of-requires c =
    let low : c.loop-precedence.precedence-index < length c.args.precedences.now = omega arith in
    record {
      precedence = precedence_later c.args.meter.now c.loop-precedence.meter c.args.params.now c.precedence-item.result
          c.loop-precedence.invariant.charged (subst (IsPrecedence c.args.meter.now c.args.params.now) (sym c.precedence-item.is)
          (c.requires.precedences c.loop-precedence.precedence-index c.precedence-item.result low));
      laters = λ k d l. later_after c.args.meter.now c.loop-precedence.meter c.args.params.now (get_or c.args.laters.now k d)
          c.loop-precedence.invariant.charged (c.requires.laters k d l);
    }

pub loop-precedence-init : goal.loop-precedence-init
loop-precedence-init c =
    let g = c.args.meter.now in
    let params = c.args.params.now in
    let items = c.args.precedences.now in
    record {
      made = made_none (HasAt params) (IsSound g params) IsPlain
          (All IsPlainPrecedence items × All IsPlainLater c.args.laters.now) (λ at r. ShowsLeft params c.args.laters.now at.0 at.1 r) items
          c.new-made.result.items c.new-made.ensures.items;
      charged = IsCharged_refl c.args.meter.now c.args.meter.now refl;
    }

pub loop-precedence-preserved : goal.loop-precedence-preserved
loop-precedence-preserved c =
    let g = c.args.meter.now in
    let h = c.loop-precedence.meter in
    let params = c.args.params.now in
    let items = c.args.precedences.now in
    let i = c.loop-precedence.precedence-index in
    let item = c.precedence-item.result in
    let so_far = c.loop-precedence.invariant in
    let low : i < length items = omega arith in
    record {
      made = made_more (HasAt params) (IsSound g params) IsPlain
          (All IsPlainPrecedence items × All IsPlainLater c.args.laters.now)
          (λ at r. ShowsLeft params c.args.laters.now at.0 at.1 r) items i item
          low c.precedence-item.is (IsSound h params) (IsPlainPrecedence item × All IsPlainLater c.args.laters.now)
          (λ at. ShowsLeft params c.args.laters.now at.0 at.1 item) (λ p is. sound_before g h params p so_far.charged is)
          (λ all. (subst IsPlainPrecedence (sym c.precedence-item.is) (all.0 i item low), all.1)) (λ at. ((λ x. x), (λ x. x)))
          c.loop-precedence.made.items c.in_ok-more.more.items c.append.new.pieces.items c.in_ok-append.ensures so_far.made
          c.in_ok-more.ensures.made;
      charged = IsCharged_trans g h c.lasts_of.new.meter so_far.charged c.in_ok-more.ensures.meter;
    }

pub returns-clause-made : goal.returns-clause-made
returns-clause-made c =
    let g = c.args.meter.now in
    let params = c.args.params.now in
    let items = c.args.precedences.now in
    let end : length items ≤ c.loop-precedence.precedence-index = omega arith in
    made_all (HasAt params) (IsSound g params) IsPlain
    (All IsPlainPrecedence items × All IsPlainLater c.args.laters.now) (λ at r. ShowsLeft params c.args.laters.now at.0 at.1 r) items
    c.loop-precedence.precedence-index end c.loop-precedence.made.items
    c.loop-precedence.invariant.made
