use Rattle.std.proofs.Common.{◌<◌, ◌≤◌, refl, arith, ◌+◌, List, length}
use Rattle.isl_meter.proofs.CutLemmas.{IsCharged_refl, IsCharged_trans}
use Rattle.isl_piece.specs.declared.system.System.{System}
use Rattle.isl_difference.specs.Split.{IsLive}
use Rattle.isl_difference.proofs.DifferenceLaws.{system_at, system_within}
use Rattle.isl_extremes.specs.Systems.{AreBeaten}
use Rattle.isl_extremes.proofs.SystemsLaws.{all_of, beaten_more, beaten_none, plain_within, IsPlain}
use Rattle.isl_extremes.proofs.beaten.all_beaten.Goals as goal

pub loop-system-init : goal.loop-system-init
loop-system-init c = record {
  beaten = beaten_none c.args.meter.now c.args.order c.args.at c.new-found.result.items c.new-found.ensures.items;
  charged = IsCharged_refl c.args.meter.now c.args.meter.now refl;
}

pub beaten-requires : goal.beaten-requires
beaten-requires c =
    let g = c.args.meter.now in
    let h = c.loop-system.meter in
    let systems = c.args.systems.now in
    let i = c.loop-system.system-index in
    let s = c.system-item.result in
    let n = c.args.order.front + c.args.order.width in
    let low : i < length systems = omega arith in
    record {
      within = system_within g h systems i s c.loop-system.invariant.charged (plain_within g n systems c.requires.systems) low
          c.system-item.is;
      plain = system_at IsPlain systems i s c.requires.systems.plain low c.system-item.is;
      free = (system_at (IsLive g n) systems i s c.requires.systems.live low c.system-item.is).free;
      at = c.requires.at;
      fits = c.requires.fits;
    }

pub loop-system-preserved : goal.loop-system-preserved
loop-system-preserved c =
    let g = c.args.meter.now in
    let h = c.loop-system.meter in
    let systems = c.args.systems.now in
    let i = c.loop-system.system-index in
    let low : i < length systems = omega arith in
    let so_far = c.loop-system.invariant in
    record {
      beaten = beaten_more g h c.args.order c.args.at so_far.charged systems i c.system-item.result low c.system-item.is
          c.loop-system.found.items
          c.in_ok-more.more.items c.append.new.systems.items c.in_ok-append.ensures.items so_far.beaten c.in_ok-more.ensures.beaten;
      charged = IsCharged_trans g h c.beaten.new.meter so_far.charged c.in_ok-more.ensures.meter;
    }

pub returns-clause-beaten : goal.returns-clause-beaten
returns-clause-beaten c =
    let systems = c.args.systems.now in
    let i = c.loop-system.system-index in
    let end : length systems ≤ i = omega arith in
    all_of (λ (ss : List System). AreBeaten c.args.meter.now c.args.order c.args.at ss c.loop-system.found.items) systems i end
    c.loop-system.invariant.beaten
