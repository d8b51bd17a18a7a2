use Rattle.std.proofs.Common.{◌≡◌, ◌<◌, ◌≤◌, refl, sym, ap, ◌∙◌, subst, arith, List, length, map}
use Rattle.std.specs.List.{All}
use Rattle.isl_meter.proofs.CutLemmas.{IsCharged_refl, IsCharged_trans}
use Rattle.isl_piece.specs.declared.system.System.{System}
use Rattle.isl_piece.specs.System.{IsSystemWithin, free_columns}
use Rattle.isl_difference.specs.Split.{IsLive}
use Rattle.isl_difference.proofs.DifferenceLaws.{system_at, system_within}
use Rattle.isl_extremes.specs.Systems.{AreOutside}
use Rattle.isl_extremes.proofs.SystemsLaws.{all_of, charged_bits, outside_more, outside_none, plain_kept, plain_within, IsPlain}
use Rattle.isl_extremes.proofs.systems.all_outside.Goals as goal

pub loop-system-init : goal.loop-system-init
loop-system-init c = record {
  left = outside_none c.args.meter.now c.args.columns c.args.others.now c.new-left.result.items c.new-left.ensures.items;
  charged = IsCharged_refl c.args.meter.now c.args.meter.now refl;
}

pub outside-requires : goal.outside-requires
outside-requires c =
    let g = c.args.meter.now in
    let h = c.loop-system.meter in
    let systems = c.args.systems.now in
    let i = c.loop-system.system-index in
    let s = c.system-item.result in
    let n = c.args.columns in
    let low : i < length systems = omega arith in
    let live = system_at (IsLive g n) systems i s c.requires.systems.live low c.system-item.is in
    let others = plain_kept h g n c.args.others.now (sym (charged_bits g h c.loop-system.invariant.charged)) c.requires.others in
    let same : map (λ o. o.now) c.as_slice.result.now ≡ c.args.others.now = ap (map (λ o. o.now)) c.as_slice.ensures.value ∙
    c.in_ok-others.ensures in
    record {
      within = system_within g h systems i s c.loop-system.invariant.charged (plain_within g n systems c.requires.systems) low
          c.system-item.is;
      others_within = subst (All (IsSystemWithin h)) (sym same) (plain_within h n c.args.others.now others);
      columns = subst (All (λ (o : System). free_columns o ≡ free_columns s)) (sym same)
          (λ k e l. (others.live k e l).free ∙ sym live.free);
    }

pub loop-system-preserved : goal.loop-system-preserved
loop-system-preserved c =
    let g = c.args.meter.now in
    let h = c.loop-system.meter in
    let k = c.outside.new.meter in
    let systems = c.args.systems.now in
    let others = c.args.others.now in
    let i = c.loop-system.system-index in
    let s = c.system-item.result in
    let n = c.args.columns in
    let low : i < length systems = omega arith in
    let so_far = c.loop-system.invariant in
    let live = system_at (IsLive g n) systems i s c.requires.systems.live low c.system-item.is in
    let same : map (λ o. o.now) c.as_slice.result.now ≡ others = ap (map (λ o. o.now)) c.as_slice.ensures.value ∙ c.in_ok-others.ensures in
    let exact = rw same at c.in_ok-parts.ensures.exact in
    let plain = (rw same at c.in_ok-parts.ensures.definitions) (system_at IsPlain systems i s c.requires.systems.plain low c.system-item.is)
    c.requires.others.plain in
    record {
      left = outside_more g h n so_far.charged systems i s low c.system-item.is live others c.loop-system.left.items
          c.in_ok-parts.parts.items
          c.append.new.systems.items c.in_ok-append.ensures.items so_far.left exact.0 plain;
      charged = IsCharged_trans g h k so_far.charged exact.1;
    }

pub returns-clause-left : goal.returns-clause-left
returns-clause-left c =
    let systems = c.args.systems.now in
    let i = c.loop-system.system-index in
    let end : length systems ≤ i = omega arith in
    all_of (λ (ss : List System). AreOutside c.args.meter.now c.args.columns ss c.args.others.now c.loop-system.left.items) systems i end
    c.loop-system.invariant.left
