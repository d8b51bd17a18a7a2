use Rattle.std.proofs.Common.{◌≡◌, ◌+◌, ◌∙◌, ap, map, sym, subst, get_or}
use Rattle.std.specs.List.{All, Any}
use Rattle.isl_meter.proofs.CutLemmas.{IsCharged_trans}
use Rattle.isl_piece.specs.declared.system.System.{System}
use Rattle.isl_piece.specs.System.{IsSystemWithin, free_columns}
use Rattle.isl_difference.specs.Split.{IsLive}
use Rattle.isl_difference.proofs.SplitLaws.{live_kept}
use Rattle.std.proofs.lemmas.Result.{IfOk-weaker}
use Rattle.isl_remainder.proofs.LimitLaws.{charged_bits}
use Rattle.isl_remainder.specs.Made.{AreMade}
use Rattle.isl_remainder.specs.Over.{HoldsLong, HoldsLongBefore, IsLeftOver}
use Rattle.isl_remainder.proofs.OverLaws.{across_later, left_is, remainder_later, IsPlainSystem}
use Rattle.isl_remainder.proofs.over.left_over.Goals as goal

pub outside-requires : goal.outside-requires
outside-requires c =
    let g = c.args.meter.now in
    let h = c.all_reduced.new.meter in
    let short = c.in_ok-short.short in
    let is = remainder_later g h c.args.kept short c.in_ok-short.ensures.meter c.in_ok-short.ensures.made.is in
    let same : map (λ o. o.now) c.as_slice-2.result.now ≡ short.others.items =
    ap (map (λ o. o.now)) c.as_slice-2.ensures.value ∙ (c.in_ok-others.ensures ∙ c.as_slice.ensures.value) in
    record {
      within = is.system.within;
      others_within = subst (All (IsSystemWithin h)) (sym same) (λ k d l. (is.others k d l).within);
      columns = subst (All (λ (o : System). free_columns o ≡ free_columns short.system)) (sym same)
          (λ k d l. (is.others k d l).free ∙ sym is.system.free);
    }

pub all_live_without-requires : goal.all_live_without-requires
all_live_without-requires c =
    let g = c.args.meter.now in
    let h = c.all_reduced.new.meter in
    let k = c.outside.new.meter in
    let short = c.in_ok-short.short in
    let is = c.in_ok-short.ensures.made.is in
    let exact = c.in_ok-parts.ensures.exact in
    λ i d l.
    let part = exact.0.each i d l in
    across_later h k (c.args.kept + short.count) (get_or c.in_ok-parts.parts.items i d) exact.1
    (record { free = part.columns ∙ is.system.free; within = part.within })

pub returns-clause-made : goal.returns-clause-made
returns-clause-made c =
    let g = c.args.meter.now in
    let h = c.all_reduced.new.meter in
    let k = c.outside.new.meter in
    let kept = c.args.kept in
    let short = c.in_ok-short.short in
    let same : map (λ o. o.now) c.as_slice-2.result.now ≡ short.others.items =
    ap (map (λ o. o.now)) c.as_slice-2.ensures.value ∙ (c.in_ok-others.ensures ∙ c.as_slice.ensures.value) in
    let exact = rw same at c.in_ok-parts.ensures.exact in
    let plain = rw same at c.in_ok-parts.ensures.definitions in
    let charged = IsCharged_trans g h k c.in_ok-short.ensures.meter exact.1 in
    let r = c.all_live_without.result in
    let all = c.all_live_without.ensures.made in
    IfOk-weaker r (λ made. AreMade (HoldsLong kept) (IsLive k kept) IsPlainSystem (All IsPlainSystem c.in_ok-parts.parts.items)
    (λ point. Any (HoldsLongBefore kept short.count point) c.in_ok-parts.parts.items) made.items)
    (λ left. IsLeftOver g kept c.args.asked left.items)
    (λ left made. left_is g h k kept c.args.asked short c.in_ok-parts.parts.items left.items c.in_ok-short.ensures.made exact.0 plain made
    (λ live i d l. live_kept g k kept (get_or left.items i d) (sym (charged_bits g k charged)) (live i d l))) all
