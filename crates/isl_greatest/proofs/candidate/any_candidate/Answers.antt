use Rattle.std.proofs.Common.{◌≡◌, sym, subst, arith, pos, replicate, ℤ}
use Rattle.std.specs.List.{All}
use Rattle.std.proofs.lemmas.Grind.{common_steps}
use Rattle.std.proofs.lemmas.List.Elements.{All-replicate}
use Rattle.isl_meter.specs.Gauge.{IsWithin}
use Rattle.isl_meter.proofs.LimitLemmas.{IsWithin-small, IsWithin-zero}
use Rattle.isl_greatest.proofs.candidate.any_candidate.Goals as goal

pub returns : goal.returns
returns c n frame =
    let g = c.args.meter.now in
    let same : c.as_slice-2.result.now ≡ replicate c.args.chosen.now.columns (pos 0) = grind (arith, common_steps) in
    c.candidate.ensures.made g n frame
    (subst (All (IsWithin g)) (sym same) (All-replicate (IsWithin g) c.args.chosen.now.columns (pos 0) (IsWithin-zero g)))
    (IsWithin-zero g) (IsWithin-small g (pos 1) c.limit-limit.ensures.bits_low (omega arith))
