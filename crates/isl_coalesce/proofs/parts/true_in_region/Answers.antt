use Rattle.std.proofs.Common.{◌≡◌, ◌≤◌, ◌<◌, sym, ◌∙◌, arith, get_or, length, refl, false, true}
use Rattle.std.proofs.lemmas.Bool.{false≢true}
use Rattle.std.proofs.lemmas.Grind.{common_steps}
use Rattle.isl_meter.proofs.CutLemmas.{IsCharged_trans}
use Rattle.isl_difference.proofs.SplitLaws.{charged_within}
use Rattle.isl_coalesce.proofs.HalfLaws.{plain_free, true_all, true_more, true_one}
use Rattle.isl_coalesce.proofs.KnownLaws.{plain_after, region_flat, region_free, region_within}
use Rattle.isl_coalesce.proofs.parts.true_in_region.Goals as goal

pub pair-requires-clause-system : goal.pair-requires-clause-system
pair-requires-clause-system c =
    charged_within c.args.meter.now c.loop-known.meter c.args.system.now c.loop-known.invariant.charged c.requires.system.within

pub pair-requires-clause-other : goal.pair-requires-clause-other
pair-requires-clause-other c =
    let systems = c.args.region.now.systems.items in
    let i = c.loop-known.known-index in
    let s = c.known-item.result in
    let low : i < length systems = grind (arith, common_steps) in
    let at : s ≡ get_or systems i s = grind (arith, common_steps) in
    region_within c.args.meter.now c.loop-known.meter c.args.system.now.columns c.args.region.now c.requires.region i s low at
    c.loop-known.invariant.charged

pub pair-requires-clause-columns : goal.pair-requires-clause-columns
pair-requires-clause-columns c =
    let free = plain_free c.args.system.now c.requires.system.definitions in
    let names = c.len-names.ensures.len in
    let few = c.requires.region.fits in
    omega (arith, free, names, few)

pub pair-requires-clause-other_columns : goal.pair-requires-clause-other_columns
pair-requires-clause-other_columns c =
    let systems = c.args.region.now.systems.items in
    let i = c.loop-known.known-index in
    let s = c.known-item.result in
    let low : i < length systems = grind (arith, common_steps) in
    let at : s ≡ get_or systems i s = grind (arith, common_steps) in
    region_free c.args.meter.now c.loop-known.meter c.args.system.now.columns c.args.region.now c.requires.region i s low at
    ∙ sym c.len-names.ensures.len

pub returns-then-not-branch-clause-exact : goal.returns-then-not-branch-clause-exact
returns-then-not-branch-clause-exact c =
    let g = c.args.meter.now in
    let h = c.loop-known.meter in
    let system = c.args.system.now in
    let region = c.args.region.now in
    let systems = region.systems.items in
    let i = c.loop-known.known-index in
    let s = c.known-item.result in
    let low : i < length systems = grind (arith, common_steps) in
    let at : s ≡ get_or systems i s = grind (arith, common_steps) in
    let flat = region_flat g h system.columns region c.requires.region i s low at in
    let pair = rw c.len-names.ensures.len at c.in_ok-both.ensures.pair in
    let plain = plain_after g h system c.loop-known.invariant.charged c.requires.system in
    let no : c.in_ok-true_in.field-0 ≡ false = grind (arith, common_steps) in (
      (λ f. absurd (false≢true f)),
      (λ all. absurd (false≢true (sym no
          ∙ c.in_ok-true_in.ensures.exact.1 (true_one h (length region.params) system s c.in_ok-both.both plain c.requires.region.fits flat
          pair systems c.args.row.now i low at all)))),
    )

pub loop-known-preserved : goal.loop-known-preserved
loop-known-preserved c =
    let g = c.args.meter.now in
    let h = c.loop-known.meter in
    let system = c.args.system.now in
    let region = c.args.region.now in
    let systems = region.systems.items in
    let i = c.loop-known.known-index in
    let s = c.known-item.result in
    let low : i < length systems = grind (arith, common_steps) in
    let at : s ≡ get_or systems i s = grind (arith, common_steps) in
    let flat = region_flat g h system.columns region c.requires.region i s low at in
    let pair = rw c.len-names.ensures.len at c.in_ok-both.ensures.pair in
    let so_far = c.loop-known.invariant in
    let plain = plain_after g h system so_far.charged c.requires.system in
    let yes : c.in_ok-true_in.field-0 ≡ true = grind (arith, common_steps) in
    record {
      true = true_more h (length region.params) system s c.in_ok-both.both plain c.requires.region.fits flat pair systems c.args.row.now
          i low at so_far.true (c.in_ok-true_in.ensures.exact.0 yes);
      charged = IsCharged_trans g c.pair.new.meter c.true_in.new.meter
          (IsCharged_trans g h c.pair.new.meter so_far.charged c.in_ok-both.ensures.meter) c.in_ok-true_in.ensures.meter;
    }

pub returns-clause-exact : goal.returns-clause-exact
returns-clause-exact c =
    let region = c.args.region.now in
    let systems = region.systems.items in
    let end : length systems ≤ c.loop-known.known-index = grind (arith, common_steps) in
    let all = true_all (length region.params) c.args.system.now c.args.row.now systems c.loop-known.known-index end
    c.loop-known.invariant.true in
    ((λ yes. all), (λ t. refl))
