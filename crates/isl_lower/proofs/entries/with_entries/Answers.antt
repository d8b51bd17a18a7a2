use Rattle.std.proofs.Common.{arith, ◌∙◌, sym, subst, ◌+◌, ◌<◌, ◌∷◌, [], length}
use Rattle.isl_meter.specs.Gauge.{Gauge}
use Rattle.isl_lower.specs.Entries.{AreReady, EntryAt, HoldsWith}
use Rattle.isl_lower.proofs.EntryLaws.{ready_one, so_far_more}
use Rattle.isl_lower.proofs.entries.with_entries.Goals as goal

pub with_equation-requires : goal.with_equation-requires
with_equation-requires c =
    let low : c.loop-at.at < length c.args.entries.now = omega arith in
    let so_far = c.loop-at.invariant in
    let entry = c.index-entries-at.result in
    subst (λ (g : Gauge). AreReady g c.args.scope.now c.loop-at.made (c.args.first + c.loop-at.at) (entry ∷ [])) (sym so_far.meter)
    (ready_one c.args.meter.now c.args.scope.now c.args.system c.loop-at.made c.args.entries.now c.args.first c.loop-at.at entry low
    c.index-entries-at.is c.requires so_far.so_far)

pub loop-at-preserved : goal.loop-at-preserved
loop-at-preserved c =
    let g = c.args.meter.now in
    let scope = c.args.scope.now in
    let low : c.loop-at.at < length c.args.entries.now = omega arith in
    let so_far = c.loop-at.invariant in
    let entry = c.index-entries-at.result in
    let here = c.in_ok-made.ensures in
    record {
      so_far = so_far_more g scope c.args.system c.loop-at.made c.in_ok-made.made c.args.entries.now c.args.first c.loop-at.at entry low
          c.index-entries-at.is so_far.so_far
          (subst (λ (h : Gauge). HoldsWith h scope c.loop-at.made c.in_ok-made.made (EntryAt entry (c.args.first + c.loop-at.at)))
          so_far.meter here.system);
      meter = here.meter ∙ so_far.meter;
    }
