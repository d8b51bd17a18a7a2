use Rattle.std.proofs.Common.{◌≡◌, ◌∙◌, ◌<◌, ◌≤◌, ◌-◌, ◌+◌, [], arith, length, sym}
use Rattle.std.specs.List.{range_with_len}
use Rattle.std.proofs.lemmas.Grind.{common_steps}
use Rattle.std.proofs.lemmas.List.{append-nil}
use Rattle.isl_piece.specs.System.{HoldsSystem, free_columns}
use Rattle.isl_elim.specs.Elimination.{IsReducedSystem}
use Rattle.isl_elim.specs.Sample.{IsNowhere}
use Rattle.isl_elim.proofs.FewerLaws.{projection_reduced, same_columns}
use Rattle.isl_elim.proofs.RangeLaws.{range_distinct, range_below}
use Rattle.isl_alternatives.specs.Restricted.{IsOver}
use Rattle.isl_alternatives.proofs.BoundLaws.{projected_nowhere, projected_one, projected_more}
use Rattle.isl_alternatives.proofs.RestrictedLaws.{over_at, over_after}
use Rattle.isl_alternatives.proofs.bound.projected.Goals as goal

pub with_fewer_rows-requires : goal.with_fewer_rows-requires
with_fewer_rows-requires c =
    let i = c.loop-system.system-index in
    let inside : i < length c.args.systems.now = grind (arith, common_steps) in
    record {
      well_formed = (over_at c.loop-system.meter c.args.inner.now c.args.systems.now i c.system-item.result
          (over_after c.args.meter.now c.loop-system.meter c.args.inner.now c.args.systems.now c.loop-system.invariant.charged c.requires.over)
          inside c.system-item.is).within;
    }

pub project-requires-clause-well_formed : goal.project-requires-clause-well_formed
project-requires-clause-well_formed c =
    let few : IsReducedSystem c.loop-system.meter c.system-item.result c.in-Some.few = rw c.in-Some.is at c.in_ok-few.ensures.exact in
    few.within

pub project-requires-clause-distinct : goal.project-requires-clause-distinct
project-requires-clause-distinct c =
    let n = length c.args.outer.now in
    let m = length c.args.inner.now - n in
    let same : c.as_slice-in-loop-system.result.now ≡ range_with_len n m = grind (arith, common_steps) in
    rw same (range_distinct n m)

pub project-requires-clause-cols_in : goal.project-requires-clause-cols_in
project-requires-clause-cols_in c =
    let n = length c.args.outer.now in
    let m = length c.args.inner.now - n in
    let i = c.loop-system.system-index in
    let inside : i < length c.args.systems.now = grind (arith, common_steps) in
    let same : c.as_slice-in-loop-system.result.now ≡ range_with_len n m = grind (arith, common_steps) in
    let reduced : IsReducedSystem c.loop-system.meter c.system-item.result c.in-Some.few = rw c.in-Some.is at c.in_ok-few.ensures.exact in
    let free = same_columns c.loop-system.meter c.system-item.result c.in-Some.few reduced
    ∙ (over_at c.args.meter.now c.args.inner.now c.args.systems.now i c.system-item.result c.requires.over inside c.system-item.is).columns in
    let few = c.requires.columns in
    rw (same, free) (range_below n m (length c.args.inner.now) (omega (arith, few)))

pub loop-system-preserved-in_default : goal.loop-system-preserved-in_default
loop-system-preserved-in_default c =
    let g = c.args.meter.now in
    let h = c.loop-system.meter in
    let outer = c.args.outer.now in
    let inner = c.args.inner.now in
    let systems = c.args.systems.now in
    let i = c.loop-system.system-index in
    let s = c.system-item.result in
    let found = c.loop-system.found.items in
    let inside : i < length systems = grind (arith, common_steps) in
    let over : IsOver h inner s = over_at h inner systems i s (over_after g h inner systems c.loop-system.invariant.charged c.requires.over) inside c.system-item.is in
    let none : IsNowhere (free_columns s) (HoldsSystem s) = rw c.in_default.is at c.in_ok-few.ensures.exact in
    projected_more g h h outer inner systems i s found [] found inside c.system-item.is (sym (append-nil found)) c.loop-system.invariant
    (projected_nowhere h outer inner s over none)

pub loop-system-preserved : goal.loop-system-preserved
loop-system-preserved c =
    let g = c.args.meter.now in
    let h = c.loop-system.meter in
    let outer = c.args.outer.now in
    let inner = c.args.inner.now in
    let systems = c.args.systems.now in
    let i = c.loop-system.system-index in
    let s = c.system-item.result in
    let n = length outer in
    let m = length inner - n in
    let more = c.in_ok-more.more.items in
    let reduced : IsReducedSystem h s c.in-Some.few = rw c.in-Some.is at c.in_ok-few.ensures.exact in
    let inside : i < length systems = grind (arith, common_steps) in
    let same : c.as_slice-in-loop-system.result.now ≡ range_with_len n m = grind (arith, common_steps) in
    let over : IsOver h inner s = over_at h inner systems i s (over_after g h inner systems c.loop-system.invariant.charged c.requires.over) inside c.system-item.is in
    projected_more g h c.project.new.meter outer inner systems i s c.loop-system.found.items more c.append.new.systems.items inside c.system-item.is
    c.in_ok-append.ensures.items c.loop-system.invariant
    (projected_one h c.project.new.meter outer inner s c.as_slice-in-loop-system.result.now more over same c.requires.columns
    (projection_reduced h s c.in-Some.few c.as_slice-in-loop-system.result.now more reduced c.in_ok-more.ensures.projection)
    c.in_ok-more.ensures.within c.in_ok-more.ensures.meter c.in_ok-more.ensures.counted)
