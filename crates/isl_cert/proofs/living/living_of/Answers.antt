use Rattle.std.proofs.Common.{◌∙◌, ◌*◌, ◌<◌, ◌≤◌, arith, length, map, refl, subst, sym, take}
use Rattle.std.proofs.lemmas.Grind.{common_steps}
use Rattle.std.proofs.lemmas.List.{take_all}
use Rattle.std.proofs.lemmas.Result.{err_from_is_err_and}
use Rattle.isl_meter.proofs.CutLemmas.{IsCharged_refl, IsCharged_trans}
use Rattle.isl_ledger.specs.Difference.{IsDifferenceSystem}
use Rattle.isl_elim.proofs.PartsLaws.{charged_bits}
use Rattle.isl_difference.proofs.DifferenceLaws.{system_at, system_within}
use Rattle.isl_difference.proofs.TameLaws.{taken_next, taken_turn, tame_cut, tame_ok}
use Rattle.isl_cert.specs.Living.{AreLiving}
use Rattle.isl_cert.proofs.LivingLaws.{all_living, living_next, none_living}
use Rattle.isl_cert.proofs.living.living_of.Goals as goal

pub push_living-requires : goal.push_living-requires
push_living-requires c =
    let systems = c.args.systems.now in
    let i = c.loop-system.system-index in
    let inside : i < length systems = grind (arith, common_steps) in
    system_within c.args.meter.now c.loop-system.meter systems i c.system-item.result c.loop-system.invariant.charged c.requires inside
    c.system-item.is

pub loop-system-init : goal.loop-system-init
loop-system-init c =
    let g = c.args.meter.now in
    record {
      living = subst (λ xs. AreLiving _ (map (λ s. s.now) xs)) (sym c.new-living.ensures.items) none_living;
      charged = IsCharged_refl g g refl;
      tame = λ columns bits limit room all. omega arith;
    }

pub loop-system-preserved : goal.loop-system-preserved
loop-system-preserved c =
    let g = c.args.meter.now in
    let h = c.loop-system.meter in
    let k = c.push_living.new.meter in
    let systems = c.args.systems.now in
    let i = c.loop-system.system-index in
    let s = c.system-item.result in
    let inside : i < length systems = grind (arith, common_steps) in
    record {
      living = living_next systems _ _ i s inside c.system-item.is c.loop-system.invariant.living c.in_ok-push_living.ensures.pushed;
      charged = IsCharged_trans g h k c.loop-system.invariant.charged c.in_ok-push_living.ensures.meter;
      tame = λ columns bits limit room all.
          let so = c.loop-system.invariant.tame columns bits limit room all in
          let own = system_at (IsDifferenceSystem columns bits) systems i s all inside c.system-item.is in
          let limit_then = charged_bits g h c.loop-system.invariant.charged ∙ limit in
          let put = c.in_ok-push_living.ensures.tame columns bits limit_then room own in
          taken_next i systems (columns * (columns * columns)) g h k inside so put.within.units;
    }

pub returns-in_err-push_living-clause-tame : goal.returns-in_err-push_living-clause-tame
returns-in_err-push_living-clause-tame c = λ columns bits limit room all.
    let g = c.args.meter.now in
    let h = c.loop-system.meter in
    let systems = c.args.systems.now in
    let i = c.loop-system.system-index in
    let s = c.system-item.result in
    let work = columns * (columns * columns) in
    let inside : i < length systems = grind (arith, common_steps) in
    let so = c.loop-system.invariant.tame columns bits limit room all in
    let turn = taken_turn i systems work inside in
    let limit_then = charged_bits g h c.loop-system.invariant.charged ∙ limit in
    let own = system_at (IsDifferenceSystem columns bits) systems i s all inside c.system-item.is in
    let cut = c.in_err-push_living.ensures.tame columns bits limit_then room own in
    let error = err_from_is_err_and c.from_residual.result c.from_residual.ensures.1 in
    rw (error.1, error.2) (tame_cut (length (take i systems) * work) work (length systems * work) g h c.push_living.new.meter _ _
    c.in_err-push_living.field-0.0 c.loop-system.invariant.charged so turn cut)

pub returns-clause-living : goal.returns-clause-living
returns-clause-living c =
    let systems = c.args.systems.now in
    let end : length systems ≤ c.loop-system.system-index = grind (arith, common_steps) in
    all_living systems _ c.loop-system.system-index end c.loop-system.invariant.living

pub returns-clause-tame : goal.returns-clause-tame
returns-clause-tame c = λ columns bits limit room all.
    let systems = c.args.systems.now in
    let i = c.loop-system.system-index in
    let end : length systems ≤ i = grind (arith, common_steps) in
    let so = rw (take_all i systems end) at (c.loop-system.invariant.tame columns bits limit room all) in
    tame_ok (length systems * (columns * (columns * columns))) c.args.meter.now c.loop-system.meter _ _ so tt
