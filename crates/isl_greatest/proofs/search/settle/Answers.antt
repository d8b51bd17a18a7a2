use Rattle.std.proofs.Common.{◌≡◌, ◌∙◌, ◌+◌, ◌<◌, ◌≤◌, refl, sym, ap, subst, arith}
use Rattle.std.proofs.lemmas.Grind.{common_steps}
use Rattle.isl_meter.specs.Gauge.{Gauge, IsCharged}
use Rattle.isl_meter.proofs.CutLemmas.{IsCharged-unit, IsCharged_refl, IsCharged_trans}
use Rattle.isl_greatest.specs.Search.{IsTurn}
use Rattle.isl_greatest.proofs.KeptLaws.{bits_of, context_kept, problem_kept, settled_kept, state_kept}
use Rattle.isl_greatest.proofs.search.settle.Goals as goal

pub loop-state-init : goal.loop-state-init
loop-state-init c = (c.requires.state, c.requires.reached, IsCharged_refl c.args.meter.now c.args.meter.now refl)

pub moved-requires : goal.moved-requires
moved-requires c =
    let g = c.args.meter.now in
    let m = c.loop-state.meter in
    let h = c.unit.new.self in
    let p = c.args.problem.now in
    let charged : IsCharged g h = IsCharged_trans g m h c.loop-state.invariant.2 (IsCharged-unit m h c.in_ok-unit.ensures.1) in
    let bits = bits_of g h charged in
    record {
      problem = problem_kept g h bits p c.requires.problem;
      context = context_kept g h bits p.front c.args.context.now c.requires.context;
      state = state_kept g h bits p c.loop-state.state c.loop-state.invariant.0;
      reached = c.loop-state.invariant.1;
    }

pub loop-state-preserved : goal.loop-state-preserved
loop-state-preserved c =
    let g = c.args.meter.now in
    let m = c.loop-state.meter in
    let h = c.unit.new.self in
    let p = c.args.problem.now in
    let charged : IsCharged g h = IsCharged_trans g m h c.loop-state.invariant.2 (IsCharged-unit m h c.in_ok-unit.ensures.1) in
    let bits = bits_of g h charged in
    let goes = subst (IsTurn h p c.args.context.now) c.in-Goes.is c.in_ok-later.ensures.turn in (
      state_kept h g (sym bits) p c.in-Goes.later goes.0,
      goes.1,
      IsCharged_trans g h c.moved.new.meter charged c.in_ok-later.ensures.meter,
    )

pub loop-state-smaller : goal.loop-state-smaller
loop-state-smaller c =
    let m = c.loop-state.meter in
    let h = c.unit.new.self in
    let k = c.moved.new.meter in
    let room = c.in_ok-unit.ensures.0 in
    let units : h.units ≡ m.units + 1 = ap (λ (q : Gauge). q.units) c.in_ok-unit.ensures.1 in
    let budget : h.budget ≡ m.budget = ap (λ (q : Gauge). q.budget) c.in_ok-unit.ensures.1 in
    let charged : IsCharged h k = c.in_ok-later.ensures.meter in
    let left : k.budget ≡ h.budget = ap (λ (q : Gauge). q.budget) charged.same in
    let used = charged.units in
    omega (arith, room, units, budget, left, used)

pub returns-in-Stops-clause-settled : goal.returns-in-Stops-clause-settled
returns-in-Stops-clause-settled c =
    let g = c.args.meter.now in
    let m = c.loop-state.meter in
    let h = c.unit.new.self in
    let p = c.args.problem.now in
    let charged : IsCharged g h = IsCharged_trans g m h c.loop-state.invariant.2 (IsCharged-unit m h c.in_ok-unit.ensures.1) in
    settled_kept h g (sym (bits_of g h charged)) p c.args.context.now c.in-Stops.settled
    (subst (IsTurn h p c.args.context.now) c.in-Stops.is c.in_ok-later.ensures.turn)

pub returns-in-Stops-clause-unit : goal.returns-in-Stops-clause-unit
returns-in-Stops-clause-unit c =
    let g = c.args.meter.now in
    let m = c.loop-state.meter in
    let h = c.unit.new.self in
    let k = c.moved.new.meter in
    let so_far : IsCharged g m = c.loop-state.invariant.2 in
    let used = so_far.units in
    let room = c.in_ok-unit.ensures.0 in
    let budget : m.budget ≡ g.budget = ap (λ (q : Gauge). q.budget) so_far.same in
    let units : h.units ≡ m.units + 1 = ap (λ (q : Gauge). q.units) c.in_ok-unit.ensures.1 in
    let charged : IsCharged h k = c.in_ok-later.ensures.meter in
    let more = charged.units in
    (omega (arith, used, units, more), omega (arith, used, room, budget))
