use Rattle.std.proofs.Common.{◌≡◌, ◌∙◌, ◌+◌, ◌-◌, ◌<◌, ◌≤◌, ◌^◌, refl, sym, ap, subst, arith, ℕ, List}
use Rattle.std.proofs.lemmas.Grind.{common_steps}
use Rattle.std.proofs.lemmas.Result.{err_from_is_err_and, IfOk-weaker, MatchResult-weaker}
use Rattle.isl_meter.specs.Gauge.{Gauge, IsCharged}
use Rattle.isl_meter.proofs.CutLemmas.{IsCharged_trans}
use Rattle.isl_piece.specs.declared.system.System.{System}
use Rattle.isl_greatest.specs.Fault.{IsPipFault}
use Rattle.isl_greatest.specs.Search.{AllHaveGreatest, IsTreeWithin}
use Rattle.isl_greatest.proofs.FaultLaws.{later_fault, same_fault}
use Rattle.isl_greatest.proofs.KeptLaws.{bits_of, problem_kept, tree_kept}
use Rattle.isl_pip.specs.Greatest.{HaveGreatest, IsGreatestTree}
use Rattle.isl_pip.specs.Levels.{ArePlainOver}
use Rattle.isl_pip.specs.Lift.{AreLiftedSystems, IsAnchor}
use Rattle.isl_pip.proofs.GreatestLaws.{have_of_problem, tree_of_problem}
use Rattle.isl_pip.proofs.LiftedLists.{have_put, tree_taken}
use Rattle.isl_pip.proofs.greatest.+greatest_in.Goals as goal

pub problem_of-requires : goal.problem_of-requires
problem_of-requires t c =
    let fits = c.requires.fits in
    record { systems = c.requires.systems; some = c.requires.some; fits = omega (arith, fits) }

pub greatest_tree-requires : goal.greatest_tree-requires
greatest_tree-requires t c =
    let g = c.args.meter.now in
    let h = c.problem_of.new.meter in
    problem_kept g h (bits_of g h c.in_ok-problem.ensures.meter) c.in_ok-problem.problem c.in_ok-problem.ensures.problem

pub returns-then-at-eq0-clause-tree : goal.returns-then-at-eq0-clause-tree
returns-then-at-eq0-clause-tree t c =
    let g = c.args.meter.now in
    let front = c.args.front in
    let width = c.args.width in
    let systems = c.args.systems.items in
    let h = c.problem_of.new.meter in
    let p = c.in_ok-problem.problem in
    IfOk-weaker c.greatest_tree.result (IsTreeWithin h p (λ _. Unit {0})) (IsGreatestTree g front width systems)
    (λ tree made. tree_of_problem front width systems p c.in_ok-problem.ensures.parts g tree
    (tree_kept h g (sym (bits_of g h c.in_ok-problem.ensures.meter)) p (λ _. Unit {0}) tree made)) c.greatest_tree.ensures.tree

pub returns-then-at-eq0-clause-meter : goal.returns-then-at-eq0-clause-meter
returns-then-at-eq0-clause-meter t c =
    let g = c.args.meter.now in
    let front = c.args.front in
    let width = c.args.width in
    let systems = c.args.systems.items in
    let h = c.problem_of.new.meter in
    let k = c.greatest_tree.new.meter in
    let p = c.in_ok-problem.problem in
    let charged = c.in_ok-problem.ensures.meter in
    MatchResult-weaker c.greatest_tree.result c.greatest_tree.ensures.meter
    (λ tree more. IsCharged_trans g h k charged more)
    (λ fault is. later_fault (¬ HaveGreatest front width systems) (¬ AllHaveGreatest p)
    (λ missing have. missing (have_of_problem front width systems p c.in_ok-problem.ensures.parts have)) g h k fault charged is)

pub anchor_of-requires : goal.anchor_of-requires
anchor_of-requires t c =
    let g = c.args.meter.now in
    let front = c.args.front in
    let width = c.args.width in
    let systems = c.args.systems.items in
    let place = c.args.at - 1 in
    let some : 0 < c.args.at = grind (arith, common_steps) in
    let at = c.requires.at in
    let fits = c.requires.fits in
    record {
      systems = subst (ArePlainOver g (front + width)) (sym c.as_slice.ensures.value) c.requires.systems;
      inside = omega (arith, some, at);
    }

pub greatest_in-requires : goal.greatest_in-requires
greatest_in-requires t c =
    let g = c.args.meter.now in
    let front = c.args.front in
    let width = c.args.width in
    let systems = c.args.systems.items in
    let place = c.args.at - 1 in
    let some : 0 < c.args.at = grind (arith, common_steps) in
    let at = c.requires.at in
    let fits = c.requires.fits in
    (omega (arith, c.decreases, some), (c.requires.systems, (c.requires.some, (omega (arith, at), omega (arith, fits)))))

pub lifted_systems-requires : goal.lifted_systems-requires
lifted_systems-requires t c =
    let g = c.args.meter.now in
    let front = c.args.front in
    let width = c.args.width in
    let systems = c.args.systems.items in
    let place = c.args.at - 1 in
    let some : 0 < c.args.at = grind (arith, common_steps) in
    let at = c.requires.at in
    let fits = c.requires.fits in
    record {
      anchor = rw c.in-Some.is at c.in_ok-found.ensures;
      systems = subst (ArePlainOver g (front + width)) (sym c.as_slice-2.ensures.value) c.requires.systems;
      fits = omega (arith, fits);
    }

pub greatest_in-requires-2 : goal.greatest_in-requires-2
greatest_in-requires-2 t c =
    let g = c.args.meter.now in
    let front = c.args.front in
    let width = c.args.width in
    let systems = c.args.systems.items in
    let place = c.args.at - 1 in
    let some : 0 < c.args.at = grind (arith, common_steps) in
    let at = c.requires.at in
    let fits = c.requires.fits in
    let h = c.lifted_systems.new.meter in
    let r = c.in-Some.anchor in
    let more = c.in_ok-more.more.items in
    let same = c.in_ok-more.ensures.1 in
    let a : IsAnchor g (front + width) (front + place) r = rw c.in-Some.is at c.in_ok-found.ensures in
    let are : AreLiftedSystems g (front + width) (front + place) r systems more =
    subst (λ (l : List System). AreLiftedSystems g (front + width) (front + place) r l more) c.as_slice-2.ensures.value c.in_ok-more.ensures.0 in
    let wide : front + width + 1 ≡ front + (width + 1) = omega arith in (
      omega (arith, c.decreases, some),
      (
        subst (λ (m : Gauge). ArePlainOver m (front + (width + 1)) more) (sym same) (subst (λ n. ArePlainOver g n more) wide are.plain),
        (omega arith, (omega (arith, at), omega (arith, some, fits))),
      ),
    )

pub without-requires : goal.without-requires
without-requires t c =
    let g = c.args.meter.now in
    let front = c.args.front in
    let width = c.args.width in
    let systems = c.args.systems.items in
    let place = c.args.at - 1 in
    let some : 0 < c.args.at = grind (arith, common_steps) in
    let at = c.requires.at in
    let fits = c.requires.fits in
    record { inside = omega (arith, at); leaves = c.in_ok-tree.ensures.tree.width }

pub returns-clause-tree : goal.returns-clause-tree
returns-clause-tree t c =
    let g = c.args.meter.now in
    let front = c.args.front in
    let width = c.args.width in
    let systems = c.args.systems.items in
    let place = c.args.at - 1 in
    let some : 0 < c.args.at = grind (arith, common_steps) in
    let at = c.requires.at in
    let fits = c.requires.fits in
    let h = c.lifted_systems.new.meter in
    let r = c.in-Some.anchor in
    let more = c.in_ok-more.more.items in
    let same = c.in_ok-more.ensures.1 in
    let a : IsAnchor g (front + width) (front + place) r = rw c.in-Some.is at c.in_ok-found.ensures in
    let are : AreLiftedSystems g (front + width) (front + place) r systems more =
    subst (λ (l : List System). AreLiftedSystems g (front + width) (front + place) r l more) c.as_slice-2.ensures.value c.in_ok-more.ensures.0 in
    let tree = c.in_ok-tree.tree in
    let left = c.in_ok-left.ensures in
    let is = subst (λ (m : Gauge). IsGreatestTree m front (width + 1) more tree) same c.in_ok-tree.ensures.tree in
    tree_taken g front width place r systems more a are tree c.in_ok-left.left is left.gives (left.over g front) left.leaves

pub returns-clause-meter : goal.returns-clause-meter
returns-clause-meter t c =
    subst (λ (m : Gauge). IsCharged m c.greatest_in-2.new.meter) c.in_ok-more.ensures.1 c.in_ok-tree.ensures.meter

pub returns-in_err-tree-clause-meter : goal.returns-in_err-tree-clause-meter
returns-in_err-tree-clause-meter t c =
    let g = c.args.meter.now in
    let front = c.args.front in
    let width = c.args.width in
    let systems = c.args.systems.items in
    let place = c.args.at - 1 in
    let some : 0 < c.args.at = grind (arith, common_steps) in
    let at = c.requires.at in
    let fits = c.requires.fits in
    let h = c.lifted_systems.new.meter in
    let r = c.in-Some.anchor in
    let more = c.in_ok-more.more.items in
    let same = c.in_ok-more.ensures.1 in
    let a : IsAnchor g (front + width) (front + place) r = rw c.in-Some.is at c.in_ok-found.ensures in
    let are : AreLiftedSystems g (front + width) (front + place) r systems more =
    subst (λ (l : List System). AreLiftedSystems g (front + width) (front + place) r l more) c.as_slice-2.ensures.value c.in_ok-more.ensures.0 in
    let k = c.greatest_in-2.new.meter in
    let fault = c.in_err-tree.field-0.0 in
    let Own : Type 0 = ¬ HaveGreatest front (width + 1) more in
    let error = err_from_is_err_and c.from_residual-in_err-tree.result c.from_residual-in_err-tree.ensures.1 in
    rw (error.1, error.2)
    (same_fault (¬ HaveGreatest front width systems) Own (λ missing have. missing (have_put g front width place r systems more a are have)) g k fault
    (subst (λ (m : Gauge). IsPipFault Own m k fault) same c.in_err-tree.ensures.meter))
