use Rattle.std.proofs.Common.{◌≡◌, ◌∙◌, ◌<◌, ◌-◌, refl, sym, ap, subst, arith, ℕ}
use Rattle.std.proofs.lemmas.Grind.{common_steps}
use Rattle.std.proofs.lemmas.Result.{err_from_is_err_and}
use Rattle.isl_meter.specs.Gauge.{Gauge, IsCharged}
use Rattle.isl_meter.proofs.CutLemmas.{IsCharged_trans, IsCutBy-after}
use Rattle.isl_piece.specs.System.{HoldsSystem}
use Rattle.isl_quast.specs.declared.tree.Quast.{Quast}
use Rattle.isl_greatest.specs.Expressed.{IsTestOf}
use Rattle.isl_greatest.specs.Search.{AllHaveGreatest, AreEnds, IsSettled, IsSplit, IsTreeWithin}
use Rattle.isl_greatest.specs.State.{IsQuestion}
use Rattle.isl_greatest.proofs.FaultLaws.{later_fault}
use Rattle.isl_greatest.proofs.KeptLaws.{bits_of, context_kept, ends_kept, problem_kept, question_kept, state_kept, test_kept, tree_kept}
use Rattle.isl_greatest.proofs.SearchLaws.{none_greatest, tree_if}
use Rattle.isl_greatest.proofs.search.+build.Goals as goal

pub ended-requires : goal.ended-requires
ended-requires t c =
    let g = c.args.meter.now in
    let h = c.settle.new.meter in
    let p = c.args.problem.now in
    let context = c.args.context.now in
    let charged : IsCharged g h = c.in_ok-end.ensures.meter in
    let ends : AreEnds g p context c.in-Ends.end = subst (IsSettled g p context) c.in-Ends.is c.in_ok-end.ensures.settled in
    ends_kept g h (bits_of g h charged) p context c.in-Ends.end ends

pub returns-in_ok-tree-in-Ends-clause-tree : goal.returns-in_ok-tree-in-Ends-clause-tree
returns-in_ok-tree-in-Ends-clause-tree t c =
    let g = c.args.meter.now in
    let h = c.settle.new.meter in
    let p = c.args.problem.now in
    let charged : IsCharged g h = c.in_ok-end.ensures.meter in
    tree_kept h g (sym (bits_of g h charged)) p (HoldsSystem c.args.context.now) c.in_ok-tree-in-Ends.tree c.in_ok-tree-in-Ends.ensures.0

pub returns-in_ok-tree-in-Ends-clause-meter : goal.returns-in_ok-tree-in-Ends-clause-meter
returns-in_ok-tree-in-Ends-clause-meter t c = subst (IsCharged c.args.meter.now) (sym c.in_ok-tree-in-Ends.ensures.1) c.in_ok-end.ensures.meter

pub returns-in-Away-clause-meter : goal.returns-in-Away-clause-meter
returns-in-Away-clause-meter t c =
    let g = c.args.meter.now in
    let p = c.args.problem.now in
    let context = c.args.context.now in
    let away = subst (IsSettled g p context) c.in-Away.is c.in_ok-end.ensures.settled in
    (none_greatest g p context c.requires.context away, c.in_ok-end.ensures.meter)

pub test_of-requires : goal.test_of-requires
test_of-requires t c =
    let g = c.args.meter.now in
    let h = c.settle.new.meter in
    let p = c.args.problem.now in
    let context = c.args.context.now in
    let charged : IsCharged g h = c.in_ok-end.ensures.meter in
    let s = c.in-Splits.split in
    let split : IsSplit g p context s = subst (IsSettled g p context) c.in-Splits.is c.in_ok-end.ensures.settled in
    subst (λ n. IsQuestion h n s.question) (sym c.front.ensures) (question_kept g h (bits_of g h charged) p.front s.question split.asked)

pub returns-in_err-test-in-Splits-clause-meter : goal.returns-in_err-test-in-Splits-clause-meter
returns-in_err-test-in-Splits-clause-meter t c =
    let g = c.args.meter.now in
    let h = c.settle.new.meter in
    let cut = c.in_err-test-in-Splits.field-0.0 in
    let error = err_from_is_err_and c.from_residual-in_err-test-in-Splits.result c.from_residual-in_err-test-in-Splits.ensures.1 in
    rw (error.1, error.2) (IsCutBy-after g h c.test_of.new.meter cut c.in_ok-end.ensures.meter c.in_err-test-in-Splits.ensures)

pub build-requires : goal.build-requires
build-requires t c =
    let g = c.args.meter.now in
    let h = c.settle.new.meter in
    let k = c.test_of.new.meter in
    let p = c.args.problem.now in
    let context = c.args.context.now in
    let charged : IsCharged g h = c.in_ok-end.ensures.meter in
    let s = c.in-Splits.split in
    let split : IsSplit g p context s = subst (IsSettled g p context) c.in-Splits.is c.in_ok-end.ensures.settled in
    let same : k ≡ h = c.in_ok-test-in-Splits.ensures.1 in
    let to : k.bits ≡ g.bits = ap (λ (m : Gauge). m.bits) same ∙ bits_of g h charged in
    let budget : k.budget ≡ g.budget = ap (λ (m : Gauge). m.budget) same ∙ ap (λ (m : Gauge). m.budget) charged.same in
    let units : k.units ≡ h.units = ap (λ (m : Gauge). m.units) same in
    let unit = c.in_ok-end.ensures.unit in
    let more = unit.0 in
    let room = unit.1 in (
      omega (arith, c.decreases, budget, units, more, room),
      (
        problem_kept g k to p c.requires.problem,
        (context_kept g k to p.front s.inside split.first, (state_kept g k to p s.yes split.after_yes, split.reached_yes)),
      ),
    )

pub build-requires-in-Splits : goal.build-requires-in-Splits
build-requires-in-Splits t c =
    let g = c.args.meter.now in
    let h = c.settle.new.meter in
    let k = c.test_of.new.meter in
    let l = c.build.new.meter in
    let p = c.args.problem.now in
    let context = c.args.context.now in
    let charged : IsCharged g h = c.in_ok-end.ensures.meter in
    let s = c.in-Splits.split in
    let split : IsSplit g p context s = subst (IsSettled g p context) c.in-Splits.is c.in_ok-end.ensures.settled in
    let same : k ≡ h = c.in_ok-test-in-Splits.ensures.1 in
    let up : IsCharged k l = c.in_ok-up-in-Splits.ensures.meter in
    let to : l.bits ≡ g.bits = bits_of k l up ∙ ap (λ (m : Gauge). m.bits) same ∙ bits_of g h charged in
    let budget : k.budget ≡ g.budget = ap (λ (m : Gauge). m.budget) same ∙ ap (λ (m : Gauge). m.budget) charged.same in
    let left : l.budget ≡ k.budget = ap (λ (m : Gauge). m.budget) up.same in
    let units : k.units ≡ h.units = ap (λ (m : Gauge). m.units) same in
    let used = up.units in
    let unit = c.in_ok-end.ensures.unit in
    let more = unit.0 in
    let room = unit.1 in (
      omega (arith, c.decreases, budget, left, units, used, more, room),
      (
        problem_kept g l to p c.requires.problem,
        (context_kept g l to p.front s.outside split.second, (state_kept g l to p s.other split.after_no, split.reached_no)),
      ),
    )

pub returns-in_ok-whole-in-Splits-clause-tree : goal.returns-in_ok-whole-in-Splits-clause-tree
returns-in_ok-whole-in-Splits-clause-tree t c =
    let g = c.args.meter.now in
    let h = c.settle.new.meter in
    let k = c.test_of.new.meter in
    let l = c.build.new.meter in
    let p = c.args.problem.now in
    let context = c.args.context.now in
    let charged : IsCharged g h = c.in_ok-end.ensures.meter in
    let bits = bits_of g h charged in
    let s = c.in-Splits.split in
    let split : IsSplit g p context s = subst (IsSettled g p context) c.in-Splits.is c.in_ok-end.ensures.settled in
    let same : k ≡ h = c.in_ok-test-in-Splits.ensures.1 in
    let to : k.bits ≡ g.bits = ap (λ (m : Gauge). m.bits) same ∙ bits in
    let down : l.bits ≡ g.bits = bits_of k l c.in_ok-up-in-Splits.ensures.meter ∙ to in
    let test = c.in_ok-test-in-Splits.test in
    let tells : IsTestOf h p.front s.question test =
    subst (λ n. IsTestOf h n s.question test) c.front.ensures c.in_ok-test-in-Splits.ensures.0 in
    let first = tree_kept k g (sym to) p (HoldsSystem s.inside) c.in_ok-up-in-Splits.up c.in_ok-up-in-Splits.ensures.tree in
    let second = tree_kept l g (sym down) p (HoldsSystem s.outside) c.in_ok-down-in-Splits.down c.in_ok-down-in-Splits.ensures.tree in
    subst (IsTreeWithin g p (HoldsSystem context)) (sym c.in_ok-whole-in-Splits.ensures)
    (tree_if g p context s.question s.inside s.outside test c.in_ok-up-in-Splits.up c.in_ok-down-in-Splits.down split.asked split.holds split.fails
    (test_kept h g (sym bits) p.front s.question test tells) first second)

pub returns-in_ok-whole-in-Splits-clause-meter : goal.returns-in_ok-whole-in-Splits-clause-meter
returns-in_ok-whole-in-Splits-clause-meter t c =
    let g = c.args.meter.now in
    let h = c.settle.new.meter in
    let k = c.test_of.new.meter in
    let l = c.build.new.meter in
    let m = c.build-in-Splits.new.meter in
    let charged : IsCharged g k = subst (IsCharged g) (sym c.in_ok-test-in-Splits.ensures.1) c.in_ok-end.ensures.meter in
    IsCharged_trans g l m (IsCharged_trans g k l charged c.in_ok-up-in-Splits.ensures.meter) c.in_ok-down-in-Splits.ensures.meter

pub returns-in_err-up-in-Splits-clause-meter : goal.returns-in_err-up-in-Splits-clause-meter
returns-in_err-up-in-Splits-clause-meter t c =
    let g = c.args.meter.now in
    let k = c.test_of.new.meter in
    let Missing : Type 0 = ¬ AllHaveGreatest c.args.problem.now in
    let charged : IsCharged g k = subst (IsCharged g) (sym c.in_ok-test-in-Splits.ensures.1) c.in_ok-end.ensures.meter in
    let error = err_from_is_err_and c.from_residual-in_err-up-in-Splits.result c.from_residual-in_err-up-in-Splits.ensures.1 in
    rw (error.1, error.2)
    (later_fault Missing Missing (λ missing. missing) g k c.build.new.meter c.in_err-up-in-Splits.field-0.0 charged c.in_err-up-in-Splits.ensures.meter)

pub returns-in_err-down-in-Splits-clause-meter : goal.returns-in_err-down-in-Splits-clause-meter
returns-in_err-down-in-Splits-clause-meter t c =
    let g = c.args.meter.now in
    let k = c.test_of.new.meter in
    let l = c.build.new.meter in
    let Missing : Type 0 = ¬ AllHaveGreatest c.args.problem.now in
    let charged : IsCharged g k = subst (IsCharged g) (sym c.in_ok-test-in-Splits.ensures.1) c.in_ok-end.ensures.meter in
    let error = err_from_is_err_and c.from_residual-in_err-down-in-Splits.result c.from_residual-in_err-down-in-Splits.ensures.1 in
    rw (error.1, error.2)
    (later_fault Missing Missing (λ missing. missing) g l c.build-in-Splits.new.meter c.in_err-down-in-Splits.field-0.0
    (IsCharged_trans g k l charged c.in_ok-up-in-Splits.ensures.meter) c.in_err-down-in-Splits.ensures.meter)
