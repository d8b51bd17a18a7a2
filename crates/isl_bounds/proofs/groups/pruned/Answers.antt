use Rattle.std.proofs.Common.{ℕ, suc, ◌-◌, ◌<◌, ◌≤◌, ◌∙◌, sym, subst, arith, List, length}
use Rattle.std.proofs.lemmas.Bool.{false≢true}
use Rattle.std.specs.List.{All, remove}
use Rattle.std.proofs.lemmas.Grind.{common_steps}
use Rattle.std.proofs.lemmas.List.Edits.{length-remove}
use Rattle.isl_meter.proofs.CutLemmas.{IsCharged_trans}
use Rattle.isl_piece.specs.declared.row.Row.{Row}
use Rattle.isl_frame.specs.Needed.{AreRowsOver}
use Rattle.isl_frame.proofs.NeededLaws.{over_later}
use Rattle.isl_bounds.specs.Pruned.{AreFewer, IsBareGroup, IsBeaten}
use Rattle.isl_bounds.proofs.PrunedLaws.{NoneBeatenFrom, all_but, fewer_less, fewer_over, groups_later, none_beaten_alone, none_beaten_at_all}
use Rattle.isl_bounds.proofs.PrunedLaws.{none_beaten_before, none_beaten_behind, none_beaten_removed}
use Rattle.isl_bounds.proofs.groups.pruned.Goals as goal
use Rattle.isl_bounds.proofs.groups.pruned.Goals.{then-loop-at-test+else-len-gt1, else-loop-at-test}

pub is_beaten-requires-clause-context : goal.is_beaten-requires-clause-context
is_beaten-requires-clause-context c =
    over_later c.args.meter.now c.loop-at.meter c.args.columns c.args.context.now c.loop-at.invariant.2 c.requires.context

pub is_beaten-requires-clause-groups : goal.is_beaten-requires-clause-groups
is_beaten-requires-clause-groups c =
    let kept = c.loop-at.kept.items in
    let over = groups_later c.args.meter.now c.loop-at.meter c.args.columns kept c.loop-at.invariant.2
    (fewer_over c.args.columns c.args.context.now c.args.groups.now c.args.meter.now kept c.loop-at.invariant.1 c.requires.groups) in
    subst (All (AreRowsOver c.loop-at.meter c.args.columns)) (sym c.as_slice.ensures.value) over

pub loop-at-preserved-then-branch : goal.loop-at-preserved-then-branch
loop-at-preserved-then-branch c =
    let kept = c.loop-at.kept.items in
    let at = c.loop-at.at - 1 in
    let inside : at < length kept = omega arith in
    let two : 1 < length kept = grind (arith, common_steps) in
    let beaten : IsBeaten c.args.columns c.args.context.now kept at =
    subst (λ (gs : List (List Row)). IsBeaten c.args.columns c.args.context.now gs at) c.as_slice.ensures.value
    (c.in_ok-is_beaten.ensures.beaten.0 c.if-branch.true) in
    let long = length-remove kept at inside in
    let low : at ≤ length (remove kept at) = omega (arith, long, inside) in
    let fewer : AreFewer c.args.columns c.args.context.now c.args.groups.now (remove kept at) =
    fewer_less c.args.columns c.args.context.now c.args.groups.now kept at inside two c.loop-at.invariant.1 beaten in
    let none : NoneBeatenFrom c.args.columns c.args.context.now (suc at) kept =
    subst (λ (n : ℕ). NoneBeatenFrom c.args.columns c.args.context.now n kept) (omega arith) c.loop-at.invariant.3 in
    let left = c.drop_group.ensures in (
      subst (λ (gs : List (List Row)). at ≤ length gs) (sym left) low,
      subst (AreFewer c.args.columns c.args.context.now c.args.groups.now) (sym left) fewer,
      IsCharged_trans c.args.meter.now c.loop-at.meter c.is_beaten.new.meter c.loop-at.invariant.2 c.in_ok-is_beaten.ensures.meter,
      subst (NoneBeatenFrom c.args.columns c.args.context.now at) (sym left)
          (none_beaten_removed c.args.columns c.args.context.now kept at inside none),
      subst (All (IsBareGroup c.args.columns c.args.context.now)) (sym left)
          (all_but (IsBareGroup c.args.columns c.args.context.now) kept at c.loop-at.invariant.4),
    )

pub loop-at-init : goal.loop-at-init
loop-at-init c = (
  omega arith,
  c.in_ok-kept.ensures.exact,
  c.in_ok-kept.ensures.meter,
  none_beaten_behind c.args.columns c.args.context.now c.in_ok-kept.kept.items c.len-at.result (omega arith),
  c.in_ok-kept.ensures.bare,
)

pub loop-at-preserved : goal.loop-at-preserved
loop-at-preserved c =
    let kept = c.loop-at.kept.items in
    let at = c.loop-at.at - 1 in
    let inside : at < length kept = omega arith in
    let unbeaten : ¬ IsBeaten c.args.columns c.args.context.now kept at =
    λ beaten. false≢true (sym c.if-branch.false ∙ (c.in_ok-is_beaten.ensures.beaten.1
    (subst (λ (gs : List (List Row)). IsBeaten c.args.columns c.args.context.now gs at) (sym c.as_slice.ensures.value) beaten))) in
    let none : NoneBeatenFrom c.args.columns c.args.context.now (suc at) kept =
    subst (λ (n : ℕ). NoneBeatenFrom c.args.columns c.args.context.now n kept) (omega arith) c.loop-at.invariant.3 in (
      omega (arith, inside),
      c.loop-at.invariant.1,
      IsCharged_trans c.args.meter.now c.loop-at.meter c.is_beaten.new.meter c.loop-at.invariant.2 c.in_ok-is_beaten.ensures.meter,
      none_beaten_before c.args.columns c.args.context.now kept at unbeaten none,
      c.loop-at.invariant.4,
    )

pub returns-clause-none_beaten : goal.returns-clause-none_beaten
returns-clause-none_beaten c =
    elim c.loop-at-test.branch [
      | then-loop-at-test+else-len-gt1 w ↦ none_beaten_alone c.args.columns c.args.context.now c.loop-at.kept.items
          (omega (arith, w.len.ensures, w.if-len-gt1.false))
      | else-loop-at-test w ↦ none_beaten_at_all c.args.columns c.args.context.now c.loop-at.kept.items
          (subst (λ (n : ℕ). NoneBeatenFrom c.args.columns c.args.context.now n c.loop-at.kept.items) (omega arith) c.loop-at.invariant.3)
    ]
