use Rattle.std.proofs.Common.{◌≡◌, ◌≤◌, [], ◌∷◌, sym, ◌∙◌, arith, length, false, true}
use Rattle.std.proofs.lemmas.Bool.{false≢true}
use Rattle.std.proofs.lemmas.Grind.{common_steps}
use Rattle.std.proofs.lemmas.List.Elements.{All-cons, All-nil}
use Rattle.isl_meter.proofs.CutLemmas.{IsCharged_trans}
use Rattle.isl_piece.specs.System.{IsSystemWithin, free_columns}
use Rattle.isl_difference.proofs.DifferenceLaws.{system_at, system_within}
use Rattle.isl_difference.proofs.SplitLaws.{charged_within}
use Rattle.isl_coalesce.proofs.JointLaws.{points_all, points_beyond, points_more, points_skip}
use Rattle.isl_coalesce.proofs.joint.have_points_in.Goals.{then-not-branch+in_ok-is_covered+else-not-branch-2, else-not-branch}
use Rattle.isl_coalesce.proofs.joint.have_points_in.Goals as goal

pub is_empty-requires : goal.is_empty-requires
is_empty-requires c = record {
  well_formed = system_within c.args.meter.now c.loop-system.meter c.args.systems.now c.loop-system.system-index c.system-item.result
      c.loop-system.invariant.charged c.requires.systems c.loop-system-test.true c.system-item.is;
}

pub is_covered-requires-clause-within : goal.is_covered-requires-clause-within
is_covered-requires-clause-within c =
    let g = c.args.meter.now in
    let h = c.loop-system.meter in
    let k = c.is_empty.new.meter in
    system_within g k c.args.systems.now c.loop-system.system-index c.system-item.result
    (IsCharged_trans g h k c.loop-system.invariant.charged c.in_ok-is_empty.ensures.meter) c.requires.systems c.loop-system-test.true
    c.system-item.is

pub is_covered-requires-clause-others_within : goal.is_covered-requires-clause-others_within
is_covered-requires-clause-others_within c =
    let g = c.args.meter.now in
    let h = c.loop-system.meter in
    let k = c.is_empty.new.meter in
    let p = c.args.first.now in
    let q = c.args.second.now in
    let charged = IsCharged_trans g h k c.loop-system.invariant.charged c.in_ok-is_empty.ensures.meter in
    All-cons (IsSystemWithin k) p (q ∷ []) (charged_within g k p charged c.requires.first)
    (All-cons (IsSystemWithin k) q [] (charged_within g k q charged c.requires.second) (All-nil (IsSystemWithin k)))

pub returns-then-not-branch-2-clause-exact : goal.returns-then-not-branch-2-clause-exact
returns-then-not-branch-2-clause-exact c =
    let p = c.args.first.now in
    let systems = c.args.systems.now in
    let i = c.loop-system.system-index in
    let s = c.system-item.result in
    let low = c.loop-system-test.true in
    let at = c.system-item.is in
    let free = system_at (λ t. free_columns t ≡ free_columns p) systems i s c.requires.columns low at in
    let full : c.in_ok-is_empty.field-0 ≡ false = grind (arith, common_steps) in
    let no : c.in_ok-is_covered.field-0 ≡ false = grind (arith, common_steps) in
    let not = points_beyond (free_columns p) p c.args.second.now systems i s low at free (λ covered.
    false≢true (sym no
    ∙ c.in_ok-is_covered.ensures.only (λ none. false≢true (sym full ∙ c.in_ok-is_empty.ensures.exact.1 none)) covered)) in
    ((λ f. absurd (false≢true f)), (λ have. absurd (not have)))

pub loop-system-preserved : goal.loop-system-preserved
loop-system-preserved c =
    let g = c.args.meter.now in
    let h = c.loop-system.meter in
    let p = c.args.first.now in
    let q = c.args.second.now in
    let systems = c.args.systems.now in
    let i = c.loop-system.system-index in
    let s = c.system-item.result in
    let low = c.loop-system-test.true in
    let at = c.system-item.is in
    let n = free_columns p in
    let free = system_at (λ t. free_columns t ≡ n) systems i s c.requires.columns low at in
    let so_far = c.loop-system.invariant in
    let asked = IsCharged_trans g h c.is_empty.new.meter so_far.charged c.in_ok-is_empty.ensures.meter in
    elim c.if-not-branch.branch [
      | then-not-branch+in_ok-is_covered+else-not-branch-2 w ↦
          let full : c.in_ok-is_empty.field-0 ≡ false = grind (arith, common_steps) in
          let in_both : w.in_ok-is_covered.field-0 ≡ true = grind (arith, common_steps) in
          rw w.meter-is (record {
            points = points_more n p q systems i s low at free c.loop-system.some c.if-not-branch.some w.some-is
                (λ none. false≢true (sym full ∙ c.in_ok-is_empty.ensures.exact.1 none)) (w.in_ok-is_covered.ensures.covered in_both)
                so_far.points;
            charged = IsCharged_trans g c.is_empty.new.meter w.is_covered.new.meter asked w.in_ok-is_covered.ensures.meter;
          })
      | else-not-branch w ↦
          let none : c.in_ok-is_empty.field-0 ≡ true = grind (arith, common_steps) in
          rw (w.meter-is, w.some-is) (record {
            points = points_skip n p q systems i s low at free c.loop-system.some (c.in_ok-is_empty.ensures.exact.0 none) so_far.points;
            charged = asked;
          })
    ]

pub returns-clause-exact : goal.returns-clause-exact
returns-clause-exact c =
    let end : length c.args.systems.now ≤ c.loop-system.system-index = omega arith in
    points_all (free_columns c.args.first.now) c.args.first.now c.args.second.now c.args.systems.now c.loop-system.system-index
    c.loop-system.some end c.loop-system.invariant.points
