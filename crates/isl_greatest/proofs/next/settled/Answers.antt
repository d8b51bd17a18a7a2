use Rattle.std.proofs.Common.{◌≡◌, ◌∙◌, ◌<◌, ◌≤◌, sym, ap, subst, arith, length}
use Rattle.std.proofs.lemmas.Grind.{common_steps}
use Rattle.isl_greatest_law.specs.Case.{CaseView}
use Rattle.isl_greatest.specs.Next.{GoesOn}
use Rattle.isl_greatest.specs.State.{case_at, depth_of}
use Rattle.isl_greatest.proofs.StateLaws.{goes_away, goes_comparing}
use Rattle.isl_greatest.proofs.StepLaws.{trial_asking}
use Rattle.isl_greatest.proofs.next.settled.Goals as goal

pub returns-then-is_empty : goal.returns-then-is_empty
returns-then-is_empty c =
    let g = c.args.meter.now in
    let p = c.args.problem.now in
    let s = c.args.state.now in
    let own = case_at p (depth_of s) s.case in
    let told = trial_asking g p c.requires.problem s c.requires.state c.args.cur.now c.args.tried c.args.next c.requires.trial in
    let tops : c.as_slice.result.now ≡ own.tops = c.as_slice.ensures ∙ ap (λ (k : CaseView). k.tops) (c.case.view_is ∙ c.requires.case) in
    let all : length own.others ≤ c.args.next = subst (λ (k : CaseView). length k.others ≤ c.args.next) c.requires.case c.requires.all in
    let none : length own.tops ≡ 0 = grind (arith, common_steps, tops) in
    goes_away g p c.requires.problem s c.requires.state told.1 c.args.cur.now c.args.tried c.args.next c.requires.trial all none

pub returns : goal.returns
returns c =
    let g = c.args.meter.now in
    let p = c.args.problem.now in
    let s = c.args.state.now in
    let own = case_at p (depth_of s) s.case in
    let told = trial_asking g p c.requires.problem s c.requires.state c.args.cur.now c.args.tried c.args.next c.requires.trial in
    let tops : c.as_slice.result.now ≡ own.tops = c.as_slice.ensures ∙ ap (λ (k : CaseView). k.tops) (c.case.view_is ∙ c.requires.case) in
    let all : length own.others ≤ c.args.next = subst (λ (k : CaseView). length k.others ≤ c.args.next) c.requires.case c.requires.all in
    let some : 0 < length own.tops = grind (arith, common_steps, tops) in
    subst (GoesOn g p s) (sym c.in_ok-later.ensures)
    (goes_comparing g p c.requires.problem s c.requires.state told.1 c.args.cur.now c.in_ok-same.same c.args.tried c.args.next c.requires.trial
    c.in_ok-same.ensures all some told.0)
