use Rattle.std.proofs.Common.{◌≡◌, ◌∙◌, ◌+◌, sym, ap, subst, arith, List, Some, None}
use Rattle.isl_greatest.specs.declared.state.State.{State}
use Rattle.isl_greatest.specs.declared.state.Trial.TheVariants.{Entering}
use Rattle.isl_greatest.specs.Next.{AsksFor, GoesOn}
use Rattle.isl_greatest.specs.State.{case_at, depth_of, number}
use Rattle.isl_greatest.proofs.StateLaws.{asks_best, goes_best}
use Rattle.isl_greatest.proofs.StepLaws.{back_question, best_is, own_candidate, own_frame, trial_comparing}
use Rattle.isl_greatest.proofs.next.compare.Goals as goal

pub later_question-requires : goal.later_question-requires
later_question-requires c =
    let g = c.args.meter.now in
    let p = c.args.problem.now in
    let s = c.args.state.now in
    let told = trial_comparing g p c.requires.problem s c.requires.state c.args.cur.now c.requires.trial in
    let best = best_is g p c.requires.problem s c.requires.state c.in-Some.best c.in-Some.is in
    record {
      chosen = own_frame g p.front s.chosen c.requires.state.chosen;
      best = own_candidate g p.front s.chosen c.in-Some.best c.requires.state.chosen best;
      cur = own_candidate g p.front s.chosen c.args.cur.now c.requires.state.chosen told.0;
    }

pub returns-in-None : goal.returns-in-None
returns-in-None c =
    let g = c.args.meter.now in
    let p = c.args.problem.now in
    let s = c.args.state.now in
    let told = trial_comparing g p c.requires.problem s c.requires.state c.args.cur.now c.requires.trial in
    subst (GoesOn g p s) (sym c.in_ok-yes.ensures)
    (goes_best g p c.requires.problem s c.requires.state told.1 c.args.cur.now c.in_ok-same.same c.requires.trial c.in_ok-same.ensures c.in-None.is told.0)

pub returns-in_ok-other-in-Some : goal.returns-in_ok-other-in-Some
returns-in_ok-other-in-Some c =
    let g = c.args.meter.now in
    let p = c.args.problem.now in
    let s = c.args.state.now in
    let q = c.in_ok-question-in-Some.question in
    let told = trial_comparing g p c.requires.problem s c.requires.state c.args.cur.now c.requires.trial in
    let asked = back_question g p.front s.chosen q c.requires.state.chosen c.in_ok-question-in-Some.ensures.asked in
    let yes : State = record { chosen = s.chosen; case = s.case + 1; best = Some c.in_ok-same.same; trial = Entering } in
    subst (λ (t : State). AsksFor g p s q t c.in_ok-other-in-Some.other) (sym c.in_ok-yes.ensures)
    (subst (λ (t : State). AsksFor g p s q yes t) (sym c.in_ok-other-in-Some.ensures)
    (asks_best g p c.requires.problem s c.requires.state told.1 c.args.cur.now c.in_ok-same.same c.in-Some.best q c.requires.trial c.in_ok-same.ensures
    c.in-Some.is told.0 asked (λ v long. c.in_ok-question-in-Some.ensures.points v (long ∙ sym c.requires.state.chosen.free))))
