use Rattle.std.proofs.Common.{◌≡◌, ◌∙◌, ◌+◌, ◌<◌, refl, sym, ap, subst, arith, List, length, get_or}
use Rattle.std.proofs.lemmas.Bool.{false≢true}
use Rattle.std.proofs.lemmas.Grind.{common_steps}
use Rattle.isl_piece.specs.declared.row.Row.{Row}
use Rattle.isl_piece.specs.Row.{IsWellFormed}
use Rattle.isl_greatest_law.specs.Case.{CaseView}
use Rattle.isl_greatest.specs.declared.state.State.{State}
use Rattle.isl_greatest.specs.Next.{AsksFor, GoesOn, IsOtherAt}
use Rattle.isl_greatest.specs.State.{case_at, depth_of}
use Rattle.isl_greatest.proofs.StateLaws.{asks_other, goes_steep}
use Rattle.isl_greatest.proofs.StepLaws.{back_question, not_steep, other_at, own_frame, steep_is, trial_asking}
use Rattle.isl_greatest.proofs.next.ask.Goals as goal

pub is_passed-requires : goal.is_passed-requires
is_passed-requires c =
    let g = c.args.meter.now in
    let p = c.args.problem.now in
    let s = c.args.state.now in
    let own = case_at p (depth_of s) s.case in
    let told = trial_asking g p c.requires.problem s c.requires.state c.args.cur.now c.args.tried c.args.next c.requires.trial in
    let r = c.index-others-next.result in
    let others : c.as_slice-others.result.now ≡ own.others = c.as_slice-others.ensures ∙ ap (λ (k : CaseView). k.others) (c.case.view_is ∙ c.requires.case) in
    let at : IsOtherAt own c.args.next r =
    (grind (arith, common_steps, others), subst (λ (l : List Row). r ≡ get_or l c.args.next r) others c.index-others-next.is) in
    let row = other_at g p c.requires.problem s c.requires.state told.1 r c.args.next at in
    let w = row.0.width in
    omega (arith, w)

pub row_question-requires : goal.row_question-requires
row_question-requires c =
    let g = c.args.meter.now in
    let p = c.args.problem.now in
    let s = c.args.state.now in
    let own = case_at p (depth_of s) s.case in
    let told = trial_asking g p c.requires.problem s c.requires.state c.args.cur.now c.args.tried c.args.next c.requires.trial in
    let r = c.index-others-next.result in
    let others : c.as_slice-others.result.now ≡ own.others = c.as_slice-others.ensures ∙ ap (λ (k : CaseView). k.others) (c.case.view_is ∙ c.requires.case) in
    let at : IsOtherAt own c.args.next r =
    (grind (arith, common_steps, others), subst (λ (l : List Row). r ≡ get_or l c.args.next r) others c.index-others-next.is) in
    let row = other_at g p c.requires.problem s c.requires.state told.1 r c.args.next at in
    record {
      frame = own_frame g p.front c.args.cur.now told.0.frame;
      formed = subst (λ n. IsWellFormed n r) (sym told.0.columns) row.0;
      within = row.1;
      kind = row.2;
    }

pub failed-requires : goal.failed-requires
failed-requires c =
    let g = c.args.meter.now in
    let p = c.args.problem.now in
    let s = c.args.state.now in
    let r = c.index-others-next.result in
    let others : c.as_slice-others.result.now ≡ c.args.case.now.others = c.as_slice-others.ensures ∙ ap (λ (k : CaseView). k.others) c.case.view_is in
    let at : IsOtherAt c.args.case.now c.args.next r =
    (grind (arith, common_steps, others), subst (λ (l : List Row). r ≡ get_or l c.args.next r) others c.index-others-next.is) in
    record {
      problem = c.requires.problem;
      state = c.requires.state;
      trial = c.requires.trial;
      case = c.requires.case;
      row = at;
      asked = λ none. not_steep g p s r c.requires.state.chosen
          (λ steep. false≢true (sym c.if-is_passed.false ∙ c.is_passed.ensures.1 (none, steep)));
    }

pub returns-then-is_passed : goal.returns-then-is_passed
returns-then-is_passed c =
    let g = c.args.meter.now in
    let p = c.args.problem.now in
    let s = c.args.state.now in
    let own = case_at p (depth_of s) s.case in
    let told = trial_asking g p c.requires.problem s c.requires.state c.args.cur.now c.args.tried c.args.next c.requires.trial in
    let r = c.index-others-next.result in
    let others : c.as_slice-others.result.now ≡ own.others = c.as_slice-others.ensures ∙ ap (λ (k : CaseView). k.others) (c.case.view_is ∙ c.requires.case) in
    let at : IsOtherAt own c.args.next r =
    (grind (arith, common_steps, others), subst (λ (l : List Row). r ≡ get_or l c.args.next r) others c.index-others-next.is) in
    let passed = c.is_passed.ensures.0 c.if-is_passed.true in
    let none : length own.tops ≡ 0 = ap (λ (k : CaseView). length k.tops) (sym c.requires.case) ∙ passed.0 in (
      subst (GoesOn g p s) (sym c.in_ok-yes.ensures)
          (goes_steep g p c.requires.problem s c.requires.state told.1 r c.args.cur.now c.in_ok-same.same c.args.tried c.args.next c.requires.trial
          c.in_ok-same.ensures at none (steep_is g p s r c.requires.state.chosen passed.1) told),
      refl,
    )

pub returns : goal.returns
returns c =
    let g = c.args.meter.now in
    let p = c.args.problem.now in
    let s = c.args.state.now in
    let own = case_at p (depth_of s) s.case in
    let told = trial_asking g p c.requires.problem s c.requires.state c.args.cur.now c.args.tried c.args.next c.requires.trial in
    let r = c.index-others-next.result in
    let others : c.as_slice-others.result.now ≡ own.others = c.as_slice-others.ensures ∙ ap (λ (k : CaseView). k.others) (c.case.view_is ∙ c.requires.case) in
    let at : IsOtherAt own c.args.next r =
    (grind (arith, common_steps, others), subst (λ (l : List Row). r ≡ get_or l c.args.next r) others c.index-others-next.is) in
    let q = c.in_ok-question.question in
    let asked = back_question g p.front c.args.cur.now q told.0.frame c.in_ok-question.ensures.asked in (
      subst (λ (t : State). AsksFor g p s q t c.in_ok-other.other) (sym c.in_ok-yes.ensures)
          (asks_other g p c.requires.problem s c.requires.state told.1 r c.args.cur.now c.in_ok-same.same q c.in_ok-other.other
          c.args.tried c.args.next c.requires.trial c.in_ok-same.ensures at told asked c.in_ok-question.ensures.points c.in_ok-other.ensures.0),
      c.in_ok-other.ensures.1,
    )
