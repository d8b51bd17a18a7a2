use Rattle.std.proofs.Common.{◌≡◌, ◌∙◌, ◌+◌, ◌<◌, ◌≤◌, sym, ap, subst, arith, List, length, get_or}
use Rattle.std.proofs.lemmas.Grind.{common_steps}
use Rattle.isl_piece.specs.declared.row.Row.{Row}
use Rattle.isl_piece.specs.Row.{IsWellFormed}
use Rattle.isl_greatest_law.specs.Case.{CaseView}
use Rattle.isl_greatest.specs.declared.state.State.{State}
use Rattle.isl_greatest.specs.declared.state.Trial.TheVariants.{Bounding}
use Rattle.isl_greatest.specs.Next.{AsksFor, GoesOn}
use Rattle.isl_greatest.specs.State.{case_at, depth_of}
use Rattle.isl_greatest.proofs.StateLaws.{asks_bound, goes_bounded}
use Rattle.isl_greatest.proofs.StepLaws.{back_question, own_frame, top_asked, top_at, trial_bounding}
use Rattle.isl_greatest.proofs.next.bound.Goals as goal

pub row_question-requires : goal.row_question-requires
row_question-requires c =
    let g = c.args.meter.now in
    let p = c.args.problem.now in
    let s = c.args.state.now in
    let own = case_at p (depth_of s) s.case in
    let told = trial_bounding g p c.requires.problem s c.requires.state c.args.cur.now c.args.next c.requires.trial in
    let r = c.index-tops-next.result in
    let tops : c.as_slice-tops.result.now ≡ own.tops = c.as_slice-tops.ensures ∙ ap (λ (k : CaseView). k.tops) (c.case.view_is ∙ c.requires.case) in
    let inside : c.args.next < length own.tops = grind (arith, common_steps, tops) in
    let read : r ≡ get_or own.tops c.args.next r = subst (λ (l : List Row). r ≡ get_or l c.args.next r) tops c.index-tops-next.is in
    let top = top_at g p c.requires.problem s c.requires.state told.1 r c.args.next inside read in
    let asked = top_asked g p c.requires.problem s c.requires.state told.1 r top in
    record {
      frame = own_frame g p.front c.args.cur.now told.0.frame;
      formed = subst (λ n. IsWellFormed n r) (sym told.0.columns) asked.0;
      within = asked.1;
      kind = asked.2;
    }

pub top_candidate-requires : goal.top_candidate-requires
top_candidate-requires c =
    let g = c.args.meter.now in
    let p = c.args.problem.now in
    let s = c.args.state.now in
    let own = case_at p (depth_of s) s.case in
    let told = trial_bounding g p c.requires.problem s c.requires.state c.args.cur.now c.args.next c.requires.trial in
    let r = c.index-tops-next.result in
    let tops : c.as_slice-tops.result.now ≡ own.tops = c.as_slice-tops.ensures ∙ ap (λ (k : CaseView). k.tops) (c.case.view_is ∙ c.requires.case) in
    let inside : c.args.next < length own.tops = grind (arith, common_steps, tops) in
    let read : r ≡ get_or own.tops c.args.next r = subst (λ (l : List Row). r ≡ get_or l c.args.next r) tops c.index-tops-next.is in
    let top = top_at g p c.requires.problem s c.requires.state told.1 r c.args.next inside read in
    record { top = top.0; within = top.1 }

pub returns-then-next-tops : goal.returns-then-next-tops
returns-then-next-tops c =
    let g = c.args.meter.now in
    let p = c.args.problem.now in
    let s = c.args.state.now in
    let own = case_at p (depth_of s) s.case in
    let told = trial_bounding g p c.requires.problem s c.requires.state c.args.cur.now c.args.next c.requires.trial in
    let tops : c.as_slice-tops.result.now ≡ own.tops = c.as_slice-tops.ensures ∙ ap (λ (k : CaseView). k.tops) (c.case.view_is ∙ c.requires.case) in
    let all : length own.tops ≤ c.args.next = grind (arith, common_steps, tops) in
    subst (GoesOn g p s) (sym c.in_ok-later.ensures)
    (goes_bounded g p c.requires.problem s c.requires.state told.1 c.args.cur.now c.in_ok-cur.cur c.args.next c.requires.trial c.in_ok-cur.ensures all
    told.0)

pub returns : goal.returns
returns c =
    let g = c.args.meter.now in
    let p = c.args.problem.now in
    let s = c.args.state.now in
    let own = case_at p (depth_of s) s.case in
    let told = trial_bounding g p c.requires.problem s c.requires.state c.args.cur.now c.args.next c.requires.trial in
    let r = c.index-tops-next.result in
    let tops : c.as_slice-tops.result.now ≡ own.tops = c.as_slice-tops.ensures ∙ ap (λ (k : CaseView). k.tops) (c.case.view_is ∙ c.requires.case) in
    let inside : c.args.next < length own.tops = grind (arith, common_steps, tops) in
    let read : r ≡ get_or own.tops c.args.next r = subst (λ (l : List Row). r ≡ get_or l c.args.next r) tops c.index-tops-next.is in
    let q = c.in_ok-question.question in
    let asked = back_question g p.front c.args.cur.now q told.0.frame c.in_ok-question.ensures.asked in
    let yes : State = record s { trial = Bounding c.in_ok-same.same (c.args.next + 1) } in
    subst (λ (t : State). AsksFor g p s q t c.in_ok-other.other) (sym c.in_ok-yes.ensures)
    (subst (λ (t : State). AsksFor g p s q yes t) (sym c.in_ok-other.ensures)
    (asks_bound g p c.requires.problem s c.requires.state told.1 r c.args.cur.now c.in_ok-same.same c.in_ok-lower.lower q c.args.next
    c.requires.trial c.in_ok-same.ensures inside read told.0 (c.in_ok-lower.ensures.made p.front c.requires.state.chosen) c.in_ok-lower.ensures.number asked
    c.in_ok-question.ensures.points))
