use Rattle.std.proofs.Common.{◌≡◌, ◌∙◌, sym, ap, subst, arith, List, length, get_or, Some, None}
use Rattle.std.specs.Option.{option_copied}
use Rattle.std.specs.Prelude.{slice_get}
use Rattle.isl_piece.specs.declared.row.Row.{Row}
use Rattle.isl_greatest_law.specs.Case.{CaseView}
use Rattle.isl_greatest.specs.Next.{GoesOn}
use Rattle.isl_greatest.specs.State.{case_at, depth_of}
use Rattle.isl_greatest.proofs.StateLaws.{goes_first, goes_open}
use Rattle.isl_greatest.proofs.StepLaws.{first_none, first_some, top_at}
use Rattle.isl_greatest.proofs.next.enter.Goals as goal

pub top_candidate-requires : goal.top_candidate-requires
top_candidate-requires c =
    let g = c.args.meter.now in
    let p = c.args.problem.now in
    let s = c.args.state.now in
    let own = case_at p (depth_of s) s.case in
    let row = c.in-Some.row.now in
    let tops : c.as_slice.result.now ≡ own.tops = c.as_slice.ensures ∙ ap (λ (k : CaseView). k.tops) (c.case.view_is ∙ c.requires.case) in
    let read : slice_get own.tops 0 ≡ Some row =
    ap (λ (l : List Row). slice_get l 0) (sym tops) ∙ sym c.first.ensures.value ∙ ap option_copied c.in-Some.is in
    let first = first_some own.tops row read in
    let top = top_at g p c.requires.problem s c.requires.state c.requires.on row 0 first.0 first.1 in
    record { top = top.0; within = top.1 }

pub returns-in_ok-later-in-Some : goal.returns-in_ok-later-in-Some
returns-in_ok-later-in-Some c =
    let g = c.args.meter.now in
    let p = c.args.problem.now in
    let s = c.args.state.now in
    let own = case_at p (depth_of s) s.case in
    let row = c.in-Some.row.now in
    let tops : c.as_slice.result.now ≡ own.tops = c.as_slice.ensures ∙ ap (λ (k : CaseView). k.tops) (c.case.view_is ∙ c.requires.case) in
    let read : slice_get own.tops 0 ≡ Some row =
    ap (λ (l : List Row). slice_get l 0) (sym tops) ∙ sym c.first.ensures.value ∙ ap option_copied c.in-Some.is in
    let first = first_some own.tops row read in
    subst (GoesOn g p s) (sym c.in_ok-later-in-Some.ensures)
    (goes_first g p c.requires.problem s c.requires.state c.requires.on row c.in_ok-cur-in-Some.cur c.requires.trial first.0 first.1
    (c.in_ok-cur-in-Some.ensures.made p.front c.requires.state.chosen) c.in_ok-cur-in-Some.ensures.number)

pub returns-in_ok-later-in-None : goal.returns-in_ok-later-in-None
returns-in_ok-later-in-None c =
    let g = c.args.meter.now in
    let p = c.args.problem.now in
    let s = c.args.state.now in
    let own = case_at p (depth_of s) s.case in
    let tops : c.as_slice.result.now ≡ own.tops = c.as_slice.ensures ∙ ap (λ (k : CaseView). k.tops) (c.case.view_is ∙ c.requires.case) in
    let read : slice_get own.tops 0 ≡ None =
    ap (λ (l : List Row). slice_get l 0) (sym tops) ∙ sym c.first.ensures.value ∙ ap option_copied c.in-None.is in
    subst (GoesOn g p s) (sym c.in_ok-later-in-None.ensures)
    (goes_open g p c.requires.problem s c.requires.state c.requires.on c.in_ok-cur-in-None.cur (first_none own.tops read)
    (c.in_ok-cur-in-None.ensures p.front c.requires.state.chosen))
