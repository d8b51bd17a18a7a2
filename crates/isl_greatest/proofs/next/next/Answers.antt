use Rattle.std.proofs.Common.{◌≡◌, ◌∙◌, ◌<◌, ◌≤◌, refl, sym, ap, subst, arith, List, length, get_or}
use Rattle.std.proofs.lemmas.Grind.{common_steps}
use Rattle.isl_greatest_law.specs.Case.{CaseView}
use Rattle.isl_greatest.specs.Problem.{cases_at}
use Rattle.isl_greatest.specs.State.{case_at, depth_of}
use Rattle.isl_greatest.proofs.StepLaws.{case_is, ends_whole}
use Rattle.isl_greatest.proofs.next.next.Goals as goal

pub cases_at-requires : goal.cases_at-requires
cases_at-requires c =
    let low = c.requires.state.depth_in in
    grind (arith, common_steps, low)

pub close-requires : goal.close-requires
close-requires c =
    let p = c.args.problem.now in
    let s = c.args.state.now in
    let low = c.requires.state.depth_in in
    let same : c.cases_at.result.now ≡ cases_at p (depth_of s) = c.cases_at.ensures ∙ ap (cases_at p) c.defined-depth.ensures in
    let got = rw c.in_default.is at c.get.ensures.lookup in
    record {
      problem = c.requires.problem;
      state = c.requires.state;
      depth = grind (arith, common_steps, low);
      cases = subst (λ (l : List CaseView). length l ≤ s.case) same got.3;
    }

pub enter-requires : goal.enter-requires
enter-requires c =
    let g = c.args.meter.now in
    let p = c.args.problem.now in
    let s = c.args.state.now in
    let case = c.in-Some.case.now in
    let low = c.requires.state.depth_in in
    let same : c.cases_at.result.now ≡ cases_at p (depth_of s) = c.cases_at.ensures ∙ ap (cases_at p) c.defined-depth.ensures in
    let got = rw c.in-Some.is at c.get.ensures.lookup in
    let inside : s.case < length (cases_at p (depth_of s)) = subst (λ (l : List CaseView). s.case < length l) same got.3.0 in
    let read : case ≡ get_or (cases_at p (depth_of s)) s.case case = subst (λ (l : List CaseView). case ≡ get_or l s.case case) same got.1 in
    record {
      problem = c.requires.problem;
      state = c.requires.state;
      trial = c.in-Entering.is;
      on = record { depth_in = grind (arith, common_steps, low); case_in = inside };
      case = case_is g p c.requires.problem s c.requires.state case inside read;
    }

pub bound-requires : goal.bound-requires
bound-requires c =
    let g = c.args.meter.now in
    let p = c.args.problem.now in
    let s = c.args.state.now in
    let case = c.in-Some.case.now in
    let same : c.cases_at.result.now ≡ cases_at p (depth_of s) = c.cases_at.ensures ∙ ap (cases_at p) c.defined-depth.ensures in
    let got = rw c.in-Some.is at c.get.ensures.lookup in
    let inside : s.case < length (cases_at p (depth_of s)) = subst (λ (l : List CaseView). s.case < length l) same got.3.0 in
    let read : case ≡ get_or (cases_at p (depth_of s)) s.case case = subst (λ (l : List CaseView). case ≡ get_or l s.case case) same got.1 in
    record {
      problem = c.requires.problem;
      state = c.requires.state;
      trial = c.in-Bounding.is;
      case = case_is g p c.requires.problem s c.requires.state case inside read;
    }

pub ask-requires : goal.ask-requires
ask-requires c =
    let g = c.args.meter.now in
    let p = c.args.problem.now in
    let s = c.args.state.now in
    let case = c.in-Some.case.now in
    let same : c.cases_at.result.now ≡ cases_at p (depth_of s) = c.cases_at.ensures ∙ ap (cases_at p) c.defined-depth.ensures in
    let got = rw c.in-Some.is at c.get.ensures.lookup in
    let inside : s.case < length (cases_at p (depth_of s)) = subst (λ (l : List CaseView). s.case < length l) same got.3.0 in
    let read : case ≡ get_or (cases_at p (depth_of s)) s.case case = subst (λ (l : List CaseView). case ≡ get_or l s.case case) same got.1 in
    record {
      problem = c.requires.problem;
      state = c.requires.state;
      trial = c.in-Asking.is;
      case = case_is g p c.requires.problem s c.requires.state case inside read;
    }

pub compare-requires : goal.compare-requires
compare-requires c = record { problem = c.requires.problem; state = c.requires.state; trial = c.in-Comparing.is }
