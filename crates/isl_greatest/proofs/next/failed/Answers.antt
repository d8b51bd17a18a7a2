use Rattle.std.proofs.Common.{◌≡◌, ◌∙◌, ◌<ℤ◌, ◌≤ℤ◌, ◌+ℤ◌, refl, sym, ap, subst, arith, ℤ, pos, to_z-of_z, FitsSigned}
use Rattle.std.specs.Int.{w128}
use Rattle.std.proofs.lemmas.Bool.{false≢true}
use Rattle.std.proofs.lemmas.Grind.{common_steps}
use Rattle.std.proofs.lemmas.Int.{ints}
use Rattle.isl_math.proofs.Ring.{linear}
use Rattle.isl_greatest_law.specs.Case.{CaseView, IsCongruence}
use Rattle.isl_greatest.specs.Next.{IsAsked, IsFailed, IsOtherAt}
use Rattle.isl_greatest.specs.State.{case_at, depth_of}
use Rattle.isl_greatest.proofs.PartsLaws.{congruence_or_not}
use Rattle.isl_greatest.proofs.StateLaws.{fails_case, fails_next}
use Rattle.isl_greatest.proofs.StepLaws.{above, at_most, back_candidate, more_fits, own_candidate, own_frame, trial_asking}
use Rattle.isl_greatest.proofs.next.failed.Goals as goal

pub overflow_add-more : goal.overflow_add-more
overflow_add-more c =
    let g = c.args.meter.now in
    let p = c.args.problem.now in
    let s = c.args.state.now in
    let told = trial_asking g p c.requires.problem s c.requires.state c.args.cur.now c.args.tried c.args.next c.requires.trial in
    let few : c.args.tried <ℤ c.args.case.now.period = subst (λ (k : CaseView). c.args.tried <ℤ k.period) (sym c.requires.case) told.3 in
    let own : FitsSigned w128 c.get-more.result = record { sfits = c.get-more.type_inv } in
    let sum : FitsSigned w128 (c.get-more.result +ℤ pos 1) =
    more_fits c.args.tried c.get-more.result c.get-period.result (record { sfits = c.get-period.type_inv }) told.2
    (subst (λ (z : ℤ). c.args.tried <ℤ z) (sym (c.get-period.ensures ∙ ap (λ (k : CaseView). k.period) c.case.view_is)) few) c.get-more.ensures in
    simp to_z-of_z sum

pub below-requires : goal.below-requires
below-requires c =
    let g = c.args.meter.now in
    let p = c.args.problem.now in
    let s = c.args.state.now in
    let told = trial_asking g p c.requires.problem s c.requires.state c.args.cur.now c.args.tried c.args.next c.requires.trial in
    record {
      candidate = own_candidate g p.front s.chosen c.args.cur.now c.requires.state.chosen told.0;
      chosen = own_frame g p.front s.chosen c.requires.state.chosen;
    }

pub returns-then-not-is_congruence : goal.returns-then-not-is_congruence
returns-then-not-is_congruence c =
    let g = c.args.meter.now in
    let p = c.args.problem.now in
    let s = c.args.state.now in
    let own = case_at p (depth_of s) s.case in
    let row = c.args.row.now in
    let told = trial_asking g p c.requires.problem s c.requires.state c.args.cur.now c.args.tried c.args.next c.requires.trial in
    let at = subst (λ (k : CaseView). IsOtherAt k c.args.next row) c.requires.case c.requires.row in
    let asked = subst (λ (k : CaseView). IsAsked p s k row) c.requires.case c.requires.asked in
    let last : IsCongruence row → own.period ≤ℤ (c.args.tried +ℤ pos 1) =
    λ is. absurd (false≢true (sym c.if-not-is_congruence.true ∙ c.is_congruence.ensures.1 is)) in (
      subst (IsFailed g p s row c.args.cur.now) (sym c.in_ok-other.ensures)
          (fails_case g p c.requires.problem s c.requires.state told.1 row c.args.cur.now c.args.tried c.args.next c.requires.trial at asked told.0 last
          (congruence_or_not row)),
      refl,
    )

pub returns-then-more-period : goal.returns-then-more-period
returns-then-more-period c =
    let g = c.args.meter.now in
    let p = c.args.problem.now in
    let s = c.args.state.now in
    let own = case_at p (depth_of s) s.case in
    let row = c.args.row.now in
    let told = trial_asking g p c.requires.problem s c.requires.state c.args.cur.now c.args.tried c.args.next c.requires.trial in
    let at = subst (λ (k : CaseView). IsOtherAt k c.args.next row) c.requires.case c.requires.row in
    let asked = subst (λ (k : CaseView). IsAsked p s k row) c.requires.case c.requires.asked in
    let read : c.get-more.result ≡ c.args.tried = c.get-more.ensures in
    let period : c.get-period.result ≡ own.period = c.get-period.ensures ∙ ap (λ (k : CaseView). k.period) (c.case.view_is ∙ c.requires.case) in
    let one : FitsSigned w128 c.get-more.result = record { sfits = c.get-more.type_inv } in
    let top : FitsSigned w128 c.get-period.result = record { sfits = c.get-period.type_inv } in
    let few = subst (λ (z : ℤ). c.args.tried <ℤ z) (sym period) told.3 in
    let sum : FitsSigned w128 (c.get-more.result +ℤ pos 1) = more_fits c.args.tried c.get-more.result c.get-period.result top told.2 few read in
    let end = at_most c.get-period.result (c.get-more.result +ℤ pos 1) (simp to_z-of_z at c.if-more-period.true) in
    let all : own.period ≤ℤ (c.args.tried +ℤ pos 1) = omega (arith, linear, end, read, period) in (
      subst (IsFailed g p s row c.args.cur.now) (sym c.in_ok-other-2.ensures)
          (fails_case g p c.requires.problem s c.requires.state told.1 row c.args.cur.now c.args.tried c.args.next c.requires.trial at asked told.0
          (λ is. all) (congruence_or_not row)),
      refl,
    )

pub returns : goal.returns
returns c =
    let g = c.args.meter.now in
    let p = c.args.problem.now in
    let s = c.args.state.now in
    let own = case_at p (depth_of s) s.case in
    let row = c.args.row.now in
    let told = trial_asking g p c.requires.problem s c.requires.state c.args.cur.now c.args.tried c.args.next c.requires.trial in
    let at = subst (λ (k : CaseView). IsOtherAt k c.args.next row) c.requires.case c.requires.row in
    let congruence : IsCongruence row = c.is_congruence.ensures.0 c.if-not-is_congruence.false in
    let read : c.get-more.result ≡ c.args.tried = c.get-more.ensures in
    let period : c.get-period.result ≡ own.period = c.get-period.ensures ∙ ap (λ (k : CaseView). k.period) (c.case.view_is ∙ c.requires.case) in
    let one : FitsSigned w128 c.get-more.result = record { sfits = c.get-more.type_inv } in
    let top : FitsSigned w128 c.get-period.result = record { sfits = c.get-period.type_inv } in
    let low = subst (λ (z : ℤ). c.args.tried <ℤ z) (sym period) told.3 in
    let sum : FitsSigned w128 (c.get-more.result +ℤ pos 1) = more_fits c.args.tried c.get-more.result c.get-period.result top told.2 low read in
    let end = above c.get-period.result (c.get-more.result +ℤ pos 1) (simp to_z-of_z at c.if-more-period.false) in
    let new = simp to_z-of_z at c.new.ensures in
    let count : c.new.result ≡ c.args.tried +ℤ pos 1 = new ∙ ap (λ z. z +ℤ pos 1) read in
    let few : c.new.result <ℤ own.period = omega (arith, linear, end, new, period) in
    let made = c.in_ok-lower.ensures in (
      subst (IsFailed g p s row c.args.cur.now) (sym c.in_ok-other-3.ensures)
          (fails_next g p c.requires.problem s c.requires.state told.1 row c.args.cur.now c.in_ok-lower.lower c.args.tried c.new.result
          c.args.next c.requires.trial at told (back_candidate g p.front s.chosen c.in_ok-lower.lower c.requires.state.chosen made.0) made.1 congruence
          count few),
      made.2,
    )
