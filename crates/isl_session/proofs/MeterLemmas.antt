-- A session's meter over one statement after another.
use Rattle.std.proofs.Common.{◌≡◌, ℕ, ◌+◌, ◌≤◌, Bool, cond, List, [], ◌∷◌, length, refl, ◌∙◌, sym, ap, subst, arith}
use Rattle.std.specs.List.{count_by}
use Rattle.std.proofs.lemmas.List.Sums.{sum_by-cons}
use Rattle.isl_meter.specs.Gauge.{Gauge, IsCharged}
use Rattle.isl_refusal.specs.declared.refusal.Refusal.{Refusal}
use Rattle.isl_refusal.specs.declared.refusal.Refusal.TheVariants as r
use Rattle.isl_values.specs.State.{Moment}
use Rattle.isl_eval.specs.Causes.{Refuses}
use Rattle.isl_eval.specs.Machine.{Answer}
use Rattle.isl_eval.specs.Run.{started}
use Rattle.isl_session.specs.Outcome.{Outcome, answered, skipped, Carries, RoseBy, RunOn, Skips, is_overflow, is_spent}

-- a meter that is as it was has used units alone since a statement's start
pub charged_from_start : (g h : Gauge) → h ≡ g → IsCharged (record g { units = 0 }) h
charged_from_start g h e = rw e (record { same = refl; units = omega arith })

same_on : (g h k : Gauge) → h ≡ record g { units = h.units } → k ≡ record h { units = k.units } → k ≡ record g { units = k.units }
same_on g h k first second = cc

carries_refl : (g : Gauge) → Carries g [] g
carries_refl g =
    record {
      bits = refl;
      budget = refl;
      overflows = (omega arith, omega arith);
      spents = (omega arith, omega arith);
      same = λ none. refl;
    }

-- a count behind one outcome, and then behind others
rose_on : (p : Outcome → Bool) (outcome : Outcome) (later : List Outcome) (a b c : ℕ) → RoseBy (cond (p outcome) 1 0) a b
    → RoseBy (count_by p later) b c → RoseBy (count_by p (outcome ∷ later)) a c
rose_on p outcome later a b c one two =
    let sum : count_by p (outcome ∷ later) ≡ cond (p outcome) 1 0 + count_by p later =
    sum_by-cons (λ o. cond (p o) 1 0) outcome later in
    (omega (arith, one.0, two.0), omega (arith, one.0, one.1, two.0, two.1, sum))

-- a statement that is answered, and then others
carries_answered : (g h k : Gauge) (answer : Answer) (later : List Outcome) → IsCharged (record g { units = 0 }) h → Carries h later k
    → Carries g (answered answer ∷ later) k
carries_answered g h k answer later charged carried =
    let bits = ap (λ (m : Gauge). m.bits) charged.same in
    let budget = ap (λ (m : Gauge). m.budget) charged.same in
    let overflows : h.overflows ≡ g.overflows = ap (λ (m : Gauge). m.overflows) charged.same in
    let spents : h.spents ≡ g.spents = ap (λ (m : Gauge). m.spents) charged.same in
    record {
      bits = carried.bits ∙ bits;
      budget = carried.budget ∙ budget;
      overflows = rose_on is_overflow (answered answer) later g.overflows h.overflows k.overflows
          (omega (arith, overflows), omega (arith, overflows)) carried.overflows;
      spents = rose_on is_spent (answered answer) later g.spents h.spents k.spents
          (omega (arith, spents), omega (arith, spents)) carried.spents;
      same = λ none. same_on g h k charged.same (carried.same none);
    }

-- what a skipped statement counts
rose_overflow : (before : Moment) (bytes : List ℕ) (now : Gauge) (refusal : Refusal) → Refuses (started before) bytes now refusal
    → before.meter.overflows ≤ now.overflows → RoseBy (cond (is_overflow (skipped refusal)) 1 0) before.meter.overflows now.overflows
rose_overflow before bytes now r.Overflow refuses kept = (kept, let rose = refuses.3.cause.0 in omega (arith, rose))
rose_overflow before bytes now refusal refuses kept = (kept, omega (arith, kept))

rose_spent : (before : Moment) (bytes : List ℕ) (now : Gauge) (refusal : Refusal) → Refuses (started before) bytes now refusal
    → before.meter.spents ≤ now.spents → RoseBy (cond (is_spent (skipped refusal)) 1 0) before.meter.spents now.spents
rose_spent before bytes now r.Budget refuses kept = (kept, let rose = refuses.3.cause.1 in omega (arith, rose))
rose_spent before bytes now refusal refuses kept = (kept, omega (arith, kept))

-- a statement that is skipped, and then others
carries_skipped : (before : Moment) (bytes : List ℕ) (h k : Gauge) (refusal : Refusal) (later : List Outcome)
    → Skips before bytes refusal h → Carries h later k → Carries before.meter (skipped refusal ∷ later) k
carries_skipped before bytes h k refusal later skip carried =
    let kept = skip.meter in
    record {
      bits = carried.bits ∙ kept.bits;
      budget = carried.budget ∙ kept.budget;
      overflows = rose_on is_overflow (skipped refusal) later before.meter.overflows h.overflows k.overflows
          (rose_overflow before bytes h refusal skip.refuses kept.overflows) carried.overflows;
      spents = rose_on is_spent (skipped refusal) later before.meter.spents h.spents k.spents
          (rose_spent before bytes h refusal skip.refuses kept.spents) carried.spents;
      same = λ none. absurd (omega (arith, ap length none));
    }

-- what a run leaves of the meter
pub carried_by : (first : Moment) (parts : List (List ℕ)) (outcomes : List Outcome) (last : Moment) → RunOn first parts outcomes last
    → Carries first.meter outcomes last.meter
unfolding RunOn
carried_by first [] [] last run =
    subst (λ (m : Moment). Carries first.meter [] m.meter) (sym run) (carries_refl first.meter)
carried_by first (bytes ∷ more) (answered answer ∷ outcomes) last run =
    carries_answered first.meter run.0.meter last.meter answer outcomes run.1.meter (carried_by run.0 more outcomes last run.2)
carried_by first (bytes ∷ more) (skipped refusal ∷ outcomes) last run =
    carries_skipped first bytes run.0 last.meter refusal outcomes run.1
    (carried_by (record first { meter = run.0 }) more outcomes last run.2)
carried_by first [] (outcome ∷ outcomes) last run = absurd run
carried_by first (bytes ∷ more) [] last run = absurd run
