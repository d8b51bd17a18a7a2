-- What the status of a run tells.
use Rattle.std.proofs.Common.{◌≡◌, ◌≢◌, ℕ, ◌≤◌, cond, true, false, List, [], ◌∷◌, length, refl, sym, ◌∙◌, ap, subst, arith}
use Rattle.std.proofs.Common.{Option, None, Some}
use Rattle.std.specs.List.{count_by}
use Rattle.std.specs.Prelude.{IfSome, IsSome}
use Rattle.std.specs.Option.{option_or}
use Rattle.std.proofs.lemmas.List.Sums.{sum_by-cons}
use Rattle.isl_math.specs.Count.{Rose}
use Rattle.isl_meter.specs.Gauge.{Gauge}
use Rattle.isl_space.specs.Limits.{most_statement_bytes}
use Rattle.isl_words.specs.Options.{OptionsView}
use Rattle.isl_refusal.specs.declared.refusal.Refusal.{Refusal}
use Rattle.isl_refusal.specs.declared.refusal.Refusal.TheVariants.{Usage, Overflow, Budget, ReadFault, WriteFault}
use Rattle.isl_values.specs.State.{Moment}
use Rattle.isl_eval.specs.Causes.{Refuses}
use Rattle.isl_eval.specs.Run.{started}
use Rattle.isl_session.specs.Outcome.{Outcome, answered, skipped, Carries, RunOn, first_skip, is_overflow, is_spent}
use Rattle.isl_refusal.specs.Refusal.{in_statement, place_of}
use Rattle.isl_session.specs.Run.{Answered, AreInFront, Ended, OfFirst, Outside, Progress, first_told}
use Rattle.isl_session.specs.Status.{StatusView}
use Rattle.isl_session.specs.StencilRun.{StencilAnswered, StencilEnded}
use Rattle.isl_session.proofs.WholeLemmas.{ended_kept, stencil_kept}

-- ---- the first statement that was skipped
skip_place : (first : Moment) (parts : List (List ℕ)) (outcomes : List Outcome) (last : Moment) → RunOn first parts outcomes last
    → (refusal : Refusal) → first_skip outcomes ≡ Some refusal → place_of refusal ≡ in_statement
unfolding RunOn first_skip
skip_place first [] [] last run refusal is = absurd (let bad : ⊥ = cc in bad)
skip_place first (bytes ∷ more) (answered answer ∷ outcomes) last run refusal is = skip_place run.0 more outcomes last run.2 refusal is
skip_place first (bytes ∷ more) (skipped other ∷ outcomes) last run refusal is =
    let same : other ≡ refusal = cc in
    subst (λ (r : Refusal). place_of r ≡ in_statement) same run.1.place
skip_place first [] (outcome ∷ outcomes) last run refusal is = absurd run
skip_place first (bytes ∷ more) [] last run refusal is = absurd run

skip_chosen : (first : Moment) (parts : List (List ℕ)) (outcomes : List Outcome) (last : Moment) → RunOn first parts outcomes last
    → first.options.keep_going ≡ false → first_skip outcomes ≡ None
unfolding RunOn first_skip
skip_chosen first [] [] last run off = refl
skip_chosen first (bytes ∷ more) (answered answer ∷ outcomes) last run off =
    skip_chosen run.0 more outcomes last run.2 (ap (λ (o : OptionsView). o.keep_going) run.1.options ∙ off)
skip_chosen first (bytes ∷ more) (skipped other ∷ outcomes) last run off =
    absurd (let bad : true ≡ false = sym run.1.chosen ∙ off in (let no : ⊥ = cc in no))
skip_chosen first [] (outcome ∷ outcomes) last run off = absurd run
skip_chosen first (bytes ∷ more) [] last run off = absurd run

counts_overflow : (outcomes : List Outcome) → first_skip outcomes ≡ Some Overflow → 1 ≤ count_by is_overflow outcomes
unfolding first_skip
counts_overflow [] is = absurd (let bad : ⊥ = cc in bad)
counts_overflow (answered answer ∷ outcomes) is =
    omega (arith, counts_overflow outcomes is, sum_by-cons (λ o. cond (is_overflow o) 1 0) (answered answer) outcomes)
counts_overflow (skipped refusal ∷ outcomes) is =
    let same : refusal ≡ Overflow = cc in
    let one : ◌≡◌ {A = ℕ} (cond (is_overflow (skipped refusal)) 1 0) 1 = ap (λ (r : Refusal). cond (is_overflow (skipped r)) 1 0) same in
    omega (arith, one, sum_by-cons (λ o. cond (is_overflow o) 1 0) (skipped refusal) outcomes)

counts_spent : (outcomes : List Outcome) → first_skip outcomes ≡ Some Budget → 1 ≤ count_by is_spent outcomes
unfolding first_skip
counts_spent [] is = absurd (let bad : ⊥ = cc in bad)
counts_spent (answered answer ∷ outcomes) is =
    omega (arith, counts_spent outcomes is, sum_by-cons (λ o. cond (is_spent o) 1 0) (answered answer) outcomes)
counts_spent (skipped refusal ∷ outcomes) is =
    let same : refusal ≡ Budget = cc in
    let one : ◌≡◌ {A = ℕ} (cond (is_spent (skipped refusal)) 1 0) 1 = ap (λ (r : Refusal). cond (is_spent (skipped r)) 1 0) same in
    omega (arith, one, sum_by-cons (λ o. cond (is_spent o) 1 0) (skipped refusal) outcomes)

-- ---- the first statement that is ahead
-- it was cut
cut_next : (first : Moment) (script : List ℕ) (progress : Progress first script) (taken : List ℕ) (now : Gauge) (refusal : Refusal)
    (Q : Type 0) → ((before : Moment) (bytes : List ℕ) → Refuses (started before) bytes now refusal → Q) → (ahead : List (List ℕ))
    → OfFirst (λ bytes. AreInFront taken progress.done bytes × (length bytes ≤ most_statement_bytes)
    × Refuses (started (record { state = progress.state; meter = progress.meter; options = first.options })) bytes now refusal) ahead → Q
cut_next first script progress taken now refusal Q from [] cause = absurd cause
cut_next first script progress taken now refusal Q from (bytes ∷ later) cause =
    from (record { state = progress.state; meter = progress.meter; options = first.options }) bytes cause.2

rose_overflow : (before : Moment) (bytes : List ℕ) (now : Gauge) → Refuses (started before) bytes now Overflow → Rose 0 now.overflows
rose_overflow before bytes now refuses = let rose = refuses.3.cause.0 in omega (arith, rose)

rose_spent : (before : Moment) (bytes : List ℕ) (now : Gauge) → Refuses (started before) bytes now Budget
    → (now.budget ≤ now.units) × Rose 0 now.spents
rose_spent before bytes now refuses = (refuses.3.cause.0, let rose = refuses.3.cause.1 in omega (arith, rose))

some_of : (meter : Option Gauge) (now : Gauge) (P : Gauge → Type 0) → meter ≡ Some now → P now → IfSome meter P
some_of meter now P is p = subst (λ (o : Option Gauge). IfSome o P) (sym is) p

-- ---- statements of which this came, and what ended them
module _ (first : Moment) (parts : List (List ℕ)) (outcomes : List Outcome) (last : Moment) (run : RunOn first parts outcomes last)
    (ending : Option Refusal) (told : Option Refusal) (told_is : told ≡ first_told outcomes ending) where
  -- a refusal that is of no statement is what ended them
  told_elsewhere : (refusal : Refusal) → (place_of refusal ≡ in_statement → ⊥) → told ≡ Some refusal → ending ≡ Some refusal
  told_elsewhere refusal not is = go (first_skip outcomes) refl
    where
      go : (skip : Option Refusal) → first_skip outcomes ≡ skip → ending ≡ Some refusal
      go None none = ap (λ (o : Option Refusal). option_or o ending) (sym none) ∙ sym told_is ∙ is
      go (Some other) some =
          let same : other ≡ refusal = (let all : Some other ≡ Some refusal = ap (λ (o : Option Refusal). option_or o ending)
          (sym some) ∙ sym told_is ∙ is in cc) in
          absurd (not (skip_place first parts outcomes last run refusal (some ∙ ap Some same)))

  -- where none is skipped, it tells what ended them
  told_ending : first.options.keep_going ≡ false → told ≡ ending
  told_ending off = told_is ∙ ap (λ (o : Option Refusal). option_or o ending) (skip_chosen first parts outcomes last run off)

  -- a count that the status tells of
  module _ (carried : Carries first.meter outcomes last.meter) (now : Gauge)
      (kept : (last.meter.overflows ≤ now.overflows) × (last.meter.spents ≤ now.spents)) where
    told_overflow : told ≡ Some Overflow → (ending ≡ Some Overflow → Rose 0 now.overflows) → Rose 0 now.overflows
    told_overflow is from = go (first_skip outcomes) refl
      where
        go : (skip : Option Refusal) → first_skip outcomes ≡ skip → Rose 0 now.overflows
        go None none = from (ap (λ (o : Option Refusal). option_or o ending) (sym none) ∙ sym told_is ∙ is)
        go (Some other) some =
            let same : other ≡ Overflow = (let all : Some other ≡ Some Overflow = ap (λ (o : Option Refusal). option_or o ending)
            (sym some) ∙ sym told_is ∙ is in cc) in
            omega (arith, carried.overflows.1, kept.0, counts_overflow outcomes (some ∙ ap Some same))

    told_spent : told ≡ Some Budget → (ending ≡ Some Budget → Rose 0 now.spents) → Rose 0 now.spents
    told_spent is from = go (first_skip outcomes) refl
      where
        go : (skip : Option Refusal) → first_skip outcomes ≡ skip → Rose 0 now.spents
        go None none = from (ap (λ (o : Option Refusal). option_or o ending) (sym none) ∙ sym told_is ∙ is)
        go (Some other) some =
            let same : other ≡ Budget = (let all : Some other ≡ Some Budget = ap (λ (o : Option Refusal). option_or o ending)
            (sym some) ∙ sym told_is ∙ is in cc) in
            omega (arith, carried.spents.1, kept.1, counts_spent outcomes (some ∙ ap Some same))

-- ---- a run over a script
module _ (first : Moment) (script : List ℕ) (old new : Outside) (status : StatusView) (run : Answered first script old new status) where
  abbrev last : Moment
  last = record { state = run.progress.state; meter = run.progress.meter; options = first.options }

  ended_by : (refusal : Refusal) → run.ending ≡ Some refusal
      → Ended first script run.progress run.taken run.gained run.meter old new (Some refusal)
  ended_by refusal is = subst (λ (r : Option Refusal). Ended first script run.progress run.taken run.gained run.meter old new r) is
      run.ended

  elsewhere : (refusal : Refusal) → (place_of refusal ≡ in_statement → ⊥) → status.refusal ≡ Some refusal
      → Ended first script run.progress run.taken run.gained run.meter old new (Some refusal)
  elsewhere refusal not is = ended_by refusal (told_elsewhere first run.progress.done run.progress.outcomes last run.progress.run run.ending
      status.refusal run.status_is refusal not is)

  abbrev kept : (run.progress.meter.overflows ≤ run.meter.overflows) × (run.progress.meter.spents ≤ run.meter.spents)
  kept = ended_kept first script run.progress run.taken run.gained run.meter old new run.ending run.ended

  off_ending : first.options.keep_going ≡ false → status.refusal ≡ run.ending
  off_ending off = told_ending first run.progress.done run.progress.outcomes last run.progress.run run.ending status.refusal
      run.status_is off

  pub run_read : status.refusal ≡ Some ReadFault → Rose old.reads new.reads
  run_read is = (elsewhere ReadFault (λ bad. let no : ⊥ = cc in no) is).0.0

  pub run_write : status.refusal ≡ Some WriteFault → Rose old.writes new.writes
  run_write is = (elsewhere WriteFault (λ bad. let no : ⊥ = cc in no) is).0

  pub run_usage : status.refusal ≢ Some Usage
  run_usage is = (elsewhere Usage (λ bad. let no : ⊥ = cc in no) is).0

  pub run_overflow : status.refusal ≡ Some Overflow → IfSome status.meter (λ meter. Rose 0 meter.overflows)
  run_overflow is = some_of status.meter run.meter (λ meter. Rose 0 meter.overflows) run.meter_is
      (told_overflow first run.progress.done run.progress.outcomes last run.progress.run run.ending status.refusal run.status_is
      run.progress.carried run.meter kept is
      (λ by. cut_next first script run.progress run.taken run.meter Overflow (Rose 0 run.meter.overflows)
      (λ before bytes refuses. rose_overflow before bytes run.meter refuses) run.progress.ahead (ended_by Overflow by).0))

  pub run_spent : status.refusal ≡ Some Budget → IfSome status.meter (λ meter. Rose 0 meter.spents)
  run_spent is = some_of status.meter run.meter (λ meter. Rose 0 meter.spents) run.meter_is
      (told_spent first run.progress.done run.progress.outcomes last run.progress.run run.ending status.refusal run.status_is
      run.progress.carried run.meter kept is
      (λ by. cut_next first script run.progress run.taken run.meter Budget (Rose 0 run.meter.spents)
      (λ before bytes refuses. (rose_spent before bytes run.meter refuses).1) run.progress.ahead (ended_by Budget by).0))

  pub run_units : first.options.keep_going ≡ false → status.refusal ≡ Some Budget
      → IfSome status.meter (λ meter. meter.budget ≤ meter.units)
  run_units off is = some_of status.meter run.meter (λ meter. meter.budget ≤ meter.units) run.meter_is
      (cut_next first script run.progress run.taken run.meter Budget (run.meter.budget ≤ run.meter.units)
      (λ before bytes refuses. (rose_spent before bytes run.meter refuses).0) run.progress.ahead
      (ended_by Budget (sym (off_ending off) ∙ is)).0)

  pub run_reads : first.options.keep_going ≡ false → status.refusal ≢ Some ReadFault → new.reads ≡ old.reads
  run_reads off not = run.reads (λ by. not (off_ending off ∙ by))

  pub run_writes : first.options.keep_going ≡ false → status.refusal ≢ Some WriteFault → new.writes ≡ old.writes
  run_writes off not = run.writes (λ by. not (off_ending off ∙ by))

  pub run_session : IsSome status.meter
  run_session = subst (λ (o : Option Gauge). IsSome o) (sym run.meter_is) refl

-- ---- a run over a script that is made
module _ (first : Moment) (script : List ℕ) (old new : Outside) (status : StatusView)
    (run : StencilAnswered first script old new status) where
  abbrev made_last : Moment
  made_last = record { state = run.progress.state; meter = run.progress.meter; options = first.options }

  made_by : (refusal : Refusal) → run.ending ≡ Some refusal
      → StencilEnded first script run.progress run.gained run.meter old new (Some refusal)
  made_by refusal is = subst (λ (r : Option Refusal). StencilEnded first script run.progress run.gained run.meter old new r) is run.ended

  made_elsewhere : (refusal : Refusal) → (place_of refusal ≡ in_statement → ⊥) → status.refusal ≡ Some refusal
      → StencilEnded first script run.progress run.gained run.meter old new (Some refusal)
  made_elsewhere refusal not is = made_by refusal (told_elsewhere first run.progress.done run.progress.outcomes made_last run.progress.run
      run.ending status.refusal run.status_is refusal not is)

  abbrev made_kept : (run.progress.meter.overflows ≤ run.meter.overflows) × (run.progress.meter.spents ≤ run.meter.spents)
  made_kept = stencil_kept first script run.progress run.gained run.meter old new run.ending run.ended

  made_ending : first.options.keep_going ≡ false → status.refusal ≡ run.ending
  made_ending off = told_ending first run.progress.done run.progress.outcomes made_last run.progress.run run.ending status.refusal
      run.status_is off

  pub made_read : status.refusal ≢ Some ReadFault
  made_read is = (made_elsewhere ReadFault (λ bad. let no : ⊥ = cc in no) is).0

  pub made_write : status.refusal ≡ Some WriteFault → Rose old.writes new.writes
  made_write is = (made_elsewhere WriteFault (λ bad. let no : ⊥ = cc in no) is).0.1

  pub made_usage : status.refusal ≢ Some Usage
  made_usage is = (made_elsewhere Usage (λ bad. let no : ⊥ = cc in no) is).0

  pub made_overflow : status.refusal ≡ Some Overflow → IfSome status.meter (λ meter. Rose 0 meter.overflows)
  made_overflow is = some_of status.meter run.meter (λ meter. Rose 0 meter.overflows) run.meter_is
      (told_overflow first run.progress.done run.progress.outcomes made_last run.progress.run run.ending status.refusal run.status_is
      run.progress.carried run.meter made_kept is
      (λ by. cut_next first script run.progress script run.meter Overflow (Rose 0 run.meter.overflows)
      (λ before bytes refuses. rose_overflow before bytes run.meter refuses) run.progress.ahead (made_by Overflow by).0.0))

  pub made_spent : status.refusal ≡ Some Budget → IfSome status.meter (λ meter. Rose 0 meter.spents)
  made_spent is = some_of status.meter run.meter (λ meter. Rose 0 meter.spents) run.meter_is
      (told_spent first run.progress.done run.progress.outcomes made_last run.progress.run run.ending status.refusal run.status_is
      run.progress.carried run.meter made_kept is
      (λ by. cut_next first script run.progress script run.meter Budget (Rose 0 run.meter.spents)
      (λ before bytes refuses. (rose_spent before bytes run.meter refuses).1) run.progress.ahead (made_by Budget by).0.0))

  pub made_units : first.options.keep_going ≡ false → status.refusal ≡ Some Budget
      → IfSome status.meter (λ meter. meter.budget ≤ meter.units)
  made_units off is = some_of status.meter run.meter (λ meter. meter.budget ≤ meter.units) run.meter_is
      (cut_next first script run.progress script run.meter Budget (run.meter.budget ≤ run.meter.units)
      (λ before bytes refuses. (rose_spent before bytes run.meter refuses).0) run.progress.ahead
      (made_by Budget (sym (made_ending off) ∙ is)).0.0)

  pub made_writes : first.options.keep_going ≡ false → status.refusal ≢ Some WriteFault → new.writes ≡ old.writes
  made_writes off not = run.writes (λ by. not (made_ending off ∙ by))

  pub made_session : IsSome status.meter
  made_session = subst (λ (o : Option Gauge). IsSome o) (sym run.meter_is) refl
