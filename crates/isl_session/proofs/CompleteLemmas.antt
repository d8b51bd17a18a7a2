-- What is valid is answered, unless memory ends or a count rose.
use Rattle.std.proofs.Common.{◌≡◌, ℕ, ◌+◌, ◌≤◌, List, [], ◌∷◌, ◌++◌, length, refl, sym, ◌∙◌, ap, subst, arith}
use Rattle.std.proofs.lemmas.List.{append_assoc, length-append}
use Rattle.std.proofs.lemmas.List.Elements.{All-head}
use mathlib.Core.Logic.{inl, inr}
use Rattle.isl_math.specs.Count.{Rose}
use Rattle.isl_math.proofs.CountLaws.{rose_since, rose_until}
use Rattle.isl_math.proofs.ListLaws.{All-parts}
use Rattle.isl_meter.specs.Gauge.{Gauge}
use Rattle.isl_script.specs.Script.{statements, rest_of, next_part}
use Rattle.isl_script.proofs.ScriptLaws.{next_part-long, rest-append, statements-append}
use Rattle.isl_refusal.specs.declared.refusal.Refusal.{Refusal}
use Rattle.isl_refusal.specs.declared.refusal.Refusal.TheVariants.{Usage, TooLong, Unfinished, Overflow, Budget, ReadFault, WriteFault}
use Rattle.isl_refusal.specs.declared.refusal.Refusal.TheVariants.{NoMemory, NoMinimum, NotAssumed, NoValuation, ScriptTooLong, TooWide}
use Rattle.isl_refusal.specs.declared.refusal.Refusal.TheVariants.{Nested, SeveralTimes, TimeShape, Unbounded}
use Rattle.isl_values.specs.State.{Moment}
use Rattle.isl_values.specs.Ends.{too_wide, no_minimum, nested, time_shapes, unbounded, several_times, no_valuation, not_assumed}
use Rattle.isl_eval.specs.Causes.{Cause, FirstGives, IsThere, IsValid, NoneIs, Refuses, causes}
use Rattle.isl_eval.specs.Machine.{Answer}
use Rattle.isl_eval.specs.Run.{started}
use Rattle.isl_session.specs.declared.fault.Fault.{Fault}
use Rattle.isl_space.specs.Limits.{most_script_bytes, most_statement_bytes}
use Rattle.isl_refusal.specs.Refusal.{Place, at_words, in_statement, too_long, past_limit, at_end, at_read, at_write, anywhere, place_of}
use Rattle.isl_session.specs.Outcome.{Outcome, answered, skipped, RunOn, skips_of}
use Rattle.isl_session.specs.View.{View, AreShort, BreaksIn, IsMeterAt, Stopped, moment_of}
use Rattle.isl_session.specs.Valid.{AreValid}
use Rattle.isl_session.proofs.ScriptLemmas.{statements-ended}
use Rattle.isl_session.proofs.FedLemmas.{fed_ready}
use Rattle.isl_session.proofs.MeterLemmas.{carried_by}
use Rattle.isl_session.proofs.RunLemmas.{RunOn-append, no_run, one_run}

-- where memory is asked for, only its want comes
pub memory_only : (refusal : Refusal) → place_of refusal ≡ anywhere → refusal ≡ NoMemory
memory_only NoMemory is = refl
memory_only Usage is = absurd (let bad : ⊥ = cc in bad)
memory_only Unfinished is = absurd (let bad : ⊥ = cc in bad)
memory_only ReadFault is = absurd (let bad : ⊥ = cc in bad)
memory_only WriteFault is = absurd (let bad : ⊥ = cc in bad)
memory_only TooLong is = absurd (let bad : ⊥ = cc in bad)
memory_only ScriptTooLong is = absurd (let bad : ⊥ = cc in bad)
memory_only refusal is = absurd (let bad : ⊥ = cc in bad)

-- none of the causes is there, and yet one gives a refusal
no_first : (There : Cause → Type 0) (all : List Cause) (refusal : Refusal) → NoneIs There all → FirstGives There all refusal → ⊥
no_first There [] refusal none gives = gives
no_first There (cause ∷ later) refusal none (inl here) = none.0 here.0
no_first There (cause ∷ later) refusal none (inr behind) = no_first There later refusal none.1 behind.1

-- a valid statement without a count that rose
pub no_cause : (before : Moment) (bytes : List ℕ) (now : Gauge) → IsValid before bytes → ¬ (Rose before.meter.overflows now.overflows)
    → ¬ (Rose before.meter.spents now.spents)
    → (refusal : Refusal) → Refuses before bytes now refusal → refusal ≡ NoMemory
no_cause before bytes now valid no_overflow no_spent NoMemory cause = refl
no_cause before bytes now valid no_overflow no_spent Overflow cause = absurd (no_overflow cause.3.cause.0)
no_cause before bytes now valid no_overflow no_spent Budget cause = absurd (no_spent cause.3.cause.1)
no_cause before bytes now valid no_overflow no_spent NoMinimum cause = absurd (valid.goes_on no_minimum cause.1)
no_cause before bytes now valid no_overflow no_spent Unbounded cause = absurd (valid.goes_on unbounded cause.1)
no_cause before bytes now valid no_overflow no_spent SeveralTimes cause = absurd (valid.goes_on several_times cause.1)
no_cause before bytes now valid no_overflow no_spent TimeShape cause = absurd (valid.goes_on time_shapes cause.1)
no_cause before bytes now valid no_overflow no_spent Nested cause = absurd (valid.goes_on nested cause.1)
no_cause before bytes now valid no_overflow no_spent NoValuation cause = absurd (valid.goes_on no_valuation cause.1)
no_cause before bytes now valid no_overflow no_spent NotAssumed cause = absurd (valid.goes_on not_assumed cause.1)
no_cause before bytes now valid no_overflow no_spent TooWide (inl cause) =
    absurd (no_first (IsThere before bytes) causes TooWide valid.clear cause.0)
no_cause before bytes now valid no_overflow no_spent TooWide (inr cause) = absurd (valid.goes_on too_wide cause.1)
no_cause before bytes now valid no_overflow no_spent refusal cause =
    absurd (no_first (IsThere before bytes) causes refusal valid.clear cause.0)

-- the same, where statements that were answered raised no count
pub no_cause_behind : (first : Gauge) (before : Moment) (bytes : List ℕ) (now : Gauge) → first.overflows ≤ before.meter.overflows
    → first.spents ≤ before.meter.spents → IsValid (started before) bytes
    → ¬ (Rose first.overflows now.overflows) → ¬ (Rose first.spents now.spents)
    → (refusal : Refusal) → Refuses (started before) bytes now refusal → refusal ≡ NoMemory
no_cause_behind first before bytes now overflows spents valid no_overflow no_spent refusal cause =
    no_cause (started before) bytes now valid
    (λ rose. no_overflow (rose_since first.overflows before.meter.overflows now.overflows overflows rose))
    (λ rose. no_spent (rose_since first.spents before.meter.spents now.spents spents rose)) refusal cause

-- ---- statements that are valid are not skipped
-- the statements behind the first, which is answered, are valid
valid_behind : (before : Moment) (bytes : List ℕ) (more : List (List ℕ)) (answer : Answer) (next : Moment)
    → RunOn before (bytes ∷ []) (answered answer ∷ []) next → AreValid before (bytes ∷ more) → AreValid next more
valid_behind before bytes more answer next one valid = record {
  each = λ done part ahead outcomes now split run none. valid.each (bytes ∷ done) part ahead (answered answer ∷ outcomes) now
      (ap (λ (l : List (List ℕ)). bytes ∷ l) split)
      (RunOn-append before (bytes ∷ []) (answered answer ∷ []) next done outcomes now one run) none;
}

-- and so are those of a front
pub valid_front : (before : Moment) (xs ys : List (List ℕ)) → AreValid before (xs ++ ys) → AreValid before xs
valid_front before xs ys valid = record {
  each = λ done part ahead outcomes now split run none. valid.each done part (ahead ++ ys) outcomes now
      (ap (λ (l : List (List ℕ)). l ++ ys) split ∙ append_assoc done (part ∷ ahead) ys) run none;
}

-- a skipped statement is not valid, where no count rose
pub skip_is_no_memory : (refusal : Refusal) → place_of refusal ≡ in_statement → refusal ≡ NoMemory → ⊥
skip_is_no_memory refusal place is = let bad : anywhere ≡ in_statement = sym (ap place_of is) ∙ place in (let no : ⊥ = cc in no)

-- no count rises in a run behind the first of its statements
later_kept : (next : Moment) (more : List (List ℕ)) (outcomes : List Outcome) (last : Moment) → RunOn next more outcomes last
    → (next.meter.overflows ≤ last.meter.overflows) × (next.meter.spents ≤ last.meter.spents)
later_kept next more outcomes last run =
    let carried = carried_by next more outcomes last run in
    (carried.overflows.0, carried.spents.0)

pub none_skipped : (first : Moment) (parts : List (List ℕ)) (outcomes : List Outcome) (last : Moment) → RunOn first parts outcomes last
    → AreValid first parts → ¬ (Rose first.meter.overflows last.meter.overflows) → ¬ (Rose first.meter.spents last.meter.spents)
    → skips_of outcomes ≡ []
unfolding RunOn
none_skipped first [] [] last run valid no_overflow no_spent = refl
none_skipped first (bytes ∷ more) (answered answer ∷ outcomes) last run valid no_overflow no_spent =
    let next = run.0 in
    let same = run.1.meter.same in
    let overflows : next.meter.overflows ≡ first.meter.overflows = ap (λ (g : Gauge). g.overflows) same in
    let spents : next.meter.spents ≡ first.meter.spents = ap (λ (g : Gauge). g.spents) same in
    none_skipped next more outcomes last run.2
    (valid_behind first bytes more answer next (one_run first bytes answer next run.1) valid)
    (subst (λ (n : ℕ). ¬ (Rose n last.meter.overflows)) (sym overflows) no_overflow)
    (subst (λ (n : ℕ). ¬ (Rose n last.meter.spents)) (sym spents) no_spent)
none_skipped first (bytes ∷ more) (skipped refusal ∷ outcomes) last run valid no_overflow no_spent =
    let now = run.0 in
    let next : Moment = record first { meter = now } in
    let later = later_kept next more outcomes last run.2 in
    absurd (skip_is_no_memory refusal run.1.place
    (no_cause (started first) bytes now (valid.each [] bytes more [] first refl (no_run first) refl)
    (λ rose. no_overflow (rose_until first.meter.overflows now.overflows last.meter.overflows rose later.0))
    (λ rose. no_spent (rose_until first.meter.spents now.spents last.meter.spents rose later.1)) refusal run.1.refuses))
none_skipped first [] (outcome ∷ outcomes) last run valid no_overflow no_spent = absurd run
none_skipped first (bytes ∷ more) [] last run valid no_overflow no_spent = absurd run

-- ---- meters
pub meter_same : (g h : Gauge) → h ≡ g → (g.overflows ≤ h.overflows) × (g.spents ≤ h.spents)
meter_same g h is = (omega (arith, ap (λ (m : Gauge). m.overflows) is), omega (arith, ap (λ (m : Gauge). m.spents) is))

pub meter_kept : (g h : Gauge) (place : Place) → IsMeterAt place g h → (g.overflows ≤ h.overflows) × (g.spents ≤ h.spents)
meter_kept g h in_statement kept = (kept.overflows, kept.spents)
meter_kept g h anywhere charged =
    (omega (arith, ap (λ (m : Gauge). m.overflows) charged.same), omega (arith, ap (λ (m : Gauge). m.spents) charged.same))
meter_kept g h at_words is = meter_same g h is
meter_kept g h too_long is = meter_same g h is
meter_kept g h past_limit is = meter_same g h is
meter_kept g h at_end is = meter_same g h is
meter_kept g h at_read is = meter_same g h is
meter_kept g h at_write is = meter_same g h is

-- ---- a piece
-- the part that comes next is none too long
pub short_next : (done ahead : List (List ℕ)) (rest : List ℕ) → AreShort (done ++ ahead) rest
    → length (next_part ahead rest) ≤ most_statement_bytes
short_next done [] rest short = short.last
short_next done (part ∷ later) rest short =
    let P : List ℕ → Type 0 = λ p. length p ≤ most_statement_bytes in
    All-head P part later (All-parts P done (part ∷ later) short.each).1

-- a piece whose statements are valid
pub complete_piece : (old : View) (piece : List ℕ) (outcomes : List Outcome) (new : View) (fault : Fault)
    → Stopped old piece outcomes new fault
    → AreValid (moment_of old) (statements (old.rest ++ piece)) → AreShort (statements (old.rest ++ piece)) (rest_of (old.rest ++ piece))
    → old.taken + length piece ≤ most_script_bytes → ¬ (Rose old.meter.overflows new.meter.overflows)
    → ¬ (Rose old.meter.spents new.meter.spents) → fault.refusal ≡ NoMemory
complete_piece old piece outcomes new fault stopped valid short within no_overflow no_spent = go
    (place_of fault.refusal) refl stopped.breaks
  where
    go : (place : Place) → place_of fault.refusal ≡ place → BreaksIn place stopped.at_front stopped.byte new.meter fault.refusal
        → fault.refusal ≡ NoMemory
    go at_words at breaks = absurd breaks
    go at_end at breaks = absurd breaks
    go at_read at breaks = absurd breaks
    go at_write at breaks = absurd breaks
    go anywhere at breaks = memory_only fault.refusal at
    go too_long at breaks =
        let fed = stopped.fed in
        let rest = stopped.at_front.rest in
        let tail = stopped.byte ∷ stopped.behind in
        let ready = fed_ready old stopped.front outcomes stopped.at_front fed in
        let long = next_part-long rest stopped.byte stopped.behind ready.open_rest breaks.1 in
        let joined : old.rest ++ piece ≡ (old.rest ++ stopped.front) ++ tail =
        ap (λ (l : List ℕ). old.rest ++ l) stopped.split ∙ sym (append_assoc old.rest stopped.front tail) in
        let parts : statements (old.rest ++ piece) ≡ statements (old.rest ++ stopped.front) ++ statements (rest ++ tail) =
        ap statements joined ∙ statements-append (old.rest ++ stopped.front) tail
        ∙ ap (λ (l : List ℕ). statements (old.rest ++ stopped.front) ++ statements (l ++ tail)) (sym fed.rest) in
        let behind : rest_of (old.rest ++ piece) ≡ rest_of (rest ++ tail) =
        ap rest_of joined ∙ rest-append (old.rest ++ stopped.front) tail ∙ ap (λ (l : List ℕ). rest_of (l ++ tail)) (sym fed.rest) in
        let next = short_next (statements (old.rest ++ stopped.front)) (statements (rest ++ tail)) (rest_of (rest ++ tail))
        (subst (λ (ps : List (List ℕ)). AreShort ps (rest_of (rest ++ tail))) parts
        (subst (λ (l : List ℕ). AreShort (statements (old.rest ++ piece)) l) behind short)) in
        absurd (omega (arith, long, next, breaks.2))
    go past_limit at breaks = absurd (omega (
      arith,
      stopped.fed.taken,
      ap length stopped.split,
      length-append stopped.front (stopped.byte ∷ stopped.behind),
      within,
      breaks,
    ))
    go in_statement at breaks =
        let fed = stopped.fed in
        let rest = stopped.at_front.rest in
        let ready = fed_ready old stopped.front outcomes stopped.at_front fed in
        let next = rest ++ stopped.byte ∷ [] in
        let later = statements (rest_of next ++ stopped.behind) in
        let split : statements (old.rest ++ piece) ≡ statements (old.rest ++ stopped.front) ++ rest ∷ later =
        ap (λ (l : List ℕ). statements (old.rest ++ l)) stopped.split
        ∙ ap statements (sym (append_assoc old.rest stopped.front (stopped.byte ∷ stopped.behind)))
        ∙ statements-append (old.rest ++ stopped.front) (stopped.byte ∷ stopped.behind)
        ∙ ap (λ (l : List (List ℕ)). statements (old.rest ++ stopped.front) ++ l)
        (ap (λ (l : List ℕ). statements (l ++ stopped.byte ∷ stopped.behind)) (sym fed.rest)
        ∙ ap statements (sym (append_assoc rest (stopped.byte ∷ []) stopped.behind)) ∙ statements-append next stopped.behind
        ∙ ap (λ (l : List (List ℕ)). l ++ later) (statements-ended rest stopped.byte ready.open_rest breaks.1)) in
        let kept = meter_kept stopped.at_front.meter new.meter (place_of fault.refusal) stopped.meter in
        let front_valid = valid_front (moment_of old) (statements (old.rest ++ stopped.front)) (rest ∷ later)
        (subst (AreValid (moment_of old)) split valid) in
        let none : skips_of outcomes ≡ [] =
        none_skipped (moment_of old) (statements (old.rest ++ stopped.front)) outcomes (moment_of stopped.at_front) fed.run front_valid
        (λ rose. no_overflow (rose_until old.meter.overflows stopped.at_front.meter.overflows new.meter.overflows rose kept.0))
        (λ rose. no_spent (rose_until old.meter.spents stopped.at_front.meter.spents new.meter.spents rose kept.1)) in
        no_cause_behind old.meter (moment_of stopped.at_front) rest new.meter fed.meter.overflows.0 fed.meter.spents.0
        (valid.each (statements (old.rest ++ stopped.front)) rest later outcomes
        (moment_of stopped.at_front) split fed.run none) no_overflow no_spent fault.refusal breaks.2
