-- A whole script that is valid is answered, and one that may be skipped through is read to its end.
use Rattle.std.proofs.Common.{◌≡◌, ℕ, ◌≤◌, true, false, List, [], ◌∷◌, ◌++◌, length, refl, sym, ◌∙◌, ap, subst, arith, Option, None}
use Rattle.std.proofs.Common.{Some}
use Rattle.std.specs.Option.{option_or}
use Rattle.std.proofs.lemmas.List.{length-append, take_all}
use mathlib.Core.Logic.{inl, inr}
use Rattle.isl_math.specs.Count.{Rose}
use Rattle.isl_math.proofs.CountLaws.{rose_until}
use Rattle.isl_meter.specs.Gauge.{Gauge}
use Rattle.isl_script.specs.Script.{statements, rest_of, readable, next_part, IsBlank}
use Rattle.isl_refusal.specs.declared.refusal.Refusal.{Refusal}
use Rattle.isl_refusal.specs.declared.refusal.Refusal.TheVariants.{NoMemory}
use Rattle.isl_values.specs.State.{Moment}
use Rattle.isl_eval.specs.Causes.{IsValid, Refuses}
use Rattle.isl_eval.specs.Run.{started}
use Rattle.isl_space.specs.Limits.{most_script_bytes, most_statement_bytes}
use Rattle.isl_refusal.specs.Refusal.{Place, at_words, in_statement, too_long, past_limit, at_end, at_read, at_write, anywhere, place_of}
use Rattle.isl_session.specs.Outcome.{Skips, skips_of}
use Rattle.isl_session.specs.View.{AreShort}
use Rattle.isl_session.specs.Status.{StatusView}
use Rattle.isl_session.specs.Run.{Answered, AreInFront, Ended, HasCause, OfFirst, Outside, Progress, first_told}
use Rattle.isl_session.specs.StencilRun.{StencilAnswered, StencilEnded, StencilRefused}
use Rattle.isl_session.specs.Valid.{AreValid, IsDoneOrMemory, IsValidScript}
use Rattle.isl_session.proofs.OutcomeLemmas.{first_none}
use Rattle.isl_session.proofs.CompleteLemmas.{memory_only, meter_kept, meter_same, no_cause, no_cause_behind, none_skipped}
use Rattle.isl_session.proofs.CompleteLemmas.{short_next, skip_is_no_memory, valid_front}

-- ---- what else may end a run
-- a script whose rest is blank, and of which no part is too long
module _ (first : Moment) (script : List ℕ) (blank : IsBlank (rest_of script)) (short : AreShort (statements script) (rest_of script))
    (within : length script ≤ most_script_bytes) (old new : Outside) (progress : Progress first script) (now : Gauge)
    (taken left : List ℕ) (script_is : script ≡ taken ++ left) (no_read : ¬ (Rose old.reads new.reads))
    (no_write : ¬ (Rose old.writes new.writes)) where
  pub otherwise : (refusal : Refusal) (place : Place) → place_of refusal ≡ place → (place ≡ in_statement → refusal ≡ NoMemory)
      → HasCause first script progress taken now old new refusal place → refusal ≡ NoMemory
  otherwise refusal in_statement at stays cause = stays refl
  otherwise refusal at_words at stays cause = absurd cause
  otherwise refusal at_end at stays cause = absurd (cause.4 blank)
  otherwise refusal at_read at stays cause = absurd (no_read cause.0)
  otherwise refusal at_write at stays cause = absurd (no_write cause)
  otherwise refusal too_long at stays cause =
      let whole : readable script ≡ script = take_all most_script_bytes script within in
      let split : statements script ≡ progress.done ++ progress.ahead = ap statements (sym whole) ∙ progress.split in
      let next = short_next progress.done progress.ahead (rest_of script)
      (subst (λ (ps : List (List ℕ)). AreShort ps (rest_of script)) split short) in
      absurd (omega (arith, cause.0, next, ap (λ (l : List ℕ). length (next_part progress.ahead (rest_of l))) whole))
  otherwise refusal past_limit at stays cause = absurd (omega (arith, cause.1, within, ap length script_is, length-append taken left))
  otherwise refusal anywhere at stays cause = memory_only refusal at

-- a script that is valid, where no count rose
module _ (first : Moment) (script : List ℕ) (valid : IsValidScript first script) (progress : Progress first script) (now : Gauge)
    (taken : List ℕ) (no_overflow : ¬ (Rose first.meter.overflows now.overflows)) (no_spent : ¬ (Rose first.meter.spents now.spents))
    (kept : (progress.meter.overflows ≤ now.overflows) × (progress.meter.spents ≤ now.spents)) where
  split_whole : statements script ≡ progress.done ++ progress.ahead
  split_whole = ap statements (sym (take_all most_script_bytes script valid.within)) ∙ progress.split

  -- no statement was skipped
  none_over : skips_of progress.outcomes ≡ []
  none_over =
      none_skipped first progress.done progress.outcomes
      (record { state = progress.state; meter = progress.meter; options = first.options }) progress.run
      (valid_front first progress.done progress.ahead (subst (AreValid first) split_whole valid.parts))
      (λ rose. no_overflow (rose_until first.meter.overflows progress.meter.overflows now.overflows rose kept.0))
      (λ rose. no_spent (rose_until first.meter.spents progress.meter.spents now.spents rose kept.1))

  -- the first statement ahead has no cause
  first_ahead : (refusal : Refusal) (ahead : List (List ℕ)) → progress.ahead ≡ ahead
      → OfFirst (λ bytes. AreInFront taken progress.done bytes × (length bytes ≤ most_statement_bytes)
      × Refuses (started (record { state = progress.state; meter = progress.meter; options = first.options })) bytes now refusal) ahead
      → refusal ≡ NoMemory
  first_ahead refusal [] is cause = absurd cause
  first_ahead refusal (bytes ∷ later) is cause =
      let moment : Moment = record { state = progress.state; meter = progress.meter; options = first.options } in
      no_cause_behind first.meter moment bytes now progress.carried.overflows.0 progress.carried.spents.0
      (valid.parts.each progress.done bytes later progress.outcomes moment
      (split_whole ∙ ap (λ (l : List (List ℕ)). progress.done ++ l) is) progress.run none_over) no_overflow no_spent refusal cause.2

  -- so the status is what ended the run
  told_is : (ending told : Option Refusal) → told ≡ first_told progress.outcomes ending → told ≡ ending
  told_is ending told is = is ∙ ap (λ (o : Option Refusal). option_or o ending) (first_none progress.outcomes none_over)

  module _ (left : List ℕ) (script_is : script ≡ taken ++ left) (old new : Outside) (no_read : ¬ (Rose old.reads new.reads))
      (no_write : ¬ (Rose old.writes new.writes)) where
    complete : (gained : List ℕ) (ending : Option Refusal) → Ended first script progress taken gained now old new ending
        → IsDoneOrMemory ending
    complete gained None ended = inl refl
    complete gained (Some refusal) ended = inr (ap Some
        (otherwise first script valid.blank valid.short valid.within old new progress now taken
        left script_is no_read no_write refusal (place_of refusal) refl
        (λ is. first_ahead refusal progress.ahead refl
        (subst (λ (p : Place). HasCause first script progress taken now old new refusal p) is ended.0)) ended.0))

-- the meter at the end of a run is not behind that of its statements
pub ended_kept : (first : Moment) (script : List ℕ) (progress : Progress first script) (taken gained : List ℕ) (now : Gauge)
    (old new : Outside)
    (ending : Option Refusal) → Ended first script progress taken gained now old new ending
    → (progress.meter.overflows ≤ now.overflows) × (progress.meter.spents ≤ now.spents)
ended_kept first script progress taken gained now old new None ended = meter_same progress.meter now ended.3
ended_kept first script progress taken gained now old new (Some refusal) ended = meter_kept progress.meter now (place_of refusal) ended.3

pub complete_run : (first : Moment) (script : List ℕ) (old new : Outside) (status : StatusView) → Answered first script old new status
    → IsValidScript first script
    → ¬ (Rose old.reads new.reads) → ¬ (Rose old.writes new.writes)
    → ((meter : Gauge) → status.meter ≡ Some meter
    → (¬ Rose first.meter.overflows meter.overflows) × (¬ Rose first.meter.spents meter.spents)) → IsDoneOrMemory status.refusal
complete_run first script old new status run valid no_read no_write no_count =
    let kept = ended_kept first script run.progress run.taken run.gained run.meter old new run.ending run.ended in
    let no_overflow = (no_count run.meter run.meter_is).0 in
    let no_spent = (no_count run.meter run.meter_is).1 in
    subst IsDoneOrMemory
    (sym (told_is first script valid run.progress run.meter run.taken no_overflow no_spent kept run.ending status.refusal run.status_is))
    (complete first script valid run.progress run.meter run.taken no_overflow no_spent kept run.left run.script_is old new no_read no_write
    run.gained run.ending run.ended)

-- ---- a script that is made
pub stencil_kept : (first : Moment) (script : List ℕ) (progress : Progress first script) (gained : List ℕ) (now : Gauge) (old new : Outside)
    (ending : Option Refusal) → StencilEnded first script progress gained now old new ending
    → (progress.meter.overflows ≤ now.overflows) × (progress.meter.spents ≤ now.spents)
stencil_kept first script progress gained now old new None ended = meter_same progress.meter now ended.3
stencil_kept first script progress gained now old new (Some refusal) ended = go (place_of refusal) ended.0
  where
    go : (place : Place) → StencilRefused first script progress gained now old new refusal place
        → (progress.meter.overflows ≤ now.overflows) × (progress.meter.spents ≤ now.spents)
    go in_statement refused = meter_kept progress.meter now in_statement refused.2
    go anywhere refused = meter_kept progress.meter now anywhere refused.2
    go at_write refused = meter_same progress.meter now refused.2
    go at_words refused = absurd refused
    go too_long refused = absurd refused
    go past_limit refused = absurd refused
    go at_end refused = absurd refused
    go at_read refused = absurd refused

pub complete_stencil : (first : Moment) (script : List ℕ) (old new : Outside) (status : StatusView)
    → StencilAnswered first script old new status → IsValidScript first script → ¬ (Rose old.writes new.writes)
    → ((meter : Gauge) → status.meter ≡ Some meter
    → (¬ Rose first.meter.overflows meter.overflows) × (¬ Rose first.meter.spents meter.spents)) → IsDoneOrMemory status.refusal
complete_stencil first script old new status run valid no_write no_count =
    subst IsDoneOrMemory
    (sym (told_is first script valid run.progress run.meter script no_overflow no_spent kept run.ending status.refusal run.status_is))
    (go run.ending run.ended)
  where
    no_overflow : ¬ Rose first.meter.overflows run.meter.overflows
    no_overflow = (no_count run.meter run.meter_is).0

    no_spent : ¬ Rose first.meter.spents run.meter.spents
    no_spent = (no_count run.meter run.meter_is).1

    kept : (run.progress.meter.overflows ≤ run.meter.overflows) × (run.progress.meter.spents ≤ run.meter.spents)
    kept = stencil_kept first script run.progress run.gained run.meter old new run.ending run.ended

    at_place : (refusal : Refusal) (place : Place) → place_of refusal ≡ place
        → StencilRefused first script run.progress run.gained run.meter old new refusal place → refusal ≡ NoMemory
    at_place refusal in_statement at refused =
        first_ahead first script valid run.progress run.meter script no_overflow no_spent kept refusal run.progress.ahead refl refused.0
    at_place refusal anywhere at refused = memory_only refusal at
    at_place refusal at_write at refused = absurd (no_write refused.1)
    at_place refusal at_words at refused = absurd refused
    at_place refusal too_long at refused = absurd refused
    at_place refusal past_limit at refused = absurd refused
    at_place refusal at_end at refused = absurd refused
    at_place refusal at_read at refused = absurd refused

    go : (ending : Option Refusal) → StencilEnded first script run.progress run.gained run.meter old new ending → IsDoneOrMemory ending
    go None ended = inl refl
    go (Some refusal) ended = inr (ap Some (at_place refusal (place_of refusal) refl ended.0))

-- ---- going on
pub complete_on : (first : Moment) (script : List ℕ) (old new : Outside) (status : StatusView) (run : Answered first script old new status)
    → first.options.keep_going ≡ true → IsBlank (rest_of script) → AreShort (statements script) (rest_of script)
    → length script ≤ most_script_bytes → ¬ (Rose old.reads new.reads) → ¬ (Rose old.writes new.writes) → IsDoneOrMemory run.ending
complete_on first script old new status run goes_on blank short within no_read no_write = go run.ending run.ended
  where
    go : (ending : Option Refusal) → Ended first script run.progress run.taken run.gained run.meter old new ending → IsDoneOrMemory ending
    go None ended = inl refl
    go (Some refusal) ended = inr (ap Some (otherwise first script blank short within old new run.progress run.meter run.taken run.left
        run.script_is no_read no_write refusal (place_of refusal) refl
        (λ is. absurd (let off : first.options.keep_going ≡ false = ended.4 is in (let bad : true ≡ false = sym goes_on
        ∙ off in (let no : ⊥ = cc in no))))
        ended.0))

pub skipped_wrong : (before : Moment) (bytes : List ℕ) (refusal : Refusal) (now : Gauge) → Skips before bytes refusal now
    → ¬ (Rose before.meter.overflows now.overflows) → ¬ (Rose before.meter.spents now.spents) → ¬ IsValid (started before) bytes
skipped_wrong before bytes refusal now skip no_overflow no_spent valid =
    skip_is_no_memory refusal skip.place (no_cause (started before) bytes now valid no_overflow no_spent refusal skip.refuses)
