-- From what the session and the ends say to what a run has done.
use Rattle.std.proofs.Common.{◌≡◌, ◌≢◌, ◌⊎◌, ℕ, ◌+◌, ◌-◌, ◌<◌, ◌≤◌, List, [], ◌∷◌, ◌++◌, length, take, true, false, refl, sym, ◌∙◌, ap}
use Rattle.std.proofs.Common.{subst}
use Rattle.std.proofs.Common.{arith, Option, None, Some, Result, Ok, Err}
use Rattle.std.specs.Result.{OnOk, OnErr, IfErr}
use mathlib.Core.Logic.{inl, inr}
use Rattle.std.specs.Io.KnownBytes.{Appends, Consumes, IsAtEnd}
use Rattle.std.proofs.lemmas.List.{append-nil, append_assoc, length-append, length_push}
use Rattle.isl_math.specs.Count.{Rose}
use Rattle.isl_meter.specs.Gauge.{Gauge}
use Rattle.isl_words.specs.Options.{OptionsView}
use Rattle.isl_values.specs.State.{Moment}
use Rattle.isl_script.specs.Script.{statements, rest_of, readable, next_part, ends, IsBlank}
use Rattle.isl_refusal.specs.declared.refusal.Refusal.{Refusal}
use Rattle.isl_refusal.specs.declared.refusal.Refusal.TheVariants.{ReadFault, WriteFault}
use Rattle.isl_eval.specs.Causes.{Refuses}
use Rattle.isl_eval.specs.Run.{started}
use Rattle.isl_session.specs.declared.fault.Fault.{Fault}
use Rattle.isl_space.specs.Limits.{most_script_bytes, most_statement_bytes}
use Rattle.isl_refusal.specs.Refusal.{Place, at_words, in_statement, too_long, past_limit, at_end, at_read, at_write, anywhere, place_of}
use Rattle.isl_session.specs.Outcome.{Outcome, EndsRun, RunOn, lines_from, text_of}
use Rattle.isl_session.specs.View.{View, BreaksIn, Fed, IsMeterAt, Stopped, moment_of, opened}
use Rattle.isl_session.specs.Status.{StatusView}
use Rattle.isl_session.specs.Lines.{fault_line}
use Rattle.isl_script.proofs.ScriptLaws.{rest-hold, statements-end, statements-hold}
use Rattle.isl_session.specs.Run.{Answered, AreInFront, Ended, Halts, HasCause, IsScriptOf, OfFirst, Outside, Progress, Tells, Wrote}
use Rattle.isl_session.specs.Run.{first_told}
use Rattle.isl_session.specs.Run.{number_at}
use Rattle.isl_session.proofs.RunLemmas.{fed_passed}
use Rattle.isl_session.proofs.AheadLemmas.{ahead_of, readable-append, statements-readable, ahead_end, ahead_full, ahead_first, ahead_long}

-- what was told, unless telling failed
pub tells_of : {T E : Type 0} (r : Result T E) (A R : Type 0) → OnOk r A → OnErr r R → (R → ⊥) → A
tells_of (Ok x) A R ok err not = ok
tells_of (Err e) A R ok err not = absurd (not err)

pub err_of : {T E : Type 0} {P Q : E → Type 0} (r : Result T E) → ((e : E) → P e → Q e) → IfErr r P → IfErr r Q
err_of (Ok x) on err = tt
err_of (Err e) on err = on e err

-- the parts of a status
module _ (status : StatusView) (refusal : Option Refusal) (meter : Gauge)
    (is : status ≡ record { refusal = refusal; meter = Some meter }) where
  pub status_refusal : status.refusal ≡ refusal
  status_refusal = ap (λ (s : StatusView). s.refusal) is

  pub status_meter : (now : Gauge) → meter ≡ now → status.meter ≡ Some now
  status_meter now same = ap (λ (s : StatusView). s.meter) is ∙ ap Some same

abbrev fault_of : ℕ → Refusal → Fault
fault_of statement refusal = record { statement = statement; refusal = refusal }

-- why a run ended at this place, what it wrote and what it told
abbrev EndedAt : (first : Moment) (script : List ℕ) → Progress first script → List ℕ → List ℕ → Gauge → Outside → Outside → Refusal → Place
    → Type 0
EndedAt first script progress taken gained now old new refusal place =
    HasCause first script progress taken now old new refusal place × Wrote progress.outcomes gained place
    × Tells old new (lines_from 0 progress.outcomes ++ fault_line (fault_of (number_at progress.outcomes place) refusal))
    × IsMeterAt place progress.meter now × EndsRun first.options refusal

-- what does not come about in a statement always ends a run
elsewhere : (options : OptionsView) (refusal : Refusal) (place : Place) → place_of refusal ≡ place → (place ≡ in_statement → ⊥)
    → EndsRun options refusal
elsewhere options refusal place at not is = absurd (not (sym at ∙ is))

-- the moment of a session that began at another
moment_in : (first : Moment) (view : View) → view.options ≡ first.options
    → moment_of view ≡ record { state = view.state; meter = view.meter; options = first.options }
moment_in first view same = ap (λ (o : OptionsView). let m : Moment = record {
  state = view.state;
  meter = view.meter;
  options =
      o;
} in m) same

-- A run that took this front of a script, and after which the session and its meter are so.
module _ (first : Moment) (script : List ℕ) (old new : Outside) (status : StatusView) (session : View)
    (meter_is : status.meter ≡ Some session.meter)
    (taken left : List ℕ) (script_is : script ≡ taken ++ left) (told : IsScriptOf old.left taken script)
    (took : Consumes old.left new.left taken) (few : length taken ≤ most_script_bytes + 1)
    (gained : List ℕ) (wrote : Appends old.written new.written gained) where
  abbrev assemble : (ending : Option Refusal) → (ending ≢ Some ReadFault → new.reads ≡ old.reads)
      → (ending ≢ Some WriteFault → new.writes ≡ old.writes) → (progress : Progress first script)
      → status.refusal ≡ first_told progress.outcomes ending
      → Ended first script progress taken gained session.meter old new ending → Answered first script old new status
  assemble ending reads writes progress is ended = record {
    taken = taken;
    left = left;
    script_is = script_is;
    told = told;
    took = took;
    few = few;
    progress = progress;
    gained = gained;
    wrote = wrote;
    meter = session.meter;
    meter_is = meter_is;
    ending = ending;
    ended = ended;
    status_is = is;
    reads = reads;
    writes = writes;
  }

  -- a run that this refusal ended
  abbrev HaltedBy : Refusal → Type 0
  HaltedBy refusal = (run : Answered first script old new status) × (run.ending ≡ Some refusal)

  -- the script was answered up to the end of a front
  module _ (front more : List ℕ) (split : script ≡ front ++ more) (outcomes : List Outcome) (at_front : View)
      (fed : Fed (opened first) front outcomes at_front) where
    front_within : length front ≤ most_script_bytes
    front_within = omega (arith, fed.taken, fed.within)

    abbrev progress : Progress first script
    progress = record {
      done = statements front;
      ahead = ahead_of front more;
      split = ap (λ (l : List ℕ). statements (take most_script_bytes l)) split ∙ statements-readable front more front_within;
      outcomes = outcomes;
      state = at_front.state;
      run = subst (λ (m : Moment). RunOn first (statements front) outcomes m) (moment_in first at_front fed.options) fed.run;
      meter = at_front.meter;
      carried = fed.meter;
      short = fed.short.each;
    }

    -- how it ended is left to say
    halted : (refusal : Refusal) → (Some refusal ≢ Some ReadFault → new.reads ≡ old.reads)
        → (Some refusal ≢ Some WriteFault → new.writes ≡ old.writes)
        → status.refusal ≡ first_told outcomes (Some refusal) → (place : Place) → place_of refusal ≡ place
        → EndedAt first script progress taken gained session.meter old new refusal place → HaltedBy refusal
    halted refusal reads writes is place at ended =
        let here = subst (λ (p : Place). EndedAt first script progress taken gained session.meter old new refusal p) (sym at) ended in
        (assemble (Some refusal) reads writes progress is here, refl)

  -- the whole script was taken and answered
  pub answered_whole : left ≡ [] → IsAtEnd new.left → new.reads ≡ old.reads → new.writes ≡ old.writes → (outcomes : List Outcome)
      → status.refusal ≡ first_told outcomes None → gained ≡ text_of outcomes → Tells old new (lines_from 0 outcomes)
      → Fed (opened first) taken outcomes session → IsBlank session.rest
      → Answered first script old new status
  answered_whole none end reads writes outcomes is gained_is lines fed blank =
      let whole : taken ≡ script = sym (script_is ∙ ap (λ (l : List ℕ). taken ++ l) none ∙ append-nil taken) in
      assemble None (λ other. reads) (λ other. writes) (progress taken left script_is outcomes session fed) is (
        record {
          answered = ahead_end taken left none;
          whole = whole;
          within = omega (arith, ap length whole, fed.taken, fed.within);
          blank = subst IsBlank (fed.rest ∙ ap rest_of whole) blank;
          short = omega (arith, fed.short.last, ap length (fed.rest ∙ ap rest_of whole));
          end = end;
        },
        gained_is,
        lines,
        refl,
      )

  -- a refusal
  module _ (statement : ℕ) (refusal : Refusal)
      (reads : Some refusal ≢ Some ReadFault → new.reads ≡ old.reads)
      (writes : Some refusal ≢ Some WriteFault → new.writes ≡ old.writes)
      (outcomes : List Outcome) (status_is : status.refusal ≡ first_told outcomes (Some refusal))
      (tells : Tells old new (lines_from 0 outcomes ++ fault_line (fault_of statement refusal))) where
    line_for : (k : ℕ) → statement ≡ k → Tells old new (lines_from 0 outcomes ++ fault_line (fault_of k refusal))
    line_for k is = subst (λ (n : ℕ). Tells old new (lines_from 0 outcomes ++ fault_line (fault_of n refusal))) is tells

    -- the session was refused at a byte
    module _ (gained_is : gained ≡ text_of outcomes)
        (stopped : Stopped (opened first) taken outcomes session (fault_of statement refusal)) where
      abbrev more : List ℕ
      more = stopped.behind ++ left

      split_at : script ≡ stopped.front ++ (stopped.byte ∷ more)
      split_at = script_is ∙ ap (λ (l : List ℕ). l ++ left) stopped.split ∙ append_assoc stopped.front (stopped.byte ∷ stopped.behind) left

      abbrev so_far : Progress first script
      so_far = progress stopped.front (stopped.byte ∷ more) split_at outcomes stopped.at_front stopped.fed

      breaks_at : (place : Place) → place_of refusal ≡ place → BreaksIn place stopped.at_front stopped.byte session.meter refusal
      breaks_at place at = subst (λ (p : Place). BreaksIn p stopped.at_front stopped.byte session.meter refusal) at stopped.breaks

      number : statement ≡ length outcomes + 1
      number = omega (arith, stopped.number, fed_passed (opened first) stopped.front outcomes stopped.at_front stopped.fed)

      halted_at : (place : Place) → place_of refusal ≡ place → HasCause first script so_far taken session.meter old new refusal place
          → Wrote outcomes gained place
          → statement ≡ number_at outcomes place → HaltedBy refusal
      halted_at place at cause written k =
          halted stopped.front (stopped.byte ∷ more) split_at outcomes stopped.at_front stopped.fed refusal reads writes status_is
          place at (
            cause,
            written,
            line_for (number_at outcomes place) k,
            subst
                (λ (p : Place). IsMeterAt p stopped.at_front.meter session.meter) at stopped.meter,
            stopped.ends_run,
          )

      -- what is held needs no memory
      abbrev Ends : Type 0
      Ends = (ends stopped.at_front.rest stopped.byte ≡ true) × Refuses
          (started (moment_of stopped.at_front)) stopped.at_front.rest session.meter refusal

      no_want : Ends ⊎ ((length stopped.at_front.rest < most_statement_bytes) × (stopped.at_front.room ≤ length stopped.at_front.rest)
          × (session.meter ≡ stopped.at_front.meter)) → Ends
      no_want (inl ended) = ended
      no_want (inr full) = absurd (omega (arith, full.0, full.1, stopped.fed.room))

      -- the statement that is ahead is refused at that moment
      abbrev refused_here : View → List ℕ → Type 0
      refused_here at_front bytes =
          (length bytes ≤ most_statement_bytes)
          × Refuses (started (record {
            state = at_front.state;
            meter = at_front.meter;
            options =
                first.options;
          })) bytes session.meter refusal

      from_first : Refuses (started (moment_of stopped.at_front)) stopped.at_front.rest session.meter refusal
          → Refuses (started (record { state = stopped.at_front.state; meter = stopped.at_front.meter; options = first.options }))
          stopped.at_front.rest
          session.meter refusal
      from_first refuses =
          subst (λ (m : Moment). Refuses (started m) stopped.at_front.rest session.meter refusal)
          (moment_in first stopped.at_front stopped.fed.options) refuses

      -- the statements before that byte, and what it ends, were taken
      in_front : stopped.at_front.taken < most_script_bytes → ends (rest_of stopped.front) stopped.byte ≡ true
          → AreInFront taken so_far.done (rest_of stopped.front)
      in_front room ended = (
        stopped.front ++ stopped.byte ∷ [],
        stopped.behind,
        stopped.split ∙ sym (append_assoc stopped.front (stopped.byte ∷ []) stopped.behind),
        omega (arith, length_push stopped.front stopped.byte, stopped.fed.taken, room),
        statements-end stopped.front stopped.byte ended,
      )

      abbrev refused_next : List ℕ → Type 0
      refused_next bytes =
          AreInFront taken so_far.done bytes × (length bytes ≤ most_statement_bytes)
          × Refuses (started (record { state = so_far.state; meter = so_far.meter; options = first.options })) bytes session.meter refusal

      refused_first : stopped.at_front.taken < most_script_bytes → Ends
          → OfFirst refused_next so_far.ahead
      refused_first room want =
          let rest = stopped.fed.rest in
          let ended = subst (λ (l : List ℕ). ends l stopped.byte ≡ true) rest want.0 in
          let first_ahead = ahead_first stopped.front stopped.byte more (omega (arith, stopped.fed.taken, room)) ended in
          let here = subst (refused_here stopped.at_front) rest (stopped.fed.short.last, from_first want.1) in
          subst (OfFirst refused_next) (sym first_ahead.1) (in_front room ended, here.0, here.1)

      refused_in_statement : place_of refusal ≡ in_statement → HaltedBy refusal
      refused_in_statement at =
          let breaks = breaks_at in_statement at in
          halted_at in_statement at (refused_first breaks.0 (breaks.1, breaks.2)) gained_is number

      refused_too_long : place_of refusal ≡ too_long → HaltedBy refusal
      refused_too_long at =
          let breaks = breaks_at too_long at in
          let front = stopped.front in
          let rest = stopped.fed.rest in
          let held = subst (λ (l : List ℕ). ends l stopped.byte ≡ false) rest breaks.1 in
          let long = ahead_long front stopped.byte more (omega (arith, stopped.fed.taken, breaks.0)) held in
          let same : rest_of (readable (front ++ stopped.byte ∷ more)) ≡ rest_of (readable script) =
          ap (λ (l : List ℕ). rest_of (readable l)) (sym split_at) in
          let grown = rest-hold front stopped.byte held in
          halted_at too_long at (
            omega (
              arith,
              breaks.2,
              ap length rest,
              long,
              ap (λ (l : List ℕ). length (next_part (ahead_of front
                  (stopped.byte ∷ more)) l)) same,
            ),
            (
              front ++ stopped.byte ∷ [],
              stopped.behind,
              stopped.split ∙ sym (append_assoc front (stopped.byte ∷ []) stopped.behind),
              omega (arith, length_push front stopped.byte, stopped.fed.taken, breaks.0),
              statements-hold front stopped.byte held,
              omega (arith, ap length grown, length_push (rest_of front) stopped.byte, breaks.2, ap length rest),
            ),
          ) gained_is number

      refused_anywhere : place_of refusal ≡ anywhere → HaltedBy refusal
      refused_anywhere at =
          let breaks = breaks_at anywhere at in
          halted_at anywhere at (refused_first breaks.0 (no_want breaks.1)) gained_is number

      refused_past_limit : place_of refusal ≡ past_limit → HaltedBy refusal
      refused_past_limit at =
          let full = breaks_at past_limit at in
          let front = stopped.front in
          let none : most_script_bytes - length front ≡ 0 = omega (arith, stopped.fed.taken, full) in
          let cut : readable (front ++ stopped.byte ∷ more) ≡ front =
          readable-append front (stopped.byte ∷ more) (omega (arith, stopped.fed.taken, full))
          ∙ ap (λ (k : ℕ). front ++ take k (stopped.byte ∷ more)) none ∙ append-nil front in
          let same : rest_of (readable script) ≡ stopped.at_front.rest = ap (λ (l : List ℕ). rest_of (readable l)) split_at ∙ ap rest_of cut
          ∙ sym stopped.fed.rest in
          halted_at past_limit at (
            ahead_full front (stopped.byte ∷ more) (omega (arith, stopped.fed.taken, full)),
            omega (arith, few, ap length stopped.split, length-append front (stopped.byte ∷ stopped.behind), stopped.fed.taken, full),
            omega (arith, stopped.fed.short.last, ap length same),
          ) gained_is number

    -- whatever stopped it
    pub answered_up_to : (place : Place) → place_of refusal ≡ place → (IsAtEnd new.left → left ≡ [])
        → Halts (Rose old.reads new.reads) (Rose old.writes new.writes) (IsAtEnd new.left) (opened first) taken outcomes gained session
        (fault_of statement refusal) place → HaltedBy refusal
    answered_up_to at_words at none_left h = absurd h
    answered_up_to in_statement at none_left h = refused_in_statement h.0 h.1 at
    answered_up_to too_long at none_left h = refused_too_long h.0 h.1 at
    answered_up_to past_limit at none_left h = refused_past_limit h.0 h.1 at
    answered_up_to anywhere at none_left h = refused_anywhere h.0 h.1 at
    answered_up_to at_read at none_left h =
        let fed = h.3 in
        halted taken left script_is outcomes session fed refusal reads writes status_is at_read at (
          (h.0, refl, omega (arith, fed.taken, fed.within), omega (arith, fed.short.last, ap length fed.rest)),
          h.2,
          line_for (length outcomes + 1) (omega (arith, fed_passed (opened first) taken outcomes session fed, h.1)),
          refl,
          elsewhere first.options refusal at_read at (λ is. absurd (let bad : ⊥ = cc in bad)),
        )
    answered_up_to at_write at none_left h =
        let front = h.2.0 in
        let fed = h.2.4 in
        halted front (h.2.1 ++ left) (script_is ∙ ap (λ (l : List ℕ). l ++ left) h.2.2
        ∙ append_assoc front h.2.1 left) outcomes session fed refusal reads writes status_is at_write at (
          h.0,
          h.2.3,
          line_for (length outcomes) (omega (arith, fed_passed (opened first) front outcomes session fed, h.1)),
          refl,
          elsewhere first.options refusal at_write at (λ is. absurd (let bad : ⊥ = cc in bad)),
        )
    answered_up_to at_end at none_left h =
        let before = h.1.0 in
        let fed = h.1.2 in
        let none = none_left h.0 in
        let whole : taken ≡ script = sym (script_is ∙ ap (λ (l : List ℕ). taken ++ l) none ∙ append-nil taken) in
        let rest : before.rest ≡ rest_of script = fed.rest ∙ ap rest_of whole in
        let meter = ap (λ (v : View). v.meter) h.1.5 in
        halted taken left script_is outcomes before fed refusal reads writes status_is at_end at (
          (
            ahead_end taken left none,
            whole,
            omega (arith, ap length whole, fed.taken, fed.within),
            h.0,
            λ blank. h.1.3 (subst IsBlank (sym rest) blank),
            omega (arith, fed.short.last, ap length rest),
          ),
          h.1.1,
          line_for (length outcomes + 1) (omega (arith, fed_passed (opened first) taken outcomes before fed, h.1.4)),
          meter,
          elsewhere first.options refusal at_end at (λ is. absurd (let bad : ⊥ = cc in bad)),
        )
