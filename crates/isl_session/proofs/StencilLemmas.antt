-- From what a session does with a script that is made to what its run has done.
use Rattle.std.proofs.Common.{◌≡◌, ℕ, ◌+◌, ◌<◌, ◌≤◌, List, [], ◌∷◌, ◌++◌, length, take, refl, sym, ◌∙◌, ap, subst, arith}
use Rattle.std.proofs.Common.{Option, None, Some}
use Rattle.std.specs.Option.{option_or}
use Rattle.std.specs.Io.KnownBytes.{Appends}
use Rattle.std.proofs.lemmas.List.{append-nil, append_assoc, length-append, take_all}
use Rattle.isl_math.specs.Count.{Rose}
use Rattle.isl_words.specs.Options.{OptionsView}
use Rattle.isl_script.specs.Script.{statements}
use Rattle.isl_script.proofs.ScriptLaws.{count-le-length}
use Rattle.isl_space.specs.Limits.{most_script_bytes, most_statement_bytes}
use Rattle.isl_stencil.specs.Stencil.{stencil, most_sizes}
use Rattle.isl_stencil.proofs.CutLemmas.{stencil_blank, stencil_length}
use Rattle.isl_refusal.specs.declared.refusal.Refusal.{Refusal}
use Rattle.isl_refusal.specs.declared.refusal.Refusal.TheVariants.{WriteFault}
use Rattle.isl_values.specs.State.{Moment}
use Rattle.isl_eval.specs.Causes.{Refuses}
use Rattle.isl_eval.specs.Run.{started}
use Rattle.isl_session.specs.declared.counts.Counts.{Counts}
use Rattle.isl_session.specs.Outcome.{Outcome, answered, skipped, RunOn, first_skip, lines_from, skips_of}
use Rattle.isl_session.specs.Lines.{fault_line, summary_line}
use Rattle.isl_refusal.specs.Refusal.{Place, at_words, in_statement, too_long, past_limit, at_end, at_read, at_write, anywhere, place_of}
use Rattle.isl_session.specs.Run.{Answered, AreInFront, Ended, HasCause, IsRefusedNext, OfFirst, Outside, Progress, Tells, first_told}
use Rattle.isl_session.specs.Run.{number_at, outside}
use Rattle.isl_session.specs.Status.{StatusView}
use Rattle.isl_session.specs.StencilRun.{StencilAnswered, StencilRefused, summary_of, written_for}
use Rattle.isl_session.specs.View.{View, Fed, IsMeterAt, moment_of, opened}
use Rattle.isl_session.proofs.OutcomeLemmas.{none_if_first, option_or_none}
use Rattle.isl_session.proofs.RunLemmas.{fed_passed}

-- no line is written about statements of which one was skipped
nothing_for : (outcomes : List Outcome) (refusal : Refusal) (line : List ℕ) → first_skip outcomes ≡ Some refusal
    → [] ≡ written_for (skips_of outcomes) line
unfolding first_skip
nothing_for [] refusal line some = absurd (let bad : ⊥ = cc in bad)
nothing_for (answered answer ∷ xs) refusal line some = nothing_for xs refusal line some
nothing_for (skipped other ∷ xs) refusal line some = refl

-- ---- the script was read to its end
module _ (first : Moment) (script : List ℕ) (outcomes : List Outcome) (session : View) (fed : Fed
    (opened first) script outcomes session) where
  within : length script ≤ most_script_bytes
  within = omega (arith, fed.taken, fed.within)

  moment : moment_of session ≡ record { state = session.state; meter = session.meter; options = first.options }
  moment = ap (λ (o : OptionsView). let m : Moment = record { state = session.state; meter = session.meter; options = o } in m) fed.options

  abbrev progress_whole : Progress first script
  progress_whole = record {
    done = statements script;
    ahead = [];
    split = ap statements (take_all most_script_bytes script within) ∙ sym (append-nil (statements script));
    outcomes = outcomes;
    state = session.state;
    meter = session.meter;
    run = subst (λ (m : Moment). RunOn first (statements script) outcomes m) moment fed.run;
    carried = fed.meter;
    short = fed.short.each;
  }

  line_is : summary_line session.counts ≡ summary_of outcomes
  line_is = ap summary_line fed.counts

  none_of : session.first ≡ None → skips_of outcomes ≡ []
  none_of none = none_if_first outcomes (sym fed.first ∙ none)

  told_is : (ending : Option Refusal) → option_or session.first ending ≡ first_told outcomes ending
  told_is ending = ap (λ (o : Option Refusal). option_or o ending) fed.first

  module _ (old new : Outside) (status : StatusView) (meter_is : status.meter ≡ Some session.meter) where
    -- and the line about its statements is written
    pub summed : session.first ≡ None → status.refusal ≡ None → (counts : Counts) → counts ≡ session.counts
        → Appends old.written new.written (summary_line counts) → Tells old new (lines_from 0 outcomes) → new.writes ≡ old.writes
        → StencilAnswered first script old new status
    summed none done counts same wrote lines writes = record {
      progress = progress_whole;
      gained = summary_line counts;
      wrote = wrote;
      meter = session.meter;
      meter_is = meter_is;
      ending = None;
      ended = (
        refl,
        ap summary_line same ∙ line_is
            ∙ ap (λ (l : List Refusal). written_for l (summary_of outcomes)) (sym (none_of none)),
        lines,
        refl,
      );
      status_is = done ∙ sym none ∙ sym (option_or_none session.first) ∙ told_is None;
      writes = λ other. writes;
    }

    -- or nothing, since one was skipped
    pub skipped_some : (refusal : Refusal) → session.first ≡ Some refusal → status.refusal ≡ session.first
        → Appends old.written new.written [] → Tells old new (lines_from 0 outcomes) → new.writes ≡ old.writes
        → StencilAnswered first script old new status
    skipped_some refusal some is kept lines writes = record {
      progress = progress_whole;
      gained = [];
      wrote = kept;
      meter = session.meter;
      meter_is = meter_is;
      ending = None;
      ended = (refl, nothing_for outcomes refusal (summary_of outcomes) (sym fed.first ∙ some), lines, refl);
      status_is = is ∙ sym (option_or_none session.first) ∙ told_is None;
      writes = λ other. writes;
    }

    -- or a front of it is
    pub cut_short : session.first ≡ None → status.refusal ≡ Some WriteFault → (counts : Counts) → counts ≡ session.counts
        → (n : ℕ) → n < length (summary_line counts) → Appends old.written new.written (take n (summary_line counts))
        → Rose old.writes new.writes
        → Tells old new (lines_from 0 outcomes ++ fault_line (record { statement = counts.statements + 1; refusal = WriteFault }))
        → StencilAnswered first script old new status
    cut_short none is counts same n short wrote rose tells =
        let line : summary_line counts ≡ summary_of outcomes = ap summary_line same ∙ line_is in
        let number : counts.statements + 1 ≡ length outcomes + 1 =
        omega (
          arith,
          ap (λ (c : Counts). c.statements) same,
          fed_passed (opened first) script outcomes session fed,
          fed.skips,
          ap length (none_of none),
        ) in
        record {
          progress = progress_whole;
          gained = take n (summary_line counts);
          wrote = wrote;
          meter = session.meter;
          meter_is = meter_is;
          ending = Some WriteFault;
          ended = (
            (refl, rose, refl, none_of none, (n, omega (arith, short, ap length line), ap (take n) line)),
            subst (λ (k : ℕ). Tells old new (lines_from 0 outcomes ++ fault_line (record { statement = k; refusal = WriteFault })))
                number tells,
            λ bad. absurd (let no : ⊥ = cc in no),
          );
          status_is = is ∙ ap (λ (o : Option Refusal). option_or o (Some WriteFault)) (sym none) ∙ told_is (Some WriteFault);
          writes = λ other. absurd (other refl);
        }

-- ---- a statement is refused

of_first : (P Q : List ℕ → Type 0) → ((bytes : List ℕ) → P bytes → Q bytes) → (parts : List (List ℕ)) → OfFirst P parts → OfFirst Q parts
of_first P Q on [] first = first
of_first P Q on (bytes ∷ later) first = on bytes first

module _ (first : Moment) (sizes : ℕ) (few : sizes ≤ most_sizes) (told told_now : Option (List ℕ)) (tells tells_now : ℕ) (rest : List ℕ)
    (status : StatusView) where
  abbrev script : List ℕ
  script = stencil sizes

  abbrev before : Outside
  before = outside (Some script) 0 None 0 told tells

  abbrev now : Outside
  now = outside (Some rest) 0 None 0 told_now tells_now

  module _ (run : Answered first script before now status) (refusal : Refusal) (old new : Outside)
      (same : (lines : List ℕ) → Tells before now lines → Tells old new lines)
      (kept : Appends old.written new.written []) (writes : new.writes ≡ old.writes) where
    bytes_few : length script ≤ 512000
    bytes_few = omega (arith, stencil_length sizes few, few)

    taken_few : length run.taken ≤ 512000
    taken_few = omega (arith, bytes_few, ap length run.script_is, length-append run.taken run.left)

    -- what is in front of what was read is in front of the script
    refused_next : IsRefusedNext first script run.progress run.taken run.meter refusal
        → IsRefusedNext first script run.progress script run.meter refusal
    refused_next cause =
        of_first (λ bytes. AreInFront run.taken run.progress.done bytes × (length bytes ≤ most_statement_bytes)
        × Refuses (started (record {
          state = run.progress.state;
          meter = run.progress.meter;
          options =
              first.options;
        })) bytes run.meter refusal)
        (λ bytes. AreInFront script run.progress.done bytes × (length bytes ≤ most_statement_bytes)
        × Refuses (started (record {
          state = run.progress.state;
          meter = run.progress.meter;
          options =
              first.options;
        })) bytes run.meter refusal)
        (λ bytes next. (
          (
            next.0.0,
            next.0.1 ++ run.left,
            run.script_is ∙ ap (λ (l : List ℕ). l ++ run.left) next.0.2 ∙ append_assoc next.0.0 next.0.1 run.left,
            next.0.3,
            next.0.4,
          ),
          next.1,
          next.2,
        )) run.progress.ahead cause

    abbrev Here : Place → Type 0
    Here place = StencilRefused first script run.progress [] run.meter old new refusal place
        × Tells old new (lines_from 0 run.progress.outcomes
        ++ fault_line (record { statement = length run.progress.outcomes + 1; refusal = refusal }))

    refused_at : (place : Place) → HasCause first script run.progress run.taken run.meter before now refusal place
        → Tells before now (lines_from 0 run.progress.outcomes
        ++ fault_line (record { statement = number_at run.progress.outcomes place; refusal = refusal }))
        → IsMeterAt place run.progress.meter run.meter → Here place
    refused_at in_statement cause line meter = ((refused_next cause, refl, meter), same _ line)
    refused_at anywhere cause line meter = ((refused_next cause, refl, meter), same _ line)
    refused_at at_words cause line meter = absurd cause
    refused_at at_read cause line meter = absurd (let rose = cause.0 in omega (arith, rose))
    refused_at at_write cause line meter = absurd (omega (arith, cause))
    refused_at at_end cause line meter = absurd (cause.4 (stencil_blank sizes few))
    refused_at past_limit cause line meter = absurd (let full = cause.1 in omega (arith, full, taken_few))
    refused_at too_long cause line meter =
        let front = cause.1.0 in
        let split = cause.1.2 in
        let long = cause.1.5 in
        absurd (omega (arith, long, count-le-length front, ap length split, length-append front cause.1.1, taken_few))

    pub refused : run.ending ≡ Some refusal → StencilAnswered first script old new status
    refused is =
        let ended = subst (λ (r : Option Refusal). Ended first script run.progress run.taken run.gained run.meter before now r) is
        run.ended in
        let here = refused_at (place_of refusal) ended.0 ended.2 ended.3 in
        record {
          progress = run.progress;
          gained = [];
          wrote = kept;
          meter = run.meter;
          meter_is = run.meter_is;
          ending = Some refusal;
          ended = (here.0, here.1, ended.4);
          status_is = run.status_is ∙ ap (first_told run.progress.outcomes) is;
          writes = λ other. writes;
        }
