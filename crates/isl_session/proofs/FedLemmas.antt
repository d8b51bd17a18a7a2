-- One byte, or none, of a session's script.
use Rattle.std.proofs.Common.{◌≡◌, ℕ, ◌+◌, ◌<◌, ◌≤◌, true, false, List, [], ◌∷◌, ◌++◌, length, if◌then◌else◌, refl, sym, ◌∙◌, ap, ap₂}
use Rattle.std.proofs.Common.{subst, arith, Option, None, Some}
use Rattle.std.specs.Option.{option_or}
use Rattle.std.specs.Option.{IfNone}
use Rattle.std.proofs.lemmas.List.{append-nil}
use Rattle.std.proofs.lemmas.List.Elements.{All-nil, All-cons}
use Rattle.std.specs.Prelude.{All}
use Rattle.isl_script.specs.Script.{statements, rest_of, ends, IsOpen}
use Rattle.isl_script.proofs.ScriptLaws.{open_rest, rest-open, statements-open}
use Rattle.isl_eval.specs.Machine.{Answer}
use Rattle.isl_eval.specs.Run.{Answers, started}
use Rattle.isl_space.specs.Limits.{most_script_bytes, most_statement_bytes}
use Rattle.isl_session.specs.declared.counts.Counts.{Counts}
use Rattle.isl_session.specs.declared.fault.Fault.{Fault}
use Rattle.isl_session.specs.Counts.{counted}
use Rattle.isl_refusal.specs.declared.refusal.Refusal.{Refusal}
use Rattle.isl_meter.specs.Gauge.{Gauge}
use Rattle.isl_words.specs.Options.{OptionsView}
use Rattle.isl_values.specs.State.{Moment, StateView}
use Rattle.isl_refusal.specs.Refusal.{Place, in_statement, place_of}
use Rattle.isl_session.specs.Outcome.{Outcome, answered, skipped, Carries, RunOn, Skips, answers_of, faults_from, first_skip, skips_of}
use Rattle.isl_session.specs.View.{View, BreaksIn, Fed, IsMeterAt, IsReady, IsRefusedAt, moment_of}
use Rattle.isl_session.proofs.MeterLemmas.{carried_by}
use Rattle.isl_session.proofs.OutcomeLemmas.{option_or_none}
use Rattle.isl_session.proofs.RunLemmas.{IsFew, counts_are, no_run, one_run, one_skip, run_as}
use Rattle.isl_session.proofs.ScriptLemmas.{statements-held, rest_of-held, statements-ended, rest_of-ended}

pub counted-none : (counts : Counts) → counts ≡ counted counts []
counted-none counts = counts_are counts (counted counts []) (omega arith) (omega arith) (omega arith)

-- one answer more
pub counted-one : (counts : Counts) (answer : Answer)
    → ◌≡◌ {A = Counts} (record {
      statements = counts.statements + 1;
      trues = counts.trues + (if answer.is_true then 1 else 0);
      elements = counts.elements + answer.elements;
    }) (counted counts (answer ∷ []))
counted-one counts answer =
    let trues : counts.trues + (if answer.is_true then 1 else 0) ≡ counts.trues + (0 + (if answer.is_true then 1 else 0)) = omega arith in
    let elements : counts.elements + answer.elements ≡ counts.elements + (0 + answer.elements) = omega arith in
    ap₂ (λ (t e : ℕ). let n : Counts = record { statements = counts.statements + 1; trues = t; elements = e } in n) trues elements

-- why the first of them was skipped, with what comes of one statement more, or of none
answered_first : (first : Option Refusal) (answer : Answer) → option_or first (first_skip (answered answer ∷ [])) ≡ first
unfolding first_skip
answered_first first answer = option_or_none first

skipped_first : (first : Option Refusal) (refusal : Refusal)
    → option_or first (first_skip (skipped refusal ∷ [])) ≡ option_or first (Some refusal)
unfolding first_skip
skipped_first first refusal = refl

pub nothing_first : (first : Option Refusal) → option_or first (first_skip []) ≡ first
unfolding first_skip
nothing_first first = option_or_none first

-- nothing of the script
pub ready_fed : (view : View) → IsReady view → Fed view [] [] view
ready_fed view ready = record {
  run = run_as (moment_of view) [] (statements (view.rest ++ [])) [] (moment_of view) (moment_of view)
      (sym (ap statements (append-nil view.rest) ∙ statements-open view.rest ready.open_rest)) refl (no_run (moment_of view));
  rest = sym (ap rest_of (append-nil view.rest) ∙ rest-open view.rest ready.open_rest);
  short = record {
    each = subst (All IsFew) (sym (ap statements (append-nil view.rest) ∙ statements-open view.rest ready.open_rest))
        (All-nil IsFew);
    last = ready.short;
  };
  taken = omega arith;
  within = ready.within;
  counts = counted-none view.counts;
  skips = omega arith;
  first = sym (nothing_first view.first);
  sound = ready.sound;
  meter = carried_by (moment_of view) [] [] (moment_of view) (no_run (moment_of view));
  room = omega arith;
  options = refl;
}

-- a session that took a piece
pub fed_ready : (a : View) (x : List ℕ) (ps : List Outcome) (b : View) → Fed a x ps b → IsReady b
fed_ready a x ps b fed =
    record {
      open_rest = subst IsOpen (sym fed.rest) (open_rest (a.rest ++ x));
      short = fed.short.last;
      within = fed.within;
      sound = fed.sound;
    }

module _ (old : View) (ready : IsReady old) (byte : ℕ) (new : View) (within : old.taken < most_script_bytes)
    (taken : new.taken ≡ old.taken + 1) (sound : new.fault ≡ None) (room : old.room ≤ new.room) (options : new.options ≡ old.options) where
  -- a byte that ends a statement, of which this comes
  module _ (outcome : Outcome) (is : ends old.rest byte ≡ true) (one : RunOn (moment_of old) (old.rest ∷ []) (outcome ∷ []) (moment_of new))
      (rest : new.rest ≡ []) where
    pub fed_over : new.counts ≡ counted old.counts (answers_of (outcome ∷ [])) → new.skips ≡ old.skips + length (skips_of (outcome ∷ []))
        → new.first ≡ option_or old.first (first_skip (outcome ∷ [])) → Fed old (byte ∷ []) (outcome ∷ []) new
    fed_over counts skips first = record {
      run = run_as (moment_of old) (old.rest ∷ []) (statements (old.rest ++ byte ∷ [])) (outcome ∷ []) (moment_of new) (moment_of new)
          (sym (statements-ended old.rest byte ready.open_rest is)) refl one;
      rest = rest ∙ sym (rest_of-ended old.rest byte ready.open_rest is);
      short = record {
        each = subst (All IsFew) (sym (statements-ended old.rest byte ready.open_rest is))
            (All-cons IsFew old.rest [] ready.short (All-nil IsFew));
        last = omega (arith, ap length rest);
      };
      taken = taken;
      within = omega arith;
      counts = counts;
      skips = skips;
      first = first;
      sound = sound;
      meter = carried_by (moment_of old) (old.rest ∷ []) (outcome ∷ []) (moment_of new) one;
      room = room;
      options = options;
    }

  -- one that is answered
  pub fed_end : (answer : Answer) → ends old.rest byte ≡ true → Answers (started (moment_of old)) old.rest (moment_of new) answer
      → new.rest ≡ [] → new.counts ≡ counted old.counts (answer ∷ []) → new.skips ≡ old.skips → new.first ≡ old.first
      → Fed old (byte ∷ []) (answered answer ∷ []) new
  fed_end answer is one rest counts skips first =
      fed_over (answered answer) is (one_run (moment_of old) old.rest answer (moment_of new) one) rest counts (omega (arith, skips))
      (first ∙ sym (answered_first old.first answer))

  -- one that is skipped
  pub fed_skip : (refusal : Refusal) → ends old.rest byte ≡ true → Skips (moment_of old) old.rest refusal new.meter
      → (let m : Moment = record (moment_of old) { meter = new.meter } in m) ≡ moment_of new
      → new.rest ≡ [] → new.counts ≡ old.counts → new.skips ≡ old.skips + 1 → new.first ≡ option_or old.first (Some refusal)
      → Fed old (byte ∷ []) (skipped refusal ∷ []) new
  fed_skip refusal is skip moment rest counts skips first =
      let one = subst (λ (m : Moment). RunOn (moment_of old) (old.rest ∷ []) (skipped refusal ∷ []) m) moment
      (one_skip (moment_of old) old.rest refusal new.meter skip) in
      fed_over (skipped refusal) is one rest (counts ∙ counted-none old.counts) (omega (arith, skips))
      (first ∙ sym (skipped_first old.first refusal))

  -- another byte
  pub fed_held : ends old.rest byte ≡ false → new.rest ≡ old.rest ++ byte ∷ [] → moment_of new ≡ moment_of old → new.counts ≡ old.counts
      → new.skips ≡ old.skips → new.first ≡ old.first → length new.rest ≤ most_statement_bytes → Fed old (byte ∷ []) [] new
  fed_held is rest moment counts skips first few = record {
    run = run_as (moment_of old) [] (statements (old.rest ++ byte ∷ [])) [] (moment_of old) (moment_of new)
        (sym (statements-held old.rest byte ready.open_rest is)) (sym moment) (no_run (moment_of old));
    rest = rest ∙ sym (rest_of-held old.rest byte ready.open_rest is);
    short = record { each = subst (All IsFew) (sym (statements-held old.rest byte ready.open_rest is)) (All-nil IsFew); last = few };
    taken = taken;
    within = omega arith;
    counts = counts ∙ counted-none old.counts;
    skips = omega (arith, skips);
    first = first ∙ sym (nothing_first old.first);
    sound = sound;
    meter = subst (λ (m : Moment). Carries old.meter [] m.meter) (sym moment)
        (carried_by (moment_of old) [] [] (moment_of old) (no_run (moment_of old)));
    room = room;
    options = options;
  }

-- the moment of a session that binds as another did
moment_as : (old new : View) → new.state ≡ old.state → new.options ≡ old.options
    → (let m : Moment = record (moment_of old) { meter = new.meter } in m) ≡ moment_of new
moment_as old new state options =
    ap (λ (s : StateView). let m : Moment = record { state = s; meter = new.meter; options = old.options } in m) (sym state)
    ∙ ap (λ (o : OptionsView). let m : Moment = record { state = new.state; meter = new.meter; options = o } in m) (sym options)

-- a byte whose statement is refused, and which a session then passes over
pub skip_byte : (old mid new : View) (byte : ℕ) (refusal : Refusal) → IsReady old → IsRefusedAt old byte refusal mid
    → place_of refusal ≡ in_statement → mid.options.keep_going ≡ true
    → new ≡ record mid {
      rest = [];
      room = new.room;
      taken = mid.taken + 1;
      skips = mid.skips + 1;
      first = option_or mid.first (Some refusal);
    } → mid.room ≤ new.room → Fed old (byte ∷ []) (skipped refusal ∷ []) new
skip_byte old mid new byte refusal ready at place goes_on passed room =
    let breaks = subst (λ (p : Place). BreaksIn p old byte mid.meter refusal) place at.breaks in
    let same = at.same in
    let meter : new.meter ≡ mid.meter = ap (λ (v : View). v.meter) passed in
    let options : mid.options ≡ old.options = ap (λ (v : View). v.options) same in
    let skip : Skips (moment_of old) old.rest refusal new.meter =
    subst (λ (g : Gauge). Skips (moment_of old) old.rest refusal g) (sym meter) (record {
      chosen = ap (λ (o : OptionsView). o.keep_going) (sym options) ∙ goes_on;
      place = place;
      refuses = breaks.2;
      meter = subst (λ (p : Place). IsMeterAt p old.meter mid.meter) place at.meter;
    }) in
    fed_skip old ready byte new breaks.0
    (omega (arith, ap (λ (v : View). v.taken) passed, ap (λ (v : View). v.taken) same))
    (ap (λ (v : View). v.fault) passed ∙ ap (λ (v : View). v.fault) same ∙ ready.sound) (omega (arith, at.room, room))
    (ap (λ (v : View). v.options) passed ∙ options) refusal breaks.1 skip
    (moment_as old new (ap (λ (v : View). v.state) passed ∙ ap (λ (v : View). v.state) same)
    (ap (λ (v : View). v.options) passed ∙ options)) (ap (λ (v : View). v.rest) passed)
    (ap (λ (v : View). v.counts) passed ∙ ap (λ (v : View). v.counts) same)
    (omega (arith, ap (λ (v : View). v.skips) passed, ap (λ (v : View). v.skips) same))
    (ap (λ (v : View). v.first) passed ∙ ap (λ (o : Option Refusal). option_or o (Some refusal)) (ap (λ (v : View). v.first) same))

-- none is skipped yet
pub no_faults_yet : (faults : List Fault) (n : ℕ) → faults ≡ faults ++ faults_from n []
unfolding faults_from
no_faults_yet faults n = sym (append-nil faults)

pub if_none : {A P : Type 0} (o : Option A) → P → IfNone o P
if_none None p = p
if_none (Some x) p = tt

pub at_none : {A P : Type 0} (o : Option A) → o ≡ None → IfNone o P → P
at_none None is p = p
at_none (Some x) is p = absurd (let bad : ⊥ = cc in bad)
