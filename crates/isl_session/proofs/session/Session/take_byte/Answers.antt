use Rattle.std.proofs.Common.{◌≡◌, ◌+◌, ◌∷◌, [], ◌++◌, ◌∙◌, List, ℕ, true, false, arith, ap, length, sym, subst, refl, vec_capacity}
use Rattle.std.proofs.Common.{Result, Err, rules}
use Rattle.std.specs.Prelude.{IfErr}
use Rattle.std.proofs.lemmas.List.{append-nil, length_push}
use Rattle.isl_meter.specs.Gauge.{Gauge, IsCharged, IsKept, limit_of}
use Rattle.isl_meter.proofs.CutLemmas.{IsCharged_refl, IsKept-charged}
use Rattle.isl_refusal.specs.declared.refusal.Refusal.TheVariants.{NoMemory}
use Rattle.isl_script.specs.Script.{ends, IsOpen, Place}
use Rattle.isl_script.specs.Cutter.{IsAt}
use Rattle.isl_script.proofs.ScriptLaws.{depth-le-length, open_nil, open_push}
use Rattle.isl_values.specs.State.{Moment, Fits}
use Rattle.isl_eval.specs.Causes.{Refuses}
use Rattle.isl_eval.specs.Machine.{Answer}
use Rattle.isl_eval.specs.Run.{Answers, started}
use Rattle.isl_session.specs.declared.counts.Counts.{Counts}
use Rattle.isl_session.specs.View.{View, Fed, IsRefusedAt, moment_of}
use Rattle.isl_session.specs.Session.{view_of}
use Rattle.isl_session.specs.Outcome.{answered}
use Rattle.isl_session.proofs.SoundLemmas.{sound_ready}
use Rattle.isl_session.proofs.FedLemmas.{counted-one, fed_end, fed_held}
use Rattle.isl_session.proofs.BreakLemmas.{no_room_for, refused_at_end}
use Rattle.isl_session.proofs.session.Session.take_byte.Goals as goal

pub push-requires : goal.push-requires
push-requires c =
    let depth = ap (λ (p : Place). p.depth) c.self.invariant.place.place in
    omega (arith, depth, depth-le-length c.self.inside.rest.items, c.self.invariant.held, c.if-self-ge-SCRIPT_MAX.false)

pub answer-requires : goal.answer-requires
answer-requires c = record {
  fits = subst (λ (g : Gauge). Fits (limit_of g) c.self.inside.state) (sym c.start.ensures) c.self.invariant.fits;
  settled = c.self.invariant.settled;
}

pub returns-in-Err-clause-err : goal.returns-in-Err-clause-err
returns-in-Err-clause-err c =
    let inside = c.self.inside in
    let old = view_of inside in
    let ends_there : ends inside.rest.items c.args.byte ≡ true = sym (c.if-push.ensures.ends inside.rest.items c.self.invariant.place) in
    let begun : c.start.new.self ≡ record inside.meter { units = 0 } = c.start.ensures in
    let cause = subst (λ (bytes : List ℕ). Refuses (started (moment_of old)) bytes c.answer.new.meter c.in-Err.refusal)
    c.deref.ensures.value
    (subst (λ (g : Gauge). let m : Moment = record { state = inside.state; meter = g; options = inside.options } in
    Refuses m c.deref.result.now c.answer.new.meter c.in-Err.refusal) begun c.in-Err.ensures.cause) in
    let refused = refused_at_end old c.args.byte c.answer.new.state c.answer.new.meter c.in-Err.refusal c.if-self-ge-SCRIPT_MAX.false
    ends_there c.in-Err.ensures.err cause (subst (λ (g : Gauge). IsKept g c.answer.new.meter) begun c.in-Err.ensures.meter) in (
      refl,
      subst (λ (v : View). IsRefusedAt v c.args.byte c.in-Err.refusal
          (record old { state = c.answer.new.state; meter = c.answer.new.meter }))
          c.self.view_is refused,
    )

refused_by : {A E : Type 0} (result : Result A E) (P : E → Type 0) (refusal : E) → result ≡ Err refusal → P refusal → IfErr result P
refused_by result P refusal is h = subst (λ (r : Result _ _). IfErr r P) (sym is) h

-- the answer, from a meter that begins anew
answered_here : (old : View) (bytes : List ℕ) (began : Gauge) (after : Moment) (answer : Answer) → began ≡ record old.meter { units = 0 }
    → bytes ≡ old.rest → (let m : Moment = record {
      state = old.state;
      meter = began;
      options =
          old.options;
    } in Answers m bytes after answer)
    → Answers (started (moment_of old)) old.rest after answer
answered_here old bytes began after answer begun same h =
    subst (λ (l : List ℕ). Answers (started (moment_of old)) l after answer) same
    (subst (λ (g : Gauge). let m : Moment = record { state = old.state; meter = g; options = old.options } in Answers m bytes after answer)
    begun h)

pub returns-in_err-append_to-clause-err : goal.returns-in_err-append_to-clause-err
returns-in_err-append_to-clause-err c =
    let inside = c.self.inside in
    let old = view_of inside in
    let ends_there : ends inside.rest.items c.args.byte ≡ true = sym (c.if-push.ensures.ends inside.rest.items c.self.invariant.place) in
    let after : Moment = record { state = c.answer.new.state; meter = c.answer.new.meter; options = inside.options } in
    let answers = answered_here old c.deref.result.now c.start.new.self after c.in-Ok.answered c.start.ensures c.deref.ensures.value
    c.in-Ok.ensures.ok in
    let refused = refused_at_end old c.args.byte c.answer.new.state c.answer.new.meter NoMemory c.if-self-ge-SCRIPT_MAX.false ends_there
    (c.in-Ok.ensures.shown c.in_err-append_to.ensures.err.1)
    (no_room_for (started (moment_of old)) inside.rest.items _ c.in-Ok.answered answers)
    (IsKept-charged (record inside.meter { units = 0 }) c.answer.new.meter answers.meter) in
    refused_by c.from_residual-in_err-append_to.result _ NoMemory (search rules) (
      c.in_err-append_to.ensures.err.0,
      subst (λ (v : View). IsRefusedAt v c.args.byte NoMemory (record old { state = c.answer.new.state; meter = c.answer.new.meter }))
          c.self.view_is refused,
    )

-- memory ended for the room of a fault
pub returns-in_err-room_for_fault-clause-err : goal.returns-in_err-room_for_fault-clause-err
returns-in_err-room_for_fault-clause-err c =
    let inside = c.self.inside in
    let old = view_of inside in
    let ends_there : ends inside.rest.items c.args.byte ≡ true = sym (c.if-push.ensures.ends inside.rest.items c.self.invariant.place) in
    let begun : c.start.new.self ≡ record inside.meter { units = 0 } = c.start.ensures in
    let charged : IsCharged (record inside.meter { units = 0 }) c.start.new.self = IsCharged_refl
    (record inside.meter { units = 0 }) c.start.new.self begun in
    let refused = refused_at_end old c.args.byte inside.state c.start.new.self NoMemory c.if-self-ge-SCRIPT_MAX.false ends_there refl
    (charged, λ none. begun) (IsKept-charged (record inside.meter { units = 0 }) c.start.new.self charged) in
    refused_by c.from_residual.result _ NoMemory (search rules) (
      refl,
      subst (λ (v : View). IsRefusedAt v c.args.byte NoMemory (record old { meter = c.start.new.self })) c.self.view_is refused,
    )

pub invariant_of-self-then-push : goal.invariant_of-self-then-push
invariant_of-self-then-push c =
    let none = c.clear.ensures.items in
    record {
      open_rest = subst IsOpen (sym none) open_nil;
      place = subst (λ (l : List ℕ). IsAt c.push.new.self l) (sym none)
          (c.if-push.ensures.part c.self.inside.rest.items c.self.invariant.place);
      held = omega (arith, ap length none);
      short = omega (arith, ap length none);
      within = omega (arith, c.if-self-ge-SCRIPT_MAX.false);
      passed = omega (arith, c.self.invariant.passed, ap (λ (n : Counts). n.statements) c.plus-grown.ensures.sum);
      counts = c.plus-grown.ensures.counts;
      fits = c.answer.ensures.fits;
      settled = c.answer.ensures.settled;
    }

pub returns-then-push-clause-ok : goal.returns-then-push-clause-ok
returns-then-push-clause-ok c =
    let inside = c.self.inside in
    let old = view_of inside in
    let rest = inside.rest.items in
    let sound = ap (λ (v : View). v.fault) c.self.view_is ∙ c.requires in
    let ready = sound_ready inside c.self.invariant sound in
    let answer = c.in-Ok.answered in
    let ends_there : ends rest c.args.byte ≡ true = sym (c.if-push.ensures.ends rest c.self.invariant.place) in
    let after : Moment = record { state = c.answer.new.state; meter = c.answer.new.meter; options = inside.options } in
    let step = answered_here old c.deref.result.now c.start.new.self after answer c.start.ensures c.deref.ensures.value
    c.in-Ok.ensures.ok in
    let new : View = record {
      state = c.answer.new.state;
      rest = c.clear.new.self.items;
      room = vec_capacity c.clear.new.self;
      taken = inside.taken + 1;
      counts = c.plus-grown.result;
      skips = inside.skips;
      first = inside.first;
      fault = inside.fault;
      meter = c.answer.new.meter;
      options = inside.options;
    } in
    let counts = c.plus-grown.ensures.sum ∙ counted-one inside.counts answer in
    let fed = fed_end old ready c.args.byte new c.if-self-ge-SCRIPT_MAX.false refl sound
    (omega (arith, c.clear.ensures.capacity)) refl answer ends_there step c.clear.ensures.items counts refl refl in (
      answered answer ∷ [],
      c.in_ok-append_to.ensures.ok ∙ ap (λ (l : List ℕ). c.args.text.now.items ++ l) (sym (append-nil answer.bytes)),
      subst (λ (v : View). Fed v (c.args.byte ∷ []) (answered answer ∷ []) new) c.self.view_is fed,
      omega arith,
      refl,
      λ bad. absurd (let no : ⊥ = cc in no),
    )

pub invariant_of-self-2 : goal.invariant_of-self-2
invariant_of-self-2 c =
    let rest = c.self.inside.rest.items in
    let grown = c.in_ok-push.ensures.items in
    let held : ends rest c.args.byte ≡ false = sym (c.if-push.ensures.ends rest c.self.invariant.place) in
    record {
      open_rest = subst IsOpen (sym grown) (open_push rest c.args.byte c.self.invariant.open_rest held);
      place = subst (λ (l : List ℕ). IsAt c.push.new.self l) (sym grown) (c.if-push.ensures.part rest c.self.invariant.place);
      held = omega (arith, ap length grown, length_push rest c.args.byte, c.self.invariant.held);
      short = omega (arith, ap length grown, length_push rest c.args.byte, c.if-len-ge-STATEMENT_MAX.false, c.len.ensures);
      within = omega (arith, c.if-self-ge-SCRIPT_MAX.false);
      passed = omega (arith, c.self.invariant.passed);
      counts = c.self.invariant.counts;
      fits = c.self.invariant.fits;
      settled = c.self.invariant.settled;
    }

pub returns-clause-ok : goal.returns-clause-ok
returns-clause-ok c =
    let inside = c.self.inside in
    let old = view_of inside in
    let rest = inside.rest.items in
    let sound = ap (λ (v : View). v.fault) c.self.view_is ∙ c.requires in
    let ready = sound_ready inside c.self.invariant sound in
    let held : ends rest c.args.byte ≡ false = sym (c.if-push.ensures.ends rest c.self.invariant.place) in
    let new : View = record {
      state = inside.state;
      rest = c.push-2.new.self.items;
      room = vec_capacity c.push-2.new.self;
      taken = inside.taken + 1;
      counts = inside.counts;
      skips = inside.skips;
      first = inside.first;
      fault = inside.fault;
      meter = inside.meter;
      options = inside.options;
    } in
    let fed = fed_held old ready c.args.byte new c.if-self-ge-SCRIPT_MAX.false refl sound
    (omega (arith, c.in_ok-push.ensures.capacity)) refl held c.in_ok-push.ensures.items refl refl refl refl
    (omega (arith, ap length c.in_ok-push.ensures.items, length_push rest c.args.byte, c.if-len-ge-STATEMENT_MAX.false, c.len.ensures)) in (
      [],
      sym (append-nil c.args.text.now.items),
      subst (λ (v : View). Fed v (c.args.byte ∷ []) [] new) c.self.view_is fed,
      omega arith,
      refl,
      λ is. refl,
    )
