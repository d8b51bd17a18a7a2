use Rattle.std.proofs.Common.{◌≡◌, ◌∙◌, ◌≤◌, ◌+◌, Some, arith, ap, length, refl, sym, subst, Option}
use Rattle.std.specs.Option.{option_or}
use Rattle.std.specs.Io.KnownBytes.{IsAtEnd}
use Rattle.isl_math.specs.Count.{Rose}
use Rattle.isl_space.specs.Limits.{most_script_bytes}
use Rattle.isl_refusal.specs.declared.refusal.Refusal.{Refusal}
use Rattle.isl_session.specs.Outcome.{first_skip, lines_from, text_of}
use Rattle.isl_refusal.specs.Refusal.{place_of}
use Rattle.isl_session.specs.View.{View, Fed, moment_of, passed}
use Rattle.isl_session.specs.Run.{Halts, Told, outside}
use Rattle.isl_session.proofs.AheadLemmas.{script_of}
use Rattle.isl_session.proofs.AnsweredLemmas.{answered_whole, answered_up_to, status_meter, status_refusal}
use Rattle.isl_session.proofs.HaltLemmas.{halts_first}
use Rattle.isl_session.proofs.OutcomeLemmas.{option_or_none}
use Rattle.isl_session.proofs.ToldLemmas.{told_on}
use Rattle.isl_session.proofs.script.answer_script.Goals as goal

pub returns-in-Ok-clause-answered : goal.returns-in-Ok-clause-answered
returns-in-Ok-clause-answered g c =
    let ok = c.in-Ok.ensures.ok in
    let run = c.run_session-outcome.new in
    let session = run.session in
    let opened_is = c.requires.opened in
    let fed = subst (λ (v : View). Fed v ok.0 ok.1 session) opened_is ok.6 in
    let left = g.S.Source.left in
    let reads = g.S.Source.faults in
    let written = g.K.Sink.written in
    let writes = g.K.Sink.faults in
    let told = g.E.Sink.written in
    let tells = g.E.Sink.faults in
    let before = outside (left c.args.src.now) (reads c.args.src.now) (written c.args.out.now) (writes c.args.out.now) (told c.args.err.now)
    (tells c.args.err.now) in
    let now = outside (left run.src) (reads run.src) (written run.out) (writes run.out) (told run.err) (tells run.err) in
    let meter_is = status_meter c.new.result c.first_skip-first.result c.into_meter.result c.new.ensures session.meter
    c.into_meter.ensures in
    let lines = subst (λ (v : View). Told (told c.args.err.now) (tells c.args.err.now) (told run.err) (tells run.err)
    (lines_from (passed v) ok.1)) opened_is ok.5 in
    let first = c.first_skip-first.ensures ∙ fed.first ∙ sym (option_or_none (first_skip ok.1)) in
    let script = script_of (left c.args.src.now) (left run.src) ok.0 ok.2 in (
      script.0,
      answered_whole (moment_of c.args.session) script.0 before now c.new.result session meter_is ok.0 script.1 script.2 script.3 ok.2
          (omega (arith, fed.taken, fed.within)) (text_of ok.1) ok.4 (script.4 ok.3) ok.3 c.in-Ok.ensures.kept.0 c.in-Ok.ensures.kept.1 ok.1
          (status_refusal c.new.result c.first_skip-first.result c.into_meter.result c.new.ensures ∙ first) refl lines fed ok.7,
    )

pub returns-in-Err-clause-answered : goal.returns-in-Err-clause-answered
returns-in-Err-clause-answered g c =
    let err = c.in-Err.ensures.err in
    let run = c.run_session-outcome.new in
    let session = run.session in
    let fault = c.in-Err.fault in
    let opened_is = c.requires.opened in
    let left = g.S.Source.left in
    let reads = g.S.Source.faults in
    let written = g.K.Sink.written in
    let writes = g.K.Sink.faults in
    let told = g.E.Sink.written in
    let tells = g.E.Sink.faults in
    let before = outside (left c.args.src.now) (reads c.args.src.now) (written c.args.out.now) (writes c.args.out.now) (told c.args.err.now)
    (tells c.args.err.now) in
    let now = outside (left run.src) (reads run.src) (written run.out) (writes run.out) (told c.refuse.new.err) (tells c.refuse.new.err) in
    let read_failed = Rose (reads c.args.src.now) (reads run.src) in
    let write_failed = Rose (writes c.args.out.now) (writes run.out) in
    let halts = subst (λ (v : View). Halts read_failed write_failed (IsAtEnd (left run.src)) v err.0 err.1 err.2 session fault
    (place_of fault.refusal)) opened_is err.7 in
    let few : length err.0 ≤ most_script_bytes + 1 = omega (arith, err.4, ap (λ (v : View). v.taken) opened_is) in
    let stated : Option Refusal = option_or c.first_skip-first.result (Some fault.refusal) in
    let meter_is = status_meter c.refuse.result stated c.into_meter-in-Err.result c.refuse.ensures.status session.meter
    c.into_meter-in-Err.ensures in
    let lines = subst (λ (v : View). Told (told c.args.err.now) (tells c.args.err.now) (told run.err) (tells run.err)
    (lines_from (passed v) err.1)) opened_is err.6 in
    let all = told_on (told c.args.err.now) (tells c.args.err.now) (told run.err) (tells run.err) (told c.refuse.new.err)
    (tells c.refuse.new.err) (lines_from 0 err.1) _ c.run_session-outcome.ensures.no_fewer_tells c.refuse.ensures.no_fewer_tells lines
    c.refuse.ensures.line in
    let first : session.first ≡ first_skip err.1 = halts_first read_failed write_failed (IsAtEnd (left run.src)) (moment_of c.args.session)
    err.0 err.1 err.2 session fault (place_of fault.refusal) halts in
    let script = script_of (left c.args.src.now) (left run.src) err.0 err.3 in (
      script.0,
      (answered_up_to (moment_of c.args.session) script.0 before now c.refuse.result session meter_is err.0 script.1 script.2 script.3 err.3
          few err.2 err.5 fault.statement fault.refusal (λ other. c.in-Err.ensures.reads (λ is. other (ap Some is)))
          (λ other. c.in-Err.ensures.writes (λ is. other (ap Some is))) err.1
          (status_refusal c.refuse.result stated c.into_meter-in-Err.result c.refuse.ensures.status
          ∙ ap (λ (o : Option Refusal). option_or o (Some fault.refusal)) (c.first_skip-first.ensures ∙ first)) all
          (place_of fault.refusal) refl script.4 halts).0,
    )
