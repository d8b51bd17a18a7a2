use Rattle.std.proofs.Common.{◌≡◌, ◌∙◌, List, ℕ, Option, None, ◌≤◌, ◌+◌, ◌++◌, Some, arith, ap, append-nil, length, refl, subst, sym}
use Rattle.std.proofs.Common.{true, false}
use Rattle.std.specs.Option.{option_or, is_some}
use Rattle.std.specs.Io.KnownBytes.{Consumes, IsAtEnd}
use Rattle.std.proofs.KnownBytes.{Appends-nil}
use Rattle.isl_math.specs.Count.{Rose}
use Rattle.isl_space.specs.Limits.{most_script_bytes}
use Rattle.isl_stencil.specs.Stencil.{stencil}
use Rattle.isl_refusal.specs.declared.refusal.Refusal.{Refusal}
use Rattle.isl_refusal.specs.declared.refusal.Refusal.TheVariants.{WriteFault}
use Rattle.isl_session.specs.Outcome.{first_skip, lines_from}
use Rattle.isl_refusal.specs.Refusal.{place_of}
use Rattle.isl_session.specs.View.{View, Fed, moment_of, opened, passed}
use Rattle.isl_session.specs.Run.{Halts, Told, outside}
use Rattle.isl_session.proofs.AnsweredLemmas.{answered_up_to, status_meter, status_refusal}
use Rattle.isl_session.proofs.HaltLemmas.{halts_first}
use Rattle.isl_session.proofs.ToldLemmas.{told_on}
use Rattle.isl_session.proofs.StencilLemmas.{summed, cut_short, refused, skipped_some}
use Rattle.isl_session.proofs.stencil.answer_stencil.Goals as goal

-- the session was refused: what it did with ends of its own, and then what that is of the program's ends
pub returns-in-Err-clause-answered : goal.returns-in-Err-clause-answered
returns-in-Err-clause-answered g c left reads =
    let err = c.in-Err.ensures.err in
    let run = c.run_session-outcome.new in
    let session = run.session in
    let fault = c.in-Err.fault in
    let script = stencil c.args.sizes in
    let told = g.E.Sink.written in
    let tells = g.E.Sink.faults in
    let before = outside (Some script) 0 None 0 (told c.args.err.now) (tells c.args.err.now) in
    let now = outside (Some run.src) 0 None 0 (told c.refuse.new.err) (tells c.refuse.new.err) in
    let took = subst (λ (l : List ℕ). Consumes (Some l) (Some run.src) err.0) c.new-script.ensures err.3 in
    let opened_is = c.requires.opened in
    let halts = subst (λ (v : View). Halts (Rose 0 0) (Rose 0 0) (IsAtEnd (Some run.src)) v err.0 err.1 err.2 session fault
    (place_of fault.refusal)) opened_is err.7 in
    let few : length err.0 ≤ most_script_bytes + 1 = omega (arith, err.4) in
    let stated : Option Refusal = option_or c.first_skip-first.result (Some fault.refusal) in
    let meter_is = status_meter c.refuse.result stated c.into_meter.result c.refuse.ensures.status session.meter c.into_meter.ensures in
    let lines = subst (λ (v : View). Told (told c.args.err.now) (tells c.args.err.now) (told run.err) (tells run.err)
    (lines_from (passed v) err.1)) opened_is err.6 in
    let all = told_on (told c.args.err.now) (tells c.args.err.now) (told run.err) (tells run.err) (told c.refuse.new.err)
    (tells c.refuse.new.err) (lines_from 0 err.1) _ c.run_session-outcome.ensures.no_fewer_tells c.refuse.ensures.no_fewer_tells lines
    c.refuse.ensures.line in
    let first : session.first ≡ first_skip err.1 = halts_first (Rose 0 0) (Rose 0 0) (IsAtEnd (Some run.src)) (moment_of c.args.session)
    err.0 err.1 err.2 session fault (place_of fault.refusal) halts in
    let run_is = answered_up_to (moment_of c.args.session) script before now c.refuse.result session meter_is err.0 run.src took refl
    took few
    err.2 tt fault.statement fault.refusal (λ other. refl) (λ other. refl) err.1
    (status_refusal c.refuse.result stated c.into_meter.result c.refuse.ensures.status
    ∙ ap (λ (o : Option Refusal). option_or o (Some fault.refusal)) (c.first_skip-first.ensures ∙ first)) all
    (place_of fault.refusal) refl (λ end. end) halts in
    refused (moment_of c.args.session) c.args.sizes c.requires.sizes (told c.args.err.now) (told c.refuse.new.err) (tells c.args.err.now)
    (tells c.refuse.new.err) run.src c.refuse.result run_is.0 fault.refusal
    (outside left reads (g.K.Sink.written c.args.out.now) (g.K.Sink.faults c.args.out.now) (told c.args.err.now) (tells c.args.err.now))
    (outside left reads (g.K.Sink.written c.args.out.now) (g.K.Sink.faults c.args.out.now) (told c.refuse.new.err) (tells c.refuse.new.err))
    (λ lines told_is. told_is) (Appends-nil (g.K.Sink.written c.args.out.now)) refl run_is.1

some_of : (o : Option Refusal) → true ≡ is_some o → (refusal : Refusal) × (o ≡ Some refusal)
some_of None is = absurd (let no : ⊥ = cc in no)
some_of (Some refusal) is = (refusal, refl)

none_of : (o : Option Refusal) → false ≡ is_some o → o ≡ None
none_of None is = refl
none_of (Some refusal) is = absurd (let no : ⊥ = cc in no)

-- the script was read to its end: what the session made of it, and what was told
pub returns-then-is_some-clause-answered : goal.returns-then-is_some-clause-answered
returns-then-is_some-clause-answered g c left reads =
    let ok = c.in_default.ensures.ok in
    let run = c.run_session-outcome.new in
    let session = run.session in
    let script = stencil c.args.sizes in
    let written = g.K.Sink.written in
    let writes = g.K.Sink.faults in
    let told = g.E.Sink.written in
    let tells = g.E.Sink.faults in
    let opened_is = c.requires.opened in
    let whole : ok.0 ≡ script = sym (append-nil ok.0) ∙ ap (λ (l : List ℕ). ok.0 ++ l) (sym ok.3) ∙ sym ok.2 ∙ c.new-script.ensures in
    let fed = subst (λ (l : List ℕ). Fed (opened (moment_of c.args.session)) l ok.1 session) whole
    (subst (λ (v : View). Fed v ok.0 ok.1 session) opened_is ok.6) in
    let lines = subst (λ (v : View). Told (told c.args.err.now) (tells c.args.err.now) (told run.err) (tells run.err)
    (lines_from (passed v) ok.1)) opened_is ok.5 in
    let before = outside left reads (written c.args.out.now) (writes c.args.out.now) (told c.args.err.now) (tells c.args.err.now) in
    let now = outside left reads (written c.args.out.now) (writes c.args.out.now) (told run.err) (tells run.err) in
    let first = c.first_skip-first.result in
    let meter_is = status_meter c.new.result first c.into_meter.result c.new.ensures session.meter c.into_meter.ensures in
    let some = some_of first c.if-is_some.ensures in
    skipped_some (moment_of c.args.session) script ok.1 session fed before now c.new.result meter_is some.0
    (sym c.first_skip-first.ensures ∙ some.1) (status_refusal c.new.result first c.into_meter.result c.new.ensures
    ∙ c.first_skip-first.ensures)
    (Appends-nil (written c.args.out.now)) lines refl

pub returns-in-Ok-clause-answered : goal.returns-in-Ok-clause-answered
returns-in-Ok-clause-answered g c left reads =
    let ok = c.in_default.ensures.ok in
    let run = c.run_session-outcome.new in
    let session = run.session in
    let script = stencil c.args.sizes in
    let written = g.K.Sink.written in
    let writes = g.K.Sink.faults in
    let told = g.E.Sink.written in
    let tells = g.E.Sink.faults in
    let opened_is = c.requires.opened in
    let whole : ok.0 ≡ script = sym (append-nil ok.0) ∙ ap (λ (l : List ℕ). ok.0 ++ l) (sym ok.3) ∙ sym ok.2 ∙ c.new-script.ensures in
    let fed = subst (λ (l : List ℕ). Fed (opened (moment_of c.args.session)) l ok.1 session) whole
    (subst (λ (v : View). Fed v ok.0 ok.1 session) opened_is ok.6) in
    let lines = subst (λ (v : View). Told (told c.args.err.now) (tells c.args.err.now) (told run.err) (tells run.err)
    (lines_from (passed v) ok.1)) opened_is ok.5 in
    let before = outside left reads (written c.args.out.now) (writes c.args.out.now) (told c.args.err.now) (tells c.args.err.now) in
    let out = c.write_summary.new.out in
    let now = outside left reads (written out) (writes out) (told run.err) (tells run.err) in
    let nothing : Option Refusal = None in
    let meter_is = status_meter c.new-in-Ok.result nothing c.into_meter.result c.new-in-Ok.ensures session.meter c.into_meter.ensures in
    let none = sym c.first_skip-first.ensures ∙ none_of c.first_skip-first.result c.if-is_some.ensures in
    summed (moment_of c.args.session) script ok.1 session fed before now c.new-in-Ok.result meter_is none
    (status_refusal c.new-in-Ok.result nothing c.into_meter.result c.new-in-Ok.ensures) c.counts-counts.result
    c.counts-counts.ensures.counts
    c.in-Ok.ensures.ok lines c.in-Ok.ensures.kept

pub returns-in-Err-write_summary-clause-answered : goal.returns-in-Err-write_summary-clause-answered
returns-in-Err-write_summary-clause-answered g c left reads =
    let ok = c.in_default.ensures.ok in
    let run = c.run_session-outcome.new in
    let session = run.session in
    let script = stencil c.args.sizes in
    let written = g.K.Sink.written in
    let writes = g.K.Sink.faults in
    let told = g.E.Sink.written in
    let tells = g.E.Sink.faults in
    let opened_is = c.requires.opened in
    let whole : ok.0 ≡ script = sym (append-nil ok.0) ∙ ap (λ (l : List ℕ). ok.0 ++ l) (sym ok.3) ∙ sym ok.2 ∙ c.new-script.ensures in
    let fed = subst (λ (l : List ℕ). Fed (opened (moment_of c.args.session)) l ok.1 session) whole
    (subst (λ (v : View). Fed v ok.0 ok.1 session) opened_is ok.6) in
    let lines = subst (λ (v : View). Told (told c.args.err.now) (tells c.args.err.now) (told run.err) (tells run.err)
    (lines_from (passed v) ok.1)) opened_is ok.5 in
    let before = outside left reads (written c.args.out.now) (writes c.args.out.now) (told c.args.err.now) (tells c.args.err.now) in
    let out = c.write_summary.new.out in
    let err = c.refuse-in-Err-write_summary.new.err in
    let refused = c.refuse-in-Err-write_summary.ensures in
    let status = c.refuse-in-Err-write_summary.result in
    let now = outside left reads (written out) (writes out) (told err) (tells err) in
    let stated : Option Refusal = Some WriteFault in
    let meter_is = status_meter status stated c.into_meter.result refused.status session.meter c.into_meter.ensures in
    let none = sym c.first_skip-first.ensures ∙ none_of c.first_skip-first.result c.if-is_some.ensures in
    let cut = c.in-Err-write_summary.ensures.err in
    let all = told_on (told c.args.err.now) (tells c.args.err.now) (told run.err) (tells run.err) (told err) (tells err)
    (lines_from 0 ok.1) _ c.run_session-outcome.ensures.no_fewer_tells refused.no_fewer_tells lines refused.line in
    cut_short (moment_of c.args.session) script ok.1 session fed before now status meter_is none
    (status_refusal status stated c.into_meter.result refused.status) c.counts-counts.result c.counts-counts.ensures.counts cut.0 cut.1
    cut.2
    c.in-Err-write_summary.ensures.fault all
