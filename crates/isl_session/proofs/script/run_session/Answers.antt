use Rattle.std.proofs.Common.{arith, Result, Ok, Err}
use Rattle.std.specs.Prelude.{IfErr, MatchResult}
use Rattle.std.specs.Io.KnownBytes.{IsAtEnd}
use Rattle.isl_math.specs.Count.{Rose}
use Rattle.isl_session.specs.Outcome.{text_of}
use Rattle.isl_refusal.specs.Refusal.{place_of}
use Rattle.isl_session.proofs.FedLemmas.{at_none}
use Rattle.isl_session.proofs.HaltLemmas.{halts_wider, halts_finished}
use Rattle.isl_session.proofs.script.run_session.Goals as goal

pub returns-in-Err-clause-err : goal.returns-in-Err-clause-err
returns-in-Err-clause-err g c =
    let err = c.in-Err.ensures.err in
    let new = c.answer_all.new in
    let fault = c.in-Err.fault in
    let reads = g.S.Source.faults in
    let writes = g.K.Sink.faults in (
      err.0,
      err.1,
      err.2,
      err.3,
      err.4,
      err.5,
      err.6,
      halts_wider (Rose (reads c.args.src.now) (reads new.src)) (Rose (writes c.args.out.now) (writes new.out))
          (IsAtEnd (g.S.Source.left new.src)) c.args.session.now err.0 err.1 err.2 new.session fault (place_of fault.refusal) err.7,
    )

err_from : {T E : Type 0} (r : Result T E) (A : T → Type 0) (P Q : E → Type 0) → ((e : E) → P e → Q e) → MatchResult r A P → IfErr r Q
err_from (Ok x) A P Q on h = tt
err_from (Err e) A P Q on h = on e h

pub returns-clause-err : goal.returns-clause-err
returns-clause-err g c =
    let ok = c.in_default.ensures.ok in
    let new = c.answer_all.new in
    let reads = g.S.Source.faults in
    let writes = g.K.Sink.faults in
    err_from c.finish.result _ _ _ (λ fault h. (
      ok.0,
      ok.1,
      text_of ok.1,
      ok.2,
      omega (arith, ok.6.taken, ok.6.within),
      ok.4,
      ok.5,
      halts_finished (Rose (reads c.args.src.now) (reads new.src)) (Rose (writes c.args.out.now) (writes new.out))
          (IsAtEnd (g.S.Source.left new.src)) c.args.session.now ok.0 ok.1 new.session c.finish.new.self fault ok.6 ok.3 h.0 h.1 h.2,
    )) (at_none new.session.fault ok.6.sound c.finish.ensures.finished)
