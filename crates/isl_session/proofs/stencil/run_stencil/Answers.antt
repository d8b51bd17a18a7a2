use Rattle.std.proofs.Common.{None}
use Rattle.isl_stencil.specs.Stencil.{stencil}
use Rattle.isl_session.specs.Run.{Outside, outside}
use Rattle.isl_session.specs.View.{moment_of}
use Rattle.isl_session.proofs.StatusLemmas.{made_overflow, made_read, made_session, made_spent, made_units, made_usage, made_write}
use Rattle.isl_session.proofs.StatusLemmas.{made_writes}
use Rattle.isl_session.proofs.stencil.run_stencil.Goals as goal

pub returns-clause-write_fault : goal.returns-clause-write_fault
returns-clause-write_fault g c =
    let before : Outside = outside None 0 (g.K.Sink.written c.args.out.now) (g.K.Sink.faults c.args.out.now)
    (g.E.Sink.written c.args.err.now) (g.E.Sink.faults c.args.err.now) in
    let new = c.answer_stencil.new in
    let now : Outside = outside None 0 (g.K.Sink.written new.out) (g.K.Sink.faults new.out) (g.E.Sink.written new.err)
    (g.E.Sink.faults new.err) in
    made_write (moment_of c.args.session) (stencil c.args.sizes) before now c.answer_stencil.result
    (c.answer_stencil.ensures.answered None 0)

pub returns-clause-overflow : goal.returns-clause-overflow
returns-clause-overflow g c =
    let before : Outside = outside None 0 (g.K.Sink.written c.args.out.now) (g.K.Sink.faults c.args.out.now)
    (g.E.Sink.written c.args.err.now) (g.E.Sink.faults c.args.err.now) in
    let new = c.answer_stencil.new in
    let now : Outside = outside None 0 (g.K.Sink.written new.out) (g.K.Sink.faults new.out) (g.E.Sink.written new.err)
    (g.E.Sink.faults new.err) in
    made_overflow (moment_of c.args.session) (stencil c.args.sizes) before now c.answer_stencil.result
    (c.answer_stencil.ensures.answered None 0)

pub returns-clause-budget : goal.returns-clause-budget
returns-clause-budget g c =
    let before : Outside = outside None 0 (g.K.Sink.written c.args.out.now) (g.K.Sink.faults c.args.out.now)
    (g.E.Sink.written c.args.err.now) (g.E.Sink.faults c.args.err.now) in
    let new = c.answer_stencil.new in
    let now : Outside = outside None 0 (g.K.Sink.written new.out) (g.K.Sink.faults new.out) (g.E.Sink.written new.err)
    (g.E.Sink.faults new.err) in
    made_spent (moment_of c.args.session) (stencil c.args.sizes) before now c.answer_stencil.result
    (c.answer_stencil.ensures.answered None 0)

pub returns-clause-units : goal.returns-clause-units
returns-clause-units g c =
    let before : Outside = outside None 0 (g.K.Sink.written c.args.out.now) (g.K.Sink.faults c.args.out.now)
    (g.E.Sink.written c.args.err.now) (g.E.Sink.faults c.args.err.now) in
    let new = c.answer_stencil.new in
    let now : Outside = outside None 0 (g.K.Sink.written new.out) (g.K.Sink.faults new.out) (g.E.Sink.written new.err)
    (g.E.Sink.faults new.err) in
    made_units (moment_of c.args.session) (stencil c.args.sizes) before now c.answer_stencil.result
    (c.answer_stencil.ensures.answered None 0)

pub returns-clause-writes : goal.returns-clause-writes
returns-clause-writes g c =
    let before : Outside = outside None 0 (g.K.Sink.written c.args.out.now) (g.K.Sink.faults c.args.out.now)
    (g.E.Sink.written c.args.err.now) (g.E.Sink.faults c.args.err.now) in
    let new = c.answer_stencil.new in
    let now : Outside = outside None 0 (g.K.Sink.written new.out) (g.K.Sink.faults new.out) (g.E.Sink.written new.err)
    (g.E.Sink.faults new.err) in
    made_writes (moment_of c.args.session) (stencil c.args.sizes) before now c.answer_stencil.result
    (c.answer_stencil.ensures.answered None 0)

pub returns-clause-no_read : goal.returns-clause-no_read
returns-clause-no_read g c =
    let before : Outside = outside None 0 (g.K.Sink.written c.args.out.now) (g.K.Sink.faults c.args.out.now)
    (g.E.Sink.written c.args.err.now) (g.E.Sink.faults c.args.err.now) in
    let new = c.answer_stencil.new in
    let now : Outside = outside None 0 (g.K.Sink.written new.out) (g.K.Sink.faults new.out) (g.E.Sink.written new.err)
    (g.E.Sink.faults new.err) in
    made_read (moment_of c.args.session) (stencil c.args.sizes) before now c.answer_stencil.result
    (c.answer_stencil.ensures.answered None 0)

pub returns-clause-no_usage : goal.returns-clause-no_usage
returns-clause-no_usage g c =
    let before : Outside = outside None 0 (g.K.Sink.written c.args.out.now) (g.K.Sink.faults c.args.out.now)
    (g.E.Sink.written c.args.err.now) (g.E.Sink.faults c.args.err.now) in
    let new = c.answer_stencil.new in
    let now : Outside = outside None 0 (g.K.Sink.written new.out) (g.K.Sink.faults new.out) (g.E.Sink.written new.err)
    (g.E.Sink.faults new.err) in
    made_usage (moment_of c.args.session) (stencil c.args.sizes) before now c.answer_stencil.result
    (c.answer_stencil.ensures.answered None 0)

pub returns-clause-session : goal.returns-clause-session
returns-clause-session g c =
    let before : Outside = outside None 0 (g.K.Sink.written c.args.out.now) (g.K.Sink.faults c.args.out.now)
    (g.E.Sink.written c.args.err.now) (g.E.Sink.faults c.args.err.now) in
    let new = c.answer_stencil.new in
    let now : Outside = outside None 0 (g.K.Sink.written new.out) (g.K.Sink.faults new.out) (g.E.Sink.written new.err)
    (g.E.Sink.faults new.err) in
    made_session (moment_of c.args.session) (stencil c.args.sizes) before now c.answer_stencil.result
    (c.answer_stencil.ensures.answered None 0)
