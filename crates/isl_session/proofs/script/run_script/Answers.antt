use Rattle.isl_session.specs.Run.{Outside, outside}
use Rattle.isl_session.specs.View.{moment_of}
use Rattle.isl_session.proofs.StatusLemmas.{run_overflow, run_read, run_reads, run_session, run_spent, run_units, run_usage, run_write}
use Rattle.isl_session.proofs.StatusLemmas.{run_writes}
use Rattle.isl_session.proofs.script.run_script.Goals as goal

pub returns-clause-read_fault : goal.returns-clause-read_fault
returns-clause-read_fault g c =
    let before : Outside = outside (g.S.Source.left c.args.src.now) (g.S.Source.faults c.args.src.now) (g.K.Sink.written c.args.out.now)
    (g.K.Sink.faults c.args.out.now) (g.E.Sink.written c.args.err.now) (g.E.Sink.faults c.args.err.now) in
    let new = c.answer_script.new in
    let now : Outside = outside (g.S.Source.left new.src) (g.S.Source.faults new.src) (g.K.Sink.written new.out) (g.K.Sink.faults new.out)
    (g.E.Sink.written new.err) (g.E.Sink.faults new.err) in
    let run = c.answer_script.ensures.answered in
    run_read (moment_of c.args.session) run.0 before now c.answer_script.result run.1

pub returns-clause-write_fault : goal.returns-clause-write_fault
returns-clause-write_fault g c =
    let before : Outside = outside (g.S.Source.left c.args.src.now) (g.S.Source.faults c.args.src.now) (g.K.Sink.written c.args.out.now)
    (g.K.Sink.faults c.args.out.now) (g.E.Sink.written c.args.err.now) (g.E.Sink.faults c.args.err.now) in
    let new = c.answer_script.new in
    let now : Outside = outside (g.S.Source.left new.src) (g.S.Source.faults new.src) (g.K.Sink.written new.out) (g.K.Sink.faults new.out)
    (g.E.Sink.written new.err) (g.E.Sink.faults new.err) in
    let run = c.answer_script.ensures.answered in
    run_write (moment_of c.args.session) run.0 before now c.answer_script.result run.1

pub returns-clause-overflow : goal.returns-clause-overflow
returns-clause-overflow g c =
    let before : Outside = outside (g.S.Source.left c.args.src.now) (g.S.Source.faults c.args.src.now) (g.K.Sink.written c.args.out.now)
    (g.K.Sink.faults c.args.out.now) (g.E.Sink.written c.args.err.now) (g.E.Sink.faults c.args.err.now) in
    let new = c.answer_script.new in
    let now : Outside = outside (g.S.Source.left new.src) (g.S.Source.faults new.src) (g.K.Sink.written new.out) (g.K.Sink.faults new.out)
    (g.E.Sink.written new.err) (g.E.Sink.faults new.err) in
    let run = c.answer_script.ensures.answered in
    run_overflow (moment_of c.args.session) run.0 before now c.answer_script.result run.1

pub returns-clause-budget : goal.returns-clause-budget
returns-clause-budget g c =
    let before : Outside = outside (g.S.Source.left c.args.src.now) (g.S.Source.faults c.args.src.now) (g.K.Sink.written c.args.out.now)
    (g.K.Sink.faults c.args.out.now) (g.E.Sink.written c.args.err.now) (g.E.Sink.faults c.args.err.now) in
    let new = c.answer_script.new in
    let now : Outside = outside (g.S.Source.left new.src) (g.S.Source.faults new.src) (g.K.Sink.written new.out) (g.K.Sink.faults new.out)
    (g.E.Sink.written new.err) (g.E.Sink.faults new.err) in
    let run = c.answer_script.ensures.answered in
    run_spent (moment_of c.args.session) run.0 before now c.answer_script.result run.1

pub returns-clause-units : goal.returns-clause-units
returns-clause-units g c =
    let before : Outside = outside (g.S.Source.left c.args.src.now) (g.S.Source.faults c.args.src.now) (g.K.Sink.written c.args.out.now)
    (g.K.Sink.faults c.args.out.now) (g.E.Sink.written c.args.err.now) (g.E.Sink.faults c.args.err.now) in
    let new = c.answer_script.new in
    let now : Outside = outside (g.S.Source.left new.src) (g.S.Source.faults new.src) (g.K.Sink.written new.out) (g.K.Sink.faults new.out)
    (g.E.Sink.written new.err) (g.E.Sink.faults new.err) in
    let run = c.answer_script.ensures.answered in
    run_units (moment_of c.args.session) run.0 before now c.answer_script.result run.1

pub returns-clause-reads : goal.returns-clause-reads
returns-clause-reads g c =
    let before : Outside = outside (g.S.Source.left c.args.src.now) (g.S.Source.faults c.args.src.now) (g.K.Sink.written c.args.out.now)
    (g.K.Sink.faults c.args.out.now) (g.E.Sink.written c.args.err.now) (g.E.Sink.faults c.args.err.now) in
    let new = c.answer_script.new in
    let now : Outside = outside (g.S.Source.left new.src) (g.S.Source.faults new.src) (g.K.Sink.written new.out) (g.K.Sink.faults new.out)
    (g.E.Sink.written new.err) (g.E.Sink.faults new.err) in
    let run = c.answer_script.ensures.answered in
    run_reads (moment_of c.args.session) run.0 before now c.answer_script.result run.1

pub returns-clause-writes : goal.returns-clause-writes
returns-clause-writes g c =
    let before : Outside = outside (g.S.Source.left c.args.src.now) (g.S.Source.faults c.args.src.now) (g.K.Sink.written c.args.out.now)
    (g.K.Sink.faults c.args.out.now) (g.E.Sink.written c.args.err.now) (g.E.Sink.faults c.args.err.now) in
    let new = c.answer_script.new in
    let now : Outside = outside (g.S.Source.left new.src) (g.S.Source.faults new.src) (g.K.Sink.written new.out) (g.K.Sink.faults new.out)
    (g.E.Sink.written new.err) (g.E.Sink.faults new.err) in
    let run = c.answer_script.ensures.answered in
    run_writes (moment_of c.args.session) run.0 before now c.answer_script.result run.1

pub returns-clause-no_usage : goal.returns-clause-no_usage
returns-clause-no_usage g c =
    let before : Outside = outside (g.S.Source.left c.args.src.now) (g.S.Source.faults c.args.src.now) (g.K.Sink.written c.args.out.now)
    (g.K.Sink.faults c.args.out.now) (g.E.Sink.written c.args.err.now) (g.E.Sink.faults c.args.err.now) in
    let new = c.answer_script.new in
    let now : Outside = outside (g.S.Source.left new.src) (g.S.Source.faults new.src) (g.K.Sink.written new.out) (g.K.Sink.faults new.out)
    (g.E.Sink.written new.err) (g.E.Sink.faults new.err) in
    let run = c.answer_script.ensures.answered in
    run_usage (moment_of c.args.session) run.0 before now c.answer_script.result run.1

pub returns-clause-session : goal.returns-clause-session
returns-clause-session g c =
    let before : Outside = outside (g.S.Source.left c.args.src.now) (g.S.Source.faults c.args.src.now) (g.K.Sink.written c.args.out.now)
    (g.K.Sink.faults c.args.out.now) (g.E.Sink.written c.args.err.now) (g.E.Sink.faults c.args.err.now) in
    let new = c.answer_script.new in
    let now : Outside = outside (g.S.Source.left new.src) (g.S.Source.faults new.src) (g.K.Sink.written new.out) (g.K.Sink.faults new.out)
    (g.E.Sink.written new.err) (g.E.Sink.faults new.err) in
    let run = c.answer_script.ensures.answered in
    run_session (moment_of c.args.session) run.0 before now c.answer_script.result run.1
