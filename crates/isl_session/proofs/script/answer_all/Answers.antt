use Rattle.std.proofs.Common.{◌∙◌, [], ◌++◌, List, ℕ, arith, take, refl, sym, subst}
use Rattle.std.specs.Io.KnownBytes.{Appends}
use Rattle.std.proofs.KnownBytes.{Appends-nil, Appends-trans, Consumes-nil, Consumes-trans}
use Rattle.std.proofs.lemmas.List.{append-nil, length-append, length-take}
use Rattle.isl_math.specs.Count.{Rose}
use Rattle.isl_math.proofs.CountLaws.{rose_since}
use Rattle.isl_session.specs.Outcome.{text_of}
use Rattle.isl_refusal.specs.Refusal.{place_of}
use Rattle.isl_session.specs.Run.{Halts}
use Rattle.isl_session.specs.View.{passed}
use Rattle.isl_session.proofs.FedLemmas.{ready_fed, fed_ready}
use Rattle.isl_session.proofs.OutcomeLemmas.{text_of-append}
use Rattle.isl_session.proofs.RunLemmas.{Fed-append}
use Rattle.isl_session.proofs.HaltLemmas.{halts_on}
use Rattle.isl_session.proofs.ToldLemmas.{lines_on, told_nothing}
use Rattle.isl_session.proofs.script.answer_all.Goals as goal

pub reads-init : goal.reads-init
reads-init g c = (
  [],
  [],
  Consumes-nil (g.S.Source.left c.args.src.now),
  Appends-nil (g.K.Sink.written c.args.out.now),
  ready_fed c.args.session.now c.requires.ready,
  refl,
  refl,
  told_nothing (g.E.Sink.written c.args.err.now) (g.E.Sink.faults c.args.err.now) (passed c.args.session.now),
  omega arith,
  λ none. (none, refl),
)

pub answer_piece-requires : goal.answer_piece-requires
answer_piece-requires g c =
    let so_far = c.reads.invariant in
    fed_ready c.args.session.now so_far.0 so_far.1 c.reads.session so_far.4

pub returns-in-Err-answer_piece-clause-err : goal.returns-in-Err-answer_piece-clause-err
returns-in-Err-answer_piece-clause-err g c =
    let so_far = c.reads.invariant in
    let piece = take c.in-Ok.n c.read.new.buf in
    let err = c.in-Err-answer_piece.ensures.err in
    let fault = c.in-Err-answer_piece.fault in
    let old = c.args.session.now in
    let new = c.answer_piece.new.session in
    let reads = g.S.Source.faults in
    let writes = g.K.Sink.faults in
    let told = g.E.Sink.written in
    let tells = g.E.Sink.faults in
    let read_failed = Rose (reads c.args.src.now) (reads c.read.new.self) in
    let write_failed = Rose (writes c.args.out.now) (writes c.answer_piece.new.out) in
    let failed_now = Rose (writes c.reads.out) (writes c.answer_piece.new.out) in
    let later = rose_since (writes c.args.out.now) (writes c.reads.out) (writes c.answer_piece.new.out) (omega (arith, so_far.6)) in
    let room = length-take c.room_for-room.result c.reads.buf in (
      so_far.0 ++ piece,
      so_far.1 ++ err.0,
      text_of so_far.1 ++ err.1,
      Consumes-trans _ _ _ _ _ so_far.2 c.in-Ok.ensures.bytes.0,
      omega (
        arith,
        length-append so_far.0 piece,
        length-take c.in-Ok.n c.read.new.buf,
        c.in-Ok.ensures.fits,
        c.read.auto.buf,
        room,
        so_far.4.taken,
        c.requires.first,
        c.taken.ensures.count,
        c.room_for-room.ensures.few,
        c.room_for-room.ensures.most,
      ),
      Appends-trans _ _ _ _ _ so_far.3 err.2,
      lines_on old so_far.0 so_far.1 c.reads.session so_far.4 (told c.args.err.now) (tells c.args.err.now) (told c.reads.err)
          (tells c.reads.err) (told c.answer_piece.new.err) (tells c.answer_piece.new.err) so_far.8
          c.answer_piece.ensures.no_fewer_tells so_far.7 err.0 err.3,
      subst (λ (l : List ℕ). Halts read_failed write_failed ⊥ old (so_far.0 ++ l) (so_far.1 ++ err.0) (text_of so_far.1 ++ err.1) new fault
          (place_of fault.refusal)) (append-nil piece)
          (halts_on read_failed write_failed ⊥ failed_now later old so_far.0 so_far.1 c.reads.session piece [] err.0 err.1 new fault
          so_far.4
          (place_of fault.refusal) err.4),
    )

pub returns-in-Err-answer_piece-clause-no_fewer_tells : goal.returns-in-Err-answer_piece-clause-no_fewer_tells
returns-in-Err-answer_piece-clause-no_fewer_tells g c =
    let so_far = c.reads.invariant in
    omega (arith, so_far.8, c.answer_piece.ensures.no_fewer_tells)

pub returns-in-Err-answer_piece-clause-quiet : goal.returns-in-Err-answer_piece-clause-quiet
returns-in-Err-answer_piece-clause-quiet g c none =
    let so_far = c.reads.invariant in
    let now = c.answer_piece.ensures.quiet none in
    let before = so_far.9 now.0 in
    (before.0, now.1 ∙ before.1)

pub reads-preserved : goal.reads-preserved
reads-preserved g c =
    let so_far = c.reads.invariant in
    let piece = take c.in-Ok.n c.read.new.buf in
    let ok = c.in_default.ensures.ok in
    let old = c.args.session.now in
    let written = g.K.Sink.written in
    let told = g.E.Sink.written in
    let tells = g.E.Sink.faults in (
      so_far.0 ++ piece,
      so_far.1 ++ ok.0,
      Consumes-trans _ _ _ _ _ so_far.2 c.in-Ok.ensures.bytes.0,
      subst (λ (l : List ℕ). Appends (written c.args.out.now) (written c.answer_piece.new.out) l) (sym (text_of-append so_far.1 ok.0))
          (Appends-trans _ _ _ _ _ so_far.3 ok.1),
      Fed-append old so_far.0 so_far.1 c.reads.session piece ok.0 c.answer_piece.new.session so_far.4 ok.3,
      c.in-Ok.ensures.kept ∙ so_far.5,
      c.in_default.ensures.kept ∙ so_far.6,
      lines_on old so_far.0 so_far.1 c.reads.session so_far.4 (told c.args.err.now) (tells c.args.err.now) (told c.reads.err)
          (tells c.reads.err) (told c.answer_piece.new.err) (tells c.answer_piece.new.err) so_far.8
          c.answer_piece.ensures.no_fewer_tells so_far.7 ok.0 ok.2,
      omega (arith, so_far.8, c.answer_piece.ensures.no_fewer_tells),
      λ none. let now = c.answer_piece.ensures.quiet none in let before = so_far.9 now.0 in (before.0, now.1 ∙ before.1),
    )
