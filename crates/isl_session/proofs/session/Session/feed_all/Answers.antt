use Rattle.std.proofs.Common.{◌≡◌, [], ◌++◌, ◌∙◌, List, ℕ, arith, ap, take, drop, length, sym, subst}
use Rattle.std.proofs.lemmas.List.{append-nil, append_assoc, length-drop, take-append-drop, take_rest}
use Rattle.isl_session.specs.declared.fault.Fault.{Fault}
use Rattle.isl_session.specs.Outcome.{Outcome, faults_from, text_of}
use Rattle.isl_session.specs.View.{View, Fed, Stopped, passed}
use Rattle.isl_session.specs.Session.{view_of}
use Rattle.isl_session.proofs.KnownLemmas.{take_join}
use Rattle.isl_session.proofs.FedLemmas.{ready_fed, fed_ready, if_none, no_faults_yet}
use Rattle.isl_session.proofs.SoundLemmas.{sound_ready}
use Rattle.isl_session.proofs.OutcomeLemmas.{faults_from-append, text_of-append}
use Rattle.isl_session.proofs.RunLemmas.{Fed-append, fed_passed}
use Rattle.isl_session.proofs.HaltLemmas.{Stopped-append}
use Rattle.isl_session.proofs.CompleteLemmas.{complete_piece}
use Rattle.isl_session.proofs.RoomLemmas.{is_not_stopped}
use Rattle.isl_session.proofs.session.Session.feed_all.Goals as goal

pub loop-at-init : goal.loop-at-init
loop-at-init c = (
  [],
  sym (append-nil c.args.text.now.items),
  no_faults_yet c.args.skipped.now.items (passed c.args.self.now),
  subst (λ (v : View). Fed v [] [] v) c.self.view_is (ready_fed (view_of c.self.inside)
      (sound_ready c.self.inside c.self.invariant c.in_default.is)),
  omega arith,
)

pub take_front-requires : goal.take_front-requires
take_front-requires c =
    let so_far = c.loop-at.invariant in
    fed_ready c.args.self.now (take c.loop-at.at c.args.piece.now) so_far.0 c.loop-at.self so_far.3

pub loop-at-preserved : goal.loop-at-preserved
loop-at-preserved c =
    let so_far = c.loop-at.invariant in
    let xs = c.args.piece.now in
    let at = c.loop-at.at in
    let n = c.in-Ok.n in
    let ok = c.in-Ok.ensures.ok in
    let one = ok.2 in
    let old = c.args.self.now in
    let behind = take_rest xs at in
    let fed = subst (λ (l : List ℕ). Fed c.loop-at.self (take n l) one.0 c.take_front.new.self) behind one.3 in
    let now = fed_passed old (take at xs) so_far.0 c.loop-at.self so_far.3 in (
      so_far.0 ++ one.0,
      one.1 ∙ ap (λ (l : List ℕ). l ++ text_of one.0) so_far.1 ∙ append_assoc c.args.text.now.items (text_of so_far.0) (text_of one.0)
          ∙ ap (λ (l : List ℕ). c.args.text.now.items ++ l) (sym (text_of-append so_far.0 one.0)),
      one.2 ∙ ap (λ (l : List Fault). l ++ faults_from (passed c.loop-at.self) one.0) so_far.2
          ∙ append_assoc c.args.skipped.now.items (faults_from (passed old) so_far.0) (faults_from (passed c.loop-at.self) one.0)
          ∙ ap (λ (l : List Fault). c.args.skipped.now.items ++ l)
          (ap (λ (k : ℕ). faults_from (passed old) so_far.0 ++ faults_from k one.0) now
          ∙ sym (faults_from-append (passed old) so_far.0 one.0)),
      subst (λ (l : List ℕ). Fed old l (so_far.0 ++ one.0) c.take_front.new.self) (take_join at n xs)
          (Fed-append old (take at xs) so_far.0 c.loop-at.self (take n (drop at xs)) one.0 c.take_front.new.self so_far.3 fed),
      omega (arith, ok.0, ap length behind, length-drop at xs, so_far.4),
    )

-- the session stopped in the whole piece
stopped_in : (c : goal.In-Err) → Stopped c.args.self.now c.args.piece.now c.loop-at.invariant.0 c.take_front.new.self c.in-Err.fault
stopped_in c =
    let so_far = c.loop-at.invariant in
    let xs = c.args.piece.now in
    let at = c.loop-at.at in
    let stopped = subst (λ (l : List ℕ). Stopped c.loop-at.self l [] c.take_front.new.self c.in-Err.fault)
    (take_rest xs at) c.in-Err.ensures.err.2 in
    let whole : take at xs ++ (drop at xs ++ []) ≡ xs = ap (λ (l : List ℕ). take at xs ++ l) (append-nil (drop at xs))
    ∙ take-append-drop at xs in
    subst (λ (l : List Outcome). Stopped c.args.self.now xs l c.take_front.new.self c.in-Err.fault) (append-nil so_far.0)
    (subst (λ (l : List ℕ). Stopped c.args.self.now l (so_far.0 ++ []) c.take_front.new.self c.in-Err.fault) whole
    (Stopped-append c.args.self.now (take at xs) so_far.0 c.loop-at.self
    (drop at xs) [] [] c.take_front.new.self c.in-Err.fault so_far.3 stopped))

pub returns-in-Err-clause-fed : goal.returns-in-Err-clause-fed
returns-in-Err-clause-fed c =
    let so_far = c.loop-at.invariant in
    if_none c.args.self.now.fault
    (so_far.0, c.in-Err.ensures.err.0 ∙ so_far.1, c.in-Err.ensures.err.1 ∙ so_far.2, stopped_in c)

pub returns-in-Err-clause-complete : goal.returns-in-Err-clause-complete
returns-in-Err-clause-complete c =
    if_none c.args.self.now.fault (λ valid short within no_overflow no_spent.
    complete_piece c.args.self.now c.args.piece.now c.loop-at.invariant.0 c.take_front.new.self c.in-Err.fault
    (stopped_in c) valid short within no_overflow no_spent)

pub returns-in-Err-clause-room : goal.returns-in-Err-clause-room
returns-in-Err-clause-room c =
    if_none c.args.self.now.fault (λ room. absurd
    (is_not_stopped c.args.self.now c.args.piece.now c.loop-at.invariant.0 c.take_front.new.self c.in-Err.fault (stopped_in c) room))

pub returns-in-Err-clause-room_kept : goal.returns-in-Err-clause-room_kept
returns-in-Err-clause-room_kept c =
    let stopped = stopped_in c in
    omega (arith, stopped.fed.room, stopped.room)
