use Rattle.std.proofs.Common.{◌≡◌, ◌≤◌, [], ◌++◌, ◌∙◌, List, ℕ, Option, arith, ap, take, drop, length, map, refl, sym, subst}
use Rattle.std.specs.List.{concat}
use Rattle.std.specs.Io.KnownBytes.{Appends}
use Rattle.std.proofs.KnownBytes.{Appends-nil, Appends-trans}
use Rattle.std.proofs.lemmas.List.{append-nil, append_assoc, length-drop, take-append-drop, take_rest}
use Rattle.isl_math.specs.Count.{Rose}
use Rattle.isl_math.proofs.CountLaws.{rose_since}
use Rattle.isl_session.specs.declared.fault.Fault.{Fault}
use Rattle.isl_session.specs.Lines.{fault_line}
use Rattle.isl_session.specs.Outcome.{Outcome, faults_from, lines_from, text_of}
use Rattle.isl_refusal.specs.Refusal.{place_of}
use Rattle.isl_session.specs.View.{View, Fed, Stopped, passed}
use Rattle.isl_session.specs.Run.{Halts, Told}
use Rattle.isl_session.proofs.KnownLemmas.{take_join, text_added}
use Rattle.isl_session.proofs.FedLemmas.{ready_fed, fed_ready}
use Rattle.isl_session.proofs.OutcomeLemmas.{text_of-append}
use Rattle.isl_session.proofs.RunLemmas.{Fed-append}
use Rattle.isl_session.proofs.HaltLemmas.{halts_on, halts_stopped, CutShort-append, cut_one}
use Rattle.isl_session.proofs.ToldLemmas.{faults_none, first_before, lines_of_list, lines_on, told_nothing}
use Rattle.isl_session.proofs.script.answer_piece.Goals as goal

pub loop-at-init : goal.loop-at-init
loop-at-init g c = (
  [],
  Appends-nil (g.K.Sink.written c.args.out.now),
  ready_fed c.args.session.now c.requires,
  refl,
  omega arith,
  told_nothing (g.E.Sink.written c.args.err.now) (g.E.Sink.faults c.args.err.now) (passed c.args.session.now),
  omega arith,
  λ none. (none, refl),
)

pub take_front-requires : goal.take_front-requires
take_front-requires g c =
    let so_far = c.loop-at.invariant in
    fed_ready c.args.session.now (take c.loop-at.at c.args.piece.now) so_far.0 c.loop-at.session so_far.2

pub returns-in-Err-clause-err : goal.returns-in-Err-clause-err
returns-in-Err-clause-err g c =
    let so_far = c.loop-at.invariant in
    let xs = c.args.piece.now in
    let at = c.loop-at.at in
    let fault = c.in-Err.fault in
    let new = c.take_front.new.self in
    let writes = Rose (g.K.Sink.faults c.args.out.now) (g.K.Sink.faults c.loop-at.out) in
    let stopped = subst (λ (l : List ℕ). Stopped c.loop-at.session l [] new fault) (take_rest xs at) c.in-Err.ensures.err.2 in
    let whole : take at xs ++ (drop at xs ++ []) ≡ xs = ap (λ (l : List ℕ). take at xs ++ l) (append-nil (drop at xs))
    ∙ take-append-drop at xs in
    let told = g.E.Sink.written in
    let tells = g.E.Sink.faults in
    let lines = lines_from (passed c.args.session.now) in (
      so_far.0 ++ [],
      text_of so_far.0 ++ [],
      subst (λ (l : List ℕ). Appends (g.K.Sink.written c.args.out.now) (g.K.Sink.written c.loop-at.out) l)
          (sym (append-nil (text_of so_far.0))) so_far.1,
      subst (λ (l : List Outcome). Told (told c.args.err.now) (tells c.args.err.now) (told c.loop-at.err) (tells c.loop-at.err) (lines l))
          (sym (append-nil so_far.0)) so_far.5,
      subst (λ (l : List ℕ). Halts ⊥ writes ⊥ c.args.session.now l (so_far.0 ++ []) (text_of so_far.0 ++ []) new fault
          (place_of fault.refusal)) whole
          (halts_on ⊥ writes ⊥ ⊥ (λ no. absurd no) c.args.session.now (take at xs) so_far.0 c.loop-at.session
          (drop at xs) [] [] [] new fault so_far.2 (place_of fault.refusal)
          (halts_stopped ⊥ ⊥ ⊥ c.loop-at.session (drop at xs) [] [] new fault refl stopped)),
    )

pub returns-in-Err-clause-quiet : goal.returns-in-Err-clause-quiet
returns-in-Err-clause-quiet g c none =
    let so_far = c.loop-at.invariant in
    let stopped = c.in-Err.ensures.err.2 in
    let same : c.take_front.new.self.first ≡ stopped.at_front.first = ap (λ (v : View). v.first) stopped.same in
    so_far.7 (first_before c.loop-at.session stopped.front [] stopped.at_front stopped.fed (sym same ∙ none))

-- no fault was handed over
told_of_none : (given skipped before faults : List Fault) → given ≡ skipped → skipped ≡ before ++ faults → before ≡ [] → faults ≡ []
    → given ≡ []
told_of_none given skipped before faults same is none nothing =
    same ∙ is ∙ ap (λ (l : List Fault). before ++ l) nothing ∙ append-nil before ∙ none

-- what was told of the front's statements
told_front : (old at_front new : View) (x y : List ℕ) (ps qs : List Outcome) (fed : Fed old x ps at_front) (told_old : Option (List ℕ))
    (tells_old : ℕ) (told_front : Option (List ℕ)) (tells_front : ℕ) (told_new : Option (List ℕ)) (tells_new : ℕ)
    → tells_old ≤ tells_front → tells_front ≤ tells_new
    → Told told_old tells_old told_front tells_front (lines_from (passed old) ps)
    → (given skipped before : List Fault) → given ≡ skipped → skipped ≡ before ++ faults_from (passed at_front) qs → before ≡ []
    → Told told_front tells_front told_new tells_new (concat (map fault_line given))
    → Told told_old tells_old told_new tells_new (lines_from (passed old) (ps ++ qs))
told_front old at_front new x y ps qs fed told_old tells_old told_at tells_at told_new tells_new first second one given skipped before
    same is none two =
    lines_on old x ps at_front fed told_old tells_old told_at tells_at told_new tells_new first second one qs
    (subst (λ (l : List ℕ). Told told_at tells_at told_new tells_new l)
    (lines_of_list given (passed at_front) qs before (same ∙ is) none) two)

pub returns-in-Err-write_all-clause-err : goal.returns-in-Err-write_all-clause-err
returns-in-Err-write_all-clause-err g c =
    let so_far = c.loop-at.invariant in
    let xs = c.args.piece.now in
    let at = c.loop-at.at in
    let n = c.in-Ok.n in
    let one = c.in-Ok.ensures.ok.2 in
    let old = c.args.session.now in
    let new = c.take_front.new.self in
    let written = g.K.Sink.written in
    let faults = g.K.Sink.faults in
    let told = g.E.Sink.written in
    let tells = g.E.Sink.faults in
    let fed = subst (λ (l : List ℕ). Fed c.loop-at.session (take n l) one.0 new) (take_rest xs at) one.3 in
    let text : c.deref-in-loop-at.result.now ≡ text_of one.0 =
    text_added c.deref-in-loop-at.result.now c.take_front.new.text.items c.clear.new.self.items
    (text_of one.0) c.deref-in-loop-at.ensures.value one.1 c.clear.ensures.items in
    let cut = c.in-Err-write_all.ensures.err in
    let short = cut_one one.0 cut.0 one.4 (omega (arith, cut.1, ap length text)) in (
      so_far.0 ++ one.0,
      text_of so_far.0 ++ take cut.0 (text_of one.0),
      Appends-trans _ _ _ _ _ so_far.1
          (subst (λ (l : List ℕ). Appends (written c.loop-at.out) (written c.write_all.new.out) (take cut.0 l)) text cut.2),
      told_front old c.loop-at.session new (take at xs) (take n (drop at xs)) so_far.0 one.0 so_far.2 (told c.args.err.now)
          (tells c.args.err.now) (told c.loop-at.err) (tells c.loop-at.err) (told c.tell_all.new.err) (tells c.tell_all.new.err) so_far.6
          c.tell_all.ensures.no_fewer_faults so_far.5 c.deref.result.now c.take_front.new.skipped.items c.clear-in-loop-at.new.self.items
          c.deref.ensures.value one.2 c.clear-in-loop-at.ensures.items c.tell_all.ensures.lines,
      (
        rose_since (faults c.args.out.now) (faults c.loop-at.out) (faults c.write_all.new.out)
            (omega (arith, so_far.3)) c.in-Err-write_all.ensures.fault,
        c.passed.ensures.count,
        (
          take at xs ++ take n (drop at xs),
          drop n (drop at xs),
          sym (append_assoc (take at xs) (take n (drop at xs)) (drop n (drop at xs))
              ∙ ap (λ (l : List ℕ). take at xs ++ l) (take-append-drop n (drop at xs)) ∙ take-append-drop at xs),
          CutShort-append so_far.0 one.0 (take cut.0 (text_of one.0)) short,
          Fed-append old (take at xs) so_far.0 c.loop-at.session (take n (drop at xs)) one.0 new so_far.2 fed,
        ),
      ),
    )

pub returns-in-Err-write_all-clause-no_fewer_tells : goal.returns-in-Err-write_all-clause-no_fewer_tells
returns-in-Err-write_all-clause-no_fewer_tells g c =
    let so_far = c.loop-at.invariant in
    omega (arith, so_far.6, c.tell_all.ensures.no_fewer_faults)

pub returns-in-Err-write_all-clause-quiet : goal.returns-in-Err-write_all-clause-quiet
returns-in-Err-write_all-clause-quiet g c none =
    let so_far = c.loop-at.invariant in
    let one = c.in-Ok.ensures.ok.2 in
    let new = c.take_front.new.self in
    let xs = c.args.piece.now in
    let fed = subst (λ (l : List ℕ). Fed c.loop-at.session (take c.in-Ok.n l) one.0 new) (take_rest xs c.loop-at.at) one.3 in
    let front = take c.in-Ok.n (drop c.loop-at.at xs) in
    let before = so_far.7 (first_before c.loop-at.session front one.0 new fed none) in (
      before.0,
      c.tell_all.ensures.none (told_of_none c.deref.result.now c.take_front.new.skipped.items c.clear-in-loop-at.new.self.items
          (faults_from (passed c.loop-at.session) one.0) c.deref.ensures.value one.2 c.clear-in-loop-at.ensures.items
          (faults_none c.loop-at.session front one.0 new fed none (passed c.loop-at.session)))
          ∙ before.1,
    )

pub loop-at-preserved : goal.loop-at-preserved
loop-at-preserved g c =
    let so_far = c.loop-at.invariant in
    let xs = c.args.piece.now in
    let at = c.loop-at.at in
    let n = c.in-Ok.n in
    let ok = c.in-Ok.ensures.ok in
    let one = ok.2 in
    let old = c.args.session.now in
    let new = c.take_front.new.self in
    let written = g.K.Sink.written in
    let told = g.E.Sink.written in
    let tells = g.E.Sink.faults in
    let fed = subst (λ (l : List ℕ). Fed c.loop-at.session (take n l) one.0 new) (take_rest xs at) one.3 in
    let text : c.deref-in-loop-at.result.now ≡ text_of one.0 =
    text_added c.deref-in-loop-at.result.now c.take_front.new.text.items c.clear.new.self.items
    (text_of one.0) c.deref-in-loop-at.ensures.value one.1 c.clear.ensures.items in
    let wrote = subst (λ (l : List ℕ). Appends (written c.loop-at.out) (written c.write_all.new.out) l) text c.in_default.ensures.ok in (
      so_far.0 ++ one.0,
      subst (λ (l : List ℕ). Appends (written c.args.out.now) (written c.write_all.new.out) l) (sym (text_of-append so_far.0 one.0))
          (Appends-trans _ _ _ _ _ so_far.1 wrote),
      subst (λ (l : List ℕ). Fed old l (so_far.0 ++ one.0) new) (take_join at n xs)
          (Fed-append old (take at xs) so_far.0 c.loop-at.session (take n (drop at xs)) one.0 new so_far.2 fed),
      c.in_default.ensures.kept ∙ so_far.3,
      omega (arith, ok.0, ap length (take_rest xs at), length-drop at xs, so_far.4),
      told_front old c.loop-at.session new (take at xs) (take n (drop at xs)) so_far.0 one.0 so_far.2 (told c.args.err.now)
          (tells c.args.err.now) (told c.loop-at.err) (tells c.loop-at.err) (told c.tell_all.new.err) (tells c.tell_all.new.err) so_far.6
          c.tell_all.ensures.no_fewer_faults so_far.5 c.deref.result.now c.take_front.new.skipped.items c.clear-in-loop-at.new.self.items
          c.deref.ensures.value one.2 c.clear-in-loop-at.ensures.items c.tell_all.ensures.lines,
      omega (arith, so_far.6, c.tell_all.ensures.no_fewer_faults),
      λ none.
          let before = so_far.7 (first_before c.loop-at.session (take n (drop at xs)) one.0 new fed none) in (
            before.0,
            c.tell_all.ensures.none (told_of_none c.deref.result.now c.take_front.new.skipped.items c.clear-in-loop-at.new.self.items
                (faults_from (passed c.loop-at.session) one.0) c.deref.ensures.value one.2 c.clear-in-loop-at.ensures.items
                (faults_none c.loop-at.session (take n (drop at xs)) one.0 new fed none (passed c.loop-at.session)))
                ∙ before.1,
          ),
    )
