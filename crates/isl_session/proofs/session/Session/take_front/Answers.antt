use Rattle.std.proofs.Common.{◌≡◌, Bool, if◌then◌else◌, ◌+◌, ◌∷◌, [], ◌++◌, ◌∙◌, List, ℕ, Some, arith, ap, take, drop, get_or, length, sym}
use Rattle.std.proofs.Common.{subst, refl}
use Rattle.std.proofs.lemmas.List.{append-nil, take_all, take_more, drop_more, take-append-drop}
use Rattle.isl_meter.specs.Gauge.{Gauge}
use Rattle.isl_refusal.specs.declared.refusal.Refusal.{Refusal}
use Rattle.isl_session.specs.declared.fault.Fault.{Fault}
use Rattle.isl_refusal.specs.Refusal.{place_of}
use Rattle.isl_words.specs.Options.{OptionsView}
use Rattle.isl_session.specs.Outcome.{Outcome, skipped, EndsRun, faults_from, skips_of, text_of}
use Rattle.isl_session.specs.View.{View, Fed, BreaksIn, IsMeterAt, passed}
use Rattle.isl_session.proofs.OutcomeLemmas.{no_faults}
use Rattle.isl_session.proofs.RunLemmas.{Fed-append, fed_passed}
use Rattle.isl_session.proofs.FedLemmas.{ready_fed, fed_ready, skip_byte}
use Rattle.isl_session.proofs.session.Session.take_front.Goals as goal

-- nothing is told of what was not skipped
nothing_told : (now before : List Fault) (n : ℕ) (outcomes : List Outcome) → now ≡ before → skips_of outcomes ≡ []
    → now ≡ before ++ faults_from n outcomes
nothing_told now before n outcomes same none =
    same ∙ sym (append-nil before) ∙ ap (λ (l : List Fault). before ++ l) (sym (no_faults n outcomes none))

pub loop-i-init : goal.loop-i-init
loop-i-init c = record { same = refl; kept = refl; fed = ready_fed c.args.self.now c.requires }

pub returns-in-Ok-true-clause-ok : goal.returns-in-Ok-true-clause-ok
returns-in-Ok-true-clause-ok c =
    let xs = c.args.piece.now in
    let i = c.loop-i.i in
    let one = c.in-Ok-true.ensures.ok in (
      omega arith,
      λ some. omega arith,
      (
        one.0,
        one.1 ∙ ap (λ (l : List ℕ). l ++ text_of one.0) c.loop-i.invariant.same,
        nothing_told c.take_byte.new.skipped.items c.args.skipped.now.items (passed c.args.self.now) one.0
            (c.in-Ok-true.ensures.skipped ∙ c.loop-i.invariant.kept) one.4,
        subst (λ (l : List ℕ). Fed c.args.self.now l one.0 c.take_byte.new.self) (sym (take_more xs i 0 c.loop-i-test.true))
            (Fed-append c.args.self.now (take i xs) [] c.loop-i.self
            (get_or xs i 0 ∷ []) one.0 c.take_byte.new.self c.loop-i.invariant.fed one.2),
        one.3,
      ),
    )

pub returns-in-Err-clause-err : goal.returns-in-Err-clause-err
returns-in-Err-clause-err c =
    let xs = c.args.piece.now in
    let i = c.loop-i.i in
    let byte = get_or xs i 0 in
    let at_front = c.loop-i.self in
    let refused = c.in-Err.ensures.err in
    let at = refused.1 in
    let fault = c.refuse.result in
    let fault_is = c.refuse.ensures.fault in
    let kept = c.refuse.ensures.kept in
    let meter = ap (λ (v : View). v.meter) kept in
    let room = ap (λ (v : View). v.room) kept in (
      refused.0 ∙ c.loop-i.invariant.same,
      c.in-Err.ensures.skipped ∙ c.loop-i.invariant.kept,
      record {
        front = take i xs;
        byte = byte;
        behind = drop (i + 1) xs;
        split = sym (take-append-drop i xs) ∙ ap (λ (l : List ℕ). take i xs ++ l) (drop_more xs i 0 c.loop-i-test.true);
        at_front = at_front;
        fed = c.loop-i.invariant.fed;
        breaks = subst (λ (r : Refusal). BreaksIn (place_of r) at_front byte c.refuse.new.self.meter r)
            (sym (ap (λ (f : Fault). f.refusal) fault_is))
            (subst (λ (g : Gauge). BreaksIn (place_of c.in-Err.refusal) at_front byte g c.in-Err.refusal) (sym meter) at.breaks);
        ends_run = subst (λ (o : OptionsView). EndsRun o fault.refusal) c.loop-i.invariant.fed.options
            (subst (λ (r : Refusal). EndsRun at_front.options r) (sym (ap (λ (f : Fault). f.refusal) fault_is))
            (subst (λ (o : OptionsView). EndsRun o c.in-Err.refusal) (ap (λ (v : View). v.options) at.same) c.if-skips.ensures));
        number = omega (arith, ap (λ (f : Fault). f.statement) fault_is, ap passed at.same);
        same = kept ∙ ap (λ (v : View). let w : View = record v { fault = Some fault } in w) at.same
            ∙ ap (λ (g : Gauge). let w : View = record at_front { room = c.take_byte.new.self.room; meter = g; fault = Some fault } in w)
            (sym meter)
            ∙ ap (λ (n : ℕ). let w : View = record at_front { room = n; meter = c.refuse.new.self.meter; fault = Some fault } in w)
            (sym room);
        meter = subst (λ (r : Refusal). IsMeterAt (place_of r) at_front.meter c.refuse.new.self.meter)
            (sym (ap (λ (f : Fault). f.refusal) fault_is))
            (subst (λ (g : Gauge). IsMeterAt (place_of c.in-Err.refusal) at_front.meter g) (sym meter) at.meter);
        room = omega (arith, room, at.room);
      },
    )

pub loop-i-preserved : goal.loop-i-preserved
loop-i-preserved c =
    let xs = c.args.piece.now in
    let i = c.loop-i.i in
    let one = c.in-Ok-false.ensures.ok in
    let none = one.5 c.in-Ok-false.field-0-test in
    record {
      same = one.1 ∙ ap (λ (l : List Outcome). c.loop-i.text.items ++ text_of l) none ∙ append-nil c.loop-i.text.items
          ∙ c.loop-i.invariant.same;
      kept = c.in-Ok-false.ensures.skipped ∙ c.loop-i.invariant.kept;
      fed = subst (λ (l : List ℕ). Fed c.args.self.now l [] c.take_byte.new.self) (sym (take_more xs i 0 c.loop-i-test.true))
          (Fed-append c.args.self.now (take i xs) [] c.loop-i.self (get_or xs i 0 ∷ []) [] c.take_byte.new.self c.loop-i.invariant.fed
          (subst (λ (l : List Outcome). Fed c.loop-i.self (get_or xs i 0 ∷ []) l c.take_byte.new.self) none one.2));
    }

no_more : (n : ℕ) → n + 0 ≡ n
no_more n = omega arith

one_fault : (n : ℕ) (refusal : Refusal)
    → (let f : Fault = record { statement = n + 1; refusal = refusal } in f ∷ []) ≡ faults_from n (skipped refusal ∷ [])
unfolding faults_from
one_fault n refusal = refl

pub returns-then-skips-clause-ok : goal.returns-then-skips-clause-ok
returns-then-skips-clause-ok c =
    let xs = c.args.piece.now in
    let i = c.loop-i.i in
    let byte = get_or xs i 0 in
    let at_front = c.loop-i.self in
    let so_far = c.loop-i.invariant in
    let refusal = c.in-Err.refusal in
    let new = c.skip-fault.new.self in
    let both = c.if-skips.ensures in
    let ready = fed_ready c.args.self.now (take i xs) [] at_front so_far.fed in
    let one = skip_byte at_front c.take_byte.new.self new byte refusal ready c.in-Err.ensures.err.1 both.1 both.0
    c.skip-fault.ensures.passed
    c.skip-fault.ensures.room in
    let number = ap passed c.in-Err.ensures.err.1.same in
    let here = fed_passed c.args.self.now (take i xs) [] at_front so_far.fed in (
      omega arith,
      λ some. omega arith,
      (
        skipped refusal ∷ [],
        c.in-Err.ensures.err.0 ∙ so_far.same ∙ sym (append-nil c.args.text.now.items),
        c.push.ensures.items
            ∙ ap (λ (b : Bool). if b then c.take_byte.new.skipped.items ++ c.skip-fault.result ∷ [] else c.take_byte.new.skipped.items)
            (c.push.ensures.succeeds (c.in-Err.ensures.room both.0 both.1))
            ∙ ap (λ (l : List Fault). l ++ c.skip-fault.result ∷ []) (c.in-Err.ensures.skipped ∙ so_far.kept)
            ∙ ap (λ (f : Fault). c.args.skipped.now.items ++ f ∷ [])
            (c.skip-fault.ensures.fault ∙ ap (λ (n : ℕ). let f : Fault = record { statement = n + 1; refusal = refusal } in f)
            (number ∙ here ∙ no_more (passed c.args.self.now)))
            ∙ ap (λ (l : List Fault). c.args.skipped.now.items ++ l) (one_fault (passed c.args.self.now) refusal),
        subst (λ (l : List ℕ). Fed c.args.self.now l (skipped refusal ∷ []) new) (sym (take_more xs i 0 c.loop-i-test.true))
            (Fed-append c.args.self.now (take i xs) [] at_front (byte ∷ []) (skipped refusal ∷ []) new so_far.fed one),
        omega arith,
      ),
    )

-- all bytes were taken, and none ended a statement
pub returns-clause-ok : goal.returns-clause-ok
returns-clause-ok c =
    let xs = c.args.piece.now in
    let i = c.loop-i.i in
    let so_far = c.loop-i.invariant in
    let same : take i xs ≡ take (length xs) xs = take_all i xs (omega (arith, c.loop-i-test.false))
    ∙ sym (take_all (length xs) xs (omega arith)) in (
      omega arith,
      λ some. some,
      (
        [],
        so_far.same ∙ sym (append-nil c.args.text.now.items),
        nothing_told c.loop-i.skipped.items c.args.skipped.now.items (passed c.args.self.now) [] so_far.kept refl,
        subst (λ (l : List ℕ). Fed c.args.self.now l [] c.loop-i.self) same so_far.fed,
        omega arith,
      ),
    )
