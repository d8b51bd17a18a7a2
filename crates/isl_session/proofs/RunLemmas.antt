-- Runs one after another, and pieces one after another.
use Rattle.std.proofs.Common.{◌≡◌, ◌≤◌, ◌+◌, ℕ, cond, List, [], ◌∷◌, ◌++◌, length, refl, sym, ◌∙◌, ap, subst, arith, Option}
use Rattle.std.specs.Option.{option_or}
use Rattle.std.proofs.lemmas.List.{append_assoc, length-append}
use Rattle.std.proofs.lemmas.List.Elements.{All-append}
use Rattle.std.proofs.lemmas.List.Sums.{sum_by-append}
use Rattle.std.specs.Prelude.{All}
use Rattle.isl_meter.specs.Gauge.{Gauge}
use Rattle.isl_space.specs.Limits.{most_statement_bytes}
use Rattle.isl_script.specs.Script.{statements, rest_of}
use Rattle.isl_script.proofs.ScriptLaws.{statements-append, rest-append}
use Rattle.isl_refusal.specs.declared.refusal.Refusal.{Refusal}
use Rattle.isl_values.specs.State.{Moment}
use Rattle.isl_eval.specs.Machine.{Answer}
use Rattle.isl_eval.specs.Run.{Answers, Run, started}
use Rattle.isl_session.specs.declared.counts.Counts.{Counts}
use Rattle.isl_session.specs.Counts.{counted}
use Rattle.isl_session.specs.Outcome.{Outcome, answered, skipped, RunOn, Skips, answers_of, first_skip, skips_of}
use Rattle.isl_session.specs.View.{View, Fed, moment_of, passed}
use Rattle.isl_session.proofs.MeterLemmas.{carried_by}
use Rattle.isl_session.proofs.OutcomeLemmas.{answers_of-append, first_skip-append, length_parts, option_or_assoc, skips_of-append}

pub no_run : (moment : Moment) → RunOn moment [] [] moment
unfolding RunOn
no_run moment = refl

pub one_run : (before : Moment) (bytes : List ℕ) (answer : Answer) (after : Moment) → Answers (started before) bytes after answer
    → RunOn before (bytes ∷ []) (answered answer ∷ []) after
unfolding RunOn
one_run before bytes answer after one = (after, one, refl)

pub one_skip : (before : Moment) (bytes : List ℕ) (refusal : Refusal) (now : Gauge) → Skips before bytes refusal now
    → RunOn before (bytes ∷ []) (skipped refusal ∷ []) (record before { meter = now })
unfolding RunOn
one_skip before bytes refusal now one = (now, one, refl)

pub RunOn-append : (first : Moment) (xs : List (List ℕ)) (ps : List Outcome) (middle : Moment) (ys : List (List ℕ)) (qs : List Outcome)
    (last : Moment)
    → RunOn first xs ps middle → RunOn middle ys qs last → RunOn first (xs ++ ys) (ps ++ qs) last
unfolding RunOn
RunOn-append first [] [] middle ys qs last one two = subst (λ (m : Moment). RunOn m ys qs last) one two
RunOn-append first (x ∷ xs) (answered p ∷ ps) middle ys qs last one two =
    (one.0, one.1, RunOn-append one.0 xs ps middle ys qs last one.2 two)
RunOn-append first (x ∷ xs) (skipped p ∷ ps) middle ys qs last one two =
    (one.0, one.1, RunOn-append (record first { meter = one.0 }) xs ps middle ys qs last one.2 two)
RunOn-append first [] (p ∷ ps) middle ys qs last one two = absurd one
RunOn-append first (x ∷ xs) [] middle ys qs last one two = absurd one

-- the same outcomes, of these parts and up to this moment
pub run_as : (first : Moment) (xs ys : List (List ℕ)) (ps : List Outcome) (last now : Moment) → xs ≡ ys → last ≡ now
    → RunOn first xs ps last → RunOn first ys ps now
run_as first xs ys ps last now parts at run =
    subst (λ (l : List (List ℕ)). RunOn first l ps now) parts (subst (λ (m : Moment). RunOn first xs ps m) at run)

abbrev counts_of : (statements trues elements : ℕ) → Counts
counts_of statements trues elements = record { statements = statements; trues = trues; elements = elements }

pub counts_are : (a b : Counts) → a.statements ≡ b.statements → a.trues ≡ b.trues → a.elements ≡ b.elements → a ≡ b
counts_are a b same trues elements =
    ap (λ (n : ℕ). counts_of n a.trues a.elements) same ∙ ap (λ (n : ℕ). counts_of b.statements n a.elements) trues
    ∙ ap (λ (n : ℕ). counts_of b.statements b.trues n) elements

-- what is counted, one run after another
pub counted-append : (counts : Counts) (xs ys : List Answer) → counted (counted counts xs) ys ≡ counted counts (xs ++ ys)
counted-append counts xs ys =
    let more : length xs + length ys ≡ length (xs ++ ys) = sym (length-append xs ys) in
    let trues = sum_by-append (λ (answer : Answer). cond answer.is_true 1 0) xs ys in
    let elements = sum_by-append (λ (answer : Answer). answer.elements) xs ys in
    counts_are (counted (counted counts xs) ys) (counted counts (xs ++ ys)) (omega (arith, more)) (omega (arith, trues))
    (omega (arith, elements))

-- a part with no more bytes than a statement may have
abbrev pub IsFew : List ℕ → Type 0
IsFew part = length part ≤ most_statement_bytes

-- a piece, and then another
pub Fed-append : (a : View) (x : List ℕ) (ps : List Outcome) (b : View) (y : List ℕ) (qs : List Outcome) (c : View) → Fed a x ps b
    → Fed b y qs c → Fed a (x ++ y) (ps ++ qs) c
Fed-append a x ps b y qs c first second =
    let joined : statements (a.rest ++ (x ++ y)) ≡ statements (a.rest ++ x) ++ statements (b.rest ++ y) =
    ap statements (sym (append_assoc a.rest x y)) ∙ statements-append (a.rest ++ x) y
    ∙ ap (λ (r : List ℕ). statements (a.rest ++ x) ++ statements (r ++ y)) (sym first.rest) in
    let left : rest_of (a.rest ++ (x ++ y)) ≡ rest_of (b.rest ++ y) =
    ap rest_of (sym (append_assoc a.rest x y)) ∙ rest-append (a.rest ++ x) y ∙ ap (λ (r : List ℕ). rest_of (r ++ y)) (sym first.rest) in
    let run : RunOn (moment_of a) (statements (a.rest ++ (x ++ y))) (ps ++ qs) (moment_of c) =
    run_as (moment_of a) (statements (a.rest ++ x) ++ statements (b.rest ++ y)) (statements (a.rest ++ (x ++ y))) (ps ++ qs)
    (moment_of c) (moment_of c) (sym joined) refl
    (RunOn-append (moment_of a) (statements (a.rest ++ x)) ps (moment_of b) (statements (b.rest ++ y)) qs
    (moment_of c) first.run second.run) in
    record {
      run = run;
      rest = second.rest ∙ sym left;
      short = record {
        each = subst (All IsFew) (sym joined) (All-append IsFew (statements (a.rest ++ x))
            (statements (b.rest ++ y)) first.short.each second.short.each);
        last = second.short.last;
      };
      taken = omega (arith, first.taken, second.taken, length-append x y);
      within = second.within;
      counts = second.counts ∙ ap (λ (n : Counts). counted n (answers_of qs)) first.counts
          ∙ counted-append a.counts (answers_of ps) (answers_of qs) ∙ ap (counted a.counts) (sym (answers_of-append ps qs));
      skips = omega (arith, first.skips, second.skips, ap length (skips_of-append ps qs), length-append (skips_of ps) (skips_of qs));
      first = second.first ∙ ap (λ (o : Option Refusal). option_or o (first_skip qs)) first.first
          ∙ option_or_assoc a.first (first_skip ps) (first_skip qs)
          ∙ ap (λ (o : Option Refusal). option_or a.first o) (sym (first_skip-append ps qs));
      sound = second.sound;
      meter = carried_by (moment_of a) (statements (a.rest ++ (x ++ y))) (ps ++ qs) (moment_of c) run;
      room = omega (arith, first.room, second.room);
      options = second.options ∙ first.options;
    }

-- each statement of a piece is answered or skipped, and counted
pub fed_passed : (a : View) (x : List ℕ) (ps : List Outcome) (b : View) → Fed a x ps b → passed b ≡ passed a + length ps
fed_passed a x ps b fed = omega (arith, ap (λ (n : Counts). n.statements) fed.counts, fed.skips, length_parts ps)

-- where none is skipped, the answers are those of a run that skips none
pub run_if_none : (before after : Moment) (parts : List (List ℕ)) (outcomes : List Outcome) → RunOn before parts outcomes after
    → skips_of outcomes ≡ [] → Run before parts (answers_of outcomes) after
unfolding RunOn Run
run_if_none before after [] [] run none = run
run_if_none before after (bytes ∷ more) (answered answer ∷ outcomes) run none =
    (run.0, run.1, run_if_none run.0 after more outcomes run.2 none)
run_if_none before after (bytes ∷ more) (skipped refusal ∷ outcomes) run none = absurd (omega (arith, ap length none))
run_if_none before after [] (outcome ∷ outcomes) run none = absurd run
run_if_none before after (bytes ∷ more) [] run none = absurd run
