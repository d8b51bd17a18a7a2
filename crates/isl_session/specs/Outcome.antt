-- public: what comes of statements, one after another, where refused ones may be skipped. (GNU make, on `--keep-going`)
use Rattle.std.specs.Prelude.{◌≡◌, ℕ, ◌+◌, ◌≤◌, min, Bool, true, false, List, [], ◌∷◌, count_by, map, Option, Some, None}
use Rattle.std.specs.List.{concat, filter_map}
use Rattle.isl_math.specs.Count.{last_count}
use Rattle.isl_meter.specs.Gauge.{Gauge, IsKept}
use Rattle.isl_words.specs.Options.{OptionsView}
use Rattle.isl_refusal.specs.declared.refusal.Refusal.{Refusal}
use Rattle.isl_refusal.specs.declared.refusal.Refusal.TheVariants as r
use Rattle.isl_values.specs.State.{Moment}
use Rattle.isl_eval.specs.Causes.{Refuses}
use Rattle.isl_eval.specs.Machine.{Answer}
use Rattle.isl_eval.specs.Run.{Answers, started}
use Rattle.isl_session.specs.declared.fault.Fault.{Fault}
use Rattle.isl_session.specs.Lines.{fault_line}
use Rattle.isl_refusal.specs.Refusal.{in_statement, place_of}

-- a statement is answered, or it is refused and skipped
pub data Outcome : Type 0 where
  answered : Answer → Outcome
  skipped : Refusal → Outcome

-- ---- what is written and told of it
abbrev pub bytes_of : Outcome → List ℕ
bytes_of (answered answer) = answer.bytes
bytes_of (skipped refusal) = []

-- the answers, one behind the other; nothing stands for what is skipped
abbrev pub text_of : List Outcome → List ℕ
text_of outcomes = concat (map bytes_of outcomes)

abbrev pub answer_in : Outcome → Option Answer
answer_in (answered answer) = Some answer
answer_in (skipped refusal) = None

abbrev pub answers_of : List Outcome → List Answer
answers_of outcomes = filter_map answer_in outcomes

abbrev pub skip_in : Outcome → Option Refusal
skip_in (answered answer) = None
skip_in (skipped refusal) = Some refusal

-- why statements were skipped, in their order
abbrev pub skips_of : List Outcome → List Refusal
skips_of outcomes = filter_map skip_in outcomes

-- why the first of them was
unfoldable pub first_skip : List Outcome → Option Refusal
first_skip [] = None
first_skip (answered answer ∷ later) = first_skip later
first_skip (skipped refusal ∷ later) = Some refusal

-- the skipped statements with their numbers, where `passed` statements stand before these
unfoldable pub faults_from : (passed : ℕ) → List Outcome → List Fault
faults_from passed [] = []
faults_from passed (answered answer ∷ later) = faults_from (passed + 1) later
faults_from passed (skipped refusal ∷ later) = record { statement = passed + 1; refusal = refusal } ∷ faults_from (passed + 1) later

-- a line for each of them
abbrev pub lines_from : (passed : ℕ) → List Outcome → List ℕ
lines_from passed outcomes = concat (map fault_line (faults_from passed outcomes))

-- ---- how they come about
-- A complete statement is skipped: going on is chosen, and it is refused for what it says or while it is worked out. `now` is the meter
-- behind it.
pub record Skips (before : Moment) (bytes : List ℕ) (refusal : Refusal) (now : Gauge) : Type 0 where
  pub chosen : before.options.keep_going ≡ true
  pub place : place_of refusal ≡ in_statement
  pub refuses : Refuses (started before) bytes now refusal
  pub meter : IsKept (record before.meter { units = 0 }) now

-- These statements are gone through one after another. Each is answered, or it is skipped and leaves what is bound.
unfoldable pub RunOn : Moment → List (List ℕ) → List Outcome → Moment → Type 0
RunOn before [] [] after = after ≡ before
RunOn before (bytes ∷ more) (answered answer ∷ outcomes) after = (next : Moment) × Answers (started before) bytes next answer
    × RunOn next more outcomes after
RunOn before (bytes ∷ more) (skipped refusal ∷ outcomes) after = (now : Gauge) × Skips before bytes refusal now
    × RunOn (record before { meter = now }) more outcomes after
RunOn before [] (outcome ∷ outcomes) after = ⊥
RunOn before (bytes ∷ more) [] after = ⊥

-- whether such a refusal ends the run: what a statement is refused for does so where going on is not chosen, and all else always
abbrev pub EndsRun : OptionsView → Refusal → Type 0
EndsRun options refusal = place_of refusal ≡ in_statement → options.keep_going ≡ false

-- ---- what they leave of a meter
abbrev pub is_overflow : Outcome → Bool
is_overflow (skipped r.Overflow) = true
is_overflow outcome = false

abbrev pub is_spent : Outcome → Bool
is_spent (skipped r.Budget) = true
is_spent outcome = false

-- the count rose so many times between two moments, or stands at its last value; it never fell
abbrev pub RoseBy : ℕ → ℕ → ℕ → Type 0
RoseBy times before now = (before ≤ now) × (min (before + times) last_count ≤ now)

-- A meter behind statements that were answered or skipped. Each that was skipped for an overflow, or for want of units, was counted so.
-- Where none was skipped, the units are those of the last statement, and the rest is as it was.
pub record Carries (old : Gauge) (outcomes : List Outcome) (new : Gauge) : Type 0 where
  pub bits : new.bits ≡ old.bits
  pub budget : new.budget ≡ old.budget
  pub overflows : RoseBy (count_by is_overflow outcomes) old.overflows new.overflows
  pub spents : RoseBy (count_by is_spent outcomes) old.spents new.spents
  pub same : skips_of outcomes ≡ [] → new ≡ record old { units = new.units }
