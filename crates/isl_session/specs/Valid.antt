-- public: when statements must be answered.
use Rattle.std.specs.Prelude.{◌≡◌, ◌⊎◌, ℕ, ◌+◌, ◌≤◌, List, [], ◌∷◌, ◌++◌, length, Option, Some, None, Result, IfErr}
use Rattle.isl_math.specs.Count.{Rose}
use Rattle.isl_script.specs.Script.{statements, rest_of, IsBlank}
use Rattle.isl_refusal.specs.declared.refusal.Refusal.{Refusal}
use Rattle.isl_refusal.specs.declared.refusal.Refusal.TheVariants.{NoMemory}
use Rattle.isl_values.specs.State.{Moment}
use Rattle.isl_eval.specs.Causes.{IsValid}
use Rattle.isl_eval.specs.Run.{started}
use Rattle.isl_space.specs.Limits.{most_script_bytes}
use Rattle.isl_session.specs.declared.fault.Fault.{Fault}
use Rattle.isl_session.specs.Outcome.{Outcome, RunOn, skips_of}
use Rattle.isl_session.specs.View.{View, AreShort, moment_of}
use Rattle.isl_stencil.specs.Stencil.{stencil}

-- each of these statements is valid with what is bound before it, where those before it were answered and none was skipped
pub record AreValid (before : Moment) (parts : List (List ℕ)) : Type 0 where
  pub each : (done : List (List ℕ)) (bytes : List ℕ) (ahead : List (List ℕ)) (outcomes : List Outcome) (next : Moment)
      → parts ≡ done ++ bytes ∷ ahead → RunOn before done outcomes next → skips_of outcomes ≡ []
      → IsValid (started next) bytes

-- valid statements of a piece, none of them too long, are answered, unless memory ends or a refusal is counted
abbrev pub AnswersValid : View → List ℕ → View → Result (Unit {0}) Fault → Type 0
AnswersValid old piece new result =
    AreValid (moment_of old) (statements (old.rest ++ piece)) → AreShort (statements (old.rest ++ piece)) (rest_of (old.rest ++ piece))
    → old.taken + length piece ≤ most_script_bytes → ¬ (Rose old.meter.overflows new.meter.overflows)
    → ¬ (Rose old.meter.spents new.meter.spents) → IfErr result (λ fault. fault.refusal ≡ NoMemory)

-- the statements of the script are valid, and what follows the last is blank
pub record IsValidScript (first : Moment) (script : List ℕ) : Type 0 where
  pub parts : AreValid first (statements script)
  pub blank : IsBlank (rest_of script)
  pub short : AreShort (statements script) (rest_of script)
  pub within : length script ≤ most_script_bytes

-- the script of a run: the one that is made where that is asked for, else what the source tells that it has left
abbrev pub IsGiven : Option ℕ → Option (List ℕ) → List ℕ → Type 0
IsGiven None left script = left ≡ Some script
IsGiven (Some sizes) left script = script ≡ stencil sizes

-- only want of memory comes in the place of status 0
abbrev pub IsDoneOrMemory : Option Refusal → Type 0
IsDoneOrMemory refusal = (refusal ≡ None) ⊎ (refusal ≡ Some NoMemory)
