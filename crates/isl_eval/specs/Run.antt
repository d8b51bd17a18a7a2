-- public: statements that are answered, one after another. (the iscc chapter of the barvinok manual)
use Rattle.std.specs.Prelude.{◌≡◌, ℕ, List, [], ◌∷◌}
use Rattle.isl_meter.specs.Gauge.{IsCharged}
use Rattle.isl_tree.specs.declared.statement.Stmt.{Stmt}
use Rattle.isl_values.specs.State.{Moment}
use Rattle.isl_eval.specs.Ended.{IsAssumedWhereNeeded}
use Rattle.isl_eval.specs.Machine.{Answer, Performs}
use Rattle.isl_eval.specs.Spelled.{BytesSpell}
use Rattle.isl_eval.specs.Causes.{IsClear, HasWork}

-- The bytes of a statement are answered. Where it lists elements or runs loops, the numbers that parameters are given are assumed. No unit
-- was used, unless work stands in it.
pub record Answers (before : Moment) (bytes : List ℕ) (after : Moment) (answer : Answer) : Type 0 where
  pub clear : IsClear before bytes
  pub stmt : Stmt
  pub spelled : BytesSpell bytes stmt
  pub asked : IsAssumedWhereNeeded before stmt
  pub performed : Performs before stmt after answer
  pub meter : IsCharged before.meter after.meter
  pub options : after.options ≡ before.options
  pub units : ¬ HasWork before.state.assumed stmt → after.meter.units ≡ before.meter.units

-- a statement begins with the whole budget
abbrev pub started : Moment → Moment
started before = record before { meter = record before.meter { units = 0 } }

-- These statements are answered one after another, each with its answer.
unfoldable pub Run : Moment → List (List ℕ) → List Answer → Moment → Type 0
Run before [] [] after = after ≡ before
Run before (bytes ∷ more) (answer ∷ answers) after = (next : Moment) × Answers (started before) bytes next answer
    × Run next more answers after
Run before [] (answer ∷ answers) after = ⊥
Run before (bytes ∷ more) [] after = ⊥
