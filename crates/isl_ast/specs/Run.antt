-- inner: what the execution of a part of a tree leaves.
use Rattle.std.specs.Prelude.{◌≡◌, ◌<◌, ℕ, ◌+◌, ℤ, Option, Some, None, List, [], ◌∷◌, ◌++◌, Any, MatchResult, Result}
use Rattle.std.specs.List.{sum_by}
use Rattle.isl_meter.specs.Gauge.{Gauge, IsCharged, IsCutBy}
use Rattle.isl_meter.specs.declared.Cut.{Cut}
use Rattle.isl_meter.specs.declared.Cut.TheVariants.{Overflow, Budget}
use Rattle.isl_loop.specs.declared.tree.Loop.{Loop}
use Rattle.isl_loop.specs.Formed.{RunPasses}
use Rattle.isl_loop.specs.Lists.{calls_of, turns_through}
use Rattle.isl_loop.specs.Run.{Event, each_in, trace, turns_of}
use Rattle.isl_loop.specs.Turns.{turns}
use Rattle.isl_ast.specs.Called.{AreCalled}

-- work of so many units was cut: by a number past the limit where P says which, or by a budget that is less
pub record IsEnded (old new : Gauge) (units : ℕ) (P : Type 0) (cut : Cut) : Type 0 where
  pub by : IsCutBy old new cut
  pub overflow : cut ≡ Overflow → P
  pub budget : cut ≡ Budget → old.budget < old.units + units

-- the meter after so many units
abbrev pub charged : Gauge → ℕ → Gauge
charged g units = record g { units = g.units + units }

-- the calls were taken, with a unit for each turn; or the work was cut
abbrev pub IsAppended : {S A : Type 0} → (S → Event → S → Type 0) → Gauge → Gauge → S → S → List Event → ℕ → Type 0 → Result A Cut → Type 0
IsAppended Called old new before after calls units P result =
    MatchResult result (λ _. AreCalled Called before calls after × (new ≡ charged old units)) (IsEnded old new units P)

-- ---- turns of a loop
abbrev pub turn_calls : Loop → List ℤ → List ℤ → List Event
turn_calls body point xs = each_in (λ x. trace body (point ++ x ∷ [])) xs

abbrev pub turn_units : Loop → List ℤ → List ℤ → ℕ
turn_units body point xs = sum_by (λ x. 1 + turns_of body (point ++ x ∷ [])) xs

abbrev pub TurnsPass : Gauge → Loop → List ℤ → List ℤ → Type 0
TurnsPass g body point xs = Any (λ x. RunPasses g (point ++ x ∷ []) body) xs

-- the turns from a next one on
abbrev pub turns_from : Option ℤ → ℤ → ℤ → List ℤ
turns_from None high step = []
turns_from (Some x) high step = turns x high step

-- ---- parts of a run
-- the calls that were taken, with those that are left, are all; so are the units; and what is past the limit in what is left is so in the
-- whole
pub record IsSoFar {S : Type 0} (Called : S → Event → S → Type 0) (g h : Gauge) (before now : S) (more all : List Event) (left whole : ℕ)
    (P Q : Type 0) : Type 0 where
  pub done : List Event
  pub called : AreCalled Called before done now
  pub calls : done ++ more ≡ all
  pub charged : IsCharged g h
  pub units : h.units + left ≡ g.units + whole
  pub passes : P → Q

-- the turns that are left, of all
abbrev pub IsTurned : {S : Type 0} → (S → Event → S → Type 0) → Gauge → Gauge → S → S → Loop → List ℤ → List ℤ → List ℤ → Type 0
IsTurned Called g h before now body point rest all =
    IsSoFar Called g h before now (turn_calls body point rest) (turn_calls body point all) (turn_units body point rest)
    (turn_units body point all)
    (TurnsPass g body point rest) (TurnsPass g body point all)

-- the parts that are left, of all
abbrev pub ArePassed : {S : Type 0} → (S → Event → S → Type 0) → Gauge → Gauge → S → S → List ℤ → List Loop → List Loop → Type 0
ArePassed Called g h before now point rest all =
    IsSoFar Called g h before now (calls_of rest point) (calls_of all point) (turns_through rest point) (turns_through all point)
    (Any (RunPasses g point) rest) (Any (RunPasses g point) all)
