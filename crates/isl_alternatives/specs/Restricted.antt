-- inner: lists of systems restricted to where a condition holds.
use Rattle.std.specs.Prelude.{◌≡◌, ◌↔◌, ◌⊎◌, ℕ, ◌+◌, ◌≤◌, Bool, true, false, ℤ, pos, List, [], ◌∷◌, ◌++◌, Option, Some, None, All, length}
use Rattle.isl_meter.specs.Gauge.{Gauge, IsCharged}
use Rattle.isl_piece.specs.declared.system.System.{System}
use Rattle.isl_piece.specs.System.{HoldsSystem, IsSystemWithin, free_columns}
use Rattle.isl_elim.specs.Elimination.{HoldsAtAny}
use Rattle.isl_affine.specs.Scope.{Scope, IsNumbered}
use Rattle.isl_tree.specs.declared.tree.Binder.{Binder}
use Rattle.isl_tree.specs.declared.tree.Formula.{Formula}
use Rattle.isl_tree.specs.Environment.{Environment}
use Rattle.isl_tree.specs.Formula.{FormulaHolds, Binds}
use Rattle.isl_tree.specs.Term.{Term, term_value}

-- a system within the limit, whose free columns are those of the scope
pub record IsOver (g : Gauge) (scope : Scope) (s : System) : Type 0 where
  pub within : IsSystemWithin g s
  pub columns : free_columns s ≡ length scope

-- what may be asked of a point and of an environment in which the names of its columns stand for its numbers
abbrev pub Condition : Type 1
Condition = List ℤ → Environment → Type 0

-- some of the new systems holds at a point exactly where some of the old ones does and the condition holds; one unit or more was used for
-- each new system but as many as the old ones are
pub record AreRestricted (g h : Gauge) (scope : Scope) (old : List System) (P : Condition) (new : List System) : Type 0 where
  pub charged : IsCharged g h
  pub over : All (IsOver g scope) new
  pub counted : length new + g.units ≤ h.units + length old
  pub points : (point : List ℤ) (env : Environment) → length point ≡ length scope → IsNumbered scope point env
      → HoldsAtAny new point ↔ (HoldsAtAny old point × P point env)

-- systems over the scope, of which some holds exactly where the condition does; one unit or more was used for each but one
pub record AreWhere (g h : Gauge) (scope : Scope) (P : Condition) (new : List System) : Type 0 where
  pub charged : IsCharged g h
  pub over : All (IsOver g scope) new
  pub counted : length new + g.units ≤ h.units + 1
  pub points : (point : List ℤ) (env : Environment) → length point ≡ length scope → IsNumbered scope point env
      → HoldsAtAny new point ↔ P point env

-- one system, which asks nothing and defines no column
pub record HoldEverywhere (systems : List System) : Type 0 where
  pub one : System
  pub alone : systems ≡ one ∷ []
  pub rows : one.rows ≡ []
  pub definitions : one.definitions ≡ []

-- ---- conditions
-- it holds, or it does not
abbrev pub HoldsAs : Bool → (Environment → Type 0) → Condition
HoldsAs true P point env = P env
HoldsAs false P point env = ¬ P env

-- each of the formulas holds, some of them does
abbrev pub EachHolds : List Formula → Environment → Type 0
EachHolds [] env = Unit {0}
EachHolds (f ∷ fs) env = FormulaHolds f env × EachHolds fs env

abbrev pub SomeHolds : List Formula → Environment → Type 0
SomeHolds [] env = ⊥
SomeHolds (f ∷ fs) env = FormulaHolds f env ⊎ SomeHolds fs env

-- each of them holds, or each fails; some of them holds, or some fails
abbrev pub AllAs : Bool → List Formula → Condition
AllAs true fs point env = EachHolds fs env
AllAs false fs point env = ¬ SomeHolds fs env

abbrev pub AnyAs : Bool → List Formula → Condition
AnyAs true fs point env = SomeHolds fs env
AnyAs false fs point env = ¬ EachHolds fs env

-- what one formula after another implies: a implies b is (not a) or b, and a row of them goes from the left
abbrev pub ImplyFrom : Type 0 → List Formula → Environment → Type 0
ImplyFrom former [] env = former
ImplyFrom former (f ∷ fs) env = ImplyFrom ((former → ⊥) ⊎ FormulaHolds f env) fs env

abbrev pub Imply : List Formula → Environment → Type 0
Imply [] env = Unit {0}
Imply (f ∷ fs) env = ImplyFrom (FormulaHolds f env) fs env

-- ---- what `exists` binds
-- a number for each of the binders, which is that of its term where it has one
abbrev pub MatchesValue : Option Term → ℤ → Environment → Type 0
MatchesValue None z env = Unit {0}
MatchesValue (Some term) z env = term_value term env ≡ z

abbrev pub AreGiven : List Binder → List ℤ → Environment → Type 0
AreGiven [] zs env = Unit {0}
AreGiven (binder ∷ binders) [] env = ⊥
AreGiven (binder ∷ binders) (z ∷ zs) env = MatchesValue binder.value z env × AreGiven binders zs ((binder.name, z) ∷ env)

-- the environment below the binders
abbrev pub env_below : List Binder → List ℤ → Environment → Environment
env_below [] zs env = env
env_below (binder ∷ binders) [] env = env
env_below (binder ∷ binders) (z ∷ zs) env = env_below binders zs ((binder.name, z) ∷ env)

-- the scope below the binders
abbrev pub scope_below : List Binder → Scope → Scope
scope_below [] scope = scope
scope_below (binder ∷ binders) scope = scope_below binders (scope ++ Some binder.name ∷ [])

-- the formula holds for some numbers of the binders
abbrev pub BoundHolds : List Binder → Formula → Environment → Type 0
BoundHolds binders body env = Binds binders (λ inner. FormulaHolds body inner) env

-- the names below the binders, and a system over their columns that holds where each binder with a term has its number
pub record IsBodyOf (g : Gauge) (scope : Scope) (binders : List Binder) (inner : Scope) (s : System) : Type 0 where
  pub scope_is : inner ≡ scope_below binders scope
  pub over : IsOver g inner s
  pub points : (point zs : List ℤ) (env : Environment) → length point ≡ length scope → length zs ≡ length binders
      → IsNumbered scope point env → HoldsSystem s (point ++ zs) ↔ AreGiven binders zs env

-- systems over the outer scope, of which some holds at a point exactly where one of the old ones does with some numbers behind it
pub record AreProjected (g h : Gauge) (outer inner : Scope) (old new : List System) : Type 0 where
  pub charged : IsCharged g h
  pub over : All (IsOver g outer) new
  pub counted : length new + g.units ≤ h.units + length old
  pub points : (point : List ℤ) → length point ≡ length outer
      → HoldsAtAny new point ↔ ((zs : List ℤ) × (length point + length zs ≡ length inner) × HoldsAtAny old (point ++ zs))
